-- What two equal answers have in common.
use Rattle.std.proofs.Common.{◌≡◌, ℕ, ap}
use Rattle.plusplus_seeded.specs.declared.Source.{Source}
use Rattle.lloyd_pass.specs.declared.Ended.{Ended}
use Rattle.kmeans.specs.declared.Clustered.{Clustered}
use Rattle.kmeans.specs.declared.Labelled.{Labelled}
use Rattle.kmeans.specs.Steps.{clustered, labelled}

pub clustered_parts : (n m : ℕ) (e f : Ended) → clustered n e ≡ clustered m f → (n ≡ m) × (e ≡ f)
clustered_parts n m e f a =
    let r : ◌≡◌ {A = Clustered} (record { at = n; ended = e }) (record { at = m; ended = f }) = cc in
    (ap (λ (x : Clustered). x.at) r, ap (λ (x : Clustered). x.ended) r)

pub labelled_parts : (s t : Source) (e f : Ended) → labelled s e ≡ labelled t f → (s ≡ t) × (e ≡ f)
labelled_parts s t e f a =
    let r : ◌≡◌ {A = Labelled} (record { source = s; ended = e }) (record { source = t; ended = f }) = cc in
    (ap (λ (x : Labelled). x.source) r, ap (λ (x : Labelled). x.ended) r)
