use Prim.Native.Nat.{ℕ}
use mathlib.Core.Path.{ap}
use mathlib.Core.List.{[], ◌++◌, ◌∷◌}
use native.Mathlib.Omega.{arith}
use Rattle.text_digits.specs.Digits.{numeral}
use Rattle.text_digits.proofs.Numerals.{length_numeral}
use Rattle.text_writing.proofs.Stores.{then, wrote_as, wrote_length}
use Rattle.text_writing.proofs.put_entry.Goals as goal

pub put_byte-requires : goal.put_byte-requires
put_byte-requires c =
    let l = wrote_length c.put_number-p.ensures in
    let h = length_numeral c.args.base c.args.x in
    let e = c.put_number-p.ensures.end in
    let r = c.requires.3 in
    omega arith

pub returns : goal.returns
returns c = wrote_as _ (then c.put_number-p.ensures c.put_byte.ensures) (ap (λ (b : ℕ). numeral c.args.base c.args.x ++ (b ∷ [])) c.stop_of-stop.ensures)
