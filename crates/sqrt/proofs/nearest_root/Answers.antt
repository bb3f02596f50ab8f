use Rattle.std.proofs.Common.{Bool, not, T, sym, ap, ◌∙◌, subst}
use lib.Ieee.{Float, binary64, of_bits, to_bits, fits, is_nan}
use lib.Ieee.Bits.{of_bits-to_bits, of_bits-fits, nan_bits_is}
use Rattle.sqrt.specs.Root.{root}
use Rattle.sqrt.proofs.Value.{positive_bits}
use Rattle.sqrt.proofs.Near.{root_not_nan}
use Rattle.sqrt.proofs.Cases.{nan_root, no_nan, zero_root, negative_root, infinite_root, bits_above}
use Rattle.sqrt.proofs.nearest_root.Goals as goal
use Rattle.sqrt.proofs.nearest_root.Given.{Over}
use Rattle.sqrt.proofs.nearest_root.Goals.{Start}

-- what owning an `f64` tells: the format holds it
held : (g : Over) (c : Start g) → T (fits binary64 c.args.x)
held g c = subst T (sym c.well_formed.0.1) tt

pub returns-then-x : goal.returns-then-x
returns-then-x g c = nan_root c.args.x c.if-x.true

pub returns-then-x-2 : goal.returns-then-x-2
returns-then-x-2 g c = zero_root c.args.x c.if-x-2.true

pub returns-then-x-3 : goal.returns-then-x-3
returns-then-x-3 g c = negative_root c.args.x c.if-x-3.true

pub float_to_bits-b : goal.float_to_bits-b
float_to_bits-b g c = no_nan c.args.x c.if-x.false

pub returns-then-b-ge9218868437227405312 : goal.returns-then-b-ge9218868437227405312
returns-then-b-ge9218868437227405312 g c =
    let s = (goal.at.returns-then-b-ge9218868437227405312 g c).Start in
    infinite_root s.args.x (held g s) c.if-x.false c.if-x-2.false c.if-x-3.false c.if-b-ge9218868437227405312.true

pub root_bits-requires : goal.root_bits-requires
root_bits-requires g c =
    let s = (goal.at.root_bits-requires g c).Start in
    record {
      finite = (bits_above s.args.x (held g s) c.if-x-2.false, c.if-b-ge9218868437227405312.false);
      callable = c.requires.callable;
      exact = c.requires.exact;
    }

-- the result's bits are those of a root, and that of a finite value above zero is no NaN
pub float_from_bits-result : goal.float_from_bits-result
float_from_bits-result g c =
    let s = (goal.at.float_from_bits-result g c).Start in
    let b = to_bits binary64 s.args.x in
    subst (λ (t : Bool). T (not t)) (sym (nan_bits_is binary64 c.root_bits.result))
    (subst (λ (r : Float). T (not (is_nan r))) (sym c.root_bits.ensures)
    (root_not_nan (of_bits binary64 b) (of_bits-fits binary64 b) (positive_bits b (bits_above s.args.x (held g s) c.if-x-2.false) c.if-b-ge9218868437227405312.false)))

pub returns : goal.returns
returns g c =
    c.root_bits.ensures ∙ ap root (of_bits-to_bits binary64 c.args.x (held g (goal.at.returns g c).Start))
