use Prim.Native.Nat.{◌*◌, ◌^◌}
use native.Mathlib.Nat.{mod-add-mod}
use Rattle.rng_std.specs.Seeds.{advanced}
use Rattle.rng_std.proofs.advance.Goals as goal

pub returns : goal.returns
unfolding advanced
returns c = mod-add-mod (c.args.s * 0x5851f42d4c957f2d) (2 ^ 64) 0xa17654e46fbe17f3
