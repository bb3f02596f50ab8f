use Rattle.std.proofs.Common.{◌≡◌, ℕ, ◌-◌, ◌*◌, ◌/◌, ◌%◌, ◌^◌, ◌<◌, ◌∙◌, arith}
use Rattle.std.proofs.lemmas.Nat.{or_comm}
use Rattle.std.specs.Int.{rotate_right}
use mir.Syntax.{w32}
use Rattle.rng_chacha.specs.ChaCha.{rotated}
use Rattle.rng_std.specs.Seeds.{output_of, rotated_right}
use Rattle.rng_std.proofs.output.Goals as goal

-- to the right by n is to the left by 32 - n
right_as_left : (x n : ℕ) → n < 32 → rotate_right w32 x n ≡ rotated_right n x
unfolding rotated
right_as_left x n h =
    let e : n % 32 ≡ n = omega arith in
    let r : (32 - (32 - n) % 32) % 32 ≡ n = omega arith in
    rw (e, r) (or_comm (x / 2 ^ n) (x * 2 ^ ((32 - n) % 32) % 2 ^ 32))

pub returns : goal.returns
unfolding output_of
returns c = c.rotate_right.ensures ∙ right_as_left _ _ (omega arith)
