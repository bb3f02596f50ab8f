use Prim.Native.Nat.{ℕ}
use mathlib.Core.Path.{◌≡◌, ◌∙◌, ap}
use mathlib.Core.List.{List}
use mathlib.Core.Bool.{true}
use native.Mathlib.Omega.{arith}
use lib.ListN.{length}
use Rattle.plusplus_trials.specs.Trials.{table}
use Rattle.rng_std.specs.Words.{word_of}
use Rattle.plusplus_seeded.specs.Seeded.{seed_made}
use Rattle.plusplus_seeded.proofs.Sourced.{by_seed, rng_moved}
use Rattle.plusplus_seeded.proofs.seed_by.Goals as goal

pub returns-then-src : goal.returns-then-src
returns-then-src c =
    let src = c.args.src in
    let m = length c.args.weights.now in
    let k = length c.args.centres.now in
    let q = table c.args.squares.now m in
    let h : c.args.src.seeded ≡ true = c.if-src.true in
    let key = (c.requires.1 h).0 in
    let e = c.seed_on-taken.ensures in record {
      supplied_by = by_seed src c.args.draws.now q m k (omega (arith, c.requires.0.two, c.requires.0.names)) h c.draws_of.ensures
          (e.0 ∙ ap (λ (x : List ℕ). (seed_made (word_of x) q m k src.taken).centres) key) (e.1 ∙ ap (λ (x : List ℕ). (seed_made (word_of x) q m k src.taken).next) key);
      rng_of = rng_moved src c.args.draws.now q m k h key e.1 e.2;
    }
