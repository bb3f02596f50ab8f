use Rattle.lists.specs.Lists.{listed}
use Rattle.rng_std.specs.Seeds.{key_of, steps}
use Rattle.rng_std.proofs.key_of.Goals as goal

pub returns : goal.returns
unfolding key_of listed steps
returns c = rw (c.output-8.ensures, c.output-7.ensures, c.output-6.ensures, c.output-5.ensures, c.output-4.ensures, c.output-3.ensures, c.output-2.ensures, c.output.ensures, c.advance-s8.ensures, c.advance-s7.ensures, c.advance-s6.ensures, c.advance-s5.ensures, c.advance-s4.ensures, c.advance-s3.ensures, c.advance-s2.ensures, c.advance-s1.ensures)
