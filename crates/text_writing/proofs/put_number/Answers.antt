use native.Mathlib.Omega.{arith}
use Rattle.text_digits.proofs.Numerals.{width_le}
use Rattle.text_writing.proofs.Stores.{number_wrote}
use Rattle.text_writing.proofs.put_number.Goals as goal

pub put_digits-requires : goal.put_digits-requires
put_digits-requires c = let h = width_le c.args.base c.args.x in (c.requires.0, c.requires.1, omega (arith, c.width_of-k.ensures, c.requires))

pub overflow_add-result : goal.overflow_add-result
overflow_add-result c = let h = width_le c.args.base c.args.x in omega (arith, c.width_of-k.ensures, c.requires, c.well_formed)

pub returns : goal.returns
returns c = number_wrote _ _ _ _ _ _ c.width_of-k.ensures c.put_digits.ensures
