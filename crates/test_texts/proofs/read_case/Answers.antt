use native.Mathlib.Omega.{arith}
use Rattle.test_texts.proofs.Laws.{case_is}
use Rattle.test_texts.proofs.read_case.Goals as goal

pub returns : goal.returns
returns c =
    let s = c.args.cases.now in
    (case_is s c.args.at (omega (arith, c.requires.0)) c.first_of-first.ensures.0 c.size_from-text.ensures.0 c.size_from-answer.ensures.0, c.first_of-first.ensures.1, omega (arith, c.first_of-first.ensures.2, c.size_from-text.ensures.1, c.size_from-answer.ensures.1))
