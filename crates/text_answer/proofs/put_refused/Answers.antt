use Rattle.text_answer.proofs.Texts.{refused_is, length_field}
use native.Mathlib.Omega.{arith}
use Rattle.text_answer.specs.Answer.{refused_text, refused_word, at_word}
use Rattle.text_writing.proofs.Stores.{then, wrote_as, wrote_length}
use Rattle.text_answer.proofs.put_refused.Goals as goal

pub put_field-q-requires : goal.put_field-q-requires
put_field-q-requires c = let l = wrote_length c.put_field-p.ensures in omega (arith, c.put_field-p.ensures.end, length_field refused_word c.args.number, c.requires)

pub put_byte-requires : goal.put_byte-requires
put_byte-requires c =
    let l = wrote_length c.put_field-p.ensures in
    let m = wrote_length c.put_field-q.ensures in
    omega (arith, c.put_field-p.ensures.end, c.put_field-q.ensures.end, length_field refused_word c.args.number, length_field at_word c.args.place, c.requires)

pub returns : goal.returns
unfolding refused_text
returns c = wrote_as _ (then (then c.put_field-p.ensures c.put_field-q.ensures) c.put_byte.ensures) (refused_is c.args.number c.args.place)
