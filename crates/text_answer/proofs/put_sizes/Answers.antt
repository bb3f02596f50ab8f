use Rattle.text_answer.proofs.Texts.{sizes_is, length_field}
use native.Mathlib.Omega.{arith}
use Rattle.text_answer.specs.Answer.{sizes_text, names_word, groups_word, draws_word}
use Rattle.text_writing.proofs.Stores.{then, wrote_as, wrote_length}
use Rattle.text_answer.proofs.put_sizes.Goals as goal

pub put_field-q-requires : goal.put_field-q-requires
put_field-q-requires c = let l = wrote_length c.put_field-p.ensures in omega (arith, c.put_field-p.ensures.end, length_field names_word c.args.names, c.requires)

pub put_field-e-requires : goal.put_field-e-requires
put_field-e-requires c =
    let l = wrote_length c.put_field-p.ensures in
    let m = wrote_length c.put_field-q.ensures in
    omega (arith, c.put_field-p.ensures.end, c.put_field-q.ensures.end, length_field names_word c.args.names, length_field groups_word c.args.groups, c.requires)

pub put_byte-requires : goal.put_byte-requires
put_byte-requires c =
    let l = wrote_length c.put_field-p.ensures in
    let m = wrote_length c.put_field-q.ensures in
    let n = wrote_length c.put_field-e.ensures in
    omega (arith, c.put_field-p.ensures.end, c.put_field-q.ensures.end, c.put_field-e.ensures.end, length_field names_word c.args.names, length_field groups_word c.args.groups, length_field draws_word c.args.draws, c.requires)

pub returns : goal.returns
unfolding sizes_text
returns c = wrote_as _ (then (then (then c.put_field-p.ensures c.put_field-q.ensures) c.put_field-e.ensures) c.put_byte.ensures) (sizes_is c.args.names c.args.groups c.args.draws)
