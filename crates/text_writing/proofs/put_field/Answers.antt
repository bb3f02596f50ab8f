use Rattle.text_writing.proofs.Stores.{then}
use Rattle.text_writing.proofs.put_field.Goals as goal

pub returns : goal.returns
returns c = then c.put_bytes-p.ensures c.put_number.ensures
