-- Four bytes in a row.
use Rattle.write_text.proofs.Laid.{four-row}
use Rattle.write_text.proofs.bytes.put_four.Goals as goal

pub returns : goal.returns
returns c = four-row _ _ _ _ c.put-i.ensures c.put-j.ensures c.put-k.ensures c.put.ensures
