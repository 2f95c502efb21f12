-- A filling has its table's words and those of its values.
use Rattle.line_example.proofs.Writing.{filling-length}
use Rattle.line_example.proofs.filling_len.Goals as goal

pub returns : goal.returns
returns c = let p = c.requires in filling-length p.1 p.2 p.3 c.values_len-a.ensures c.values_len-b.ensures c.values_len-c.ensures
