-- The values of each kind in order.
use Rattle.line_example.proofs.Writing.{values-written}
use Rattle.line_example.proofs.write_all.Goals as goal

pub returns : goal.returns
returns c = let p = c.requires in values-written p.0 p.1 p.2 c.write_values-s.ensures c.write_values-t.ensures c.write_values.ensures
