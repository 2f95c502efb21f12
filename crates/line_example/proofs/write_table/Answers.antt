-- The table is the number of variables, where the values of each kind begin, and where the last ends.
use Rattle.line_example.proofs.Writing.{table-written}
use Rattle.line_example.proofs.write_table.Goals as goal

pub returns : goal.returns
returns c = let p = c.requires in
    table-written p.1 p.2 p.3 c.short.ensures c.put-e.ensures c.write_starts-s.ensures c.write_starts-t.ensures c.write_starts-u.ensures c.short-2.ensures c.put.ensures
