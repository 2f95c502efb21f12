-- The length decides before anything is written; then the table and the values fill the front of the room.
use Rattle.line_example.proofs.Writing.{shown-long, shown-full, shown-all}
use Rattle.line_example.proofs.fill_line.Goals as goal

pub returns-then-n-gt-FILLING : goal.returns-then-n-gt-FILLING
returns-then-n-gt-FILLING c = shown-long c.filling_len-n.ensures c.if-n-gt-FILLING.true

pub returns-then-room-n : goal.returns-then-room-n
returns-then-room-n c = shown-full c.filling_len-n.ensures c.if-room-n.true

pub returns : goal.returns
returns c = shown-all c.filling_len-n.ensures c.if-n-gt-FILLING.false c.if-room-n.false c.write_table-e.ensures c.write_all.ensures
