-- `filling::body` meets its contract: its part is between the two offsets that it reads.
use Rattle.filling.proofs.body.Goals as goal

pub returns : goal.returns
returns c = rw (c.wide-from.ensures, c.wide-to.ensures)
