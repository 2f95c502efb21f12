-- `filling::name` meets its contract: its part begins at the offset that it reads.
use Rattle.filling.proofs.name.Goals as goal

pub returns : goal.returns
returns c = rw c.wide-from.ensures
