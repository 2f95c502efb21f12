-- `day::place` meets its contract: the part, and then where it ends.
use Rattle.day.proofs.Rooms.{placed-with}
use Rattle.day.proofs.place.Goals as goal

pub returns : goal.returns
returns c = placed-with _ _ _ _ _ _ _ c.put_part.ensures c.put_offset.ensures
