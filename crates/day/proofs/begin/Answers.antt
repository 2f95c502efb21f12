-- `day::begin` meets its contract: one word, and then two.
use Rattle.day.proofs.Rooms.{begun}
use Rattle.day.proofs.begin.Goals as goal

pub returns : goal.returns
returns c = begun _ _ _ _ _ c.from.ensures c.put_word.ensures c.put_offset.ensures
