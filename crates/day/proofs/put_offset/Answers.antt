-- `day::put_offset` meets its contract: the two words of the number are written.
use Rattle.day.proofs.Rooms.{two-words}
use Rattle.day.proofs.put_offset.Goals as goal

pub returns : goal.returns
returns c = two-words _ _ _ _ c.write_words_at.ensures
