-- `day::put_part` meets its contract: the number, and then the words.
use Rattle.day.proofs.Rooms.{word-then}
use Rattle.day.proofs.put_part.Goals as goal

pub returns : goal.returns
returns c = word-then _ _ _ _ _ _ c.put_word.ensures c.write_words_at.ensures
