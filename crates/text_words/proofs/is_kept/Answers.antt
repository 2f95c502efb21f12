-- `text_words::is_kept` meets its contract: no place for an offset, and whether there was room.
use Rattle.text_words.proofs.Keeping.{no-offsets, all-kept}
use Rattle.text_words.proofs.is_kept.Goals as goal

pub returns-then-first-i : goal.returns-then-first-i
returns-then-first-i c = search (no-offsets)

pub returns : goal.returns
returns c = search (all-kept)
