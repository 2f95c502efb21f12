-- `word_bytes::word_at` meets its contract: a word stands in the two bytes at its place.
use native.Mathlib.Omega.{arith}
use Rattle.word_bytes.proofs.Pairs.{word-is}
use Rattle.word_bytes.proofs.word_at.Goals as goal

pub returns : goal.returns
returns c = word-is _ _ _ (omega arith) c.word.ensures
