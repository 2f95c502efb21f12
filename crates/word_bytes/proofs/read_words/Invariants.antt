-- `word_bytes::read_words` meets its contract: the words read, and then those still to come, are the words of the bytes.
use Prim.Native.Nat.{◌*◌}
use mathlib.Core.Path.{◌≡◌}
use lib.ListN.{length, drop}
use lib.Seq.{sets}
use Rattle.word_bytes.specs.Bytes.{words_of}
use Rattle.word_bytes.proofs.read_words.Given as goal

abbrev pub invariant-loop-i : goal.invariant-loop-i
invariant-loop-i l = (sets l.words l.i (words_of (drop (2 * l.i) l.bytes)) ≡ sets l.initial.words 0 (words_of l.bytes)) × (length l.words ≡ length l.initial.words)
