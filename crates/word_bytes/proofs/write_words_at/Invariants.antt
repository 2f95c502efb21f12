-- `word_bytes::write_words_at` meets its contract: the bytes written, and then those still to come, are the bytes of the words.
use Prim.Native.Nat.{◌+◌, ◌*◌}
use mathlib.Core.Path.{◌≡◌}
use lib.ListN.{length, drop}
use lib.Seq.{sets}
use Rattle.word_bytes.specs.Bytes.{bytes_of}
use Rattle.word_bytes.proofs.write_words_at.Given as goal

abbrev pub invariant-loop-i : goal.invariant-loop-i
invariant-loop-i l = (sets l.bytes (2 * (l.at + l.i)) (bytes_of (drop l.i l.words)) ≡ sets l.initial.bytes (2 * l.at) (bytes_of l.words)) × (length l.bytes ≡ length l.initial.bytes)
