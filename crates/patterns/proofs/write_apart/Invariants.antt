-- `patterns::write_apart` meets its contract: the words written, and then those still to come, are the pattern's.
use Prim.Native.Nat.{◌+◌}
use mathlib.Core.Path.{◌≡◌}
use mathlib.Core.List.{map}
use lib.ListN.{length, drop}
use lib.Seq.{sets}
use Rattle.word_bytes.specs.Bytes.{words_of}
use Rattle.patterns.specs.Tables.{renumbered_by}
use Rattle.patterns.proofs.write_apart.Given as goal

abbrev pub invariant-loop-i : goal.invariant-loop-i
invariant-loop-i l = (sets l.question (l.at + l.i) (map (renumbered_by l.n l.table) (drop l.i (words_of l.bytes))) ≡ sets l.initial.question l.at (map (renumbered_by l.n l.table) (words_of l.bytes))) × (length l.question ≡ length l.initial.question)
