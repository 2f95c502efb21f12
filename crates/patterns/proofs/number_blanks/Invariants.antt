-- `patterns::number_blanks` meets its contract. The invariant: the words passed are noted.
use Prim.Native.Nat.{◌≤◌}
use lib.ListN.{take}
use Rattle.word_bytes.specs.Bytes.{words_of}
use Rattle.patterns.specs.Tables.{Noted}
use Rattle.patterns.proofs.number_blanks.Given as goal

abbrev pub invariant-loop-i : goal.invariant-loop-i
invariant-loop-i l = Noted (take l.i (words_of l.bytes)) (record { terms = l.terms; hedges = l.hedges; functions = l.functions }) l.table × (l.terms ≤ l.i) × (l.hedges ≤ l.i) × (l.functions ≤ l.i)
