-- `patterns::closes` meets its contract. The invariant: what is left to scan is to answer.
use Prim.Native.Nat.{◌≤◌}
use mathlib.Core.Path.{◌≡◌}
use lib.ListN.{drop}
use Rattle.word_bytes.specs.Bytes.{words_of}
use Rattle.patterns.specs.Terms.{closing}
use Rattle.patterns.proofs.closes.Given as goal

abbrev pub invariant-loop-i : goal.invariant-loop-i
invariant-loop-i l = (l.depth ≤ l.i) × (closing l.depth (drop l.i (words_of l.bytes)) ≡ closing l.hedges (drop l.at (words_of l.bytes)))
