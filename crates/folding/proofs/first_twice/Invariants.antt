-- One pass: the table of the literals passed, and the earliest of them that stands there again.
use Prim.Native.Nat.{ℕ, ◌-◌}
use mathlib.Core.Path.{◌≡◌}
use mathlib.Core.List.{List}
use lib.ListN.{length}
use Rattle.language.specs.Limits.{desk}
use Rattle.language.specs.Trees.{Conj}
use Rattle.language.specs.Writing.{conj_words}
use Rattle.language.specs.Fine.{fine_conj}
use Rattle.views.proofs.LiteralWalks.{Walked}
use Rattle.folding.specs.Chains.{Falls}
use Rattle.folding.proofs.Tables.{Table}
use Rattle.folding.proofs.Twice.{twice_from}
use Rattle.folding.proofs.first_twice.Given as goal

abbrev pub Known : List ℕ → List ℕ → List ℕ → ℕ → Conj → Conj → Type 0
Known k heads next best done rest = Table heads next done × (best ≡ twice_from (length k) 0 done)

abbrev pub invariant-loop-i : goal.invariant-loop-i
invariant-loop-i l = Falls l.heads l.next l.i × ((c : Conj) → fine_conj desk c → l.k ≡ conj_words c → Walked (Known l.k l.heads l.next l.best) c l.i)

abbrev pub decreases-loop-i : goal.decreases-loop-i
decreases-loop-i l = length l.k - l.i
