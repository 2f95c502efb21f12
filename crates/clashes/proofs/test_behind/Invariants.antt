-- `test_behind`: the tests passed share something with the first; the next one decides, or those behind it.
use Prim.Native.Nat.{◌+◌, ◌-◌, ◌≤◌}
use mathlib.Core.Path.{◌≡◌}
use mathlib.Core.List.{◌∷◌, ◌++◌}
use lib.ListN.{length, drop}
use Rattle.language.specs.Trees.{Literal, Conj}
use Rattle.words.specs.Places.{until_literal}
use Rattle.views.specs.Standing.{LiteralAt}
use Rattle.views.proofs.LiteralWalks.{Walked}
use Rattle.clashes.specs.Pairs.{lone_of, is_term}
use Rattle.clashes.proofs.Behind.{Known}
use Rattle.clashes.proofs.test_behind.Given as goal

abbrev pub invariant-loop-j : goal.invariant-loop-j
invariant-loop-j l = (l.end ≤ l.j) × (l.end ≡ l.at + 1 + until_literal (drop (l.at + 1) l.k)) × (l.term ≡ is_term l.x)
    × ((before : Conj) (m : Literal) (behind : Conj) → LiteralAt l.k l.at before m behind → (l.x ≡ lone_of m) × Walked (Known l.s m behind) (before ++ (m ∷ behind)) l.j)

abbrev pub decreases-loop-j : goal.decreases-loop-j
decreases-loop-j l = length l.k - l.j
