-- `later_equal`: the literals passed have other words.
use Prim.Native.Nat.{◌+◌, ◌-◌}
use mathlib.Core.Path.{◌≡◌}
use mathlib.Core.List.{◌∷◌, ◌++◌}
use lib.ListN.{length, drop}
use Rattle.language.specs.Trees.{Literal, Conj}
use Rattle.words.specs.Places.{until_literal}
use Rattle.views.specs.Standing.{LiteralAt}
use Rattle.views.proofs.LiteralWalks.{Walked}
use Rattle.folding.proofs.Laters.{Passed}
use Rattle.folding.proofs.later_equal.Given as goal

abbrev pub invariant-loop-j : goal.invariant-loop-j
invariant-loop-j l = (l.end ≡ l.at + 1 + until_literal (drop (l.at + 1) l.k))
    × ((before : Conj) (m : Literal) (behind : Conj) → LiteralAt l.k l.at before m behind → Walked (Passed l.at m behind l.j) (before ++ (m ∷ behind)) l.j)

abbrev pub decreases-loop-j : goal.decreases-loop-j
decreases-loop-j l = length l.k - l.j
