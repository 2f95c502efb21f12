-- `literal_place`: so many literals are to be passed still.
use Prim.Native.Nat.{◌-◌}
use mathlib.Core.Path.{◌≡◌}
use lib.ListN.{length}
use Rattle.language.specs.Limits.{desk}
use Rattle.language.specs.Trees.{Conj}
use Rattle.language.specs.Writing.{conj_words}
use Rattle.language.specs.Fine.{fine_conj}
use Rattle.views.proofs.LiteralWalks.{Walked}
use Rattle.literals.proofs.Walks.{Left}
use Rattle.literals.proofs.literal_place.Given as goal

abbrev pub invariant-loop-i : goal.invariant-loop-i
invariant-loop-i l = (c : Conj) → fine_conj desk c → l.k ≡ conj_words c → Walked (Left l.number c l.left l.i) c l.i

abbrev pub decreases-loop-i : goal.decreases-loop-i
decreases-loop-i l = length l.k - l.i
