-- Literal by literal: those passed are counted.
use Prim.Native.Nat.{ℕ, ◌-◌, ◌≤◌}
use mathlib.Core.Path.{◌≡◌}
use lib.ListN.{length, get_or}
use Rattle.language.specs.Limits.{desk}
use Rattle.language.specs.Trees.{Conj}
use Rattle.language.specs.Writing.{conj_words}
use Rattle.language.specs.Fine.{fine_conj}
use Rattle.counts.specs.Tables.{table as places}
use Rattle.views.proofs.LiteralWalks.{Walked}
use Rattle.solved.specs.Members.{InMembers}
use Rattle.solved.proofs.count_members.Given as goal

abbrev pub invariant-loop-i : goal.invariant-loop-i
invariant-loop-i l = (length l.members ≡ places) × (l.i ≤ length l.k) × ((x : ℕ) → get_or l.members x 0 ≤ l.i)
    × ((c : Conj) → fine_conj desk c → l.k ≡ conj_words c → Walked (λ done rest. InMembers l.members done) c l.i)

abbrev pub decreases-loop-i : goal.decreases-loop-i
decreases-loop-i l = length l.k - l.i
