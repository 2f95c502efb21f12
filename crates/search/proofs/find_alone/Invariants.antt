-- One pass: what is known of the literals passed.
use Prim.Native.Nat.{◌-◌, ◌<◌}
use mathlib.Core.Path.{◌≡◌}
use lib.ListN.{length}
use Rattle.language.specs.declared.Signature.{Signature}
use Rattle.language.specs.Limits.{desk}
use Rattle.language.specs.Trees.{Conj}
use Rattle.language.specs.Writing.{conj_words}
use Rattle.language.specs.Fine.{fine_conj}
use Rattle.rules.specs.Places.{no_rule}
use Rattle.search.specs.declared.Best.{Best}
use Rattle.search.specs.Seeking.{best_from, best_alone}
use Rattle.views.proofs.LiteralWalks.{Walked}
use Rattle.search.proofs.find_alone.Given as goal

abbrev pub Known : Signature → Best → Conj → Conj → Conj → Type 0
Known σ b c done rest = best_from σ b done rest ≡ best_alone σ c

abbrev pub invariant-loop-i : goal.invariant-loop-i
invariant-loop-i l = (l.best.rank < no_rule → l.best.at < length l.k) × ((c : Conj) → fine_conj desk c → l.k ≡ conj_words c → Walked (Known l.s l.best c) c l.i)

abbrev pub decreases-loop-i : goal.decreases-loop-i
decreases-loop-i l = length l.k - l.i
