-- By whether a literal stands twice.
use native.Mathlib.Omega.{arith}
use mathlib.Core.Path.{ap}
use lib.ListN.{length}
use Rattle.search.proofs.Finding.{fold-there, fold-absent}
use Rattle.search.proofs.find_fold.Goals as goal

pub returns-then-at-k : goal.returns-then-at-k
returns-then-at-k c = (λ h. c.if-at-k.true, λ x f e. fold-there x _ (c.first_twice-at.ensures x f e) (let z = ap length e in let h = c.if-at-k.true in omega arith))

pub returns : goal.returns
returns c = (λ h. absurd (omega arith), λ x f e. fold-absent x _ (c.first_twice-at.ensures x f e) (let z = ap length e in let h = c.if-at-k.false in omega arith))
