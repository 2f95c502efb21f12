-- `member`'s functions that call one another. The measure is the words of the expression that are left; under an unordered symbol then the words of the hedge,
-- and, where each symbol is tried alone, the words of the expression behind it.
use Prim.Native.Nat.{◌+◌, ◌-◌, ◌*◌}
use lib.ListN.{length}
use Rattle.any_order.proofs.Standing.{first}
use Rattle.member.proofs.Runs.{Looping}
use Rattle.member.proofs.+accepts_any_ask_crowd_fit_shift.Given as goal

abbrev pub decreases-accepts : goal.decreases-accepts
decreases-accepts l = 100000000 * (length l.e.now - l.at) + 3

abbrev pub invariant-accepts-loop-j : goal.invariant-accepts-loop-j
invariant-accepts-loop-j l = Looping l.s l.e l.at l.h l.i l.initial.k l.k l.initial.w l.w l.top l.n l.j l.first l.fin

abbrev pub decreases-accepts-loop-j : goal.decreases-accepts-loop-j
decreases-accepts-loop-j l = length l.h - l.j

abbrev pub decreases-any : goal.decreases-any
decreases-any l = 100000000 * (length l.e.now - l.at) + 12000 * (length l.h.now - l.j) + 9000

abbrev pub decreases-ask : goal.decreases-ask
decreases-ask l = 100000000 * (length l.e.now - l.p)

abbrev pub decreases-crowd : goal.decreases-crowd
decreases-crowd l = 100000000 * (length l.e.now - l.at) + 12000 * (length l.h.now - l.j) + (length l.e.now - l.q) + 10

abbrev pub decreases-fit : goal.decreases-fit
decreases-fit l = 100000000 * (length l.e.now - l.at) + 1

abbrev pub decreases-shift : goal.decreases-shift
decreases-shift l = 100000000 * (length l.e.now - l.at) + 2
