-- Which numbers solving with a trail and a replay can give: 1 to 6 before the run, and 7 or more from it.
use Prim.Native.Nat.{ℕ, ◌≤◌}
use mathlib.Core.Bool.{Bool, true, false}
use mathlib.Core.List.{List}
use lib.Dec.{lit≤, ltb}
use Rattle.language.specs.declared.Refusal.{Refusal}
use Rattle.language.specs.declared.Refusal.TheVariants.{ShortSlice}
use Rattle.language.specs.Limits.{Limits}
use Rattle.language.specs.Numbers.{number_of}
use Rattle.language.specs.Trees.{signature}
use Rattle.language.specs.Question.{Asked, asks, refuses, read_question}
use Rattle.rules.specs.Run.{Outcome, finished, refused}
use Rattle.rules.specs.Answer.{Solving, unread, ran}
use Rattle.rules.proofs.Stopping.{RunStopsBy}
use Rattle.host.proofs.Refusals.{Early, early, InOrder}
use Rattle.replay.specs.Trail.{run_trail}
use Rattle.replay.specs.Replay.{replay}
use Rattle.replay.specs.Calls.{lent, solving_trail_of, solving_trail, replaying_of, replaying}
use Rattle.replay.proofs.Trailed.{trail-stops-by}
use Rattle.replay.proofs.Refused.{replay-stops-by}

abbrev Late : Refusal → Type 0
Late r = 7 ≤ number_of r

order-run : (o : Outcome) → RunStopsBy Late o → InOrder (ran o)
order-run (finished ls n) h = tt
order-run (refused r) h = h

order-tested : (b : Bool) (s : Solving) → InOrder s → InOrder (elim b [ true ↦ unread ShortSlice | false ↦ s ])
order-tested true s h = (lit≤ tt, lit≤ tt)
order-tested false s h = h

order-lent : (L : Limits) (work answer : ℕ) (s : Solving) → InOrder s → InOrder (lent L work answer s)
order-lent L work answer s h = order-tested (ltb work L.room) _ (order-tested (ltb answer L.room) s h)

order-trail : (L : Limits) (room : ℕ) (a : Asked) → Early a → InOrder (solving_trail_of L room a)
order-trail L room (asks q) h =
    order-run (run_trail L (signature q.counts) room q.alternatives) (trail-stops-by Late (lit≤ tt) (lit≤ tt) (lit≤ tt) (lit≤ tt) (lit≤ tt) (lit≤ tt) L (signature q.counts) room q.alternatives)
order-trail L room (refuses r) h = h

order-replay : (L : Limits) (half : Bool) (trail : List ℕ) (a : Asked) → Early a → InOrder (replaying_of L half trail a)
order-replay L half trail (asks q) h =
    order-run (replay L (signature q.counts) half trail q.alternatives) (replay-stops-by Late (lit≤ tt) (lit≤ tt) (lit≤ tt) (lit≤ tt) (lit≤ tt) (lit≤ tt) (lit≤ tt) L (signature q.counts) half trail q.alternatives)
order-replay L half trail (refuses r) h = h

pub trail-in-order : (L : Limits) (work answer room : ℕ) (ws : List ℕ) → InOrder (solving_trail L work answer room ws)
unfolding solving_trail
trail-in-order L work answer room ws = order-lent L work answer _ (order-trail L room (read_question L ws) (early L ws))

pub replay-in-order : (L : Limits) (work answer : ℕ) (half : Bool) (trail ws : List ℕ) → InOrder (replaying L work answer half trail ws)
unfolding replaying
replay-in-order L work answer half trail ws = order-lent L work answer _ (order-replay L half trail (read_question L ws) (early L ws))
