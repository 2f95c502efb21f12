-- What each call with a trail comes to for a C program: theorems of any outcome that the contracts allow, from the bytes that the caller holds. Nothing is
-- known of a call but its contract (`allowed` beside each kind of call). The proofs are cited.
use Prim.Native.Nat.{ℕ, ◌+◌, ◌*◌}
use mathlib.Core.Path.{◌≡◌}
use lib.ListN.{take}
use Rattle.language.specs.Limits.{desk}
use Rattle.language.specs.Trees.{Question}
use Rattle.language.specs.Question.{asks, read_question}
use Rattle.lines.specs.Fillings.{WordsMeet}
use Rattle.word_bytes.specs.Bytes.{words_of, words_in}
use Rattle.demands.specs.HostCalls.{DeskSolve}
use Rattle.trail_demands.specs.Calls.{DeskSolveTrail, DeskReplay, DeskExampleTrail}
use Rattle.trail_demands.specs.Tells.{Accepted, DeskReplayTells}
use Rattle.trail_demands.proofs.Replaying as replaying
use Rattle.trail_demands.proofs.Noting as noting
use Rattle.trail_demands.proofs.Showing as showing

-- desk_replay gives 1 to 9, 21, 26, 27 or 28 and leaves what the table's third column says, or 0 and the answer that has its lines.
pub desk-replay-tells : (c : DeskReplay) → DeskReplayTells c
desk-replay-tells = replaying.replay-tells

-- Where it is 0, whoever wrote the trail: any filling meets the question exactly when it meets one of the lines, alternative n exactly when it meets one of
-- that number; every settled line has a filling; no rule applies to a line; and no line is open where each alternative is a match.
pub desk-replay-accepts : (c : DeskReplay) → c.number ≡ 0 → Accepted (words_in c.question) (words_of c.answer_left)
desk-replay-accepts c z = (replaying.replays c z).there

-- desk_solve_trail, where it gives 100 and n, leaves the answer that desk_solve leaves;
pub desk-solve-trail-solves : (t : DeskSolveTrail) (n : ℕ) → t.number ≡ 100 + n → (c : DeskSolve) → c.question ≡ t.question → c.answer ≡ t.answer
    → (c.number ≡ 0) × (c.answer_left ≡ t.answer_left)
desk-solve-trail-solves = noting.as-solved

-- and its trail, three words for each of the n steps, is accepted and gives the same answer.
pub desk-own-trail : (t : DeskSolveTrail) (n : ℕ) → t.number ≡ 100 + n → (c : DeskReplay) → c.question ≡ t.question → c.trail ≡ take (2 * (3 * n)) t.trail_left → c.answer ≡ t.answer
    → (c.number ≡ 0) × (c.answer_left ≡ t.answer_left)
desk-own-trail = noting.own-accepted

-- What desk_example_trail shows is a filling of the question, and it meets the question, whoever wrote the trail.
pub desk-example-trail-meets : (c : DeskExampleTrail) (m : ℕ) → c.number ≡ 100 + m
    → (q : Question) × (read_question desk (words_in c.question) ≡ asks q) × WordsMeet desk q.counts (take m (words_of c.room_left)) q.alternatives
desk-example-trail-meets = showing.shows-meets
