-- What solving with a trail, a replay and the example with a trail come to for a caller, and what the room lent for a trail then holds.
use Rattle.std.specs.Prelude.{ℕ, Bool, true, false, List, [], ◌++◌, ltb, length, drop, replicate}
use Rattle.language.specs.declared.Refusal.TheVariants.{ShortSlice}
use Rattle.language.specs.Limits.{Limits}
use Rattle.language.specs.Trees.{signature}
use Rattle.language.specs.Question.{Asked, asks, refuses, read_question, counts_of}
use Rattle.rules.specs.Answer.{Solving, answered, unread, given-up, ran}
use Rattle.rules.specs.Calls.{Showing, showing_of}
use Rattle.replay.specs.Trail.{trail, trail_words, run_trail}
use Rattle.replay.specs.Replay.{replay}

-- for a work and an answer slice of so many words: 1 before all else
abbrev pub lent : Limits → ℕ → ℕ → Solving → Solving
lent L work answer s = elim (ltb work L.room) [ true ↦ unread ShortSlice | false ↦ elim (ltb answer L.room) [ true ↦ unread ShortSlice | false ↦ s ] ]

-- ---- solving with a trail

abbrev pub solving_trail_of : Limits → ℕ → Asked → Solving
solving_trail_of L room (asks q) = ran (run_trail L (signature q.counts) room q.alternatives)
solving_trail_of L room (refuses r) = unread r

-- with so many words of room for the trail
unfoldable pub solving_trail : Limits → ℕ → ℕ → ℕ → List ℕ → Solving
solving_trail L work answer room ws = lent L work answer (solving_trail_of L room (read_question L ws))

-- the words of the trail of a question
abbrev pub trail_of : Limits → Asked → List ℕ
trail_of L (asks q) = trail_words (trail L (signature q.counts) q.alternatives)
trail_of L (refuses r) = []

-- The room lent for the trail, which held `old`: the trail, and behind it the room is unchanged; unchanged after 1 to 6; "after 29, 7 to 10 and 21 the
-- slices and that room are zeros".
abbrev pub trail_leaves : Solving → List ℕ → List ℕ → List ℕ
trail_leaves (answered ls n) t old = t ++ drop (length t) old
trail_leaves (unread r) t old = old
trail_leaves (given-up r) t old = replicate (length old) 0

-- ---- the replay

abbrev pub replaying_of : Limits → Bool → List ℕ → Asked → Solving
replaying_of L half trail (asks q) = ran (replay L (signature q.counts) half trail q.alternatives)
replaying_of L half trail (refuses r) = unread r

-- "1 to 6 as before", which leave the slices alone; "from 7 on its slices are zeros"
unfoldable pub replaying : Limits → ℕ → ℕ → Bool → List ℕ → List ℕ → Solving
replaying L work answer half trail ws = lent L work answer (replaying_of L half trail (read_question L ws))

-- "the example call can take a trail as well and then replays it instead of solving, with the replay's refusals and then 14 to 16"
unfoldable pub showing_trail : Limits → Bool → ℕ → ℕ → ℕ → ℕ → Bool → List ℕ → List ℕ → Showing
showing_trail L old work answer room line half trail ws = showing_of L old (counts_of ws) room line (replaying L work answer half trail ws)
