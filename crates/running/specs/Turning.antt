-- A run under way on a course, and what a turn makes of it.
use Rattle.std.specs.Prelude.{ℕ, ◌+◌, ◌*◌, ◌-◌, ◌<◌, ◌≤◌, ◌≡◌, List, [], ◌∷◌, ◌++◌, length, drop, Result, Ok, Err}
use Rattle.std.proofs.Math.Seq.{slice}
use Rattle.language.specs.declared.Refusal.{Refusal}
use Rattle.language.specs.declared.Signature.{Signature}
use Rattle.language.specs.Limits.{desk}
use Rattle.language.specs.Trees.{Conj, signature}
use Rattle.language.specs.Writing.{conj_words}
use Rattle.language.specs.Fine.{fine_conj}
use Rattle.language.specs.Question.{Asked, asks, refuses}
use Rattle.rules.specs.Each.{Each}
use Rattle.rules.specs.Step.{Spot}
use Rattle.rules.specs.Run.{Numbered, all_of, numbered, Outcome, finished, refused}
use Rattle.frames.specs.Frames.{frame, framed_length}
use Rattle.counts.specs.Tables.{afresh}
use Rattle.replay.specs.Trail.{trail_from, trail_words, trail}
use Rattle.search.specs.declared.Best.{Best}
use Rattle.telling.specs.Telling.{Applies}
use Rattle.running.specs.declared.moves.State.{State}
use Rattle.running.specs.Running.{Running, Kept}
use Rattle.answers.specs.Lined.{Lined}
use Rattle.courses.specs.declared.Course.{Course}
use Rattle.courses.specs.declared.Course.TheVariants.{First, Noted, Told}
use Rattle.around.specs.declared.Ran.{Ran}
use Rattle.running.specs.Courses.{left, goes, Guided, Below, Traces}

-- The course, the trail to follow, what the room for a trail held, and the trail of the whole run.
pub record Guide : Type 0 where
  pub course : Course
  pub told : List ℕ
  pub old : List ℕ
  pub whole : List Spot

abbrev pub guide : Course → List ℕ → List ℕ → List Spot → Guide
guide course told old whole = record { course = course; told = told; old = old; whole = whole }

-- what the rest of the run comes to
unfoldable pub left_of : Guide → State → List Numbered → List Numbered → Outcome
left_of g s ls w = left g.course g.told (length g.old) s.signature s.steps ls w

-- and after a step
unfoldable pub goes_of : Guide → State → List Numbered → List Conj → List Numbered → Outcome
goes_of g s ls ks v = goes g.course g.told (length g.old) s.signature s.steps ls ks v

-- ---- the trail so far

-- n steps are noted, behind them the room is as it was, and those of w make up the whole
pub record Noting (whole : List Spot) (old : List ℕ) (σ : Signature) (n : ℕ) (w : List Numbered) (now : List ℕ) : Type 0 where
  pub done : List Spot
  pub count : length done ≡ n
  pub words : now ≡ trail_words done ++ drop (3 * n) old
  pub fits : 3 * n ≤ length old
  pub rest : whole ≡ done ++ trail_from σ (desk.steps - n) w

abbrev pub Trailed : Course → List Spot → List ℕ → Signature → ℕ → List Numbered → List ℕ → Type 0
Trailed First whole old σ n w now = now ≡ old
Trailed Noted whole old σ n w now = Noting whole old σ n w now
Trailed Told whole old σ n w now = now ≡ old

-- ---- a run under way

pub record Under (g : Guide) (old_work old_answer : List ℕ) (ls w : List Numbered) (s : State) (work answer out : List ℕ) : Type 0 where
  pub running : Running old_work old_answer ls w s work answer
  pub trailed : Trailed g.course g.whole g.old s.signature s.steps w out
  pub guided : Guided g.course g.told s.steps

-- no more steps than these
abbrev pub bound : Course → List ℕ → ℕ
bound First told = desk.steps
bound Noted told = desk.steps
bound Told told = length told

-- it falls from turn to turn
abbrev pub measure : Course → List ℕ → State → ℕ
measure course told s = (bound course told - s.steps) * (desk.room + 1) + (desk.room - s.at)

-- a turn: the run goes on with the same end, or that end is a refusal
pub data Turns (g : Guide) (old_work old_answer : List ℕ) (ls w : List Numbered) (s : State) (r : Result State Refusal) (work answer out : List ℕ) : Type 0 where
  on : (t : State) (ms v : List Numbered) → r ≡ Ok t → Under g old_work old_answer ms v t work answer out → left_of g t ms v ≡ left_of g s ls w
      → measure g.course g.told t < measure g.course g.told s → Turns g old_work old_answer ls w s r work answer out
  stop : (e : Refusal) → r ≡ Err e → refused e ≡ left_of g s ls w → Kept old_work work → Kept old_answer answer → Turns g old_work old_answer ls w s r work answer out

-- ---- the calls

-- the step b of the first waiting conjunction, which has the words k and this number
abbrev pub Advances : List ℕ → Best → ℕ → ℕ → Course → ℕ → State → List ℕ → List ℕ → Result State Refusal → List ℕ → List ℕ → Type 0
Advances k b number next course made s work out r work' out' =
    (told old : List ℕ) (whole : List Spot) (old_work old_answer : List ℕ) (ls : List Numbered) (c : Numbered) (w : List Numbered) (answer : List ℕ) (ks : List Conj)
    → Under (guide course told old whole) old_work old_answer ls (c ∷ w) s work answer out → k ≡ conj_words c.literals → number ≡ c.number → next ≡ s.at + frame + length k
    → made ≡ s.steps + 1 → (a : Applies s.signature c.literals b ks)
    → left_of (guide course told old whole) s ls (c ∷ w) ≡ goes_of (guide course told old whole) s ls ks (all_of c.number ks ++ w)
    → Below course told s.steps → Each (fine_conj desk) ks → Traces course s.signature c.literals b ks a.before
    → Turns (guide course told old whole) old_work old_answer ls (c ∷ w) s r work' answer out'

-- some run is under way whose first waiting conjunction has the words k
pub record FirstOf (k : List ℕ) (number next : ℕ) (course : Course) (s : State) (work answer told out : List ℕ) : Type 0 where
  pub old : List ℕ
  pub whole : List Spot
  pub old_work : List ℕ
  pub old_answer : List ℕ
  pub lines : List Numbered
  pub first : Numbered
  pub rest : List Numbered
  pub under : Under (guide course told old whole) old_work old_answer lines (first ∷ rest) s work answer out
  pub words : k ≡ conj_words first.literals

-- k is the conjunction that waits first, taken out, and the table is the count of its words
pub record Taken (k table : List ℕ) (s : State) (work : List ℕ) : Type 0 where
  pub words : k ≡ slice (s.at + frame) (s.at + frame + framed_length work s.at) work
  pub counts : table ≡ afresh k

abbrev pub TurnsWith : List ℕ → ℕ → ℕ → Course → State → List ℕ → List ℕ → List ℕ → List ℕ → Result State Refusal → List ℕ → List ℕ → List ℕ → Type 0
TurnsWith k number next course s work answer told out r work' answer' out' =
    (old : List ℕ) (whole : List Spot) (old_work old_answer : List ℕ) (ls : List Numbered) (c : Numbered) (w : List Numbered)
    → Under (guide course told old whole) old_work old_answer ls (c ∷ w) s work answer out → k ≡ conj_words c.literals → number ≡ c.number → next ≡ s.at + frame + length k
    → Turns (guide course told old whole) old_work old_answer ls (c ∷ w) s r work' answer' out'

abbrev pub TurnsFirst : Course → List ℕ → State → List ℕ → List ℕ → List ℕ → Result State Refusal → List ℕ → List ℕ → List ℕ → Type 0
TurnsFirst course told s work answer out r work' answer' out' =
    (old : List ℕ) (whole : List Spot) (old_work old_answer : List ℕ) (ls : List Numbered) (c : Numbered) (w : List Numbered)
    → Under (guide course told old whole) old_work old_answer ls (c ∷ w) s work answer out
    → Turns (guide course told old whole) old_work old_answer ls (c ∷ w) s r work' answer' out'

-- some run is under way
pub record Begun (course : Course) (told : List ℕ) (s : State) (work answer out : List ℕ) : Type 0 where
  pub old : List ℕ
  pub whole : List Spot
  pub old_work : List ℕ
  pub old_answer : List ℕ
  pub lines : List Numbered
  pub waits : List Numbered
  pub under : Under (guide course told old whole) old_work old_answer lines waits s work answer out

-- and a conjunction waits in it
pub record Awaits (course : Course) (told : List ℕ) (s : State) (work answer out : List ℕ) : Type 0 where
  pub old : List ℕ
  pub whole : List Spot
  pub old_work : List ℕ
  pub old_answer : List ℕ
  pub lines : List Numbered
  pub first : Numbered
  pub rest : List Numbered
  pub under : Under (guide course told old whole) old_work old_answer lines (first ∷ rest) s work answer out

-- ---- the end

-- the room for a trail at the end of a run of n steps
abbrev pub TrailEnds : Course → List Spot → List ℕ → ℕ → List ℕ → Type 0
TrailEnds First whole old n now = now ≡ old
TrailEnds Noted whole old n now = (now ≡ trail_words whole ++ drop (3 * n) old) × (length whole ≡ n)
TrailEnds Told whole old n now = now ≡ old

-- the end o of a run, in the slices
pub data Ends (g : Guide) (o : Outcome) (old_work old_answer : List ℕ) (r : Result Ran Refusal) (work answer out : List ℕ) : Type 0 where
  ended : (d : Ran) (ls : List Numbered) → r ≡ Ok d → o ≡ finished ls d.steps → Lined old_answer ls d.tally answer → Kept old_work work
      → TrailEnds g.course g.whole g.old d.steps out → Ends g o old_work old_answer r work answer out
  given-up : (e : Refusal) → r ≡ Err e → o ≡ refused e → Kept old_work work → Kept old_answer answer → Ends g o old_work old_answer r work answer out

abbrev pub GoesOn : Course → List ℕ → State → List ℕ → List ℕ → List ℕ → Result Ran Refusal → List ℕ → List ℕ → List ℕ → Type 0
GoesOn course told begin work answer out r work' answer' out' =
    (old : List ℕ) (whole : List Spot) (old_work old_answer : List ℕ) (ls w : List Numbered) → Under (guide course told old whole) old_work old_answer ls w begin work answer out
    → Ends (guide course told old whole) (left_of (guide course told old whole) begin ls w) old_work old_answer r work' answer' out'

-- the signature and the conjunctions of a question that was read
abbrev pub signature_of : Asked → Signature
signature_of (asks q) = signature q.counts
signature_of (refuses r) = record { symbols = 0; unordered = 0 }

abbrev pub conjunctions_of : Asked → List Conj
conjunctions_of (asks q) = q.alternatives
conjunctions_of (refuses r) = []

-- the run of a question
abbrev pub Runs : Course → List ℕ → Asked → List ℕ → List ℕ → List ℕ → Result Ran Refusal → List ℕ → List ℕ → List ℕ → Type 0
Runs course told a work answer out r work' answer' out' =
    Ends (guide course told out (trail desk (signature_of a) (conjunctions_of a))) (left course told (length out) (signature_of a) 0 [] (numbered 0 (conjunctions_of a))) work answer r work' answer' out'
