-- What the rest of a run comes to on each course, and which step is made next. A trail that is told is in bytes.
use Rattle.std.specs.Prelude.{ℕ, suc, ◌+◌, ◌*◌, ◌-◌, ◌<◌, ◌≤◌, ◌≡◌, ◌||◌, List, [], ◌∷◌, ◌++◌, leb, length, drop, Result, Ok, Err}
use Rattle.language.specs.declared.Refusal.{Refusal}
use Rattle.language.specs.declared.Refusal.TheVariants.{StepLimit, ShortTrail, LongTrail}
use Rattle.language.specs.declared.Signature.{Signature}
use Rattle.language.specs.Limits.{desk}
use Rattle.language.specs.Kinds.{pick}
use Rattle.language.specs.Trees.{Conj}
use Rattle.language.specs.Writing.{conj_words}
use Rattle.language.specs.Fine.{fine_conj}
use Rattle.rules.specs.Reply.{results}
use Rattle.rules.specs.Each.{Each}
use Rattle.rules.specs.Places.{no_rule}
use Rattle.rules.specs.Step.{step, search}
use Rattle.rules.specs.Run.{Numbered, all_of, Outcome, finished, refused, checked, run_from}
use Rattle.replay.specs.Trail.{written, run_writing}
use Rattle.replay.specs.Replay.{Triple, triples, left_over, replay_from}
use Rattle.search.specs.declared.Best.{Best}
use Rattle.search.specs.Ranking.{Found}
use Rattle.telling.specs.Telling.{chosen_by, Applies}
use Rattle.word_bytes.specs.Bytes.{words_of, half_word}
pub use Rattle.courses.specs.Steps.{Below, Roomy, NotedStep}
use Rattle.running.specs.declared.moves.State.{State}
use Rattle.courses.specs.declared.Course.{Course}
use Rattle.courses.specs.declared.Course.TheVariants.{First, Noted, Told}
use Rattle.around.specs.declared.Ran.{Ran}

-- ---- the rest of a run

-- after n steps, with this trail to follow and so many words of room for one
abbrev pub left : Course → List ℕ → ℕ → Signature → ℕ → List Numbered → List Numbered → Outcome
left First told room σ n ls w = run_from desk (step σ) (desk.steps - n) n ls w
left Noted told room σ n ls w = run_writing desk σ room (desk.steps - n) n ls w
left Told told room σ n ls w = replay_from desk σ (half_word told || left_over (words_of told)) n (triples (drop (3 * n) (words_of told))) ls w

-- after one more, whose results are ks, so that v waits
abbrev pub goes : Course → List ℕ → ℕ → Signature → ℕ → List Numbered → List Conj → List Numbered → Outcome
goes First told room σ n ls ks v = checked desk ks v (left First told room σ (suc n) ls)
goes Noted told room σ n ls ks v = written desk room n ks v (left Noted told room σ (suc n) ls)
goes Told told room σ n ls ks v = checked desk ks v (left Told told room σ (suc n) ls)

-- a trail that is told has the bytes of the steps made
abbrev pub Guided : Course → List ℕ → ℕ → Type 0
Guided First told n = Unit {0}
Guided Noted told n = Unit {0}
Guided Told told n = 6 * n ≤ length told

-- ---- the next step

abbrev pub under_ceiling : Best → ℕ → Result Best Refusal
under_ceiling b n = pick (leb desk.steps n) (Err StepLimit) (Ok b)

-- the next of those that a trail tells
abbrev pub next_of : Signature → Conj → List Triple → Result Best Refusal
next_of σ c [] = Err ShortTrail
next_of σ c (t ∷ ts) = chosen_by σ c t

-- where steps are noted, it is the one that the search finds, at the literal behind these
abbrev pub Traces : Course → Signature → Conj → Best → List Conj → Conj → Type 0
Traces First σ c b ks before = Unit {0}
Traces Noted σ c b ks before = (b.rank < no_rule) × (search σ c ≡ results (record { rule = b.rank; literal = length before; swapped = b.swap }, ks))
Traces Told σ c b ks before = Unit {0}

-- no step is made, and the run ends so; or this one, and the run goes on from its results
pub data Chooses (course : Course) (told : List ℕ) (room : ℕ) (σ : Signature) (n : ℕ) (c : Numbered) (r : Result Best Refusal) : Type 0 where
  refuses : (e : Refusal) → r ≡ Err e → ((ls w : List Numbered) → left course told room σ n ls (c ∷ w) ≡ refused e) → Chooses course told room σ n c r
  makes : (b : Best) (ks : List Conj) → r ≡ Ok b → (a : Applies σ c.literals b ks)
      → ((ls w : List Numbered) → left course told room σ n ls (c ∷ w) ≡ goes course told room σ n ls ks (all_of c.number ks ++ w))
      → Below course told n → Each (fine_conj desk) ks → Traces course σ c.literals b ks a.before → Chooses course told room σ n c r

-- the first waiting conjunction has the words k, and b was found in it
abbrev pub ChosenFrom : List ℕ → Best → List ℕ → Course → State → Result Best Refusal → Type 0
ChosenFrom k b told course s r =
    (room : ℕ) (c : Numbered) → fine_conj desk c.literals → k ≡ conj_words c.literals → s.signature.symbols ≤ desk.each
    → b.rank < no_rule → Found s.signature c.literals b.rank b.at b.swap → Chooses course told room s.signature s.steps c r

-- ---- the end

-- what a run comes to that is done in this state
abbrev pub ran_of : State → Ran
ran_of s = record { steps = s.steps; tally = s.tally }

pub data Finishes (told : List ℕ) (course : Course) (s : State) (r : Result Ran Refusal) : Type 0 where
  done : r ≡ Ok (ran_of s) → ((room : ℕ) (ls : List Numbered) → left course told room s.signature s.steps ls [] ≡ finished ls s.steps) → Finishes told course s r
  goes_on : r ≡ Err LongTrail → ((room : ℕ) (ls : List Numbered) → left course told room s.signature s.steps ls [] ≡ refused LongTrail) → Finishes told course s r
