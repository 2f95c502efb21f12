-- The run with its limits: what becomes of the waiting conjunctions, which of 7 to 10 is given and when, and the count of steps.
use Rattle.std.specs.Prelude.{ℕ, zero, suc, ◌+◌, Bool, true, false, ◌&&◌, ◌||◌, List, [], ◌∷◌, ◌++◌, map, leb, ltb, length}
use Rattle.language.specs.declared.Refusal.{Refusal}
use Rattle.language.specs.declared.Refusal.TheVariants.{LongResult, LongWaiting, LineRoom, StepLimit}
use Rattle.language.specs.Limits.{Limits}
use Rattle.language.specs.declared.Signature.{Signature}
use Rattle.language.specs.Trees.{Conj}
use Rattle.language.specs.Writing.{conj_words}
use Rattle.rules.specs.Each.{Each}
use Rattle.rules.specs.Reply.{nothing, results, stops}
use Rattle.rules.specs.Step.{Step, step}

-- ---- which alternative a conjunction descends from

-- a waiting conjunction or a line, and the number of its alternative, from 0
pub record Numbered : Type 0 where
  pub number : ℕ
  pub literals : Conj

-- all of one alternative
abbrev pub all_of : ℕ → List Conj → List Numbered
all_of n ks = map (λ (k : Conj). record { number = n; literals = k }) ks

-- the alternatives in order, the first of which has the number n
abbrev pub numbered : ℕ → List Conj → List Numbered
numbered n [] = []
numbered n (k ∷ ks) = record { number = n; literals = k } ∷ numbered (suc n) ks

abbrev pub unnumbered : List Numbered → List Conj
unnumbered ks = map (λ (k : Numbered). k.literals) ks

-- P of the literals of each
abbrev pub EachLine : (Conj → Type 0) → List Numbered → Type 0
EachLine P ks = Each (λ (k : Numbered). P k.literals) ks

-- ---- lengths in words

abbrev pub size : Conj → ℕ
size k = length (conj_words k)

-- "7: a step's result passes" 4,096 "words"
abbrev pub any_long : Limits → List Conj → Bool
any_long L [] = false
any_long L (k ∷ ks) = ltb L.question (size k) || any_long L ks

-- "A waiting conjunction now costs its length plus two"
abbrev pub waiting_size : List Numbered → ℕ
waiting_size [] = 0
waiting_size (k ∷ ks) = suc (suc (size k.literals)) + waiting_size ks

-- where the lines begin: behind two counts, an offset for each line that can be and the end of the last
abbrev pub lines_at : Limits → ℕ
lines_at L = L.lines + 3

-- the words of lines, a mark and a number each
abbrev pub lines_size : List Numbered → ℕ
lines_size [] = 0
lines_size (k ∷ ks) = suc (suc (size k.literals)) + lines_size ks

-- no line too many, and none past the answer's end
abbrev pub lines_fit : Limits → List Numbered → Bool
lines_fit L ks = leb (length ks) L.lines && leb (lines_at L + lines_size ks) L.room

-- ---- the run

-- the lines and the steps made, or the refusal
pub data Outcome : Type 0 where
  finished : List Numbered → ℕ → Outcome
  refused : Refusal → Outcome

-- a step whose results are ks, so that w waits: 7, 8, or the run goes on
abbrev pub checked : Limits → List Conj → List Numbered → (List Numbered → Outcome) → Outcome
checked L ks w go =
    elim (any_long L ks) [
      | true ↦ refused LongResult
      | false ↦
          elim (ltb L.room (waiting_size w)) [ true ↦ refused LongWaiting | false ↦ go w ]
    ]

-- a line more: 9, or the run goes on
abbrev pub lined : Limits → List Numbered → (List Numbered → Outcome) → Outcome
lined L ls go = elim (lines_fit L ls) [ true ↦ go ls | false ↦ refused LineRoom ]

-- The first waiting conjunction, by what a step makes of it, and what `go` makes of the lines, the results and what waits after a step. "If no rule applies, the conjunction
-- becomes the next line; that is no step." "Results stand in the place of the conjunction, in order", and are of its alternative. A rule's own
-- refusal comes before 10.
abbrev pub turn : Limits → Step → (List Numbered → List Conj → List Numbered → Outcome) → ℕ → List Numbered → List Numbered → Outcome
turn L by go made lines [] = finished lines made
turn L by go made lines (k ∷ waiting) =
    elim (by k.literals) [
      | results ks ↦ go lines ks (all_of k.number ks ++ waiting)
      | nothing ↦ lined L (lines ++ (k ∷ [])) (λ more. turn L by go made more waiting)
      | stops refusal ↦ refused refusal
    ]

-- The steps that are left and those that are made: together they are the ceiling, for a run begins with none made and each step moves one over.
-- So with none left "10,000 steps [are] made", and if "a rule still applies" it is 10. In a step: 10, 7, 8.
unfoldable pub run_from : Limits → Step → ℕ → ℕ → List Numbered → List Numbered → Outcome
run_from L by zero made lines waiting = turn L by (λ _ _ _. refused StepLimit) made lines waiting
run_from L by (suc left) made lines waiting = turn L by (λ more ks wait. checked L ks wait (run_from L by left (suc made) more)) made lines waiting

-- the run of a step
unfoldable pub run_by : Limits → Step → List Conj → Outcome
run_by L by alternatives = run_from L by L.steps 0 [] (numbered 0 alternatives)

unfoldable pub run : Limits → Signature → List Conj → Outcome
run L σ alternatives = run_by L (step σ) alternatives
