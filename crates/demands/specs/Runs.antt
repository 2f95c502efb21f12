-- How far a run gets within its limits, and what stops it there: 7 to 10 and 21, each said of a state that the run reaches.
use Rattle.std.specs.Prelude.{ℕ, suc, ◌<◌, ◌≤◌, ◌≡◌, true, false, List, [], ◌∷◌, ◌++◌}
use Rattle.language.specs.declared.Refusal.{Refusal}
use Rattle.language.specs.declared.Refusal.TheVariants.{LongResult, LongWaiting, LineRoom, StepLimit, LongWalk}
use Rattle.language.specs.declared.Signature.{Signature}
use Rattle.language.specs.Limits.{Limits}
use Rattle.language.specs.Trees.{Conj}
use Rattle.rules.specs.Reply.{nothing, results, stops}
use Rattle.rules.specs.Step.{step}
use Rattle.rules.specs.Run.{Numbered, all_of, numbered, any_long, waiting_size, lines_fit}

module _ (L : Limits) (σ : Signature) (alternatives : List Conj) where
  -- So many steps are made and so many left, these lines are found, and these conjunctions wait.
  pub data Reached : ℕ → ℕ → List Numbered → List Numbered → Type 0 where
    begins : Reached 0 L.steps [] (numbered 0 alternatives)
    -- "If no rule applies, the conjunction becomes the next line; that is no step."
    rests : {made left : ℕ} {lines : List Numbered} (k : Numbered) (waiting : List Numbered) → Reached made left lines (k ∷ waiting) → step σ k.literals ≡ nothing
        → lines_fit L (lines ++ (k ∷ [])) ≡ true → Reached made left (lines ++ (k ∷ [])) waiting
    -- "Results stand in the place of the conjunction, in order", and are of its alternative.
    steps : {made left : ℕ} {lines : List Numbered} (k : Numbered) (ks : List Conj) (waiting : List Numbered) → Reached made (suc left) lines (k ∷ waiting) → step σ k.literals ≡ results ks
        → any_long L ks ≡ false → waiting_size (all_of k.number ks ++ waiting) ≤ L.room → Reached (suc made) left lines (all_of k.number ks ++ waiting)

  -- what stops the run: "In a step: 10, 7, 8"; 21 is found when the last rule is tried, "and so before 10"
  pub data Stops (e : Refusal) : Type 0 where
    -- "a step's result passes" 4,096 "words"
    long-result : e ≡ LongResult → {made left : ℕ} {lines : List Numbered} (k : Numbered) (ks : List Conj) (waiting : List Numbered) → Reached made (suc left) lines (k ∷ waiting)
        → step σ k.literals ≡ results ks → any_long L ks ≡ true → Stops e
    -- lengths of waiting conjunctions, "plus two" for each, "pass" 16,384
    long-waiting : e ≡ LongWaiting → {made left : ℕ} {lines : List Numbered} (k : Numbered) (ks : List Conj) (waiting : List Numbered) → Reached made (suc left) lines (k ∷ waiting)
        → step σ k.literals ≡ results ks → any_long L ks ≡ false → L.room < waiting_size (all_of k.number ks ++ waiting) → Stops e
    -- "a 513th line, or a line past word" 16,383
    no-line-fits : e ≡ LineRoom → {made left : ℕ} {lines : List Numbered} (k : Numbered) (waiting : List Numbered) → Reached made left lines (k ∷ waiting)
        → step σ k.literals ≡ nothing → lines_fit L (lines ++ (k ∷ [])) ≡ false → Stops e
    -- "10,000 steps made and a rule still applies"
    no-step-left : e ≡ StepLimit → {made : ℕ} {lines : List Numbered} (k : Numbered) (ks : List Conj) (waiting : List Numbered) → Reached made 0 lines (k ∷ waiting)
        → step σ k.literals ≡ results ks → Stops e
    -- "when a walk reaches more than" 4,096 "different pairs"
    long-walk : e ≡ LongWalk → {made left : ℕ} {lines : List Numbered} (k : Numbered) (waiting : List Numbered) → Reached made left lines (k ∷ waiting)
        → step σ k.literals ≡ stops LongWalk → Stops e
