-- What trying a filling leaves and answers, for every input: in the paper's numbers, as the contract says it, and as the answer that has these
-- numbers.
use Rattle.std.specs.Prelude.{ℕ, ◌≡◌, ◌⊎◌, List, Result, Ok, Err, Bool, true, false}
use Rattle.language.specs.declared.Refusal.{Refusal}
use Rattle.language.specs.Limits.{desk}
use Rattle.language.specs.Numbers.{number_of, place_of}
use Rattle.language.specs.Trees.{Question}
use Rattle.language.specs.Question.{asks, read_question}
use Rattle.meaning.specs.Meaning.{Filling, MeetsQuestion}
use Rattle.meaning.specs.Values.{gives, read_filling}
use Rattle.rules.specs.Answer.{zeros, overwritten}
use Rattle.rules.specs.Calls.{Trying, decides, unread, given-up, trying_with}
use Rattle.header.specs.declared.Header.{Header}
use Rattle.header.specs.Heading.{header_of}
use Rattle.trying.specs.Tasks.{AQuestion}
use Rattle.outcomes.specs.Numbers.{tried_numbers}

-- ---- in numbers: the number of the table, 0 for none, the place of the mistake, and the value

-- 1 exactly where it holds
abbrev pub ToldAnswers : Type 0 → Result Bool Refusal → Type 0
ToldAnswers P t = ((tried_numbers t ≡ (0, 0, 1)) × P) ⊎ ((tried_numbers t ≡ (0, 0, 0)) × (P → ⊥))

-- what comes back, and the work slice before and after
abbrev pub ToldOutcome : Trying → Result Bool Refusal → List ℕ → List ℕ → Type 0
ToldOutcome (unread r) t w w' = (tried_numbers t ≡ (number_of r, place_of r, 0)) × (w' ≡ w)
ToldOutcome (given-up r) t w w' = (tried_numbers t ≡ (number_of r, place_of r, 0)) × (w' ≡ overwritten desk (zeros desk) w)
ToldOutcome (decides q ρ) t w w' = ToldAnswers (MeetsQuestion ρ q) t × (w' ≡ overwritten desk (zeros desk) w)

-- ---- the answer that has these numbers

-- yes exactly where it holds
abbrev pub Answers : Type 0 → Result Bool Refusal → Type 0
Answers P t = ((t ≡ Ok true) × P) ⊎ ((t ≡ Ok false) × (P → ⊥))

abbrev pub Outcome : Trying → Result Bool Refusal → List ℕ → List ℕ → Type 0
Outcome (unread r) t w w' = (t ≡ Err r) × (w' ≡ w)
Outcome (given-up r) t w w' = (t ≡ Err r) × (w' ≡ overwritten desk (zeros desk) w)
Outcome (decides q ρ) t w w' = Answers (MeetsQuestion ρ q) t × (w' ≡ overwritten desk (zeros desk) w)

-- the same for a question that is not refused, and for a filling that is not refused either
pub record TriedAsked (h : Header) (fs ws : List ℕ) (t : Result Bool Refusal) (w w' : List ℕ) : Type 0 where
  pub each : (q : Question) → read_question desk ws ≡ asks q → h ≡ header_of ws → Outcome (trying_with desk q (read_filling desk q.counts fs)) t w w'

pub record TriedGiven (h : Header) (fs ws : List ℕ) (t : Result Bool Refusal) (w w' : List ℕ) : Type 0 where
  pub each : (q : Question) (ρ : Filling) → AQuestion h fs ws q ρ → Outcome (trying_with desk q (gives ρ)) t w w'
