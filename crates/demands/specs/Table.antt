-- The table of numbers: "given exactly when". Each condition by itself, and the first of them.
use Rattle.std.specs.Prelude.{ℕ, ◌+◌, ◌<◌, ◌≡◌, ◌⊎◌, true, false, List, length, drop, get_or}
use Rattle.std.proofs.Math.Option.{none}
use Rattle.language.specs.declared.Refusal.{Refusal}
use Rattle.language.specs.declared.Refusal.TheVariants.{ShortSlice, QuestionLength, CountRange, BadOffset, NotLiterals, Undeclared, FillingLayout, FillingValue, LongLiteral}
use Rattle.language.specs.Limits.{desk}
use Rattle.language.specs.Numbers.{number_of}
use Rattle.language.specs.Trees.{Conj, Counts, signature, Question}
use Rattle.language.specs.Reading.{got, stop}
use Rattle.language.specs.Question.{asks, read_question, counts_of, alternatives_of, body_at, laid_out, parts, read_all, declared_q}
use Rattle.language.specs.Undeclared.{undeclared_at}
use Rattle.meaning.specs.Meaning.{Filling}
use Rattle.meaning.specs.Values.{gives, read_filling, variables, forms, values_of}
use Rattle.rules.specs.Calls.{too_long}
use Rattle.demands.specs.Runs.{Stops}

-- ---- a question's words

-- "symbols (1..32), term, hedge and function variables (0..32 each), conjunctions c (0..16)", "u above the symbols is 3"
abbrev pub OutOfRange : Counts → ℕ → Type 0
OutOfRange n c =
    (n.symbols < 1) ⊎ (desk.each < n.symbols) ⊎ (n.symbols < n.unordered) ⊎ (desk.each < n.terms) ⊎ (desk.each < n.hedges) ⊎ (desk.each < n.functions) ⊎ (desk.alternatives < c)

pub data QuestionFault (ws : List ℕ) (e : Refusal) : Type 0 where
  -- "question under 6 or over" 4,096 "words"
  bad-length : e ≡ QuestionLength → (length ws < 6) ⊎ (desk.question < length ws) → QuestionFault ws e
  -- "a count out of range"
  bad-count : e ≡ CountRange → OutOfRange (counts_of ws) (alternatives_of ws) → QuestionFault ws e
  -- "an offset missing or not as above"
  bad-offset : e ≡ BadOffset → laid_out 5 (alternatives_of ws) ws ≡ false → QuestionFault ws e
  -- "a conjunction is not exactly literals": reading them stops, after so many words
  not-literals : (n : ℕ) → e ≡ NotLiterals (body_at ws + n) → read_all desk (parts 5 (alternatives_of ws) ws) ≡ stop n → QuestionFault ws e
  -- "an undeclared number", of which the first counts
  undeclared : e ≡ Undeclared (body_at ws + undeclared_at desk (counts_of ws) (drop (body_at ws) ws)) → (ks : List Conj) (n : ℕ)
      → read_all desk (parts 5 (alternatives_of ws) ws) ≡ got ks n → declared_q (counts_of ws) ks ≡ false → QuestionFault ws e

-- ---- solving: 1 to 10

pub data SolveFault (work answer : ℕ) (ws : List ℕ) (e : Refusal) : Type 0 where
  -- "a lent work or answer slice has under" 16,384 "words"
  short-slice : e ≡ ShortSlice → (work < desk.room) ⊎ (answer < desk.room) → SolveFault work answer ws e
  in-question : QuestionFault ws e → SolveFault work answer ws e
  in-run : (q : Question) → read_question desk ws ≡ asks q → Stops desk (signature q.counts) q.alternatives e → SolveFault work answer ws e

-- ---- trying a filling: 1 to 6, 11, 12, 13

-- "the whole filling is at most 4,096 words"; "the number of variables; then that many offsets and one more"
abbrev pub LayoutOff : Counts → List ℕ → Type 0
LayoutOff n fs = (desk.filling < length fs) ⊎ (get_or fs 0 0 ≡ variables n → ⊥) ⊎ (laid_out 1 (variables n) fs ≡ false)

pub data TryFault (work : ℕ) (ws fs : List ℕ) (e : Refusal) : Type 0 where
  short-slice : e ≡ ShortSlice → work < desk.room → TryFault work ws fs e
  in-question : QuestionFault ws e → TryFault work ws fs e
  -- "filling: length, count or offsets"
  bad-layout : e ≡ FillingLayout → (q : Question) → read_question desk ws ≡ asks q → LayoutOff q.counts fs → TryFault work ws fs e
  -- "filling: a value of the wrong form, or with an undeclared symbol"
  bad-value : e ≡ FillingValue → (q : Question) → read_question desk ws ≡ asks q → values_of desk q.counts (forms q.counts) (parts 1 (variables q.counts) fs) ≡ none
      → TryFault work ws fs e
  -- "some literal of the question, filled in, passes 8,192 words"
  long-literal : e ≡ LongLiteral → (q : Question) (ρ : Filling) → read_question desk ws ≡ asks q → read_filling desk q.counts fs ≡ gives ρ
      → too_long desk ρ q.alternatives ≡ true → TryFault work ws fs e

-- ---- "1 to 6 go in order, each over the whole question"

-- the condition holds, and none of a smaller number
pub record First (Fault : Refusal → Type 0) (e : Refusal) : Type 0 where
  pub here : Fault e
  pub none_before : (d : Refusal) → number_of d < number_of e → Fault d → ⊥
