-- What the calls told before there were unordered symbols: by the rules and the meaning of that time, which know no signature.
use Rattle.std.specs.Prelude.{ℕ, ◌≡◌, ◌⊎◌, Bool, List, [], ◌∷◌, length, Ok, true, false}
use Rattle.language.specs.Limits.{desk}
use Rattle.language.specs.Trees.{Literal, eqn, mem, Conj, Question}
use Rattle.language.specs.Question.{counts_of}
use Rattle.meaning.specs.Meaning.{Filling, fill}
use Rattle.meaning.specs.Plain.{PlainMember}
use Rattle.meaning.specs.Values.{gives, read_filling}
use Rattle.rules.specs.Answer.{Solving}
use Rattle.rules.specs.Ordered.{ordered_solving}
use Rattle.rules.specs.Calls.{showing_of}
use Rattle.outcomes.specs.Numbers.{SolveNumbers}
use Rattle.solver.specs.Leaves.{leaves, told_leaves}
use Rattle.line_example.specs.Shown.{numbers_of, room_of}
use Rattle.demands.specs.Tries.{Try}

-- solving: the numbers that come back, and the two slices
abbrev pub solved_before : List ℕ → List ℕ → List ℕ → SolveNumbers × List ℕ × List ℕ
solved_before question work answer = told_leaves (ordered_solving desk (length work) (length answer) question) work answer

-- an example, by what solving comes to: the numbers that come back, the two slices and the room
abbrev pub exhibited_by : Solving → ℕ → Bool → List ℕ → List ℕ → List ℕ → List ℕ → (ℕ × ℕ × ℕ) × List ℕ × List ℕ × List ℕ
exhibited_by v line old_sheets question work answer room =
    let s = showing_of desk old_sheets (counts_of question) (length room) line v in
    let l = leaves v work answer in
    (numbers_of s, l.1, l.2, room_of s room)

abbrev pub exhibited_before : ℕ → Bool → List ℕ → List ℕ → List ℕ → List ℕ → (ℕ × ℕ × ℕ) × List ℕ × List ℕ × List ℕ
exhibited_before line old_sheets question work answer room = exhibited_by (ordered_solving desk (length work) (length answer) question) line old_sheets question work answer room

-- a filling: "both sides become the same" is equality, and a member is one in the plain sense
abbrev pub PlainMeets : Filling → Literal → Type 0
PlainMeets ρ (eqn l r) = fill ρ l ≡ fill ρ r
PlainMeets ρ (mem h R) = PlainMember R (fill ρ h)

abbrev pub PlainMeetsAll : Filling → Conj → Type 0
PlainMeetsAll ρ [] = Unit {0}
PlainMeetsAll ρ (l ∷ k) = PlainMeets ρ l × PlainMeetsAll ρ k

abbrev pub PlainMeetsOne : Filling → List Conj → Type 0
PlainMeetsOne ρ [] = ⊥
PlainMeetsOne ρ (k ∷ ks) = PlainMeetsAll ρ k ⊎ PlainMeetsOne ρ ks

pub record TriedBefore (t : Try) (q : Question) : Type 0 where
  pub yes : t.returned ≡ Ok true → (ρ : Filling) × (read_filling desk q.counts t.filling ≡ gives ρ) × PlainMeetsOne ρ q.alternatives
  pub no : t.returned ≡ Ok false → (ρ : Filling) × (read_filling desk q.counts t.filling ≡ gives ρ) × (PlainMeetsOne ρ q.alternatives → ⊥)
