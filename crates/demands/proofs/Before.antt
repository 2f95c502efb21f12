-- "Questions with u = 0 answer as before": a call with a question whose first word is a number of symbols alone tells what it told before.
use Prim.Native.Nat.{ℕ, ◌<◌}
use mathlib.Core.Path.{◌≡◌, ap, ◌∙◌}
use mathlib.Core.Logic.{◌⊎◌, inl, inr, ◌↔◌}
use mathlib.Core.List.{List, [], ◌∷◌}
use lib.ListN.{length, get_or}
use Rattle.language.specs.declared.Signature.{Signature}
use Rattle.language.specs.Limits.{desk}
use Rattle.language.specs.Trees.{Literal, eqn, mem, Conj, Counts, signature, Question}
use Rattle.language.specs.Question.{asks, read_question}
use Rattle.language.proofs.Asking.{passed}
use Rattle.language.proofs.Header.{first-word-before}
use Rattle.meaning.specs.Meaning.{Filling, fill, Meets, MeetsAll, MeetsOne}
use Rattle.meaning.proofs.Same.{same-is-equal, all_named}
use Rattle.meaning.proofs.Plain.{member-before}
use Rattle.rules.specs.Calls.{showing}
use Rattle.rules.proofs.Ordered.{solving-as-before}
use Rattle.outcomes.specs.Numbers.{SolveNumbers, solved_numbers, shown_numbers}
use Rattle.solver.specs.Leaves.{told_leaves}
use Rattle.example.specs.Exhibits.{told_exhibits}
use Rattle.demands.specs.Solves.{Solve}
use Rattle.demands.specs.Tries.{Try}
use Rattle.demands.specs.Examples.{Example}
use Rattle.demands.specs.Before.{solved_before, exhibited_by, exhibited_before, PlainMeets, PlainMeetsAll, PlainMeetsOne, TriedBefore}
use Rattle.demands.proofs.Said.{try-said}
use Rattle.demands.proofs.Trying.{decided-so, yes-meets, no-meets}

-- ---- solving, and an example

pub solve-before : (c : Solve) → get_or c.question 0 0 < 256
    → ◌≡◌ {A = SolveNumbers × List ℕ × List ℕ} (solved_numbers c.returned, c.work_left, c.answer_left) (solved_before c.question c.work c.answer)
solve-before c few = c.said ∙ ap (λ v. told_leaves v c.work c.answer) (solving-as-before desk (length c.work) (length c.answer) c.question few)

pub example-before : (c : Example) → get_or c.question 0 0 < 256
    → ◌≡◌ {A = (ℕ × ℕ × ℕ) × List ℕ × List ℕ × List ℕ} (shown_numbers c.returned, c.work_left, c.answer_left, c.room_left) (exhibited_before c.line c.old_sheets c.question c.work c.answer c.room)
unfolding told_exhibits showing
example-before c few =
    c.said ∙ ap (λ v. exhibited_by v c.line c.old_sheets c.question c.work c.answer c.room) (solving-as-before desk (length c.work) (length c.answer) c.question few)

-- ---- a filling

module _ (σ : Signature) (ordered : σ.unordered ≡ 0) (ρ : Filling) where
  literal-before : (l : Literal) → Meets σ ρ l ↔ PlainMeets ρ l
  literal-before (eqn l r) = same-is-equal σ ordered (fill ρ l) (fill ρ r)
  literal-before (mem h R) = member-before σ ordered R (fill ρ h)

  all-before : (k : Conj) → MeetsAll σ ρ k ↔ PlainMeetsAll ρ k
  all-before [] = (λ _. tt, λ _. all_named σ ordered ρ)
  all-before (l ∷ k) = (λ m. ((literal-before l).0 m.0, (all-before k).0 m.1), λ m. ((literal-before l).1 m.0, (all-before k).1 m.1))

  -- one of the two, by what each of them comes to
  either : {A B C D : Type 0} → A ↔ C → B ↔ D → (A ⊎ B) ↔ (C ⊎ D)
  either p q = (λ m. elim m [ inl a ↦ inl (p.0 a) | inr b ↦ inr (q.0 b) ], λ m. elim m [ inl c ↦ inl (p.1 c) | inr d ↦ inr (q.1 d) ])

  one-before : (ks : List Conj) → MeetsOne σ ρ ks ↔ PlainMeetsOne ρ ks
  one-before [] = (λ m. m, λ m. m)
  one-before (k ∷ ks) = either (all-before k) (one-before ks)

pub try-before : (t : Try) → get_or t.question 0 0 < 256 → (q : Question) → read_question desk t.question ≡ asks q → TriedBefore t q
try-before t few q asked =
    let ordered = ap (λ (n : Counts). n.unordered) (passed desk t.question q asked).counts ∙ (first-word-before t.question few).1 in
    record {
      yes = λ e.
          let (ρ, read, a) = decided-so q t.filling t.work t.work_left t.returned (inl e) t.question (length t.work) asked (try-said t) in
          (ρ, read, (one-before (signature q.counts) ordered ρ q.alternatives).0 (yes-meets e a));
      no = λ e.
          let (ρ, read, a) = decided-so q t.filling t.work t.work_left t.returned (inr e) t.question (length t.work) asked (try-said t) in
          (ρ, read, λ m. no-meets e a ((one-before (signature q.counts) ordered ρ q.alternatives).1 m));
    }
