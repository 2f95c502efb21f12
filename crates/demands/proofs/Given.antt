-- Each number is given exactly when the table says so: of any call of solve and of try_filling that came back.
use Prim.Native.Nat.{ℕ, ◌≤◌}
use mathlib.Core.Path.{◌≡◌, refl, sym, ap, ◌∙◌}
use mathlib.Core.Logic.{◌⊎◌, inl, inr, ◌↔◌}
use mathlib.Core.Bool.{Bool, true, false}
use mathlib.Core.List.{List}
use native.Mathlib.Omega.{arith}
use lib.Dec.{lit≤, ltb}
use lib.ListN.{length}
use Rattle.std.specs.Prelude.{Result, Ok, Err}
use Rattle.language.specs.declared.Refusal.{Refusal}
use Rattle.language.specs.declared.Refusal.TheVariants.{ShortSlice, FillingLayout, FillingValue, LongLiteral}
use Rattle.language.specs.Limits.{desk}
use Rattle.language.specs.Numbers.{number_of}
use Rattle.language.specs.Trees.{Question}
use Rattle.language.specs.Question.{Asked, asks, refuses, read_question}
use Rattle.meaning.specs.Meaning.{Filling}
use Rattle.meaning.specs.Values.{Given, gives, read_filling}
use Rattle.meaning.specs.Values as values
use Rattle.rules.specs.Answer.{Solving, answered, unread, given-up, solving, Verdict, no_line, all_solved, some_open, verdict_of}
use Rattle.rules.specs.Calls.{Trying, decides, too_long, trying_with, trying_of, trying}
use Rattle.rules.specs.Calls as calls
use Rattle.outcomes.specs.declared.Outcome.{Outcome}
use Rattle.outcomes.specs.declared.Outcome.TheVariants.{Refused}
use Rattle.outcomes.specs.declared.Solved.{Solved}
use Rattle.solver.specs.Leaves.{verdict, leaves}
use Rattle.trying.specs.Outcome.{Answers, Outcome as Tries}
use Rattle.demands.specs.Solves.{Solve}
use Rattle.demands.specs.Tries.{Try}
use Rattle.demands.specs.Columns.{column, left_in}
use Rattle.demands.specs.Table.{QuestionFault, bad-length, bad-count, bad-offset, not-literals, undeclared, SolveFault, TryFault, First}
use Rattle.demands.specs.Tells as tells
use Rattle.demands.specs.Tells.{TryTells}
use Rattle.demands.proofs.Said.{solve-said, try-said}
use Rattle.demands.proofs.Numbers.{first_one}
use Rattle.demands.proofs.Columns.{early-column}
use Rattle.demands.proofs.Faults.{Judged, question-judged, place_for}
use Rattle.demands.proofs.Judging.{SolveJudged, solve-judged, solve-place, Given-as, given-as, TryJudged, try-judged, try-place}

-- ---- solving

pub no-verdict : {A : Type 0} (v : Verdict) (r : Refusal) → verdict v ≡ Refused r → A
no-verdict no_line r d = absurd (let z : ◌≡◌ {A = ℕ} 0 1 = cc in omega arith)
no-verdict all_solved r d = absurd (let z : ◌≡◌ {A = ℕ} 0 1 = cc in omega arith)
no-verdict some_open r d = absurd (let z : ◌≡◌ {A = ℕ} 0 1 = cc in omega arith)

module _ (c : Solve) (e : Refusal) where
  abbrev Fault : Refusal → Type 0
  Fault = SolveFault (length c.work) (length c.answer) c.question

  abbrev Left : Type 0
  Left = Solved × List ℕ × List ℕ

  -- the outcome by what solving came to
  outcome-is : (v : Solving) → ◌≡◌ {A = Left} (c.returned, c.work_left, c.answer_left) (leaves v c.work c.answer) → c.returned.outcome ≡ (leaves v c.work c.answer).0.outcome
  outcome-is v f = ap (λ (x : Left). x.0.outcome) f

  refused-one : {r : Refusal} {o : Outcome} → o ≡ Refused r → o ≡ Refused e → r ≡ e
  refused-one p q = cc

  pub solve-given : (c.returned.outcome ≡ Refused e) ↔ First Fault e
  solve-given = by (solving desk (length c.work) (length c.answer) c.question) (solve-said c) (solve-judged (length c.work) (length c.answer) c.question)
    where
      by : (v : Solving) → ◌≡◌ {A = Left} (c.returned, c.work_left, c.answer_left) (leaves v c.work c.answer) → SolveJudged (length c.work) (length c.answer) c.question v
          → (c.returned.outcome ≡ Refused e) ↔ First Fault e
      by (answered ls n) f j = (λ d. no-verdict (verdict_of ls) e (sym (outcome-is (answered ls n) f) ∙ d), λ g. absurd (j e g.here))
      by (unread r) f j = (λ d. rw (← refused-one (outcome-is (unread r) f) d) j, λ g. outcome-is (unread r) f ∙ ap Refused (first_one Fault (place_for c.question) (solve-place (length c.work) (length c.answer) c.question) r e j g))
      by (given-up r) f j = (λ d. rw (← refused-one (outcome-is (given-up r) f) d) j, λ g. outcome-is (given-up r) f ∙ ap Refused (first_one Fault (place_for c.question) (solve-place (length c.work) (length c.answer) c.question) r e j g))

-- ---- trying

module _ (t : Try) (e : Refusal) where
  abbrev Faults : Refusal → Type 0
  Faults = TryFault (length t.work) t.question t.filling

  tried-one : {r : Refusal} {o : Result Bool Refusal} → o ≡ Err r → o ≡ Err e → r ≡ e
  tried-one p q = cc

  pub not-tried : {A P : Type 0} {o : Result Bool Refusal} → Answers P o → o ≡ Err e → A
  not-tried (inl a) d = absurd (let b = a.0 in let z : ◌≡◌ {A = ℕ} 0 1 = cc in omega arith)
  not-tried (inr a) d = absurd (let b = a.0 in let z : ◌≡◌ {A = ℕ} 0 1 = cc in omega arith)

  pub try-given : (t.returned ≡ Err e) ↔ First Faults e
  try-given = by (trying desk (length t.work) t.question t.filling) (try-said t) (try-judged (length t.work) t.question t.filling)
    where
      by : (v : Trying) → Tries v t.returned t.work t.work_left → TryJudged (length t.work) t.question t.filling v → (t.returned ≡ Err e) ↔ First Faults e
      by (decides q ρ) o j = (λ d. not-tried o.0 d, λ g. absurd (j e g.here))
      by (calls.unread r) o j = (λ d. rw (← tried-one o.0 d) j, λ g. o.0 ∙ ap Err (first_one Faults (place_for t.question) (try-place (length t.work) t.question t.filling) r e j g))
      by (calls.given-up r) o j = (λ d. rw (← tried-one o.0 d) j, λ g. o.0 ∙ ap Err (first_one Faults (place_for t.question) (try-place (length t.work) t.question t.filling) r e j g))

-- ---- which numbers trying gives, and what it leaves

question-number : (ws : List ℕ) (e : Refusal) → QuestionFault ws e → number_of e ≤ 6
question-number ws e (bad-length i _) = let z = ap number_of i in omega arith
question-number ws e (bad-count i _) = let z = ap number_of i in omega arith
question-number ws e (bad-offset i _) = let z = ap number_of i in omega arith
question-number ws e (not-literals n i _) = let z = ap number_of i in omega arith
question-number ws e (undeclared i _ _ _ _) = let z = ap number_of i in omega arith

-- 1 to 6, 11 and 12 change nothing; 13 leaves zeros
abbrev Trying-as : Trying → Type 0
Trying-as (decides q ρ) = Unit {0}
Trying-as (calls.unread r) = (number_of r ≤ 6) ⊎ ((r ≡ FillingLayout) ⊎ (r ≡ FillingValue))
Trying-as (calls.given-up r) = r ≡ LongLiteral

trying-as : (work : ℕ) (ws fs : List ℕ) → Trying-as (trying desk work ws fs)
unfolding trying
trying-as work ws fs = on (ltb work desk.room)
  where
    on-size : (q : Question) (ρ : Filling) (b : Bool) → Trying-as (elim b [ true ↦ calls.given-up LongLiteral | false ↦ decides q ρ ])
    on-size q ρ true = refl
    on-size q ρ false = tt

    on-given : (q : Question) (g : Given) → Given-as q.counts fs g → Trying-as (trying_with desk q g)
    on-given q (gives ρ) s = on-size q ρ (too_long desk ρ q.alternatives)
    on-given q (values.refuses r) (inl s) = inr (inl s.0)
    on-given q (values.refuses r) (inr s) = inr (inr s.0)

    on-asked : (a : Asked) → Judged ws a → Trying-as (trying_of desk a fs)
    on-asked (asks q) j = on-given q (read_filling desk q.counts fs) (given-as q.counts fs)
    on-asked (refuses r) j = inl (question-number ws r j.here)

    on : (b : Bool) → Trying-as (elim b [ true ↦ calls.unread ShortSlice | false ↦ trying_of desk (read_question desk ws) fs ])
    on true = inl (lit≤ tt)
    on false = on-asked (read_question desk ws) (question-judged ws)

pub try-tells : (t : Try) → TryTells t
try-tells t = by (trying desk (length t.work) t.question t.filling) (try-said t) (trying-as (length t.work) t.question t.filling)
  where
    kept : (r : Refusal) → (number_of r ≤ 6) ⊎ ((r ≡ FillingLayout) ⊎ (r ≡ FillingValue)) → left_in (column r) t.work t.work ≡ t.work
    kept r (inl p) = ap (λ k. left_in k t.work t.work) (early-column r p)
    kept r (inr (inl i)) = ap (λ x. left_in (column x) t.work t.work) i
    kept r (inr (inr i)) = ap (λ x. left_in (column x) t.work t.work) i

    number : (r : Refusal) → (number_of r ≤ 6) ⊎ ((r ≡ FillingLayout) ⊎ (r ≡ FillingValue)) → (number_of r ≤ 6) ⊎ ((11 ≤ number_of r) × (number_of r ≤ 13))
    number r (inl p) = inl p
    number r (inr (inl i)) = let z = ap number_of i in inr (omega arith, omega arith)
    number r (inr (inr i)) = let z = ap number_of i in inr (omega arith, omega arith)

    decided : {P : Type 0} {r : Result Bool Refusal} → Answers P r → (r ≡ Ok true) ⊎ (r ≡ Ok false)
    decided (inl a) = inl a.0
    decided (inr a) = inr a.0

    by : (v : Trying) → Tries v t.returned t.work t.work_left → Trying-as v → TryTells t
    by (decides q ρ) o s = tells.decides (decided o.0) o.1
    by (calls.unread r) o s = tells.TryTells.refuses r o.0 (number r s) (o.1 ∙ sym (kept r s))
    by (calls.given-up r) o s =
        let z = ap number_of s in
        tells.TryTells.refuses r o.0 (inr (omega arith, omega arith)) (o.1 ∙ sym (ap (λ x. left_in (column x) t.work t.work) s))
