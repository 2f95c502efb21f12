-- The place that comes back with a refusal is that of the mistake: of any call that came back.
use Prim.Native.Nat.{ℕ}
use mathlib.Core.Path.{◌≡◌, refl, sym, ap, subst, ◌∙◌}
use mathlib.Core.Logic.{inl, inr}
use mathlib.Core.Bool.{Bool, true, false}
use mathlib.Core.List.{List}
use native.Mathlib.Omega.{arith}
use lib.Dec.{ltb}
use lib.ListN.{length}
use Rattle.std.specs.Prelude.{Result, Err}
use Rattle.language.specs.declared.Refusal.{Refusal}
use Rattle.language.specs.declared.Refusal.TheVariants.{ShortSlice, QuestionLength, CountRange, BadOffset, NotLiterals, Undeclared, LongResult, LongWaiting, LineRoom, StepLimit, FillingLayout, FillingValue, LongLiteral, NoSuchLine, OpenLine, LongExample, NotText, ManyNames, LongText, OtherNumbers, LongWalk, SheetLayout, LongAnswers, BadStep, ShortTrail, LongTrail, TrailRoom}
use Rattle.language.specs.Limits.{desk}
use Rattle.language.specs.Numbers.{number_of, place_of}
use Rattle.language.specs.Trees.{signature, Question}
use Rattle.language.specs.Question.{Asked, asks, refuses, asked_place, read_question}
use Rattle.language.specs.Mistakes.{RightPlace}
use Rattle.language.proofs.Mistakes.{place-right}
use Rattle.meaning.specs.Meaning.{Filling}
use Rattle.meaning.specs.Values.{Given, gives, read_filling}
use Rattle.meaning.specs.Values as values
use Rattle.rules.specs.Run.{Outcome, finished, refused, run}
use Rattle.rules.specs.Answer.{Solving, answered, unread, given-up, ran, solving_of, solving, verdict_of}
use Rattle.rules.specs.Calls.{Trying, decides, too_long, trying_with, trying_of, trying, line_at}
use Rattle.rules.specs.Calls as calls
use Rattle.rules.proofs.Stopping.{RunStopsBy, run-stops-by}
use Rattle.language.specs.Question as question
use Rattle.outcomes.specs.declared.Outcome.TheVariants.{Refused}
use Rattle.outcomes.specs.declared.Solved.{Solved}
use Rattle.solver.specs.Leaves.{leaves}
use Rattle.trying.specs.Outcome.{Outcome as Tries}
use Rattle.word_bytes.specs.Bytes.{words_in}
use Rattle.try_host.specs.Host.{place_bytes}
use Rattle.demands.specs.Solves.{Solve}
use Rattle.demands.specs.Tries.{Try}
use Rattle.demands.specs.Examples.{Example}
use Rattle.demands.specs.HostCalls.{DeskPlace}
use Rattle.demands.specs.HostTells.{DeskPlaceTells, faulty, faultless}
use Rattle.demands.proofs.Said.{solve-said, try-said}
use Rattle.demands.proofs.Faults.{Judged, question-judged}
use Rattle.demands.proofs.Judging.{Given-as, given-as}
use Rattle.demands.proofs.Given.{no-verdict, not-tried}
use Rattle.demands.proofs.Showing.{Left, says, left, late-number}

-- ---- every other refusal has none

no_place : (r : Refusal) → ¬ (number_of r ≡ 5) → ¬ (number_of r ≡ 6) → place_of r ≡ 0
no_place ShortSlice p q = refl
no_place QuestionLength p q = refl
no_place CountRange p q = refl
no_place BadOffset p q = refl
no_place (NotLiterals at) p q = absurd (p refl)
no_place (Undeclared at) p q = absurd (q refl)
no_place LongResult p q = refl
no_place LongWaiting p q = refl
no_place LineRoom p q = refl
no_place StepLimit p q = refl
no_place FillingLayout p q = refl
no_place FillingValue p q = refl
no_place LongLiteral p q = refl
no_place NoSuchLine p q = refl
no_place OpenLine p q = refl
no_place LongExample p q = refl
no_place NotText p q = refl
no_place ManyNames p q = refl
no_place LongText p q = refl
no_place OtherNumbers p q = refl
no_place LongWalk p q = refl
no_place SheetLayout p q = refl
no_place LongAnswers p q = refl
no_place BadStep p q = refl
no_place ShortTrail p q = refl
no_place LongTrail p q = refl
no_place TrailRoom p q = refl

module _ (ws : List ℕ) where
  none_right : (r : Refusal) → ¬ (number_of r ≡ 5) → ¬ (number_of r ≡ 6) → RightPlace desk ws r
  none_right r p q = record { five = λ e. absurd (p e); six = λ e. absurd (q e); others = no_place r }

  -- ---- solving

  abbrev SolvesRight : Solving → Type 0
  SolvesRight (answered ls n) = Unit {0}
  SolvesRight (unread r) = RightPlace desk ws r
  SolvesRight (given-up r) = RightPlace desk ws r

  run-right : (o : Outcome) → RunStopsBy (RightPlace desk ws) o → SolvesRight (ran o)
  run-right (finished ls n) h = tt
  run-right (refused r) h = h

  solving-right : (work answer : ℕ) → SolvesRight (solving desk work answer ws)
  unfolding solving
  solving-right work answer = short (ltb work desk.room) _ (short (ltb answer desk.room) _ (on (read_question desk ws) refl))
    where
      short : (b : Bool) (s : Solving) → SolvesRight s → SolvesRight (elim b [ true ↦ unread ShortSlice | false ↦ s ])
      short true s h = none_right ShortSlice (λ e. omega arith) (λ e. omega arith)
      short false s h = h

      on : (a : Asked) → read_question desk ws ≡ a → SolvesRight (solving_of desk a)
      on (asks q) e =
          run-right (run desk (signature q.counts) q.alternatives)
          (run-stops-by (RightPlace desk ws) (none_right LongResult (λ e. omega arith) (λ e. omega arith)) (none_right LongWaiting (λ e. omega arith) (λ e. omega arith))
          (none_right LineRoom (λ e. omega arith) (λ e. omega arith)) (none_right StepLimit (λ e. omega arith) (λ e. omega arith)) (none_right LongWalk (λ e. omega arith) (λ e. omega arith)) desk (signature q.counts) q.alternatives)
      on (refuses r) e = place-right desk ws r e

  -- ---- trying

  abbrev TriesRight : Trying → Type 0
  TriesRight (decides q ρ) = Unit {0}
  TriesRight (calls.unread r) = RightPlace desk ws r
  TriesRight (calls.given-up r) = RightPlace desk ws r

  trying-right : (work : ℕ) (fs : List ℕ) → TriesRight (trying desk work ws fs)
  unfolding trying
  trying-right work fs = short (ltb work desk.room) _ (on (read_question desk ws) refl)
    where
      short : (b : Bool) (t : Trying) → TriesRight t → TriesRight (elim b [ true ↦ calls.unread ShortSlice | false ↦ t ])
      short true t h = none_right ShortSlice (λ e. omega arith) (λ e. omega arith)
      short false t h = h

      on-size : (q : Question) (ρ : Filling) (b : Bool) → TriesRight (elim b [ true ↦ calls.given-up LongLiteral | false ↦ decides q ρ ])
      on-size q ρ true = none_right LongLiteral (λ e. omega arith) (λ e. omega arith)
      on-size q ρ false = tt

      on-given : (q : Question) (g : Given) → Given-as q.counts fs g → TriesRight (trying_with desk q g)
      on-given q (gives ρ) s = on-size q ρ (too_long desk ρ q.alternatives)
      on-given q (values.refuses r) (inl s) = subst (RightPlace desk ws) (sym s.0) (none_right FillingLayout (λ e. omega arith) (λ e. omega arith))
      on-given q (values.refuses r) (inr s) = subst (RightPlace desk ws) (sym s.0) (none_right FillingValue (λ e. omega arith) (λ e. omega arith))

      on : (a : Asked) → read_question desk ws ≡ a → TriesRight (trying_of desk a fs)
      on (asks q) e = on-given q (read_filling desk q.counts fs) (given-as q.counts fs)
      on (refuses r) e = place-right desk ws r e

-- ---- any call

abbrev SolveLeft : Type 0
SolveLeft = Solved × List ℕ × List ℕ

pub solve-right : (c : Solve) (e : Refusal) → c.returned.outcome ≡ Refused e → RightPlace desk c.question e
solve-right c e d = by (solving desk (length c.work) (length c.answer) c.question) (solve-said c) (solving-right c.question (length c.work) (length c.answer))
  where
    -- the refusal that solving came to
    one : (v : Solving) (r : Refusal) → (leaves v c.work c.answer).0.outcome ≡ Refused r
        → ◌≡◌ {A = SolveLeft} (c.returned, c.work_left, c.answer_left) (leaves v c.work c.answer) → r ≡ e
    one v r i f = let z : c.returned.outcome ≡ Refused r = ap (λ (x : SolveLeft). x.0.outcome) f ∙ i in cc

    by : (v : Solving) → ◌≡◌ {A = SolveLeft} (c.returned, c.work_left, c.answer_left) (leaves v c.work c.answer) → SolvesRight c.question v
        → RightPlace desk c.question e
    by (answered ls n) f h = no-verdict (verdict_of ls) e (sym (ap (λ (x : SolveLeft). x.0.outcome) f) ∙ d)
    by (unread r) f h = subst (RightPlace desk c.question) (one (unread r) r refl f) h
    by (given-up r) f h = subst (RightPlace desk c.question) (one (given-up r) r refl f) h

pub try-right : (t : Try) (e : Refusal) → t.returned ≡ Err e → RightPlace desk t.question e
try-right t e d = by (trying desk (length t.work) t.question t.filling) (try-said t) (trying-right t.question (length t.work) t.filling)
  where
    one : {r : Refusal} {o : Result Bool Refusal} → o ≡ Err r → o ≡ Err e → r ≡ e
    one p q = cc

    by : (v : Trying) → Tries v t.returned t.work t.work_left → TriesRight t.question v → RightPlace desk t.question e
    by (decides q ρ) o h = not-tried t e o.0 d
    by (calls.unread r) o h = subst (RightPlace desk t.question) (one o.0 d) h
    by (calls.given-up r) o h = subst (RightPlace desk t.question) (one o.0 d) h

pub example-right : (c : Example) (e : Refusal) → c.returned ≡ Err e → RightPlace desk c.question e
example-right c e d = by (solving desk (length c.work) (length c.answer) c.question) (says c) (solving-right c.question (length c.work) (length c.answer))
  where
    one : {r : Refusal} → c.returned ≡ Err r → r ≡ e
    one p = cc

    by : (v : Solving) → ◌≡◌ {A = Left} (c.returned, c.work_left, c.answer_left, c.room_left) (left c v) → SolvesRight c.question v → RightPlace desk c.question e
    by (answered ls n) f h =
        let p = late-number c.old_sheets (question.counts_of c.question) (length c.room) e (line_at c.line ls) (sym (ap (λ (x : Left). x.0) f) ∙ d) in
        let l = p.0 in
        none_right c.question e (λ z. omega arith) (λ z. omega arith)
    by (unread r) f h = subst (RightPlace desk c.question) (one (ap (λ (x : Left). x.0) f)) h
    by (given-up r) f h = subst (RightPlace desk c.question) (one (ap (λ (x : Left). x.0) f)) h

pub place-tells : (c : DeskPlace) → DeskPlaceTells c
unfolding place_bytes
place-tells c = by (read_question desk (words_in c.question)) refl (question-judged (words_in c.question))
  where
    by : (a : Asked) → read_question desk (words_in c.question) ≡ a → Judged (words_in c.question) a → DeskPlaceTells c
    by (asks q) e j = faultless j (c.said ∙ ap asked_place e)
    by (refuses r) e j = faulty r j (place-right desk (words_in c.question) r e) (c.said ∙ ap asked_place e)
