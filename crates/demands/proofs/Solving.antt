-- What is shown of any call of solve that came back: by what solving came to, with the contract's equation carried along.
use Prim.Native.Nat.{ℕ, suc}
use mathlib.Core.Logic.{inl}
use mathlib.Core.Path.{◌≡◌, refl, sym, ap, subst, ◌∙◌}
use mathlib.Core.Bool.{Bool, true, false}
use mathlib.Core.List.{List, [], ◌∷◌, map}
use native.Mathlib.Omega.{arith}
use borrow.Author.Tests.{ne_eqb}
use lib.Dec.{ltb, eqb}
use lib.ListN.{length, length-map}
use Rattle.language.specs.declared.Refusal.{Refusal}
use Rattle.language.specs.Numbers.{number_of}
use Rattle.language.specs.declared.Signature.{Signature}
use Rattle.language.specs.Limits.{desk}
use Rattle.language.specs.Kinds.{pick}
use Rattle.language.specs.Trees.{signature, Question}
use Rattle.language.specs.Question.{asks, read_question}
use Rattle.meaning.specs.Meaning.{Filling, MeetsQuestion}
use Rattle.rules.specs.Run.{Numbered}
use Rattle.rules.specs.Answer.{Solving, answered, unread, given-up, solving, answer_words, zeros, overwritten, count_open, some_open, all_solved, verdict_of}
use Rattle.rules.specs.Each.{Each}
use Rattle.lines.specs.Matching.{Matching}
use Rattle.outcomes.specs.declared.Outcome.TheVariants.{NoLine, AllSolved, SomeOpen}
use Rattle.outcomes.specs.declared.Solved.{Solved}
use Rattle.outcomes.specs.Numbers.{outcome_number}
use Rattle.solver.specs.Leaves.{verdict, verdict_for, leaves}
use Rattle.answer_example.specs.Answers.{Answer}
use Rattle.host.proofs.Refusals.{InRange, in-range}
use Rattle.demands.specs.Solves.{Solve}
use Rattle.demands.specs.Answers.{Line, numbered_of, MeetsLines, opens}
use Rattle.demands.specs.Columns.{left_in}
use Rattle.demands.specs.Tells.{SolveAnswers, SolveTells, refuses, answers}
use Rattle.demands.proofs.Said.{solve-said}
use Rattle.demands.proofs.Reading.{as_line, numbered-back, opens_back}
use Rattle.demands.proofs.Promising.{promise}
use Rattle.demands.proofs.Between.{not-zero, stands}
use Rattle.demands.proofs.Columns.{early-column, late-column}

-- ---- verdicts

-- where there is a line
some-lines : (n o : ℕ) → verdict_for (suc n) o ≡ pick (ltb 0 o) SomeOpen AllSolved
some-lines n o = ap (λ b. pick b NoLine (pick (ltb 0 o) SomeOpen AllSolved)) (ne_eqb (suc n) 0 (λ e. omega arith))

verdict-back : (ls : List Numbered) → verdict (verdict_of ls) ≡ verdict_for (length (map as_line ls)) (opens (map as_line ls))
verdict-back [] = refl
verdict-back (k ∷ ls) = go (ltb 0 (count_open (k ∷ ls))) refl ∙ sym (some-lines (length (map as_line ls)) (opens (map as_line (k ∷ ls))))
  where
    go : (b : Bool) → ltb 0 (count_open (k ∷ ls)) ≡ b → verdict (pick b some_open all_solved) ≡ pick (ltb 0 (opens (map as_line (k ∷ ls)))) SomeOpen AllSolved
    go true e = sym (ap (λ t. pick t SomeOpen AllSolved) (ap (ltb 0) (opens_back (k ∷ ls)) ∙ e))
    go false e = sym (ap (λ t. pick t SomeOpen AllSolved) (ap (ltb 0) (opens_back (k ∷ ls)) ∙ e))

no_lines : (ls : List Line) → verdict_for (length ls) (opens ls) ≡ NoLine → ls ≡ []
no_lines [] d = refl
no_lines (l ∷ ls) d = go (ltb 0 (opens (l ∷ ls))) (sym (some-lines (length ls) (opens (l ∷ ls))) ∙ d)
  where
    go : {A : Type 0} (b : Bool) → pick b SomeOpen AllSolved ≡ NoLine → A
    go true f = absurd (let z : ◌≡◌ {A = ℕ} 0 1 = cc in omega arith)
    go false f = absurd (let z : ◌≡◌ {A = ℕ} 0 1 = cc in omega arith)

-- ---- any call

-- what comes back, and the two slices
abbrev Left : Type 0
Left = Solved × List ℕ × List ℕ

module _ (c : Solve) where
  abbrev came : Left
  came = (c.returned, c.work_left, c.answer_left)

  abbrev comes : Solving
  comes = solving desk (length c.work) (length c.answer) c.question

  -- an answer, and what solving came to
  pub record Solves : Type 0 where
    pub ls : List Numbered
    pub n : ℕ
    pub solved : comes ≡ answered ls n
    pub answered : SolveAnswers c
    pub lines : answered.answered.promised.lines ≡ map as_line ls

  solves-so : (ls : List Numbered) (n : ℕ) → comes ≡ answered ls n → came ≡ leaves (answered ls n) c.work c.answer → Solves
  solves-so ls n d e =
      let r = ap (λ (x : Left). x.0) e in
      let there : Answer c.answer_left ls = subst (λ w. Answer w ls) (sym (ap (λ (x : Left). x.2) e)) (stands (length c.work) (length c.answer) c.question c.answer ls n d) in
      let f = promise (length c.work) (length c.answer) c.question ls n d c.answer_left there in
      record {
        ls = ls;
        n = n;
        solved = d;
        answered = record {
          answered = record {
            promised = f.promised;
            outcome = ap (λ (r : Solved). r.outcome) r ∙ verdict-back ls ∙ ap (λ ks. verdict_for (length ks) (opens ks)) (sym f.lines);
            lines = ap (λ (r : Solved). r.lines) r ∙ sym (length-map ls as_line) ∙ ap length (sym f.lines);
            opened = ap (λ (r : Solved). r.«open») r ∙ sym (opens_back ls) ∙ ap opens (sym f.lines);
            steps = ap (λ (r : Solved). r.steps) r ∙ sym f.steps;
          };
          work = ap (λ (x : Left). x.1) e;
          answer = ap (λ (x : Left). x.2) e ∙ ap (λ ks. overwritten desk (answer_words desk ks) c.answer) (sym (ap numbered_of f.lines ∙ numbered-back ls));
        };
        lines = f.lines;
      }

  refused-so : (r : Refusal) (v : Solving) → came ≡ leaves v c.work c.answer → outcome_number (leaves v c.work c.answer).0.outcome ≡ number_of r → outcome_number c.returned.outcome ≡ number_of r
  refused-so r v e d = ap (λ (x : Left). outcome_number x.0.outcome) e ∙ d

  -- where the number that comes back is 0, there is an answer
  pub solves : outcome_number c.returned.outcome ≡ 0 → Solves
  solves z = by comes refl (solve-said c)
    where
      by : (v : Solving) → comes ≡ v → came ≡ leaves v c.work c.answer → Solves
      by (answered ls n) d e = solves-so ls n d e
      by (unread r) d e = not-zero r (sym (refused-so r (unread r) e refl) ∙ z)
      by (given-up r) d e = not-zero r (sym (refused-so r (given-up r) e refl) ∙ z)

  -- Demand 1
  pub tells : SolveTells c
  tells = by comes refl (solve-said c)
    where
      by : (v : Solving) → comes ≡ v → came ≡ leaves v c.work c.answer → SolveTells c
      by (answered ls n) d e = answers (solves-so ls n d e).answered
      by (unread r) d e =
          let b : InRange (unread r) = subst InRange d (in-range desk _ _ _) in
          let u = early-column r b.1 in
          refuses r (record {
            returned = ap (λ (x : Left). x.0) e;
            number = (b.0, inl (let h = b.1 in omega arith));
            work = ap (λ (x : Left). x.1) e ∙ sym (ap (λ k. left_in k (overwritten desk (zeros desk) c.work) c.work) u);
            answer = ap (λ (x : Left). x.2) e ∙ sym (ap (λ k. left_in k (overwritten desk (zeros desk) c.answer) c.answer) u);
          })
      by (given-up r) d e =
          let b : InRange (given-up r) = subst InRange d (in-range desk _ _ _) in
          let u = late-column r b.0 b.1 in
          refuses r (record {
            returned = ap (λ (x : Left). x.0) e;
            number = (let h = b.0 in omega arith, b.1);
            work = ap (λ (x : Left). x.1) e ∙ sym (ap (λ k. left_in k (overwritten desk (zeros desk) c.work) c.work) u);
            answer = ap (λ (x : Left). x.2) e ∙ sym (ap (λ k. left_in k (overwritten desk (zeros desk) c.answer) c.answer) u);
          })

  pub none : c.returned.outcome ≡ NoLine → (asked : Question) × (read_question desk c.question ≡ asks asked) × ((ρ : Filling) → ¬ MeetsQuestion ρ asked)
  none e =
      let a = (solves (ap outcome_number e)).answered.answered in
      let p = a.promised in
      (p.asked, p.question-read, λ ρ m. empty (signature p.asked.counts) ρ p.lines (no_lines p.lines (sym a.outcome ∙ e)) ((p.exact.same ρ).0 m))
    where
      empty : (σ : Signature) (ρ : Filling) (ls : List Line) → ls ≡ [] → MeetsLines σ ρ ls → ⊥
      empty σ ρ [] d m = m
      empty σ ρ (l ∷ ls) d m = let z : ◌≡◌ {A = ℕ} 0 1 = cc in omega arith

  pub none_open : ((asked : Question) → read_question desk c.question ≡ asks asked → Each Matching asked.alternatives) → c.returned.«open» ≡ 0
  none_open m = by tells
    where
      none-marked : (ls : List Line) → Each (λ l. l.mark ≡ 1) ls → opens ls ≡ 0
      none-marked [] e = refl
      none-marked (l ∷ ls) e = ap (λ n. pick (eqb n 2) (suc (opens ls)) (opens ls)) e.0 ∙ none-marked ls e.1

      by : SolveTells c → c.returned.«open» ≡ 0
      by (refuses r s) = ap (λ (x : Solved). x.«open») s.returned
      by (answers a) =
          let p = a.answered.promised in
          a.answered.opened ∙ none-marked p.lines (p.exact.matched (m p.asked p.question-read))
