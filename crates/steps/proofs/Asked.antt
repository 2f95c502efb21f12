-- What a step's calls ask, from what the step itself is asked to have.
use Prim.Native.Nat.{ℕ}
use native.Mathlib.Omega.{arith}
use mathlib.Core.Path.{◌≡◌, sym, ap, ◌∙◌}
use mathlib.Core.Bool.{true, false}
use mathlib.Core.List.{List, ◌++◌}
use mathlib.Core.Option.{some}
use lib.ListN.{get_or}
use Rattle.language.specs.declared.Signature.{Signature}
use Rattle.language.specs.Trees.{Hedge, Expr, Literal, eqn, mem, Conj}
use Rattle.rules.specs.Places.{at_m2, at_fold, at_clash}
use Rattle.views.specs.declared.View.{View}
use Rattle.views.specs.declared.Shape.{Shape}
use Rattle.views.specs.Views.{Sees, Shows}
use Rattle.views.specs.Standing.{LiteralAt}
use Rattle.views.proofs.LiteralWalks.{at-equation, at-membership}
use Rattle.equation_recipes.specs.Planned as equation
use Rattle.membership_plans.specs.Planned as membership
use Rattle.search.specs.declared.Best.{Best}
use Rattle.search.specs.Ranking.{side_answer}
use Rattle.search.proofs.Applied.{results-answer, results-fold}
use Rattle.linear_form.specs.Rows.{SomeMembership}
use Rattle.steps.specs.Asking.{RuleAt, AnswerAt, FoldHere}
use Rattle.steps.proofs.Taken.{no-equation}

-- ---- the rule of one literal that answers there

module _ (σ : Signature) (k : List ℕ) (b : Best) (m : AnswerAt σ k b) where
  pub applies-swapped : (v : View) → get_or k b.at 0 ≡ 5000 → b.swap ≡ true
      → ((before : Conj) (l r : Hedge) (behind : Conj) → LiteralAt k b.at before (eqn l r) behind → Sees k v before r l behind) → equation.RuleApplies σ b.rank k v
  applies-swapped v e t f =
      at-equation k b.at (λ before l behind. side_answer σ b.swap b.rank (before ++ behind) l ≡ some m.branches → equation.RuleApplies σ b.rank k v) e
      (λ before l r behind p a. record {
        l = r;
        r = l;
        applies = record {
          before = before;
          behind = behind;
          seen = f before l r behind p;
          results = m.branches;
          answer = ap (λ u. side_answer σ u b.rank (before ++ behind) (eqn l r)) (sym t) ∙ a;
        };
      })
      m.before m.l m.behind m.stands m.answer

  pub applies-written : (v : View) → get_or k b.at 0 ≡ 5000 → b.swap ≡ false
      → ((before : Conj) (l r : Hedge) (behind : Conj) → LiteralAt k b.at before (eqn l r) behind → Sees k v before l r behind) → equation.RuleApplies σ b.rank k v
  applies-written v e t f =
      at-equation k b.at (λ before l behind. side_answer σ b.swap b.rank (before ++ behind) l ≡ some m.branches → equation.RuleApplies σ b.rank k v) e
      (λ before l r behind p a. record {
        l = l;
        r = r;
        applies = record {
          before = before;
          behind = behind;
          seen = f before l r behind p;
          results = m.branches;
          answer = ap (λ u. side_answer σ u b.rank (before ++ behind) (eqn l r)) (sym t) ∙ a;
        };
      })
      m.before m.l m.behind m.stands m.answer

  pub applies-member : (s : Shape) → (b.rank ≡ at_m2 → ⊥) → (get_or k b.at 0 ≡ 5000 → ⊥)
      → ((before : Conj) (h : Hedge) (R : Expr) (behind : Conj) → LiteralAt k b.at before (mem h R) behind → Shows k s before h R behind) → membership.RuleApplies b.rank k s
  applies-member s z e f =
      at-membership k b.at (λ before l behind. side_answer σ b.swap b.rank (before ++ behind) l ≡ some m.branches → membership.RuleApplies b.rank k s) e
      (λ before h R behind p a. record {
        σ = σ;
        h = h;
        R = R;
        applies = record {
          before = before;
          behind = behind;
          shown = f before h R behind p;
          results = m.branches;
          answer = a;
        };
        other = z;
      })
      m.before m.l m.behind m.stands m.answer

  -- where the rule is M2, the literal is a membership
  pub monomials-at : b.rank ≡ at_m2 → SomeMembership k b.at
  monomials-at e = go m.l m.stands m.answer
    where
      go : (l : Literal) → LiteralAt k b.at m.before l m.behind → side_answer σ b.swap b.rank (m.before ++ m.behind) l ≡ some m.branches → SomeMembership k b.at
      go (eqn l r) p a =
          absurd (let d = sym (no-equation σ b.swap (m.before ++ m.behind) l r) ∙ ap (λ n. side_answer σ b.swap n (m.before ++ m.behind) (eqn l r)) (sym e) ∙ a in let z : ◌≡◌ {A = ℕ} 0 1 = cc in omega arith)
      go (mem h R) p a = record { before = m.before; h = h; R = R; behind = m.behind; stands = p }

-- ---- what a step is asked to have

pub answer_at : (σ : Signature) (k : List ℕ) (b : Best) → RuleAt σ k b → (b.rank ≡ at_fold → ⊥) → (b.rank ≡ at_clash → ⊥) → AnswerAt σ k b
answer_at σ k b m z y =
    let r = results-answer σ b.swap b.rank m.before m.l m.behind m.made z y m.applies in
    record { before = m.before; l = m.l; behind = m.behind; branches = r.branches; stands = m.stands; answer = r.answer }

pub fold_at : (σ : Signature) (k : List ℕ) (b : Best) → RuleAt σ k b → b.rank ≡ at_fold → FoldHere k b.at
fold_at σ k b m e =
    let r = results-fold σ b.swap b.rank m.before m.l m.behind m.made e m.applies in
    record { before = m.before; l = m.l; behind = m.behind; made = r.folds; stands = m.stands; applies = r.applies }
