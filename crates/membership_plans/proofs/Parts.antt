-- Where the parts of the expression of a membership stand.
use Prim.Native.Nat.{ℕ, ◌+◌}
use mathlib.Core.Path.{◌≡◌, refl, ap, ◌∙◌}
use mathlib.Core.List.{List, [], ◌∷◌, ◌++◌, append_assoc}
use native.Mathlib.Omega.{arith}
use lib.ListN.{length, drop, length-append}
use lib.Seq.{slice}
use Rattle.language.specs.Limits.{desk}
use Rattle.language.specs.Trees.{Hedge, Expr, Conj}
use Rattle.language.specs.Writing.{expr_words, conj_words}
use Rattle.language.specs.Fine.{fine_expr}
use Rattle.views.specs.declared.Shape.{Shape}
use Rattle.views.specs.Views.{Shows}
use Rattle.words.proofs.Parts.{part_of, drop_of}
use Rattle.expressions.specs.Standing.{Here}
use Rattle.expressions.proofs.Standing.{inside}
use Rattle.plans.proofs.Places.{forth-within}
use Rattle.membership_plans.specs.Recipes.{expr_inner}

module _ {k : List ℕ} {s : Shape} {before : Conj} {h : Hedge} {R : Expr} {behind : Conj} (v : Shows k s before h R behind) {x : ℕ} {ws : List ℕ} (e : expr_words R ≡ x ∷ ws) where
  whole : drop s.expr k ≡ (x ∷ []) ++ (ws ++ conj_words behind)
  whole = v.here ∙ ap (λ l. l ++ conj_words behind) e

  after : drop (s.expr + 1) k ≡ ws ++ conj_words behind
  after = drop_of k s.expr (s.expr + 1) (x ∷ []) (ws ++ conj_words behind) whole refl

  expr-forth : (expr_inner k s).from ≡ s.expr + 1
  expr-forth = forth-within (length k) s.expr (inside k s.expr whole)

  -- the first word, and what follows it
  pub word-part : slice s.expr (expr_inner k s).from k ≡ x ∷ []
  word-part = part_of k s.expr (expr_inner k s).from (x ∷ []) (ws ++ conj_words behind) whole expr-forth

  pub inner-part : slice (expr_inner k s).from s.end k ≡ ws
  inner-part =
      ap (λ i. slice i s.end k) expr-forth
      ∙ part_of k (s.expr + 1) s.end ws (conj_words behind) after (let a = v.end in let b = ap length e in omega arith)

  -- two parts
  module _ (a b : Expr) (d : ws ≡ expr_words a ++ expr_words b) (fine : fine_expr desk a) where
    pub first-here : Here k (expr_inner k s).from a (expr_words b ++ conj_words behind)
    first-here =
        record { fine = fine; words = ap (λ i. drop i k) expr-forth ∙ after ∙ ap (λ l. l ++ conj_words behind) d ∙ append_assoc (expr_words a) (expr_words b) (conj_words behind) }

    pub first_part : slice (expr_inner k s).from ((expr_inner k s).from + length (expr_words a)) k ≡ expr_words a
    first_part = part_of k (expr_inner k s).from ((expr_inner k s).from + length (expr_words a)) (expr_words a) (expr_words b ++ conj_words behind) first-here.words refl

    pub second-part : slice ((expr_inner k s).from + length (expr_words a)) s.end k ≡ expr_words b
    second-part =
        part_of k ((expr_inner k s).from + length (expr_words a)) s.end (expr_words b) (conj_words behind)
        (drop_of k (expr_inner k s).from ((expr_inner k s).from + length (expr_words a)) (expr_words a) (expr_words b ++ conj_words behind) first-here.words refl)
        (let x = v.end in let y = ap length e in let z = ap length d ∙ length-append (expr_words a) (expr_words b) in let w = expr-forth in omega arith)
