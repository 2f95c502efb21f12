-- An unordered symbol among the words of an expression: the words mention one exactly if the expression does.
use Prim.Native.Nat.{ℕ, ◌+◌, ◌<◌, ◌≤◌}
use mathlib.Core.Path.{◌≡◌, refl, sym, ap, ap₂, ◌∙◌}
use mathlib.Core.Bool.{Bool, true, false, ◌||◌}
use mathlib.Core.List.{List, [], ◌∷◌, ◌++◌}
use lib.ListN.{length, get_or}
use lib.Seq.{slice}
use Rattle.language.specs.declared.Signature.{Signature}
use Rattle.language.specs.declared.Kind.{Kind}
use Rattle.language.specs.Limits.{desk}
use Rattle.language.specs.Kinds.{kind_of}
use Rattle.language.specs.Trees.{Expr, eps, cat, alt, star, over, is_unordered}
use Rattle.language.specs.Writing.{expr_words}
use Rattle.language.specs.Fine.{fine_expr}
use Rattle.language.proofs.Arms.{Among, each-kind}
use Rattle.language.proofs.Words.{kind-symbol, kind-eps, kind-cat, kind-alt, kind-star}
use Rattle.rules.specs.Clash.{mentions}
use Rattle.words.proofs.Parts.{part-cons, part_none}
use Rattle.clashes.specs.Pairs.{kind_unordered, some_unordered}

-- ---- one word

pub other_word : (σ : Signature) {k j : Kind} → k ≡ j → Among (0 ∷ 1 ∷ 2 ∷ 4 ∷ 5 ∷ 6 ∷ 7 ∷ 8 ∷ 9 ∷ 10 ∷ 11 ∷ []) k → false ≡ kind_unordered σ j
other_word σ {k} e o =
    each-kind (0 ∷ 1 ∷ 2 ∷ 4 ∷ 5 ∷ 6 ∷ 7 ∷ 8 ∷ 9 ∷ 10 ∷ 11 ∷ []) (λ j. false ≡ kind_unordered σ j)
    refl (λ x. refl) (λ x. refl) tt (λ x. refl) refl refl refl refl refl refl refl k o
    ∙ ap (kind_unordered σ) e

-- ---- words from a place on

module _ (σ : Signature) (k : List ℕ) (i t : ℕ) where
  pub some-none : t ≤ i → false ≡ some_unordered σ (slice i t k)
  some-none p = ap (some_unordered σ) (sym (part_none k i t p))

  pub some-here : i < t → i < length k → true ≡ kind_unordered σ (kind_of desk (get_or k i 0)) → true ≡ some_unordered σ (slice i t k)
  some-here p q e = ap (λ b. b || some_unordered σ (slice (i + 1) t k)) e ∙ ap (some_unordered σ) (sym (part-cons k i t p q))

  pub some_next : i < t → i < length k → false ≡ kind_unordered σ (kind_of desk (get_or k i 0)) → some_unordered σ (slice (i + 1) t k) ≡ some_unordered σ (slice i t k)
  some_next p q e = ap (λ b. b || some_unordered σ (slice (i + 1) t k)) e ∙ ap (some_unordered σ) (sym (part-cons k i t p q))

-- ---- the words of an expression

module _ (σ : Signature) where
  some-append : (a b : List ℕ) → some_unordered σ (a ++ b) ≡ (some_unordered σ a || some_unordered σ b)
  some-append [] b = refl
  some-append (w ∷ a) b = by (kind_unordered σ (kind_of desk w)) (some-append a b)
    where
      by : (t : Bool) → some_unordered σ (a ++ b) ≡ (some_unordered σ a || some_unordered σ b) → (t || some_unordered σ (a ++ b)) ≡ ((t || some_unordered σ a) || some_unordered σ b)
      by true e = refl
      by false e = e

  -- a word that is none before others
  passed : (w : ℕ) (j : Kind) (ws : List ℕ) → kind_of desk w ≡ j → kind_unordered σ j ≡ false → some_unordered σ (w ∷ ws) ≡ some_unordered σ ws
  passed w j ws e d = ap (λ b. b || some_unordered σ ws) (ap (kind_unordered σ) e ∙ d)

  pub words-mention : (R : Expr) → fine_expr desk R → some_unordered σ (expr_words R) ≡ mentions (is_unordered σ) R
  words-mention eps f = passed 7000 _ [] (kind-eps desk) refl
  words-mention (cat a b) f = passed 7001 _ (expr_words a ++ expr_words b) (kind-cat desk) refl ∙ some-append (expr_words a) (expr_words b) ∙ ap₂ ◌||◌ (words-mention a f.0) (words-mention b f.1)
  words-mention (alt a b) f = passed 7002 _ (expr_words a ++ expr_words b) (kind-alt desk) refl ∙ some-append (expr_words a) (expr_words b) ∙ ap₂ ◌||◌ (words-mention a f.0) (words-mention b f.1)
  words-mention (star a) f = passed 7003 _ (expr_words a) (kind-star desk) refl ∙ words-mention a f
  words-mention (over g a) f = ap₂ ◌||◌ (ap (kind_unordered σ) (kind-symbol desk g f.0)) (words-mention a f.1)
