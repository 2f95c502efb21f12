-- Two tests of one variable: the words of each expression are looked through, and then both are judged.
use Prim.Native.Nat.{ℕ, ◌+◌}
use mathlib.Core.Path.{◌≡◌, refl, sym, ap, ap₂, ◌∙◌}
use mathlib.Core.Bool.{Bool, true, false, ◌||◌}
use mathlib.Core.List.{List}
use lib.ListN.{length}
use lib.Seq.{slice}
use Rattle.language.specs.declared.Signature.{Signature}
use Rattle.language.specs.Kinds.{pick}
use Rattle.language.specs.Trees.{Expr, is_unordered}
use Rattle.language.specs.Writing.{expr_words}
use Rattle.rules.specs.Clash.{mentions}
use Rattle.words.proofs.Parts.{part_of}
use Rattle.expressions.specs.Standing.{Here}
use Rattle.clash.specs.declared.Verdict.{Verdict}
use Rattle.clash.specs.declared.Verdict.TheVariants.{Shares}
use Rattle.clash.specs.Judging.{verdict_of}
use Rattle.clashes.specs.Pairs.{some_unordered, test_of, Tested}
use Rattle.clashes.proofs.Unordered.{words-mention}

-- what is found among the words is what the expression mentions
found : (σ : Signature) {k : List ℕ} {i t : ℕ} {b : Bool} (R : Expr) (w : List ℕ) → Here k i R w → t ≡ i + length (expr_words R) → b ≡ some_unordered σ (slice i t k)
    → b ≡ mentions (is_unordered σ) R
found σ {k} {i} {t} R w x e d = d ∙ ap (some_unordered σ) (part_of k i t (expr_words R) w x.words e) ∙ words-mention σ R x.fine

by-mentions : (σ : Signature) (term a b : Bool) (R S : Expr) → a ≡ mentions (is_unordered σ) R → b ≡ mentions (is_unordered σ) S
    → pick (a || b) Shares (verdict_of term R S) ≡ test_of σ term R S
unfolding test_of
by-mentions σ term a b R S d e = ap₂ (λ x y. pick (x || y) Shares (verdict_of term R S)) d e

either : (a : Bool) → (a || true) ≡ true
either true = refl
either false = refl

module _ {k : List ℕ} {at end other last : ℕ} {term : Bool} {σ : Signature} where
  pub first-mentions : {a : Bool} → a ≡ some_unordered σ (slice at end k) → a ≡ true → Tested k at end other last term σ Shares
  first-mentions {a} d z = record {
    each = λ R S w v x y e f.
        ap (λ b. pick (b || mentions (is_unordered σ) S) Shares (verdict_of term R S)) (sym z) ∙ by-mentions σ term a (mentions (is_unordered σ) S) R S (found σ R w x e d) refl;
  }

  pub second-mentions : {b : Bool} → b ≡ some_unordered σ (slice other last k) → b ≡ true → Tested k at end other last term σ Shares
  second-mentions {b} d z = record {
    each = λ R S w v x y e f.
        sym (ap (λ c. pick c Shares (verdict_of term R S)) (ap (λ c. mentions (is_unordered σ) R || c) z ∙ either (mentions (is_unordered σ) R)))
        ∙ by-mentions σ term (mentions (is_unordered σ) R) b R S refl (found σ S v y f d);
  }

  pub none-mentions : {a b : Bool} {r : Verdict} → a ≡ some_unordered σ (slice at end k) → a ≡ false → b ≡ some_unordered σ (slice other last k) → b ≡ false
      → ((R S : Expr) (w v : List ℕ) → Here k at R w → Here k other S v → r ≡ verdict_of term R S) → Tested k at end other last term σ r
  none-mentions {a} {b} {r} d z f y j = record {
    each = λ R S w v x u e g.
        j R S w v x u ∙ sym (ap₂ (λ c t. pick (c || t) Shares (verdict_of term R S)) z y) ∙ by-mentions σ term a b R S (found σ R w x e d) (found σ S v u g f);
  }
