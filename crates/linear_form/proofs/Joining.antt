-- A concatenation or a choice by its two parts: when the second adds nothing, and when the whole is nullable.
use Prim.Native.Nat.{ℕ}
use mathlib.Core.Path.{◌≡◌, refl, ap, sym, subst, ◌∙◌}
use mathlib.Core.Bool.{Bool, true, false, ◌&&◌, ◌||◌}
use mathlib.Core.Logic.{◌⊎◌, inl, inr}
use lib.Dec.{eqb, T}
use borrow.Author.Tests.{eqb-true, eqb-false, eq-eqb, ne_eqb}
use Rattle.language.specs.Kinds.{pick}
use Rattle.linear_form.specs.Walks.{closes, joined}

abbrev pub Dec7001 : ℕ → Type 0
Dec7001 x = (x ≡ 7001) ⊎ (x ≡ 7001 → ⊥)

by-test : (x : ℕ) (b : Bool) → eqb x 7001 ≡ b → Dec7001 x
by-test x true e = inl (eqb-true x 7001 e)
by-test x false e = inr (eqb-false x 7001 e)

pub is-cat : (x : ℕ) → Dec7001 x
is-cat x = by-test x (eqb x 7001) refl

pub closed-by : (x : ℕ) (n : Bool) → closes x n ≡ true → (x ≡ 7001) × (n ≡ false)
unfolding closes
closed-by x true e = absurd (subst T (sym e) tt)
closed-by x false e = (eqb-true x 7001 e, refl)

pub open_by : (x : ℕ) (n : Bool) → x ≡ 7001 → closes x n ≡ false → n ≡ true
unfolding closes
open_by x true z e = refl
open_by x false z e = absurd (eqb-false x 7001 e z)

pub joined-cat : (x : ℕ) (a b : Bool) → x ≡ 7001 → a ≡ true → joined x a b ≡ b
unfolding joined
joined-cat x a b z n = ap (λ t. pick t (a && b) (a || b)) (eq-eqb x 7001 z) ∙ ap (λ a. a && b) n

pub joined-alt : (x : ℕ) (a b : Bool) → (x ≡ 7001 → ⊥) → joined x a b ≡ (a || b)
unfolding joined
joined-alt x a b z = ap (λ t. pick t (a && b) (a || b)) (ne_eqb x 7001 z)

-- ---- how they come to be

pub closes-open : (x : ℕ) (n : Bool) → n ≡ true → false ≡ closes x n
unfolding closes
closes-open x n e = sym (ap (λ n. pick n false (eqb x 7001)) e)

pub closes-shut : (x : ℕ) (n : Bool) → n ≡ false → eqb x 7001 ≡ closes x n
unfolding closes
closes-shut x n e = sym (ap (λ n. pick n false (eqb x 7001)) e)

module _ (x : ℕ) (a b : Bool) where
  by-cat : {r : Bool} → x ≡ 7001 → r ≡ (a && b) → r ≡ joined x a b
  unfolding joined
  by-cat z e = e ∙ sym (ap (λ t. pick t (a && b) (a || b)) (eq-eqb x 7001 z))

  pub joined-second : x ≡ 7001 → a ≡ true → b ≡ joined x a b
  joined-second z n = by-cat z (sym (ap (λ a. a && b) n))

  pub joined-neither : x ≡ 7001 → a ≡ false → false ≡ joined x a b
  joined-neither z n = by-cat z (sym (ap (λ a. a && b) n))

  pub joined-first : (x ≡ 7001 → ⊥) → a ≡ true → true ≡ joined x a b
  joined-first z n = sym (joined-alt x a b z ∙ ap (λ a. a || b) n)

  pub joined-other : (x ≡ 7001 → ⊥) → a ≡ false → b ≡ joined x a b
  joined-other z n = sym (joined-alt x a b z ∙ ap (λ a. a || b) n)
