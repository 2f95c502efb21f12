-- The parts of a literal's words, and what they become.
use Prim.Native.Nat.{ℕ, ◌+◌, ◌-◌, ◌≤◌}
use mathlib.Core.Path.{◌≡◌, sym, ap, ◌∙◌}
use mathlib.Core.Bool.{true}
use mathlib.Core.List.{List, ◌∷◌, ◌++◌}
use native.Mathlib.Omega.{arith}
use lib.ListN.{length, get_or, take, drop, length-append}
use lib.Seq.{take_at, drop_at, take_all}
use Rattle.language.specs.Limits.{desk}
use Rattle.language.specs.Trees.{Hedge, Expr, Literal, eqn, mem, Counts}
use Rattle.language.specs.Writing.{hedge_words, literal_words}
use Rattle.language.specs.Fine.{fine_hedge}
use Rattle.language.specs.Question.{declared}
use Rattle.language.specs.Between.{between}
use Rattle.language.proofs.Undeclared.{hedge-declared}
use Rattle.meaning.specs.Complete.{complete_words}
use Rattle.meaning.specs.Meaning.{Filling, fill}
use Rattle.meaning.specs.Values.{gives, read_filling}
use Rattle.filling.specs.Showing.{filled, Shows}
use Rattle.filling.proofs.Values.{declared-shows}
use Rattle.filling.proofs.Becomes.{hedge-becomes}
use Rattle.filling.proofs.Given.{was, has-values}

-- ---- the parts

module _ (ws : List ℕ) (x : ℕ) (u v : List ℕ) (m : ℕ) (e : ws ≡ x ∷ (u ++ v)) (q : m ≡ 1 + length u) where
  pub inside : (1 ≤ m) × (m ≤ length ws)
  inside = let l = ap length e in let a = length-append u v in (omega arith, omega arith)

  pub first_part : between 1 m ws ≡ u
  first_part = ap (λ l. take (m - 1) (drop 1 l)) e ∙ take_at u v (m - 1) (omega arith)

  pub second-part : between m (length ws) ws ≡ v
  second-part =
      let l = ap length e in
      let a = length-append u v in
      ap (λ l. take (length ws - m) (drop m l)) e
      ∙ ap (take (length ws - m)) (drop_at (x ∷ u) v m (omega arith))
      ∙ take_all (length ws - m) v (omega arith)

-- ---- what a hedge becomes

module _ (n : Counts) (fs : List ℕ) (ρ : Filling) (g : read_filling desk n fs ≡ gives ρ) {t h : ℕ} (p : t ≡ n.terms) (q : h ≡ n.hedges) where
  pub shows : (a : Hedge) → fine_hedge desk a → declared n a ≡ true → Shows t h fs (hedge_words a)
  shows a f d = rw (p, q) (declared-shows n (has-values n fs ρ (was n fs ρ g)) (hedge_words a) (hedge-declared desk n a f ∙ d))

  pub becomes : (a : Hedge) → fine_hedge desk a → declared n a ≡ true → filled t h fs (hedge_words a) ≡ complete_words (fill ρ a)
  becomes a f d =
      let w = was n fs ρ g in
      rw (p, q) (hedge-becomes (has-values n fs ρ w) a f d ∙ ap (λ ρ. complete_words (fill ρ a)) (sym w.is))

-- ---- which literal it is, by its first word

module _ {ws : List ℕ} where
  pub by-equation : (P : Literal → Type 0) → get_or ws 0 0 ≡ 5000 → ((a b : Hedge) → P (eqn a b)) → (l : Literal) → ws ≡ literal_words l → P l
  by-equation P w x (eqn a b) e = x a b
  by-equation P w x (mem a R) e = absurd (let z : get_or ws 0 0 ≡ 6000 = ap (λ l. get_or l 0 0) e in omega arith)

  pub by-membership : (P : Literal → Type 0) → (get_or ws 0 0 ≡ 5000 → ⊥) → ((a : Hedge) (R : Expr) → P (mem a R)) → (l : Literal) → ws ≡ literal_words l → P l
  by-membership P w x (eqn a b) e = absurd (w (ap (λ l. get_or l 0 0) e))
  by-membership P w x (mem a R) e = x a R
