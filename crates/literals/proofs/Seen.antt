-- The literal at a place is what the word there says.
use Prim.Native.Nat.{ℕ}
use mathlib.Core.Path.{◌≡◌}
use mathlib.Core.List.{List}
use lib.ListN.{get_or}
use Rattle.language.specs.Trees.{Hedge, Expr, eqn, mem, Conj}
use Rattle.views.specs.declared.View.{View}
use Rattle.views.specs.declared.Shape.{Shape}
use Rattle.views.specs.Views.{Sees, Shows, EquationAt, MembershipAt}
use Rattle.views.specs.Standing.{LiteralAt, SomeLiteral}
use Rattle.views.proofs.LiteralWalks.{at-equation, at-membership}

module _ (k : List ℕ) (at : ℕ) (m : SomeLiteral k at) where
  pub equation-at : (v : View) → get_or k at 0 ≡ 5000 → ((before : Conj) (l r : Hedge) (behind : Conj) → LiteralAt k at before (eqn l r) behind → Sees k v before l r behind)
      → EquationAt k v
  equation-at v e f =
      at-equation k at (λ before l behind. EquationAt k v) e
      (λ before l r behind p. record { before = before; l = l; r = r; behind = behind; sees = f before l r behind p }) m.before m.l m.behind m.stands

  pub membership-at : (s : Shape) → (get_or k at 0 ≡ 5000 → ⊥) → ((before : Conj) (h : Hedge) (R : Expr) (behind : Conj) → LiteralAt k at before (mem h R) behind → Shows k s before h R behind)
      → MembershipAt k s
  membership-at s e f =
      at-membership k at (λ before l behind. MembershipAt k s) e
      (λ before h R behind p. record { before = before; h = h; R = R; behind = behind; shows = f before h R behind p }) m.before m.l m.behind m.stands

pub turned-at : (k : List ℕ) (v u : View) → ((k : List ℕ) (before behind : Conj) (l r : Hedge) → Sees k v before l r behind → Sees k u before r l behind)
    → EquationAt k v → EquationAt k u
turned-at k v u f m = record { before = m.before; l = m.r; r = m.l; behind = m.behind; sees = f k m.before m.behind m.l m.r m.sees }
