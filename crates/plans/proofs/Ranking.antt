-- Whether a line of a rule answers, as one test; where the first rule that answers stands; and tests in the rules' order and in a tree's.
use Prim.Native.Nat.{ℕ, suc}
use mathlib.Core.Path.{◌≡◌, refl, ap, ◌∙◌}
use mathlib.Core.Bool.{Bool, true, false, not, ◌&&◌}
use mathlib.Core.List.{List, [], ◌∷◌, map}
use mathlib.Core.Option.{Option, none, some}
use borrow.Author.Tests.{ne_eqb}
use Rattle.language.specs.Kinds.{pick}
use Rattle.language.specs.Trees.{Hedge, ε, tvar, hvar, node}
use Rattle.rules.specs.Looks.{empty, lone, has_term, all_runs}
use Rattle.rules.specs.Elements.{is_none}
use Rattle.rules.specs.Rules.{Branch, Answer, ◌>>=◌, check}
use Rattle.rules.specs.Solved.{is_some}
use Rattle.plans.specs.declared.Plan.{Plan}
use Rattle.plans.specs.Slots.{drop_plan, tabled}

pub check-on : (b : Bool) (f : Unit {0} → Answer) → is_some (check b >>= f) ≡ b && is_some (f tt)
unfolding check ◌>>=◌
check-on true f = refl
check-on false f = refl

pub lone-on : {A : Type 0} (a : A) (s : Hedge) (f : A → Answer) → is_some (lone a s >>= f) ≡ empty s && is_some (f a)
unfolding ◌>>=◌
lone-on a ε f = refl
lone-on a (tvar x s) f = refl
lone-on a (hvar p s) f = refl
lone-on a (node g c s) f = refl

-- what is none is not some
pub none-on : {A : Type 0} (o : Option A) → is_none o ≡ not (is_some o)
none-on none = refl
none-on (some a) = refl

pub bind-on : {A : Type 0} (m : Option A) (g : A → List Branch) → is_some (m >>= (λ a. some (g a))) ≡ is_some m
unfolding ◌>>=◌
bind-on none g = refl
bind-on (some a) g = refl

pub runs-terms : (r : Hedge) → all_runs r ≡ not (has_term r)
runs-terms ε = refl
runs-terms (tvar x r) = refl
runs-terms (hvar p r) = runs-terms r
runs-terms (node f c r) = refl

pub pick-suc : (b : Bool) (x y : ℕ) → suc (pick b x y) ≡ pick b (suc x) (suc y)
pick-suc true x y = refl
pick-suc false x y = refl

-- ---- a test that the rules make after another, and a tree of decisions once, whatever is picked

module _ {A : Type 0} where
  -- its opposite first
  pub pick-not : (b : Bool) (x y : A) → pick (not b) x y ≡ pick b y x
  pick-not true x y = refl
  pick-not false x y = refl

  -- and its opposite then: the rest is never reached
  pub pick-else : (b : Bool) (x y z : A) → pick b x (pick (not b) y z) ≡ pick b x y
  pick-else true x y z = refl
  pick-else false x y z = refl

  pub pick_other : (b : Bool) (x y z : A) → pick (not b) x (pick b y z) ≡ pick b y x
  pick_other true x y z = refl
  pick_other false x y z = refl

-- ---- what holds of each of a list, in its order

infixr 4 ◌▸◌
abbrev pub ◌▸◌ : {A B : Type 0} → A → B → A × B
a ▸ b = (a, b)

-- ---- a place that a table does not have

-- n is none of these places
abbrev pub Apart : ℕ → List ℕ → Type 0
Apart n [] = Unit {0}
Apart n (m ∷ ms) = (n ≡ m → ⊥) × Apart n ms

pub not-tabled : (n : ℕ) (ts : List (ℕ × Plan)) → Apart n (map (λ t. t.0) ts) → tabled n ts ≡ drop_plan
not-tabled n [] a = refl
not-tabled n (t ∷ ts) a = ap (λ b. pick b t.1 (tabled n ts)) (ne_eqb n t.0 a.0) ∙ not-tabled n ts a.1
