-- The symbols that can be read next in a state, listed by their places.
use Rattle.std.specs.Prelude.{ℕ, ◌+◌, ◌<◌, ◌≤◌, ◌≡◌, Bool, true, false, length, get_or}
use mathlib.Core.List.{List, Memᴰ}
use Rattle.language.specs.Limits.{desk}
use Rattle.language.specs.Trees.{Expr}
use Rattle.language.specs.Writing.{expr_words}
use Rattle.rules.specs.Expressions.{nullable, Monomial, linear}
use Rattle.expressions.specs.Standing.{Here}
use Rattle.walk.specs.Spots.{Spot, monomial}
use Rattle.clash.specs.declared.symbols.Symbols.{Symbols}
use Rattle.state_classes.specs.States.{Means, Spotted}

-- the first n of the list are places before `to`
pub record Listed (to : ℕ) (list : List ℕ) (n : ℕ) : Type 0 where
  pub few : n ≤ desk.question
  pub each : (i : ℕ) → i < n → get_or list i 0 < to

-- the first n of the list are just the marked places
pub record Collected (marks : List Bool) (from to : ℕ) (list : List ℕ) (n : ℕ) : Type 0 where
  pub few : from + n ≤ to
  pub each : (i : ℕ) → i < n → get_or list i 0 < to
  pub sound : (i : ℕ) → i < n → get_or marks (get_or list i 0) false ≡ true
  pub whole : (p : ℕ) → from ≤ p → p < to → get_or marks p false ≡ true → (i : ℕ) × (i < n) × (get_or list i 0 ≡ p)

-- the symbol at j takes the monomial m
pub record Takes (at : ℕ) (R : Expr) (j : ℕ) (m : Monomial) : Type 0 where
  pub level : ℕ
  pub spot : Spot
  pub spotted : Spotted at R j level spot
  pub is : m ≡ monomial spot

-- the first n of the list are just the symbols that take the monomials of X
pub record Reads (at : ℕ) (R X : Expr) (list : List ℕ) (n : ℕ) : Type 0 where
  pub sound : (i : ℕ) → i < n → (m : Monomial) × Memᴰ m (linear X) × Takes at R (get_or list i 0) m
  pub whole : (m : Monomial) → Memᴰ m (linear X) → (i : ℕ) × (i < n) × Takes at R (get_or list i 0) m

-- of whatever the state s means
pub record Symboled (k : List ℕ) (at end s : ℕ) (list : List ℕ) (r : Symbols) : Type 0 where
  pub listed : Listed (length k) list r.count
  pub reads : (R : Expr) (w : List ℕ) → Here k at R w → end ≡ at + length (expr_words R) → (X : Expr) → Means at R s X → Reads at R X list r.count
  pub null : (R : Expr) (w : List ℕ) → Here k at R w → (X : Expr) → Means at R s X → r.null ≡ nullable X
