-- The first of the states that mean the same expression stands for all of them.
use Rattle.std.specs.Prelude.{ℕ, ◌+◌, ◌*◌, ◌%◌, ◌<◌, ◌≤◌, ◌≡◌, ◌⊎◌, Bool, true, false, List, length, get_or}
use Rattle.language.specs.Limits.{desk}
use Rattle.language.specs.Trees.{Expr, eps, cat, alt, star, over}
use Rattle.language.specs.Writing.{expr_words}
use Rattle.expressions.specs.Standing.{Here}
use Rattle.state_classes.specs.States.{Means}

-- whether t, which is not before the first state, is a state of what stands at `at`
pub record StateTest (k : List ℕ) (first t : ℕ) (r : Bool) : Type 0 where
  pub yes : (at : ℕ) (R : Expr) (w : List ℕ) → first ≡ 2 * at → Here k at R w → first ≤ t → t ≤ 2 * (at + length (expr_words R)) → r ≡ true → (X : Expr) × Means at R t X
  pub only : (at : ℕ) (R : Expr) (w : List ℕ) → first ≡ 2 * at → Here k at R w → (X : Expr) → Means at R t X → r ≡ true

-- whether t means what s means
pub record Liked (k : List ℕ) (at first s t : ℕ) (r : Bool) : Type 0 where
  pub yes : (R : Expr) (w : List ℕ) → Here k at R w → first ≡ 2 * at → first ≤ t → t < 2 * (at + length (expr_words R)) → (X : Expr) → Means at R s X → r ≡ true → Means at R t X
  pub not : (R : Expr) (w : List ℕ) → Here k at R w → first ≡ 2 * at → (X : Expr) → Means at R s X → r ≡ false → Means at R t X → ⊥

-- c means what s means, and no state before c does
pub record Classed (k : List ℕ) (at s c : ℕ) : Type 0 where
  pub means : (R : Expr) (w : List ℕ) → Here k at R w → (X : Expr) → Means at R s X → Means at R c X
  pub least : (R : Expr) (w : List ℕ) → Here k at R w → (X : Expr) → Means at R s X → (t : ℕ) → t < c → Means at R t X → ⊥
  pub low : c ≤ s

-- c is the first of the states that mean X
pub record FirstState (at : ℕ) (R : Expr) (c : ℕ) (X : Expr) : Type 0 where
  pub means : Means at R c X
  pub least : (t : ℕ) → t < c → Means at R t X → ⊥

-- room for the states of a question's words
abbrev pub state_room : ℕ
state_room = 2 * desk.question + 2

-- the table has this of each state below `to`
pub record Tabled (k : List ℕ) (at to : ℕ) (classes : List ℕ) : Type 0 where
  pub each : (R : Expr) (w : List ℕ) → Here k at R w → (s : ℕ) → s < to → (X : Expr) → Means at R s X → FirstState at R (get_or classes s 0) X

-- what stands before `to` is the same
pub record KeptTo (to : ℕ) (old new : List ℕ) : Type 0 where
  pub long : length new ≡ length old
  pub same : (i : ℕ) → i < to → get_or new i 0 ≡ get_or old i 0

-- nothing but what is said of states below `to` was changed
pub record Changed (k : List ℕ) (at to : ℕ) (old new : List ℕ) : Type 0 where
  pub each : (R : Expr) (w : List ℕ) → Here k at R w → to ≤ 2 * (at + length (expr_words R)) + 1 → (i : ℕ) → (get_or new i 0 ≡ get_or old i 0) ⊎ ((X : Expr) × Means at R i X)

-- an expression stands from `at` to `end`
pub record Expressed (k : List ℕ) (at end : ℕ) : Type 0 where
  pub expression : Expr
  pub beyond : List ℕ
  pub here : Here k at expression beyond
  pub to : end ≡ at + length (expr_words expression)

-- ---- keys, by which most states are told apart

-- the second part of a concatenation, or the whole
abbrev pub last_part : Expr → Expr
last_part eps = eps
last_part (cat A B) = B
last_part (alt A B) = alt A B
last_part (star A) = star A
last_part (over f A) = over f A

-- how many words it has, as a word can hold it
abbrev pub count_of : Expr → ℕ
count_of X = length (expr_words X) % 65536

pub record Counted (k : List ℕ) (at r : ℕ) : Type 0 where
  pub each : (X : Expr) (w : List ℕ) → Here k at X w → r ≡ count_of X

-- r is the key of what s means
pub record Keyed (k : List ℕ) (at s r : ℕ) : Type 0 where
  pub each : (R : Expr) (w : List ℕ) → Here k at R w → (X : Expr) → Means at R s X → r ≡ count_of (last_part X)

-- the table has the keys of the states below `to`
pub record KeyedTo (k : List ℕ) (at to : ℕ) (keys : List ℕ) : Type 0 where
  pub below : (s : ℕ) → s < to → Keyed k at s (get_or keys s 0)
