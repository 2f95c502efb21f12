-- What a walk lists, in the words: pairs of states, each the first of those that mean the same.
use Rattle.std.specs.Prelude.{ℕ, ◌+◌, ◌*◌, ◌<◌, ◌≤◌, ◌≡◌, ◌⊎◌, Bool, false, ◌&&◌, length, get_or}
use mathlib.Core.List.{List, Memᴰ}
use Rattle.language.specs.Limits.{desk, walked_pairs}
use Rattle.language.specs.Trees.{Expr}
use Rattle.language.specs.Writing.{expr_words}
use Rattle.rules.specs.Expressions.{nullable}
use Rattle.rules.specs.Walk.{Pair, onward}
use Rattle.walk.specs.Reach.{Reach}
use Rattle.expressions.specs.Standing.{Here}
use Rattle.clash.specs.declared.walking.Places.{Places}
use Rattle.state_classes.specs.Classes.{FirstState, Tabled}
use Rattle.clash.specs.Chains.{Kept, Just}

-- ---- where two symbols lead to

-- the symbols at p and q are one: the pair of what is inside them, and that of what is left after them
pub record Twin (k classes : List ℕ) (p q a b : ℕ) : Type 0 where
  pub same : get_or k p 0 ≡ get_or k q 0
  pub pair : Just (get_or classes (2 * p + 2) 0) (get_or classes (2 * q + 2) 0) a b ⊎ Just (get_or classes (2 * p + 1) 0) (get_or classes (2 * q + 1) 0) a b

-- of one symbol and one of a list
pub record TwinWith (k classes : List ℕ) (p : ℕ) (qs : List ℕ) (n a b : ℕ) : Type 0 where
  pub place : ℕ
  pub low : place < n
  pub twin : Twin k classes p (get_or qs place 0) a b

-- of one of the one list and one of the other
pub record TwinOf (k classes ps : List ℕ) (m : ℕ) (qs : List ℕ) (n a b : ℕ) : Type 0 where
  pub place : ℕ
  pub low : place < m
  pub twin : TwinWith k classes (get_or ps place 0) qs n a b

-- ---- two expressions

-- the places are in order and within the words
pub record Bounds (at : Places) (long : ℕ) : Type 0 where
  pub one : at.at ≤ at.end
  pub apart : at.end < at.other
  pub two : at.other ≤ at.last
  pub within : at.last ≤ long
  pub few : long ≤ desk.question

-- R and S stand there, and the table has the classes of their states
pub record Stand (k classes : List ℕ) (at : Places) (R S : Expr) : Type 0 where
  pub beyond : List ℕ
  pub one : Here k at.at R beyond
  pub one_end : at.end ≡ at.at + length (expr_words R)
  pub further : List ℕ
  pub two : Here k at.other S further
  pub two-end : at.last ≡ at.other + length (expr_words S)
  pub one-classes : Tabled k at.at (2 * at.end + 1) classes
  pub two-classes : Tabled k at.other (2 * at.last + 1) classes

-- a and b are the first states that mean the two
pub record Stop (at : Places) (R S : Expr) (a b : ℕ) (p : Pair) : Type 0 where
  pub one : FirstState at.at R a p.0
  pub two : FirstState at.other S b p.1

-- the pair p is one of the first n
pub record Lists (at : Places) (R S : Expr) (left right : List ℕ) (n : ℕ) (p : Pair) : Type 0 where
  pub place : ℕ
  pub low : place < n
  pub stop : Stop at R S (get_or left place 0) (get_or right place 0) p

-- the first n are pairs that the walk reaches
pub record Walked (at : Places) (R S : Expr) (left right : List ℕ) (n : ℕ) : Type 0 where
  pub each : (i : ℕ) → i < n → (p : Pair) × Stop at R S (get_or left i 0) (get_or right i 0) p × Reach R S p

-- how many pairs are met then, and whether neither of the two states needs to read anything
pub record Step : Type 0 where
  pub count : ℕ
  pub null : Bool

abbrev pub step_to : ℕ → Bool → Step
step_to n e = record { count = n; null = e }

-- from the pair of a and b on
pub record Went (k classes : List ℕ) (at : Places) (a b : ℕ) (left right : List ℕ) (n : ℕ) (left' right' : List ℕ) (r : Step) : Type 0 where
  pub more : n ≤ r.count
  pub kept : Kept left right n left' right'
  pub walked : (R S : Expr) → Stand k classes at R S → (p : Pair) → Stop at R S a b p → Reach R S p → Walked at R S left right n → Walked at R S left' right' r.count
  pub on : (R S : Expr) → Stand k classes at R S → (p : Pair) → Stop at R S a b p → r.count ≤ walked_pairs → (q : Pair) → Memᴰ q (onward p) → Lists at R S left' right' r.count q
  pub null : (R S : Expr) → Stand k classes at R S → (p : Pair) → Stop at R S a b p → r.null ≡ (nullable p.0 && nullable p.1)

-- from the first pair on: all that is reached, unless it is too much, and in which of them the empty hedge is
pub record Gone (k classes : List ℕ) (at : Places) (left right left' right' : List ℕ) (empty : List Bool) (n : ℕ) : Type 0 where
  pub kept : Kept left right 1 left' right'
  pub some : 1 ≤ n
  pub walked : (R S : Expr) → Stand k classes at R S → Walked at R S left right 1 → Walked at R S left' right' n
  pub on : (R S : Expr) → Stand k classes at R S → Walked at R S left right 1 → n ≤ walked_pairs → (i : ℕ) → i < n → (p : Pair) → Stop at R S (get_or left' i 0) (get_or right' i 0) p
      → (q : Pair) → Memᴰ q (onward p) → Lists at R S left' right' n q
  pub null : (R S : Expr) → Stand k classes at R S → Walked at R S left right 1 → n ≤ walked_pairs → (i : ℕ) → i < n → (p : Pair) → Stop at R S (get_or left' i 0) (get_or right' i 0) p
      → get_or empty i false ≡ (nullable p.0 && nullable p.1)
