-- What the functions that compare two hedges are given, and what they answer.
use Rattle.std.specs.Prelude.{ℕ, ◌+◌, ◌≤◌, ◌≡◌, ◌↔◌, Bool, true, false, ◌&&◌, not, List, ◌++◌, length, get_or}
use Rattle.language.specs.declared.Sym.{Sym}
use Rattle.language.specs.declared.Signature.{Signature}
use Rattle.meaning.specs.Complete.{Complete, tree, Same, complete_words}
use Rattle.meaning.specs.Deciding.{same_up_to}
use Rattle.passing.specs.Places.{size_c, Holds, Beside}
use Rattle.alike.specs.Taking.{fit, left, found, Tops}

pub record SameWords (a b : List ℕ) (r : Bool) : Type 0 where
  pub same : r ≡ true → a ≡ b
  pub other : r ≡ false → a ≡ b → ⊥

-- what is left of a hedge is left of that which stands at h, and it stands at r
pub record Onward (w : List ℕ) (k : List Bool) (y r : ℕ) (h : Complete) : Type 0 where
  pub rest : Complete
  pub here : Holds w r rest
  pub all : left k y h ≡ left k r rest
  pub ends : r + size_c rest ≡ y + size_c h

-- the place of the first tree that is not taken, or of the end
pub record Passed (w : List ℕ) (k : List Bool) (y r : ℕ) : Type 0 where
  pub later : y ≤ r
  pub free : (get_or w r 0 ≡ 0 → ⊥) → get_or k r false ≡ false
  pub each : (h : Complete) → Holds w y h → Onward w k y r h

-- the tree at p is not taken, and it is the same as the tree at x
pub record Fitted (σ : Signature) (w : List ℕ) (x p : ℕ) (k k' : List Bool) (r : Bool) : Type 0 where
  pub len : length k' ≡ length k
  pub beside : (g : Sym) (d t : Complete) → Holds w p (tree g d t) → Beside k k' (p + 1) (p + 1 + size_c d)
  pub each : (f : Sym) (c s : Complete) (g : Sym) (d t : Complete) → Holds w x (tree f c s) → Holds w p (tree g d t) → r ≡ (not (get_or k p false) && fit σ f c g d)

-- the place of the first tree that fits, and no mark changes but below trees
pub record Found (σ : Signature) (w : List ℕ) (x y : ℕ) (k : List Bool) (b : Bool) (k' : List Bool) (r : ℕ) : Type 0 where
  pub len : length k' ≡ length k
  pub tops : (h : Complete) → Holds w y h → Tops k k' y h
  pub beside : (h : Complete) → Holds w y h → Beside k k' y (y + size_c h)
  pub each : (f : Sym) (c s h : Complete) → Holds w x (tree f c s) → Holds w y h → r ≡ found (length w) k b (fit σ f c) y h

pub record Compared (σ : Signature) (w : List ℕ) (i j : ℕ) (k : List Bool) (b : Bool) (k' : List Bool) (r : Bool) : Type 0 where
  pub len : length k' ≡ length k
  pub beside : (h : Complete) → Holds w j h → Beside k k' j (j + size_c h)
  pub each : (g h : Complete) → Holds w i g → Holds w j h → r ≡ same_up_to σ g b h

-- ---- the call

-- these words are those of two complete hedges, the second from m on
pub record Two (w : List ℕ) (m : ℕ) (g h : Complete) : Type 0 where
  pub words : w ≡ complete_words g ++ complete_words h
  pub middle : m ≡ length (complete_words g)

pub record Pair (w : List ℕ) (m : ℕ) : Type 0 where
  pub g : Complete
  pub h : Complete
  pub it : Two w m g h

-- true exactly when they are the same
pub record Decided (σ : Signature) (w : List ℕ) (m : ℕ) (r : Bool) : Type 0 where
  pub means : (g h : Complete) → Two w m g h → (r ≡ true) ↔ Same σ g h
