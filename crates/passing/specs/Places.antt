-- Where a complete hedge stands in words, the place after it, and marks beside the words.
use Rattle.std.specs.Prelude.{ℕ, ◌+◌, ◌<◌, ◌≤◌, ◌≡◌, Bool, false, List, ◌++◌, length, get_or, drop}
use Rattle.language.specs.declared.Sym.{Sym}
use Rattle.meaning.specs.Complete.{Complete, nil, tree, complete_words}

-- how many words
abbrev pub size_c : Complete → ℕ
size_c nil = 1
size_c (tree f c r) = 1 + size_c c + size_c r

-- g stands in h at j
pub data Holds (h : List ℕ) : ℕ → Complete → Type 0 where
  at-nil : {j : ℕ} → j < length h → get_or h j 0 ≡ 0 → Holds h j nil
  at-tree : {j : ℕ} {f : Sym} {c r : Complete} → j < length h → get_or h j 0 ≡ 3000 + f.0 → Holds h (j + 1) c → Holds h (j + 1 + size_c c) r → Holds h j (tree f c r)

-- the same in words: these are those of g, and then others
pub record StandsC (h : List ℕ) (j : ℕ) (g : Complete) : Type 0 where
  pub others : List ℕ
  pub words : drop j h ≡ complete_words g ++ others

-- ---- what the functions ask

pub record Hedge (h : List ℕ) (j : ℕ) : Type 0 where
  pub g : Complete
  pub here : Holds h j g

-- a term, and what follows it
pub record Term (h : List ℕ) (j : ℕ) : Type 0 where
  pub f : Sym
  pub c : Complete
  pub r : Complete
  pub here : Holds h j (tree f c r)

-- ---- and what they promise

-- the place after whatever hedge stands there
pub record Skipped (h : List ℕ) (j r : ℕ) : Type 0 where
  pub each : (g : Complete) → Holds h j g → r ≡ j + size_c g

-- k' is k but for from..to
pub record Beside (k k' : List Bool) (from to : ℕ) : Type 0 where
  pub len : length k' ≡ length k
  pub low : (i : ℕ) → i < from → get_or k' i false ≡ get_or k i false
  pub high : (i : ℕ) → to ≤ i → get_or k' i false ≡ get_or k i false

pub record Cleared (k k' : List Bool) (from to : ℕ) : Type 0 where
  pub beside : Beside k k' from to
  pub clear : (i : ℕ) → from ≤ i → i < to → get_or k' i false ≡ false
