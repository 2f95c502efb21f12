-- Names kept as the places where they begin, on a shelf for each class: how many there are, then their places.
-- A shelf has room for one name more than a header can count, so that a full one tells that there are too many.
use Rattle.std.specs.Prelude.{ℕ, ◌+◌, ◌*◌, ◌≤◌, ◌<◌, ◌≡◌, List, [], ◌∷◌, ◌++◌, map, ltb, length, drop, get_or, set}
use Rattle.language.specs.Limits.{Limits}
use Rattle.language.specs.Kinds.{pick}
use Rattle.language.specs.Between.{between}
use Rattle.texts.specs.Numbering.{Class, symbols, terms, hedges, functions, Naming, holds, place}
use Rattle.lexing.specs.Bytes.{name_from}

abbrev pub name_at : List ℕ → ℕ → ℕ
name_at text at = name_from (drop at text)

-- the letter at a place, or 0 where the name ends
pub record Letter (text : List ℕ) (at x : ℕ) : Type 0 where
  pub none : x ≡ 0 → name_at text at ≡ 0
  pub within : (x ≡ 0 → ⊥) → at < length text
  pub small : x ≤ 122
  pub more : (x ≡ 0 → ⊥) → name_at text at ≡ x + 256 * name_at text (at + 1)

-- the names on the shelf that begins at `base`
unfoldable pub listed : List ℕ → List ℕ → ℕ → List ℕ
listed text names base = map (name_at text) (between (base + 1) (base + 1 + get_or names base 0) names)

abbrev pub width : Limits → ℕ
width L = L.each + 2

-- where the shelf of a class begins
abbrev pub shelf_of : Limits → Class → ℕ
shelf_of L terms = 0
shelf_of L hedges = width L
shelf_of L symbols = 2 * width L
shelf_of L functions = 3 * width L

pub record Shelf (L : Limits) (names : List ℕ) (base : ℕ) : Type 0 where
  pub within : base + width L ≤ length names
  pub few : get_or names base 0 ≤ L.each + 1

-- four shelves
abbrev pub Shelves : Limits → List ℕ → Type 0
Shelves L names = (c : Class) → Shelf L names (shelf_of L c)

-- the number of a name of a class: its place on the shelf
unfoldable pub numbering : Limits → List ℕ → List ℕ → Naming
numbering L text names c n = place n (listed text names (shelf_of L c))

-- a name put at the end of a table, where it is new and there is room
unfoldable pub entering : Limits → ℕ → List ℕ → List ℕ
entering L n t = pick (holds n t) t (pick (ltb (length t) (L.each + 1)) (t ++ (n ∷ [])) t)

unfoldable pub enter_all : Limits → List ℕ → List ℕ → List ℕ
enter_all L t [] = t
enter_all L t (n ∷ l) = enter_all L (entering L n t) l

-- a name entered on one shelf
pub record Entered (L : Limits) (text names : List ℕ) (base at : ℕ) (names' : List ℕ) : Type 0 where
  pub len : length names' ≡ length names
  pub few : get_or names' base 0 ≤ L.each + 1
  pub here : listed text names' base ≡ entering L (name_at text at) (listed text names base)
  -- nothing else is changed
  pub low : (i : ℕ) → i < base → get_or names' i 0 ≡ get_or names i 0
  pub high : (i : ℕ) → base + width L ≤ i → get_or names' i 0 ≡ get_or names i 0

-- the shelves with a name entered on one of them
unfoldable pub enter_on : Limits → List ℕ → List ℕ → ℕ → ℕ → List ℕ
enter_on L text names base at =
    pick (ltb (place (name_at text at) (listed text names base)) (get_or names base 0)) names
    (pick (ltb L.each (get_or names base 0)) names (set (set names (base + 1 + get_or names base 0) at) base (get_or names base 0 + 1)))
