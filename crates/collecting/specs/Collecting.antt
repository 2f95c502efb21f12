-- The names of a line's tokens, in order. A name directly behind an element is the word `in`, and no name.
use Rattle.std.specs.Prelude.{ℕ, ◌+◌, ◌*◌, ◌≤◌, ◌<◌, ◌≡◌, Bool, true, false, not, List, [], ◌∷◌, ltb, length, drop, get_or}
use Rattle.std.proofs.Math.Option.{some}
use Rattle.language.specs.Limits.{Limits}
use Rattle.language.specs.Kinds.{pick}
use Rattle.language.specs.Trees.{symbol, fvar, Conj}
use Rattle.grammar.specs.Tokens.{Token, one, run, functor, equals, comma, opens, closes, plus, times}
use Rattle.texts.specs.Numbering.{Class, at_s, at_t, at_h, at_x, in_all}
use Rattle.grammar.specs.Grammar.{Lines, lines_of}
use Rattle.lexing.specs.declared.Mark.{Mark}
use Rattle.lexing.specs.declared.Mark.TheVariants.{End, Bad, Symbol, One, Run, Function, Equals, Comma, Opens, Closes, Plus, Times}
use Rattle.lexing.specs.Bytes.{others, sort_of}
use Rattle.lexing.specs.Pieces.{here, next_of}
use Rattle.text_names.specs.Shelves.{name_at, listed, width, shelf_of, Shelves, enter_all, enter_on}

abbrev pub names_in : Class → Bool → List Token → List ℕ
names_in c b [] = []
names_in c b (one x ∷ ts) = at_t c x.0 (names_in c true ts)
names_in c b (run p ∷ ts) = at_h c p.0 (names_in c true ts)
names_in c b (functor g ∷ ts) = elim g [ symbol f ↦ pick b (names_in c false ts) (at_s c f.0 (names_in c true ts)) | fvar X ↦ at_x c X.0 (names_in c true ts) ]
names_in c b (equals ∷ ts) = names_in c false ts
names_in c b (comma ∷ ts) = names_in c false ts
names_in c b (opens ∷ ts) = names_in c false ts
names_in c b (closes ∷ ts) = names_in c true ts
names_in c b (plus ∷ ts) = names_in c false ts
names_in c b (times ∷ ts) = names_in c false ts

-- ---- token by token

-- the names that a token of this mark brings
abbrev pub own : Class → Bool → Mark → ℕ → List ℕ
own c b End n = []
own c b Bad n = []
own c b Symbol n = pick b [] (at_s c n [])
own c b One n = at_t c n []
own c b Run n = at_h c n []
own c b Function n = at_x c n []
own c b Equals n = []
own c b Comma n = []
own c b Opens n = []
own c b Closes n = []
own c b Plus n = []
own c b Times n = []

-- whether an element ends with it
abbrev pub behind : Mark → Bool → Bool
behind End b = false
behind Bad b = false
behind Symbol b = not b
behind One b = true
behind Run b = true
behind Function b = true
behind Equals b = false
behind Comma b = false
behind Opens b = false
behind Closes b = true
behind Plus b = false
behind Times b = false

-- the shelf of its name, or the end of all shelves
abbrev pub shelf_at : Limits → Mark → Bool → ℕ
shelf_at L End b = 4 * width L
shelf_at L Bad b = 4 * width L
shelf_at L Symbol b = pick b (4 * width L) (2 * width L)
shelf_at L One b = 0
shelf_at L Run b = width L
shelf_at L Function b = 3 * width L
shelf_at L Equals b = 4 * width L
shelf_at L Comma b = 4 * width L
shelf_at L Opens b = 4 * width L
shelf_at L Closes b = 4 * width L
shelf_at L Plus b = 4 * width L
shelf_at L Times b = 4 * width L

-- the shelves with its name entered, if it has one
unfoldable pub took_on : Limits → List ℕ → List ℕ → Mark → Bool → ℕ → List ℕ
took_on L text names m b at = pick (ltb (shelf_at L m b) (4 * width L)) (enter_on L text names (shelf_at L m b) at) names

-- which shelves the tokens of a line from i on leave, and where they end; b: whether an element ends there
pub data LineOn (L : Limits) (text : List ℕ) : List ℕ → ℕ → Bool → List ℕ → ℕ → Type 0 where
  line-ends : {names : List ℕ} {i : ℕ} {b : Bool} → sort_of (next_of text i).mark ≡ 0 → LineOn L text names i b names (next_of text i).to
  line-goes : {names names' : List ℕ} {i r : ℕ} {b : Bool} → (sort_of (next_of text i).mark ≡ 0 → ⊥)
      → LineOn L text (took_on L text names (next_of text i).mark b (next_of text i).from) (next_of text i).to (behind (next_of text i).mark b) names' r
      → LineOn L text names i b names' r

-- and those of the lines from a place on, of any bytes at all
pub data LinesOn (L : Limits) (text : List ℕ) : List ℕ → ℕ → List ℕ → Type 0 where
  last_line : {names names' : List ℕ} {at r : ℕ} → LineOn L text names at false names' r → length text ≤ r → LinesOn L text names at names'
  one_more : {names names' names'' : List ℕ} {at r : ℕ} → LineOn L text names at false names' r → r < length text → LinesOn L text names' (r + 1) names'' → LinesOn L text names at names''

pub record Took (L : Limits) (text names : List ℕ) (m : Mark) (b : Bool) (at : ℕ) (names' : List ℕ) : Type 0 where
  pub on : names' ≡ took_on L text names m b at
  pub len : length names' ≡ length names
  pub shelves : Shelves L names'
  pub each : (c : Class) → listed text names' (shelf_of L c) ≡ enter_all L (listed text names (shelf_of L c)) (own c b m (name_at text at))

-- a line's names, where it is made of tokens; r is where it ends
pub record LineTaken (L : Limits) (text names : List ℕ) (at r : ℕ) (names' : List ℕ) : Type 0 where
  pub on : LineOn L text names at false names' r
  pub low : at ≤ r
  pub high : r ≤ length text
  pub len : length names' ≡ length names
  pub shelves : Shelves L names'
  pub same : others (drop at text) ≡ others (drop r text)
  pub ends : (ts : List Token) → here text at ≡ some ts → r < length text → get_or text r 0 ≡ 10
  pub each : (ts : List Token) → here text at ≡ some ts → (c : Class) → listed text names' (shelf_of L c) ≡ enter_all L (listed text names (shelf_of L c)) (names_in c false ts)

-- what the shelves hold after all lines; of a text of the grammar, its names
pub record Taken (L : Limits) (text names names' : List ℕ) : Type 0 where
  pub on : LinesOn L text names 0 names'
  pub len : length names' ≡ length names
  pub shelves : Shelves L names'
  pub each : (ks : List Conj) → Lines ks (lines_of text) → (c : Class) → listed text names' (shelf_of L c) ≡ enter_all L (listed text names (shelf_of L c)) (in_all c ks)
