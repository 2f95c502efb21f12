-- The words of a text: blanks and line ends between them, and from # to the end of a line a remark.
use Rattle.std.specs.Prelude.{ℕ, ◌+◌, ◌*◌, ◌-◌, Bool, true, false, ◌&&◌, ◌||◌, List, [], ◌∷◌, ◌++◌, leb, ltb, eqb}
use Rattle.language.specs.Kinds.{pick}
use Rattle.prompt.specs.declared.Mode.{Mode}
use Rattle.prompt.specs.declared.Place.{Place}
use Rattle.prompt.specs.declared.Mode.TheVariants.{Between, Number, Remark, Wrong}

-- ---- one byte

-- 0 to 9
unfoldable pub digit : ℕ → Bool
digit b = leb 48 b && leb b 57

-- a space, a tab, the end of a line
unfoldable pub gap : ℕ → Bool
gap b = eqb b 32 || (eqb b 9 || (eqb b 13 || eqb b 10))

-- a number with one digit more: a word is under 65,536
unfoldable pub longer : ℕ → ℕ → Mode
longer v b = pick (ltb (v * 10 + (b - 48)) 65536) (Number (v * 10 + (b - 48))) Wrong

-- a blank, or a remark that # begins
unfoldable pub after_word : ℕ → Mode
after_word b = pick (gap b) Between (pick (eqb b 35) Remark Wrong)

unfoldable pub outside : ℕ → ℕ → Mode
outside v b = pick (digit b) (longer v b) (after_word b)

-- the end of the line ends it
unfoldable pub in_remark : ℕ → Mode
in_remark b = pick (eqb b 10) Between Remark

abbrev pub next : Mode → ℕ → Mode
next Between b = outside 0 b
next (Number v) b = outside v b
next Remark b = in_remark b
next Wrong b = Wrong

abbrev pub is_wrong : Mode → Bool
is_wrong Between = false
is_wrong (Number v) = false
is_wrong Remark = false
is_wrong Wrong = true

-- the word that ends before this byte
abbrev pub ended : Mode → ℕ → List ℕ
ended Between b = []
ended (Number v) b = pick (digit b) [] (v ∷ [])
ended Remark b = []
ended Wrong b = []

-- ---- where it stands

-- the column where the word begins that a byte here goes on with, or that it begins
abbrev pub begins : Mode → Place → ℕ
begins Between here = here.column
begins (Number v) here = here.from
begins Remark here = here.column
begins Wrong here = here.column

-- the place after this byte
unfoldable pub after : Place → ℕ → ℕ → Place
after here from b = pick (eqb b 10) (record { line = here.line + 1; column = 1; from = from }) (record { line = here.line; column = here.column + 1; from = from })

-- ---- all of them

-- the words in order; and the line and column where something begins that is no word, or 0 and 0
pub record Reading : Type 0 where
  pub words : List ℕ
  pub line : ℕ
  pub column : ℕ

abbrev pub behind : List ℕ → Reading → Reading
behind ws r = record { words = ws ++ r.words; line = r.line; column = r.column }

-- from a byte at this place on; the end of the text ends its last word
unfoldable pub reads : Mode → Place → List ℕ → Reading
reads mode here [] = record { words = ended mode 10; line = 0; column = 0 }
reads mode here (b ∷ bs) = pick (is_wrong (next mode b)) (record { words = []; line = here.line; column = begins mode here }) (behind (ended mode b) (reads (next mode b) (after here (begins mode here) b) bs))

unfoldable pub read_text : List ℕ → Reading
read_text text = reads Between (record { line = 1; column = 1; from = 1 }) text
