-- An expression read backwards, as the code has it: the words so far stand at the end of a room, and what is owed before brackets in two rows,
-- depths and what is owed as one number.
use Rattle.std.specs.Prelude.{ℕ, zero, suc, ◌+◌, ◌-◌, ◌*◌, ◌/◌, ◌%◌, ◌≤◌, ◌<◌, ◌≡◌, Bool, true, false, not, List, [], ◌∷◌, eqb, length, drop, get_or}
use Rattle.language.specs.Limits.{Limits}
use Rattle.language.specs.Kinds.{pick}
use Rattle.language.specs.Between.{between}
use Rattle.grammar.specs.Tokens.{Token, begins_name, name_token}
use Rattle.text_names.specs.Shelves.{name_at, numbering, Shelves}
use Rattle.texts.specs.Numbering.{Naming}
use Rattle.lexing.specs.declared.Mark.{Mark}
use Rattle.lexing.specs.declared.Mark.TheVariants.{Opens}
use Rattle.flat.specs.Filling.{Frame, Filled, stars_on, operand_on, enclosed, released, turn, nothing}
use Rattle.backwards.specs.Backward.{one-if, taken, marked, backwards, weight}
use Rattle.expression_words.specs.declared.Fill.{Fill}

-- stars, an operand and an item that are owed, as one number; 0 where nothing is
abbrev pub code_of : ℕ → Bool → Bool → ℕ
code_of stars operand item = 4 * stars + (2 * one-if operand + one-if item)

abbrev pub frame_of : ℕ → ℕ → Frame
frame_of d c = record { depth = d; stars = c / 4; operand = eqb (c / 2 % 2) 1; item = eqb (c % 2) 1 }

-- the first so many of the rows, the last first
abbrev pub frames_in : List ℕ → List ℕ → ℕ → List Frame
frames_in depths owed zero = []
frames_in depths owed (suc k) = frame_of (get_or depths k 0) (get_or owed k 0) ∷ frames_in depths owed k

unfoldable pub seen : Fill → List ℕ → List ℕ → List ℕ → Filled
seen s room depths owed = record {
  words = drop s.at room;
  stars = s.stars;
  operand = s.operand;
  item = s.item;
  functor = s.functor;
  bare = s.bare;
  depth = s.depth;
  owed = frames_in depths owed s.frames;
}

-- ---- words written before those that are there

pub record Laid (room vs : List ℕ) (r : ℕ) (room' : List ℕ) : Type 0 where
  pub high : r ≤ length room
  pub len : length room' ≡ length room
  pub words : drop r room' ≡ vs

abbrev pub operand_in : Fill → List ℕ → List ℕ
operand_in s room = pick s.operand (7002 ∷ stars_on s.stars (drop s.at room)) (stars_on s.stars (drop s.at room))

abbrev pub item_in : Fill → List ℕ → List ℕ
item_in s room = pick s.item (7001 ∷ operand_in s room) (operand_in s room)

-- how many words are owed
abbrev pub owing : Fill → ℕ
owing s = s.stars + one-if s.operand + one-if s.item

-- ---- a token, where only words are written

pub record Turned (t : Token) (s : Fill) (room : List ℕ) (r : Fill) (room' : List ℕ) : Type 0 where
  pub high : r.at ≤ length room
  pub len : length room' ≡ length room
  pub frames : r.frames ≡ s.frames
  pub same : (ρ : Naming) (depths owed : List ℕ) → seen r room' depths owed ≡ turn ρ t (seen s room depths owed)

-- ---- a character, where rows are written too

pub record Marked (m : Mark) (s : Fill) (room depths owed : List ℕ) (r : Fill) (room' depths' owed' : List ℕ) : Type 0 where
  pub high : r.at ≤ length room
  pub len : length room' ≡ length room
  pub len-depths : length depths' ≡ length depths
  pub len-owed : length owed' ≡ length owed
  pub same : (ρ : Naming) → seen r room' depths' owed' ≡ marked ρ m (seen s room depths owed)

-- ---- the whole of it

-- the bytes from one place to another, read backwards
abbrev pub part : Naming → List ℕ → ℕ → ℕ → Filled
part ρ text at to = backwards ρ (between at to text) nothing

-- with the name that stands first
abbrev pub whole : Naming → List ℕ → ℕ → ℕ → Filled
whole ρ text at to = taken ρ (between at to text) (part ρ text at to)

-- the room is as long as the words, and nothing but these is owed
pub record Expression (ρ : Naming) (text : List ℕ) (at to : ℕ) (room : List ℕ) : Type 0 where
  pub low : at ≤ to
  pub high : to ≤ length text
  pub ends : begins_name (drop to text) ≡ false
  pub fits : weight (whole ρ text at to) ≤ length room
  pub long : length (operand_on (whole ρ text at to)) ≡ length room

-- ---- brackets

-- what stands in brackets that open here: eps where nothing does, else its items
abbrev pub inside_in : Fill → List ℕ → List ℕ
inside_in s room = pick s.bare (7000 ∷ drop s.at room) (item_in s room)

abbrev pub inside_owed : Fill → ℕ
inside_owed s = pick s.bare 1 (owing s)

abbrev pub starred_of : Fill → Fill
starred_of s = record { at = s.at; stars = s.stars + 1; operand = s.operand; item = s.item; functor = false; bare = false; depth = s.depth; frames = s.frames }

abbrev pub free_of : ℕ → ℕ → ℕ → Fill
free_of at depth frames = record { at = at; stars = 0; operand = false; item = false; functor = true; bare = false; depth = depth; frames = frames }

-- out of brackets: what was owed before them is owed again
pub record Released (s : Fill) (at : ℕ) (depths owed : List ℕ) (r : Fill) : Type 0 where
  pub place : r.at ≡ at
  pub same : (room : List ℕ) → seen r room depths owed ≡ released (drop at room) (s.depth - 1) (frames_in depths owed s.frames)

-- into brackets: what is owed is kept aside
pub record Enclosed (s : Fill) (depths owed : List ℕ) (r : Fill) (depths' owed' : List ℕ) : Type 0 where
  pub place : r.at ≡ s.at
  pub len-depths : length depths' ≡ length depths
  pub len-owed : length owed' ≡ length owed
  pub same : (room : List ℕ) → seen r room depths' owed' ≡ enclosed (seen s room depths owed)

-- room for what a character writes
pub record Space (L : Limits) (m : Mark) (s : Fill) (room depths owed : List ℕ) (most : ℕ) : Type 0 where
  pub high : s.at ≤ length room
  pub short : length room ≤ L.question + 1
  pub enough : owing s ≤ s.at
  pub inside : m ≡ Opens → inside_owed s ≤ s.at
  pub depth : s.depth < most
  pub few : (s.frames ≤ length depths) × (s.frames ≤ length owed)
  pub another : (code_of s.stars s.operand s.item ≡ 0 → ⊥) → (s.frames < length depths) × (s.frames < length owed)

-- a symbol by the number of its name
pub record Named (L : Limits) (text names : List ℕ) (at : ℕ) (s : Fill) (room : List ℕ) (r : Fill) (room' : List ℕ) : Type 0 where
  pub high : r.at ≤ length room
  pub len : length room' ≡ length room
  pub frames : r.frames ≡ s.frames
  pub same : (depths owed : List ℕ) → seen r room' depths owed ≡ turn (numbering L text names) (name_token (name_at text at)) (seen s room depths owed)

-- the name that stands first of the bytes between two places
pub record NameSpace (L : Limits) (text names : List ℕ) (at to : ℕ) (s : Fill) (room : List ℕ) : Type 0 where
  pub low : at ≤ to
  pub high : to ≤ length text
  pub ends : begins_name (drop to text) ≡ false
  pub shelves : Shelves L names
  pub place : s.at ≤ length room
  pub enough : begins_name (between at to text) ≡ true → one-if (not s.functor) + 1 ≤ s.at

pub record NameTaken (L : Limits) (text names : List ℕ) (at to : ℕ) (s : Fill) (room : List ℕ) (r : Fill) (room' : List ℕ) : Type 0 where
  pub high : r.at ≤ length room
  pub len : length room' ≡ length room
  pub frames : r.frames ≡ s.frames
  pub same : (depths owed : List ℕ) → seen r room' depths owed ≡ taken (numbering L text names) (between at to text) (seen s room depths owed)
