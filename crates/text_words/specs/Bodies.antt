-- The words of a text's lines from a place on, and where each conjunction ends from word 6 on.
use Rattle.std.specs.Prelude.{ℕ, ◌+◌, ◌<◌, ◌≤◌, min, ◌≡◌, Bool, true, false, ◌&&◌, List, [], ◌∷◌, map, leb, ltb, length, set, replicate, Some, None}
use Rattle.std.specs.Prelude as std
use Rattle.std.proofs.Math.Option.{Option, none, some}
use Rattle.std.proofs.lemmas.List.Edits.{sets}
use Rattle.language.specs.Limits.{Limits}
use Rattle.language.specs.Kinds.{pick}
use Rattle.language.specs.Trees.{Conj}
use Rattle.language.specs.Writing.{conj_words}
use Rattle.grammar.specs.Tokens.{Token}
use Rattle.grammar.specs.Grammar.{Line, Lines, lines_of}
use Rattle.meaning.specs.Values.{joined}
use Rattle.texts.specs.Texts.{parse}
use Rattle.texts.specs.Numbering.{Naming, name_conj, name_all}
use Rattle.lexing.specs.Pieces.{here}
use Rattle.text_names.specs.Shelves.{Shelves}
use Rattle.room_words.specs.Rooms.{Wrote}
use Rattle.text_survey.specs.Surveys.{survey_of}
use Rattle.text_words.specs.declared.Took.{Took}

-- the words of each conjunction
abbrev pub words_of : Naming → List Conj → List (List ℕ)
words_of ρ ks = map conj_words (name_all ρ ks)

-- the offsets behind the first
abbrev pub ends_of : ℕ → List (List ℕ) → List ℕ
ends_of at [] = []
ends_of at (ws ∷ wss) = (at + length ws) ∷ ends_of (at + length ws) wss

-- a line that has a token, and what was taken of it
abbrev pub LineRead : Naming → List ℕ → List ℕ → ℕ → ℕ → ℕ → List ℕ → Took → Type 0
LineRead ρ text room at i k room' t = (c : Conj) × (ts : List Token) × (room₁ : List ℕ) × (here text at ≡ some ts) × Line c ts × (t.i ≡ i + 1) × Wrote room k (conj_words (name_conj ρ c)) t.n room₁ × (room' ≡ set room₁ i t.n)

-- a line, taken where it has a token
pub record LineTook (ρ : Naming) (text room : List ℕ) (at i k : ℕ) (has : Bool) (r : std.Option Took) (room' : List ℕ) : Type 0 where
  pub fits : (t : Took) → r ≡ Some t → t.n ≤ length room
  pub len : length room' ≡ length room
  pub blank : has ≡ false → (r ≡ Some (record { i = i; n = k })) × (room' ≡ room)
  pub good : has ≡ true → (t : Took) → r ≡ Some t → LineRead ρ text room at i k room' t
  pub bad : has ≡ true → r ≡ None → (c : Conj) (ts : List Token) → here text at ≡ some ts → Line c ts → ⊥

-- where the words end that begin at `first`
abbrev pub end_in : Naming → List ℕ → ℕ → List Conj → ℕ
end_in ρ room first ks = min (length room) (first + length (joined (words_of ρ ks)))

-- the offsets, and the words
abbrev pub body_in : Naming → List ℕ → ℕ → List Conj → List ℕ
body_in ρ room first ks = sets (sets room 6 (ends_of first (words_of ρ ks))) first (joined (words_of ρ ks))

-- these, where there is room for them and for the offsets before them
pub record Body (ρ : Naming) (room : List ℕ) (first : ℕ) (ks : List Conj) (n : ℕ) (room' : List ℕ) : Type 0 where
  pub place : n ≡ min (length room) (first + length (joined (words_of ρ ks)))
  pub words : 6 + length ks ≤ first → first + length (joined (words_of ρ ks)) < length room → room' ≡ sets (sets room 6 (ends_of first (words_of ρ ks))) first (joined (words_of ρ ks))

-- all lines, and what was taken of them
abbrev pub LinesRead : Naming → List ℕ → List ℕ → ℕ → List ℕ → Took → Type 0
LinesRead ρ text room first room' t = (ks : List Conj) × Lines ks (lines_of text) × Body ρ room first ks t.n room' × (t.i ≡ 6 + length ks)

-- what the loop over the lines leaves
pub record Looped (ρ : Naming) (text room : List ℕ) (first : ℕ) (r : std.Option Took) (room' : List ℕ) : Type 0 where
  pub len : length room' ≡ length room
  pub good : (t : Took) → r ≡ Some t → LinesRead ρ text room first room' t
  pub bad : r ≡ None → (ks : List Conj) → Lines ks (lines_of text) → ⊥

-- ---- what is left in the end

abbrev pub cleared : List ℕ → List ℕ
cleared room = replicate (length room) 0

-- the offsets stand before the words, and there was room for all of these
unfoldable pub kept_of : ℕ → ℕ → ℕ → ℕ → Bool
kept_of i n first most = leb i first && ltb n most

abbrev pub Left : Type 0
Left = std.Option ℕ × List ℕ

abbrev pub leaves : std.Option ℕ → List ℕ → Left
leaves r room = (r, room)

abbrev pub written_of : Naming → List ℕ → ℕ → Option (List Conj) → Left
written_of ρ room first none = leaves None (cleared room)
written_of ρ room first (some ks) = leaves (Some (end_in ρ room first ks)) (pick (kept_of (6 + length ks) (end_in ρ room first ks) first (length room)) (body_in ρ room first ks) (cleared room))

pub record ReadBody (ρ : Naming) (text room : List ℕ) (first : ℕ) (r : std.Option ℕ) (room' : List ℕ) : Type 0 where
  pub len : length room' ≡ length room
  pub good : (n : ℕ) → r ≡ Some n → (ks : List Conj) × Lines ks (lines_of text) × Body ρ room first ks n room'
  pub bad : r ≡ None → (ks : List Conj) → Lines ks (lines_of text) → ⊥
  pub tells : ◌≡◌ {A = Left} (r, room') (written_of ρ room first (parse text))

-- ---- what is asked

pub record Lined (L : Limits) (text names room : List ℕ) (first : ℕ) : Type 0 where
  pub shelves : Shelves L names
  pub begun : 1 ≤ first
  pub place : first ≤ length room
  pub short : length room ≤ L.question + 1
  pub clean : (m : ℕ) × (survey_of (lines_of text) ≡ some m)
