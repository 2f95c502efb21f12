-- What is read of a line: a conjunction, its words, and where the line ends; or that it is none.
use Rattle.std.specs.Prelude.{ℕ, ◌<◌, ◌≤◌, ◌≡◌, true, false, List, [], ◌∷◌, length, drop, get_or}
use Rattle.std.proofs.Math.Option.{some}
use Rattle.language.specs.Trees.{Conj}
use Rattle.language.specs.Writing.{conj_words}
use Rattle.grammar.specs.Tokens.{Token, opens, closes}
use Rattle.grammar.specs.Grammar.{Literals, Line}
use Rattle.texts.specs.Numbering.{Naming, name_conj}
use Rattle.lexing.specs.declared.Mark.{Mark}
use Rattle.lexing.specs.declared.Mark.TheVariants.{End, Bad, Symbol, One, Run, Function, Equals, Comma, Opens, Closes, Plus, Times}
use Rattle.lexing.specs.Bytes.{others}
use Rattle.lexing.specs.Pieces.{here}
use Rattle.walking.specs.declared.Way.{Way}
use Rattle.room_words.specs.Rooms.{Wrote}

-- the end of a line, a bracket that opens, one that closes; anything else
abbrev pub turn_of : Mark → ℕ
turn_of End = 1
turn_of Bad = 0
turn_of Symbol = 0
turn_of One = 0
turn_of Run = 0
turn_of Function = 0
turn_of Equals = 0
turn_of Comma = 0
turn_of Opens = 2
turn_of Closes = 3
turn_of Plus = 0
turn_of Times = 0

-- two brackets and nothing else
pub record Nothing (text : List ℕ) (at : ℕ) (r : Way) : Type 0 where
  pub low : at ≤ r.at
  pub high : r.at ≤ length text
  pub same : r.ok ≡ true → others (drop at text) ≡ others (drop r.at text)
  pub ends : r.ok ≡ true → r.at < length text → get_or text r.at 0 ≡ 10
  pub good : r.ok ≡ true → here text at ≡ some (opens ∷ closes ∷ [])
  pub bad : r.ok ≡ false → here text at ≡ some (opens ∷ closes ∷ []) → ⊥

pub record ReadLiterals (ρ : Naming) (text room : List ℕ) (at n : ℕ) (r : Way) (room' : List ℕ) : Type 0 where
  pub low : at ≤ r.at
  pub high : r.at ≤ length text
  pub same : r.ok ≡ true → others (drop at text) ≡ others (drop r.at text)
  pub fits : r.n ≤ length room
  pub len : length room' ≡ length room
  pub ends : r.ok ≡ true → r.at < length text → get_or text r.at 0 ≡ 10
  pub good : r.ok ≡ true → (k : Conj) × (ts : List Token) × (here text at ≡ some ts) × Literals k ts × Wrote room n (conj_words (name_conj ρ k)) r.n room'
  pub bad : r.ok ≡ false → (k : Conj) (ts : List Token) → here text at ≡ some ts → Literals k ts → ⊥

pub record ReadLine (ρ : Naming) (text room : List ℕ) (at n : ℕ) (r : Way) (room' : List ℕ) : Type 0 where
  pub low : at ≤ r.at
  pub high : r.at ≤ length text
  pub same : r.ok ≡ true → others (drop at text) ≡ others (drop r.at text)
  pub fits : r.n ≤ length room
  pub len : length room' ≡ length room
  pub ends : r.ok ≡ true → r.at < length text → get_or text r.at 0 ≡ 10
  pub good : r.ok ≡ true → (k : Conj) × (ts : List Token) × (here text at ≡ some ts) × Line k ts × Wrote room n (conj_words (name_conj ρ k)) r.n room'
  pub bad : r.ok ≡ false → (k : Conj) (ts : List Token) → here text at ≡ some ts → Line k ts → ⊥
