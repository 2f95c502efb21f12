-- What is read of a literal in a text, by the grammar: that it is one, its words, and where it ends; or that none stands there.
use Rattle.std.specs.Prelude.{ℕ, ◌+◌, ◌≤◌, ◌≡◌, Bool, true, false, ◌&&◌, List, eqb, length, drop}
use Rattle.std.proofs.Math.Option.{some}
use Rattle.language.specs.Limits.{Limits}
use Rattle.language.specs.Writing.{hedge_words, expr_words, literal_words}
use Rattle.grammar.specs.Tokens.{Token}
use Rattle.grammar.specs.Grammar.{begins, Spells, choice, Means, in_sym, Says}
use Rattle.texts.specs.Numbering.{Naming, name_hedge, name_expr, name_literal}
use Rattle.lexing.specs.declared.Mark.{Mark}
use Rattle.lexing.specs.declared.Mark.TheVariants.{End, Bad, Symbol, One, Run, Function, Equals, Comma, Opens, Closes, Plus, Times}
use Rattle.lexing.specs.Bytes.{others, sort_of}
use Rattle.lexing.specs.Pieces.{here}
use Rattle.text_names.specs.Shelves.{name_at, Shelves}
use Rattle.walking.specs.declared.Way.{Way}
use Rattle.room_words.specs.Rooms.{Wrote}
use Rattle.backwards.proofs.Cutting.{Over}

-- ---- the token behind

-- it ends a literal: a comma, the end of the line
abbrev pub over_of : Mark → Bool
over_of End = true
over_of Bad = false
over_of Symbol = false
over_of One = false
over_of Run = false
over_of Function = false
over_of Equals = false
over_of Comma = true
over_of Opens = false
over_of Closes = false
over_of Plus = false
over_of Times = false

abbrev pub equals_of : Mark → Bool
equals_of End = false
equals_of Bad = false
equals_of Symbol = false
equals_of One = false
equals_of Run = false
equals_of Function = false
equals_of Equals = true
equals_of Comma = false
equals_of Opens = false
equals_of Closes = false
equals_of Plus = false
equals_of Times = false

-- the word `in`
unfoldable pub in_name : List ℕ → ℕ → Bool
in_name text at = eqb (name_at text at) in_sym.0

unfoldable pub in_of : List ℕ → Mark → ℕ → Bool
in_of text m at = eqb (sort_of m) 1 && in_name text at

-- ---- a part that stands at a place, up to one that ends it

pub record Read {A : Type 0} (Is : A → List Token → List Token → Type 0) (words : A → List ℕ) (text room : List ℕ) (at n : ℕ) (r : Way) (room' : List ℕ) : Type 0 where
  pub low : at ≤ r.at
  pub high : r.at ≤ length text
  pub same : others (drop at text) ≡ others (drop r.at text)
  pub fits : r.n ≤ length room
  pub len : length room' ≡ length room
  pub good : r.ok ≡ true → (a : A) × (ts : List Token) × (us : List Token) × (here text at ≡ some ts) × (here text r.at ≡ some us) × Is a ts us × Over us × Wrote room n (words a) r.n room'
  pub bad : r.ok ≡ false → (a : A) (ts us : List Token) → here text at ≡ some ts → Is a ts us → Over us → ⊥

abbrev pub ReadSide : Naming → List ℕ → List ℕ → ℕ → ℕ → Way → List ℕ → Type 0
ReadSide ρ = Read (Spells (begins false)) (λ h. hedge_words (name_hedge ρ h))

abbrev pub ReadExpression : Naming → List ℕ → List ℕ → ℕ → ℕ → Way → List ℕ → Type 0
ReadExpression ρ = Read (Means choice) (λ R. expr_words (name_expr ρ R))

abbrev pub ReadLiteral : Naming → List ℕ → List ℕ → ℕ → ℕ → Way → List ℕ → Type 0
ReadLiteral ρ = Read Says (λ l. literal_words (name_literal ρ l))

-- ---- what they ask: a line that is all tokens, shelves of names, a room of the right length, and rows for brackets

pub record Start (L : Limits) (text names room : List ℕ) (at n : ℕ) : Type 0 where
  pub high : at ≤ length text
  pub shelves : Shelves L names
  pub begun : 1 ≤ n
  pub place : n ≤ length room
  pub short : length room ≤ L.question + 1
  pub clean : (ts : List Token) × (here text at ≡ some ts)
