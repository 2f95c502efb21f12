-- What stands in a conjunction's words: a hedge at a place, a literal between others.
use Rattle.std.specs.Prelude.{ℕ, ◌≡◌, List, ◌++◌, length, drop}
use Rattle.language.specs.Limits.{desk}
use Rattle.language.specs.Trees.{Hedge, Literal, Conj}
use Rattle.language.specs.Writing.{hedge_words, literal_words, conj_words}
use Rattle.language.specs.Fine.{fine_hedge, fine_literal, fine_conj}

-- the hedge h stands at i, and `beyond` are the words behind it
pub record Stands (k : List ℕ) (i : ℕ) (h : Hedge) (beyond : List ℕ) : Type 0 where
  pub fine : fine_hedge desk h
  pub here : drop i k ≡ hedge_words h ++ beyond

-- the literal l stands at `at` between the others
pub record LiteralAt (k : List ℕ) (at : ℕ) (before : Conj) (l : Literal) (behind : Conj) : Type 0 where
  pub words : k ≡ conj_words before ++ (literal_words l ++ conj_words behind)
  pub place : at ≡ length (conj_words before)
  pub fine_before : fine_conj desk before
  pub fine : fine_literal desk l
  pub fine_behind : fine_conj desk behind

-- some literal stands at `at`
pub record SomeLiteral (k : List ℕ) (at : ℕ) : Type 0 where
  pub before : Conj
  pub l : Literal
  pub behind : Conj
  pub stands : LiteralAt k at before l behind

-- the words are those of a conjunction
pub record Conjunction (k : List ℕ) : Type 0 where
  pub conj : Conj
  pub fine : fine_conj desk conj
  pub words : k ≡ conj_words conj
