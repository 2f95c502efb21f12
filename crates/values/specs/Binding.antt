-- What an equation binds a variable to, by the looks of its sides.
use Rattle.std.specs.Prelude.{ℕ, ◌+◌, ◌≡◌, List, length, Some, None}
use Rattle.std.specs.Prelude as std
use Rattle.std.proofs.Math.Option.{Option, none, some}
use Rattle.language.specs.Trees.{Hedge, Var}
use Rattle.language.specs.Writing.{hedge_words}
use Rattle.views.specs.Variables.{variable_word}
use Rattle.views.specs.Standing.{Stands}
use Rattle.values.specs.declared.bindings.Part.{Part}

-- the word of the variable that a side solves, or 0
abbrev pub sole_word : Option (Var × Hedge) → ℕ
sole_word none = 0
sole_word (some b) = variable_word b.0

-- b is where the hedge stands that a variable is bound to
pub data BoundBy (k : List ℕ) (m : Option Hedge) : std.Option Part → Type 0 where
  to : {p : Part} (h : Hedge) (beyond : List ℕ) → m ≡ some h → Stands k p.from h beyond → p.to ≡ p.from + length (hedge_words h) → BoundBy k m (Some p)
  free : m ≡ none → BoundBy k m None
