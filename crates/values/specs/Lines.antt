-- A line in words, and what is found in it of a variable.
use Rattle.std.specs.Prelude.{ℕ, ◌+◌, ◌≡◌, List, [], ◌∷◌, ◌++◌, length, Some, None}
use Rattle.std.specs.Prelude as std
use Rattle.std.proofs.Math.Option.{Option, none, some}
use Rattle.language.specs.Limits.{desk}
use Rattle.language.specs.Trees.{Expr, Literal, Conj, Var, tv, hv, fv}
use Rattle.language.specs.Writing.{conj_words}
use Rattle.language.specs.Fine.{fine_conj}
use Rattle.rules.specs.Solved.{solves}
use Rattle.rules.specs.Example.{expression_of, binds, bound}
use Rattle.views.specs.Variables.{variable_word, fine_var}
use Rattle.views.specs.Standing.{LiteralAt}
use Rattle.expressions.specs.Standing.{Here}
use Rattle.values.specs.declared.Variable.{Variable}
use Rattle.values.specs.declared.Variable.TheVariants.{Term, Run, Function}

-- k are the words of c
pub record Line (k : List ℕ) (c : Conj) : Type 0 where
  pub words : k ≡ conj_words c
  pub fine : fine_conj desk c

-- a variable of the trees, as the code holds it
abbrev pub var_of : Variable → Var
var_of (Term x) = tv x
var_of (Run p) = hv p
var_of (Function X) = fv X

-- x is v, whose number a word can have
pub record Named (v : Var) (x : Variable) : Type 0 where
  pub fine : fine_var desk v
  pub is : var_of x ≡ v

-- x is the word of v
pub record Word (v : Var) (x : ℕ) : Type 0 where
  pub fine : fine_var desk v
  pub is : x ≡ variable_word v

-- R is v's expression, and stands at e
pub record Found (k : List ℕ) (e : ℕ) (m : Option Expr) : Type 0 where
  pub R : Expr
  pub beyond : List ℕ
  pub is : m ≡ some R
  pub here : Here k e R beyond

-- at the first of some literals: the place of v's expression, or 0 where it is not there
pub record Told (k : List ℕ) (l : Literal) (behind : Conj) (v : Var) (r : ℕ) : Type 0 where
  pub missing : r ≡ 0 → expression_of v (l ∷ behind) ≡ expression_of v behind
  pub there : (r ≡ 0 → ⊥) → Found k r (expression_of v (l ∷ behind))

-- the place of v's expression
pub data Expressed (k : List ℕ) (c : Conj) (v : Var) : std.Option ℕ → Type 0 where
  expressed : {e : ℕ} → Found k e (expression_of v c) → Expressed k c v (Some e)
  unexpressed : expression_of v c ≡ none → Expressed k c v None

-- the place of the first literal that holds v
pub data Held (k : List ℕ) (c : Conj) (v : Var) : std.Option ℕ → Type 0 where
  held : {at : ℕ} (before : Conj) (l : Literal) (behind : Conj) → LiteralAt k at before l behind → bound v [] c ≡ binds v (solves (before ++ behind) l) → Held k c v (Some at)
  unheld : bound v [] c ≡ none → Held k c v None

-- a walk from literal to literal, come to `at`: c is what is passed and what is still to come, of which P holds
pub record Walk (k : List ℕ) (at : ℕ) (c : Conj) (P : Conj → Conj → Type 0) : Type 0 where
  pub before : Conj
  pub behind : Conj
  pub split : c ≡ before ++ behind
  pub place : at ≡ length (conj_words before)
  pub kept : P before behind
