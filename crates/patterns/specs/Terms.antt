-- When words are exactly one term, without an end mark; and what it is to match one.
use Rattle.std.specs.Prelude.{ℕ, suc, ◌-◌, ◌≡◌, Bool, false, List, [], ◌∷◌, ◌++◌, eqb}
use Rattle.language.specs.declared.Kind.{Kind}
use Rattle.language.specs.declared.Kind.TheVariants.{End, Term, Run, Symbol, Function, Equation, Membership, Eps, Cat, Alt, Star, Other}
use Rattle.language.specs.Limits.{desk}
use Rattle.language.specs.Kinds.{pick, kind_of}
use Rattle.language.specs.declared.Signature.{Signature}
use Rattle.language.specs.Trees.{Hedge}
use Rattle.language.specs.Writing.{hedge_words}
use Rattle.language.specs.Fine.{fine_hedge}
use Rattle.meaning.specs.Complete.{Complete, Same}
use Rattle.meaning.specs.Meaning.{Filling, fill}

-- one word of a hedge, where so many hedges are not yet closed: how many are not closed after it, or that it cannot stand there
pub data Went : Type 0 where
  to : ℕ → Went
  out : Went

abbrev pub goes : ℕ → Kind → Went
goes depth End = to (depth - 1)
goes depth (Term x) = to depth
goes depth (Run p) = to depth
goes depth (Symbol f) = to (suc depth)
goes depth (Function X) = to (suc depth)
goes depth Equation = out
goes depth Membership = out
goes depth Eps = out
goes depth Cat = out
goes depth Alt = out
goes depth Star = out
goes depth Other = out

abbrev pub goes_on : (ℕ → Bool) → Went → Bool
goes_on rest (to depth) = rest depth
goes_on rest out = false

-- the words close so many hedges, the last of them with the last word
unfoldable pub closing : ℕ → List ℕ → Bool
closing depth [] = eqb depth 0
closing depth (w ∷ ws) = pick (eqb depth 0) false (goes_on (λ d. closing d ws) (goes depth (kind_of desk w)))

-- the first word of a term: a blank for a part is all of it, and a name is followed by its parts
abbrev pub begins : Kind → Went
begins (Term x) = to 0
begins (Symbol f) = to 1
begins (Function X) = to 1
begins (Run p) = out
begins End = out
begins Equation = out
begins Membership = out
begins Eps = out
begins Cat = out
begins Alt = out
begins Star = out
begins Other = out

-- "a pattern (one term)"
unfoldable pub one_term : List ℕ → Bool
one_term [] = false
one_term (w ∷ ws) = goes_on (λ d. closing d ws) (begins (kind_of desk w))

-- these words, and an end mark, are those of the hedge of that term
pub record Pattern (ws : List ℕ) (h : Hedge) : Type 0 where
  pub fine : fine_hedge desk h
  pub words : hedge_words h ≡ ws ++ (0 ∷ [])

-- A complete report matches a pattern if some filling makes the pattern the same report; which orders are the same, the signature says.
pub record Matches (σ : Signature) (ws : List ℕ) (report : Complete) : Type 0 where
  pub term : Hedge
  pub pattern : Pattern ws term
  pub filling : Filling
  pub same : Same σ (fill filling term) report
