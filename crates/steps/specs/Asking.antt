-- What a step is asked to have: a literal at its place, to which the rule of its rank applies.
use Rattle.std.specs.Prelude.{ℕ, ◌≡◌, List, ◌++◌}
use Rattle.std.proofs.Math.Option.{some}
use Rattle.language.specs.declared.Signature.{Signature}
use Rattle.language.specs.Trees.{Literal, Conj}
use Rattle.rules.specs.Reply.{results}
use Rattle.rules.specs.Rules.{Branch, Fold}
use Rattle.views.specs.Standing.{LiteralAt}
use Rattle.search.specs.declared.Best.{Best}
use Rattle.search.specs.Ranking.{side_answer, side_results}

-- a literal stands at the place of b, and the rule of its rank applies there from its side
pub record RuleAt (σ : Signature) (k : List ℕ) (b : Best) : Type 0 where
  pub before : Conj
  pub l : Literal
  pub behind : Conj
  pub made : List Conj
  pub stands : LiteralAt k b.at before l behind
  pub applies : side_results σ b.swap b.rank before l behind ≡ results made

-- the same of a rule of one literal, by what it answers
pub record AnswerAt (σ : Signature) (k : List ℕ) (b : Best) : Type 0 where
  pub before : Conj
  pub l : Literal
  pub behind : Conj
  pub branches : List Branch
  pub stands : LiteralAt k b.at before l behind
  pub answer : side_answer σ b.swap b.rank (before ++ behind) l ≡ some branches

-- the same of the fold
pub record FoldHere (k : List ℕ) (at : ℕ) : Type 0 where
  pub before : Conj
  pub l : Literal
  pub behind : Conj
  pub made : List Conj
  pub stands : LiteralAt k at before l behind
  pub applies : Fold l behind ≡ results made
