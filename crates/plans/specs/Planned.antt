-- What a plan promises: its results are the words of the rule's results, each in its place.
use Rattle.std.specs.Prelude.{ℕ, ◌≡◌, List}
use Rattle.std.proofs.Math.Option.{some}
use Rattle.language.specs.Trees.{Conj}
use Rattle.rules.specs.Rules.{Branch, Answer}
use Rattle.plans.specs.declared.Plan.{Plan}
use Rattle.plans.specs.Results.{results_of}
use Rattle.plans.specs.Sizes.{placed_words}

pub record Planned (k : List ℕ) (p : Plan) (before behind : Conj) (a : Answer) : Type 0 where
  pub results : (bs : List Branch) → a ≡ some bs → results_of k p ≡ placed_words before behind bs
