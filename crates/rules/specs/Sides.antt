-- What is said of a rule wherever it applies, first or not, to an equation as it is written or with its sides swapped.
use Rattle.std.specs.Prelude.{◌≡◌, Bool, List, ◌∷◌, ◌++◌}
use Rattle.language.specs.Trees.{Literal, Conj}
use Rattle.rules.specs.Reply.{nothing, results}
use Rattle.rules.specs.Rules.{Rule}
use Rattle.rules.specs.Step.{results_at}

-- P of a conjunction and of the rule's results at each of its literals and on each side that the rule applies to
abbrev pub AtSides : (Conj → List Conj → Type 0) → Rule → Type 0
AtSides P rule =
    (swap : Bool) (before : Conj) (l : Literal) (behind : Conj) (ks : List Conj) → results_at swap rule before l behind ≡ results ks → P (before ++ (l ∷ behind)) ks

-- the rule applies at none of the literals of k
abbrev pub Idle : Conj → Rule → Type 0
Idle k rule = (swap : Bool) (before : Conj) (l : Literal) (behind : Conj) → k ≡ before ++ (l ∷ behind) → results_at swap rule before l behind ≡ nothing
