-- The rule of a place in the list at a literal that stands between the others.
use Rattle.std.specs.Prelude.{ℕ, zero, suc, ◌≡◌, Bool, true, false, not, ◌&&◌, List, [], ◌∷◌}
use Rattle.language.specs.declared.Signature.{Signature}
use Rattle.language.specs.Trees.{Literal, Conj}
use Rattle.rules.specs.Reply.{Reply, nothing, results, stops}
use Rattle.rules.specs.Rules.{Rule, rules}
use Rattle.rules.specs.Step.{results_at}
use Rattle.views.specs.Standing.{LiteralAt}
use Rattle.folding.specs.Twice.{again}

-- it comes to results
abbrev pub makes : Reply (List Conj) → Bool
makes nothing = false
makes (results ks) = true
makes (stops r) = false

abbrev pub place_at : List Rule → ℕ → Bool → Conj → Literal → Conj → Reply (List Conj)
place_at [] n swap before l behind = nothing
place_at (rule ∷ rs) n swap before l behind = elim n [ ℕ.zero ↦ results_at swap rule before l behind | ℕ.suc m ↦ place_at rs m swap before l behind ]

-- what the rule of place n comes to
unfoldable pub named_at : Signature → Bool → ℕ → Conj → Literal → Conj → Reply (List Conj)
named_at σ swap n before l behind = place_at (rules σ) n swap before l behind

-- as it is written, the literal stands again behind itself
abbrev pub Folds : List ℕ → ℕ → Bool → Bool → Type 0
Folds k at swap b = (before : Conj) (l : Literal) (behind : Conj) → LiteralAt k at before l behind → b ≡ (not swap && again l behind)
