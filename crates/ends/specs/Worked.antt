-- The measure on the way of a conjunction, as long as each step has one result.
use Rattle.std.specs.Prelude.{ℕ, zero, suc, List, [], ◌∷◌}
use Rattle.language.specs.declared.Signature.{Signature}
use Rattle.language.specs.Trees.{Conj, Var}
use Rattle.rules.specs.Reply.{Reply, nothing, results, stops}
use Rattle.ends.specs.Measure.{unsettled, hedges, rest}
use Rattle.ends.specs.Unlimited.{free_step}

pub record Measured : Type 0 where
  pub unsettled_variables : ℕ
  pub hedges_weight : ℕ
  pub rest_weight : ℕ

abbrev pub measured : List Var → Conj → Measured
measured vs k = record { unsettled_variables = unsettled vs k; hedges_weight = hedges k; rest_weight = rest k }

abbrev pub onward : Reply (List Conj) → (Conj → List Measured) → List Measured
onward nothing go = []
onward (stops r) go = []
onward (results []) go = []
onward (results (k ∷ [])) go = go k
onward (results (k ∷ j ∷ ks)) go = []

-- of the conjunction and of what becomes of it, so many at most
abbrev pub measures : ℕ → Signature → List Var → Conj → List Measured
measures zero σ vs k = []
measures (suc n) σ vs k = measured vs k ∷ onward (free_step σ k) (measures n σ vs)
