-- What a rank promises, and E5's test.
use Rattle.std.specs.Prelude.{ℕ, ◌≡◌, Bool, true, false, not, ◌&&◌, ◌||◌, List, ◌++◌}
use Rattle.language.specs.declared.Signature.{Signature}
use Rattle.language.specs.Trees.{Functor, symbol, fvar, Hedge, ε, tvar, hvar, node, Conj, fv, in_conj}
use Rattle.views.specs.declared.View.{View}
use Rattle.views.specs.Views.{Sees}
use Rattle.counts.specs.Tables.{Beside}
use Rattle.equations.specs.Rank.{rank_of}

-- n is the rank of the equation that the view shows; the table has the counts of its conjunction
abbrev pub RanksBy : Signature → List ℕ → List ℕ → View → Hedge → Hedge → ℕ → Type 0
RanksBy σ k table v l r n = (before behind : Conj) → Sees k v before l r behind → Beside table (before ++ behind) l r → n ≡ rank_of σ (before ++ behind) l r

-- it is so whatever symbols are unordered
abbrev pub Ranks : List ℕ → List ℕ → View → Hedge → Hedge → ℕ → Type 0
Ranks k table v l r n = (σ : Signature) → RanksBy σ k table v l r n

abbrev pub is_blank : Functor → Bool
is_blank (symbol f) = false
is_blank (fvar X) = true

-- a function variable that is in K
abbrev pub blank_in : Functor → Conj → Bool
blank_in (symbol f) K = false
blank_in (fvar X) K = in_conj (fv X) K

-- E5: X in K, and a variable F too
abbrev pub blanks_in : Functor → Functor → Conj → Bool
blanks_in F G K = blank_in F K && (not (is_blank G) || blank_in G K)

-- a hedge that begins with a term
abbrev pub Begins : Hedge → Type 0
Begins ε = ⊥
Begins (tvar x r) = Unit {0}
Begins (hvar p r) = ⊥
Begins (node f c r) = Unit {0}
