-- The elements of a hedge, its terms and hedge variables: what two hedges share, and the orders of one.
use Rattle.std.specs.Prelude.{ℕ, zero, suc, ◌*◌, Bool, true, false, List, [], ◌∷◌, ◌++◌, map}
use Rattle.std.proofs.Math.Option
use Rattle.std.proofs.Math.Option.{Option, none, some}
use Rattle.language.specs.Kinds.{pick}
use Rattle.language.specs.Trees.{Hedge, ε, tvar, hvar, node, ◌⧺◌, same_words}
use Rattle.rules.specs.Looks.{onto}

-- ---- shared

-- h without its first element of the same words as e
abbrev pub without : Hedge → Hedge → Option Hedge
without e ε = none
without e (tvar x r) = pick (same_words e (tvar x ε)) (some r) (Option.map (tvar x) (without e r))
without e (hvar p r) = pick (same_words e (hvar p ε)) (some r) (Option.map (hvar p) (without e r))
without e (node f c r) = pick (same_words e (node f c ε)) (some r) (Option.map (node f c) (without e r))

-- l and what the other is without an element, where it has it; or what else there is
abbrev pub or_struck : Hedge → Option Hedge → Option (Hedge × Hedge) → Option (Hedge × Hedge)
or_struck l (some r) m = some (l, r)
or_struck l none m = m

-- both without "the first shared element, earliest in the left side, then in the right"
abbrev pub struck : Hedge → Hedge → Option (Hedge × Hedge)
struck ε k = none
struck (tvar x r) k = or_struck r (without (tvar x ε) k) (onto (tvar x) (struck r k))
struck (hvar p r) k = or_struck r (without (hvar p ε) k) (onto (hvar p) (struck r k))
struck (node f c r) k = or_struck r (without (node f c ε) k) (onto (node f c) (struck r k))

abbrev pub is_none : {A : Type 0} → Option A → Bool
is_none none = true
is_none (some a) = false

-- "Two hedges are disjoint if they do not share a common element."
abbrev pub disjoint : Hedge → Hedge → Bool
disjoint h k = is_none (struck h k)

-- ---- in any order

-- each element in turn, alone, and what is left without it
abbrev pub drawn : Hedge → List (Hedge × Hedge)
drawn ε = []
drawn (tvar x r) = (tvar x ε, r) ∷ map (λ (a : Hedge × Hedge). (a.0, tvar x a.1)) (drawn r)
drawn (hvar p r) = (hvar p ε, r) ∷ map (λ (a : Hedge × Hedge). (a.0, hvar p a.1)) (drawn r)
drawn (node f c r) = (node f c ε, r) ∷ map (λ (a : Hedge × Hedge). (a.0, node f c a.1)) (drawn r)

-- all that g makes of each
abbrev pub spread : {A B : Type 0} → (A → List B) → List A → List B
spread g [] = []
spread g (x ∷ xs) = g x ++ spread g xs

-- how many elements
abbrev pub width : Hedge → ℕ
width ε = zero
width (tvar x r) = suc (width r)
width (hvar p r) = suc (width r)
width (node f c r) = suc (width r)

-- n elements of h in each order: first those that begin with the first element, and so on
abbrev pub orders_of : ℕ → Hedge → List Hedge
orders_of zero h = ε ∷ []
orders_of (suc n) h = spread (λ (a : Hedge × Hedge). map (◌⧺◌ a.0) (orders_of n a.1)) (drawn h)

-- how many orders n elements have
abbrev pub factorial : ℕ → ℕ
factorial zero = 1
factorial (suc n) = suc n * factorial n

-- perm(T), "in dictionary order of positions, equal results kept"
unfoldable pub orders : Hedge → List Hedge
orders h = orders_of (width h) h
