-- What the clash makes of worked pairs of memberships, by computation: each sentence of the request, and the limit on both sides.
use Prim.Native.Nat.{ℕ}
use mathlib.Core.Path.{◌≡◌, refl}
use mathlib.Core.List.{List, [], ◌∷◌}
use lib.Dec.{eqb}
use Rattle.language.specs.declared.Refusal.TheVariants.{LongWalk}
use Rattle.language.specs.Trees.{Hedge, Expr, eps, cat, alt, star, over, eqn, mem, Conj}
use Rattle.rules.specs.Reply.{Reply, nothing, results, stops}
use Rattle.rules.specs.Walk.{reached, long_walk, shared, common_hedge, common_term}
use Rattle.rules.specs.Clash.{Unordered, all_ordered, ClashBy}
use Rattle.rules.specs.Table.{x, p, q, aᴱ, bᴱ, fᴱ}

abbrev cᴱ : Expr
cᴱ = over (record { 0 = 3 }) eps

-- h in R, h in S, with all symbols ordered and room for so many pairs
abbrev within : ℕ → Hedge → Expr → Expr → Reply (List Conj)
within limit h R S = ClashBy limit all_ordered (mem h R) (mem h S ∷ [])

-- enough for each of these
abbrev plenty : ℕ
plenty = 30

-- f is unordered
abbrev of_f : Unordered
of_f g = eqb g.0 2

-- "no term (or hedge, for a hedge variable) lies in both": ε is a hedge and no term; (a·a)* and a·(a·a)* clash, (a·a)* and a* do not; what is inside a
-- term counts, and what follows it
pub what-lies-in-both :
    (within plenty p (star aᴱ) (star bᴱ) ≡ nothing)
    × (within plenty x (star aᴱ) (star bᴱ) ≡ results [])
    × (within plenty p (star (cat aᴱ aᴱ)) (cat aᴱ (star (cat aᴱ aᴱ))) ≡ results [])
    × (within plenty p (star (cat aᴱ aᴱ)) (star aᴱ) ≡ nothing)
    × (within plenty x (star (cat aᴱ aᴱ)) (star aᴱ) ≡ results [])
    × (within plenty p (cat (star (alt aᴱ bᴱ)) aᴱ) (cat (star (alt aᴱ bᴱ)) bᴱ) ≡ results [])
    × (within plenty x (fᴱ aᴱ) (fᴱ bᴱ) ≡ results [])
    × (within plenty x (fᴱ (star aᴱ)) (fᴱ (star bᴱ)) ≡ nothing)
    × (within plenty p (cat aᴱ bᴱ) (cat aᴱ cᴱ) ≡ results [])
    × (within plenty p (cat (fᴱ aᴱ) bᴱ) (cat (fᴱ bᴱ) bᴱ) ≡ results [])
unfolding reached long_walk shared common_hedge common_term
what-lies-in-both = (refl, refl, refl, refl, refl, refl, refl, refl, refl, refl)

-- "Pairs that mention an unordered symbol are passed over: there f(a·b) and f(b·a) share a member", and they are not walked
pub unordered-passed-over :
    (ClashBy plenty all_ordered (mem x (fᴱ (cat aᴱ bᴱ))) (mem x (fᴱ (cat bᴱ aᴱ)) ∷ []) ≡ results [])
    × (ClashBy plenty of_f (mem x (fᴱ (cat aᴱ bᴱ))) (mem x (fᴱ (cat bᴱ aᴱ)) ∷ []) ≡ nothing)
    × (ClashBy plenty of_f (mem p (cat aᴱ (star (alt bᴱ (fᴱ eps))))) (mem p bᴱ ∷ []) ≡ nothing)
    × (ClashBy plenty of_f (mem p bᴱ) (mem p (cat aᴱ (star (alt bᴱ (fᴱ eps)))) ∷ []) ≡ nothing)
    × (ClashBy 0 of_f (mem p bᴱ) (mem p (fᴱ eps) ∷ []) ≡ nothing)
    × (ClashBy plenty of_f (mem x aᴱ) (mem x bᴱ ∷ []) ≡ results [])
unfolding reached long_walk shared common_hedge common_term
unordered-passed-over = (refl, refl, refl, refl, refl, refl)

-- "21 when a walk reaches more": a*·b and a*·b·c reach their own pair, (eps, eps) and (eps, c); a* and a*, which share a hedge, their own and (eps, eps)
pub long-walks :
    (within 3 p (cat (star aᴱ) bᴱ) (cat (star aᴱ) (cat bᴱ cᴱ)) ≡ results [])
    × (within 2 p (cat (star aᴱ) bᴱ) (cat (star aᴱ) (cat bᴱ cᴱ)) ≡ stops LongWalk)
    × (within 2 p (star aᴱ) (star aᴱ) ≡ nothing)
    × (within 1 p (star aᴱ) (star aᴱ) ≡ stops LongWalk)
    × (within 1 x aᴱ bᴱ ≡ results [])
unfolding reached long_walk shared common_hedge common_term
long-walks = (refl, refl, refl, refl, refl)

-- "Only pairs are looked at, in the order of their literals, until one clashes": of the same variable, which stands alone; three that agree two by two
-- are left, and one that agrees with the next may clash with a later one; a clash before a walk too long, and a walk too long before a clash
pub pairs-in-order :
    (ClashBy plenty all_ordered (mem x aᴱ) (mem p bᴱ ∷ eqn x q ∷ mem q bᴱ ∷ []) ≡ nothing)
    × (ClashBy plenty all_ordered (mem p aᴱ) (mem x bᴱ ∷ eqn p q ∷ mem p bᴱ ∷ []) ≡ results [])
    × (ClashBy plenty all_ordered (mem p (alt aᴱ bᴱ)) (mem p (alt bᴱ cᴱ) ∷ mem p (alt aᴱ cᴱ) ∷ []) ≡ nothing)
    × (ClashBy plenty all_ordered (mem p (alt aᴱ bᴱ)) (mem p (alt bᴱ cᴱ) ∷ mem p cᴱ ∷ []) ≡ results [])
    × (ClashBy 1 all_ordered (mem p aᴱ) (mem p bᴱ ∷ mem p (cat aᴱ bᴱ) ∷ []) ≡ results [])
    × (ClashBy 1 all_ordered (mem p aᴱ) (mem p (cat aᴱ bᴱ) ∷ mem p bᴱ ∷ []) ≡ stops LongWalk)
unfolding reached long_walk shared common_hedge common_term
pairs-in-order = (refl, refl, refl, refl, refl, refl)
