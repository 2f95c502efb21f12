-- What each rule of equations makes of the words k, by the places of the view v. A plan says with numbers what the rule says with trees: the
-- others, copied or under the substitution, and between them the new equations. Where a rule looks into its sides, l and r say how far.
use Rattle.std.specs.Prelude.{ℕ, suc, ◌+◌, List, [], ◌∷◌, length, Option, Some, None}
use Rattle.std.proofs.Math.Option as maybe
use Rattle.std.proofs.Math.Option.{none, some}
use Rattle.language.specs.declared.Signature.{Signature}
use Rattle.language.specs.Trees.{Hedge, ε, tvar, hvar, node}
use Rattle.rules.specs.Looks.{up_to, inside}
use Rattle.rules.specs.Elements.{width}
use Rattle.rules.specs.Places.{at_r1, at_del1, at_del2, at_del3, at_d1, at_d2, at_d0, at_e1, at_e2, at_e3, at_e4, at_e5, at_e6, at_e7}
use Rattle.plans.specs.declared.Piece.TheVariants.{Word, Copy, Put, ToCut, PutFromCut, Ordered, Named}
use Rattle.plans.specs.declared.Ways.TheVariants.{One, Cuts, Orders, Names}
use Rattle.plans.specs.declared.Plan.{Plan}
use Rattle.views.specs.declared.View.{View}
use Rattle.plans.specs.declared.Within.{Within}
use Rattle.views.specs.Looks.{body_words}
use Rattle.plans.specs.Slots.{nothing, full_recipe, few_recipe, single, tabled, inner_of, children_of}
use Rattle.finds.specs.Walks.{size}
use Rattle.sharing.specs.declared.Spots.{Spots}
use Rattle.sharing.specs.Shared.{first_shared}

-- the part of each side between its first and its last word
abbrev pub left_inner : List ℕ → View → Within
left_inner k v = inner_of k v.l.from v.l.to

abbrev pub right_inner : List ℕ → View → Within
right_inner k v = inner_of k v.r.from v.r.to

-- R1: the literal is removed
abbrev pub r1_plan : View → Plan
r1_plan v = single (One 0) (few_recipe (Copy 0 v.at) (Copy v.end v.len) nothing nothing nothing 0 0 0)

-- Del1, D0: from..to = start..end stands for the literal
abbrev pub equated : View → ℕ → ℕ → ℕ → ℕ → Plan
equated v from to start end = single (One 0) (few_recipe (Copy 0 v.at) (Word 5000) (Copy from to) (Copy start end) (Copy v.end v.len) 0 0 0)

-- Del1: what follows the hedge variable on both sides
abbrev pub del1_plan : View → Plan
del1_plan v = equated v v.l.rest v.l.to v.r.rest v.r.to

-- D0: the children
abbrev pub d0_plan : List ℕ → View → Plan
d0_plan k v = equated v (left_inner k v).from (left_inner k v).to (right_inner k v).from (right_inner k v).to

-- Del2: both sides without the element that they share, which stands at the places s
abbrev pub struck_out : View → Spots → Plan
struck_out v s = single (One 0) (full_recipe (Copy 0 v.at)
    (Word 5000) (Copy v.l.from s.left) (Copy s.after v.l.to) (Copy v.r.from s.right) (Copy s.behind v.r.to)
    (Copy v.end v.len) nothing nothing nothing nothing nothing 0 0 0)

-- where nothing is shared all four places are the first
abbrev pub struck_where : View → Option Spots → Plan
struck_where v None = struck_out v (record { left = 0; after = 0; right = 0; behind = 0 })
struck_where v (Some s) = struck_out v s

abbrev pub del2_plan : List ℕ → View → Plan
del2_plan k v = struck_where v (first_shared k (left_inner k v).from (right_inner k v).from)

-- D1: the left side's children = the n elements of the right side's, in each order; a and b are the parts within the sides
abbrev pub reordered : View → Within → Within → ℕ → Plan
reordered v a b n = single (Orders n) (full_recipe (Copy 0 v.at)
    (Word 5000) (Copy a.from a.to) (Ordered b.from n) (Word 0)
    (Copy v.end v.len) nothing nothing nothing nothing nothing nothing 0 0 0)

-- D2: the first terms, and what follows them
abbrev pub d2_plan : View → Plan
d2_plan v = single (One 0) (full_recipe (Copy 0 v.at)
    (Word 5000) (Copy v.l.from v.l.rest) (Word 0) (Copy v.r.from v.r.rest) (Word 0)
    (Word 5000) (Copy v.l.rest v.l.to) (Copy v.r.rest v.r.to)
    (Copy v.end v.len) nothing nothing 0 0 0)

-- E1, E2, E5: the equation stays; the left side's words before `until` become the right side's before the cut, in all others
abbrev pub eliminated : View → ℕ → ℕ → Plan
eliminated v until cut = single (One cut) (few_recipe (Put 0 v.at) (Word 5000) (Copy v.l.from v.l.to) (Copy v.r.from v.r.to) (Put v.end v.len) v.l.from until v.r.from)

-- E1, E2: the variable becomes the whole right side, without its 0
abbrev pub e1_plan : List ℕ → View → Plan
e1_plan k v = eliminated v v.l.rest (right_inner k v).to

-- E5: the left functor becomes the right one
abbrev pub e5_plan : List ℕ → View → Plan
e5_plan k v = eliminated v (left_inner k v).from (right_inner k v).from

-- E6: X() = F(); the sides under X ↦ F; a and b are the parts within the sides
abbrev pub functored : View → Within → Within → Plan
functored v a b = single (One b.from) (full_recipe (Put 0 v.at)
    (Word 5000) (Copy v.l.from a.from) (Word 0) (Word 0) (Copy v.r.from b.from) (Word 0) (Word 0)
    (Word 5000) (Put v.l.from v.l.to) (Put v.r.from v.r.to)
    (Put v.end v.len) v.l.from a.from v.r.from)

abbrev pub e6_plan : List ℕ → View → Plan
e6_plan k v = functored v (left_inner k v) (right_inner k v)

-- E7: X() = f(); the sides under X ↦ f, for each of so many symbols f; a is the part within the left side
abbrev pub tried : View → Within → ℕ → Plan
tried v a symbols = single (Names symbols) (full_recipe (Named 0 v.at)
    (Word 5000) (Copy v.l.from a.from) (Word 0) (Word 0) (Named v.l.from a.from) (Word 0) (Word 0)
    (Word 5000) (Named v.l.from v.l.to) (Named v.r.from v.r.to)
    (Named v.end v.len) v.l.from a.from 0)

abbrev pub e7_plan : List ℕ → View → ℕ → Plan
e7_plan k v symbols = tried v (left_inner k v) symbols

-- E3, E4: for each of n cuts p = T1, and H = (T2, ..) under p ↦ T1; the first cut is before the first element
abbrev pub cut_plan : View → ℕ → Plan
cut_plan v n = single (Cuts v.r.from n) (full_recipe (Put 0 v.at)
    (Word 5000) (Copy v.l.from v.l.rest) (Word 0) (ToCut v.r.from) (Word 0)
    (Word 5000) (Put v.l.rest v.l.to) (PutFromCut v.r.to)
    (Put v.end v.len) nothing nothing v.l.from v.l.rest v.r.from)

-- Del3: a = ε, b = ε for a side that is a, p, b, with p at the place i and b from j on
abbrev pub struck : View → ℕ → ℕ → Plan
struck v i j = single (One 0) (full_recipe (Copy 0 v.at)
    (Word 5000) (Copy v.r.from i) (Word 0) (Word 0)
    (Word 5000) (Copy j v.r.to) (Word 0)
    (Copy v.end v.len) nothing nothing nothing 0 0 0)

-- ---- how far a rule looks into the right side, where the left begins with the hedge variable p

-- what stands before what was found
abbrev pub ahead : maybe.Option (Hedge × Hedge) → Hedge
ahead none = ε
ahead (some a) = a.0

-- E4: the terms before the first that holds p
abbrev pub terms_ahead : Hedge → Hedge → Hedge
terms_ahead ε r = ε
terms_ahead (tvar x s) r = ε
terms_ahead (hvar p s) r = ahead (up_to p r)
terms_ahead (node f c s) r = ε

-- Del3: what stands before p
abbrev pub hedge_ahead : Hedge → Hedge → Hedge
hedge_ahead ε r = ε
hedge_ahead (tvar x s) r = ε
hedge_ahead (hvar p s) r = ahead (inside p r)
hedge_ahead (node f c s) r = ε

abbrev pub d1_plan : List ℕ → View → Hedge → Plan
d1_plan k v r = reordered v (left_inner k v) (right_inner k v) (width (children_of r))

abbrev pub e3_plan : View → Hedge → Plan
e3_plan v r = cut_plan v (suc (size r))

abbrev pub e4_plan : View → Hedge → Hedge → Plan
e4_plan v l r = cut_plan v (suc (size (terms_ahead l r)))

abbrev pub del3_plan : List ℕ → View → ℕ → Plan
del3_plan k v i = struck v i (inner_of k i v.r.to).from

abbrev pub spot_of : View → Hedge → Hedge → ℕ
spot_of v l r = v.r.from + length (body_words (hedge_ahead l r))

-- the plans of the rules by their places
abbrev pub equation_plans : Signature → List ℕ → View → Hedge → Hedge → List (ℕ × Plan)
equation_plans σ k v l r =
    (at_r1, r1_plan v) ∷ (at_del1, del1_plan v) ∷ (at_del2, del2_plan k v) ∷ (at_del3, del3_plan k v (spot_of v l r))
    ∷ (at_d1, d1_plan k v r) ∷ (at_d2, d2_plan v) ∷ (at_d0, d0_plan k v) ∷ (at_e1, e1_plan k v) ∷ (at_e2, e1_plan k v)
    ∷ (at_e3, e3_plan v r) ∷ (at_e4, e4_plan v l r) ∷ (at_e5, e5_plan k v) ∷ (at_e6, e6_plan k v) ∷ (at_e7, e7_plan k v σ.symbols) ∷ []

-- the plan of the rule of a place in the list; the F rules drop the conjunction
unfoldable pub equation_plan : Signature → ℕ → List ℕ → View → Hedge → Hedge → Plan
equation_plan σ n k v l r = tabled n (equation_plans σ k v l r)
