-- What each rule of memberships makes of the words k, by the places of the shape s. A plan says with numbers what the rule says with trees: the
-- others, copied or under the substitution, and between them the new literals. Where a rule takes the expression apart, R says where.
use Rattle.std.specs.Prelude.{ℕ, ◌+◌, List, [], ◌∷◌, length}
use Rattle.language.specs.Trees.{Hedge, Expr, eps, cat, alt, star, over}
use Rattle.language.specs.Writing.{expr_words}
use Rattle.rules.specs.Elements.{width}
use Rattle.rules.specs.Places.{at_r2, at_m1, at_m3, at_m4, at_m5, at_m6, at_m7, at_m10, at_m11, at_m12}
use Rattle.plans.specs.declared.Piece.TheVariants.{Word, Copy, Put, Each, Ordered}
use Rattle.plans.specs.declared.Recipe.{Recipe}
use Rattle.plans.specs.declared.Ways.TheVariants.{One, Two, Orders}
use Rattle.plans.specs.declared.Plan.{Plan}
use Rattle.views.specs.declared.Shape.{Shape}
use Rattle.plans.specs.declared.Within.{Within}
use Rattle.plans.specs.Slots.{nothing, full_recipe, few_recipe, plan_of, single, tabled, inner_of, children_of}

-- the part of the hedge, and of the expression, behind the first word and before the last
abbrev pub hedge_inner : List ℕ → Shape → Within
hedge_inner k s = inner_of k s.h.from s.h.to

abbrev pub expr_inner : List ℕ → Shape → Within
expr_inner k s = inner_of k s.expr s.end

-- R2: the literal is removed
abbrev pub r2_plan : Shape → Plan
r2_plan s = single (One 0) (few_recipe (Copy 0 s.at) (Copy s.end s.len) nothing nothing nothing 0 0 0)

-- M1: p = ε for each word p of the hedge; those words vanish in all others
abbrev pub vanished : Shape → ℕ → Plan
vanished s last = single (One 0) (few_recipe (Put 0 s.at) (Each s.h.from last) (Put s.end s.len) nothing nothing s.h.from last 0)

abbrev pub m1_plan : List ℕ → Shape → Plan
m1_plan k s = vanished s (hedge_inner k s).to

-- M3: the first element in R, and the rest = ε; or the first = ε, and the rest in R
abbrev pub m3_first : Shape → Recipe
m3_first s = full_recipe (Copy 0 s.at)
    (Word 6000) (Copy s.h.from s.h.rest) (Word 0) (Copy s.expr s.end)
    (Word 5000) (Copy s.h.rest s.h.to) (Word 0)
    (Copy s.end s.len) nothing nothing nothing 0 0 0

abbrev pub m3_second : Shape → Recipe
m3_second s = full_recipe (Copy 0 s.at)
    (Word 5000) (Copy s.h.from s.h.rest) (Word 0) (Word 0)
    (Word 6000) (Copy s.h.rest s.h.to) (Copy s.expr s.end)
    (Copy s.end s.len) nothing nothing nothing 0 0 0

abbrev pub m3_plan : Shape → Plan
m3_plan s = plan_of Two (m3_first s) (m3_second s)

-- the hedge from..to in the expression start..end
abbrev pub member_in : Shape → ℕ → ℕ → ℕ → ℕ → Recipe
member_in s from to start end = few_recipe (Copy 0 s.at) (Word 6000) (Copy from to) (Copy start end) (Copy s.end s.len) 0 0 0

-- M4: the hedge in what the star holds
abbrev pub m4_plan : List ℕ → Shape → Plan
m4_plan k s = single (One 0) (member_in s s.h.from s.h.to (expr_inner k s).from s.end)

-- M11: the children in what the symbol holds
abbrev pub m11_plan : List ℕ → Shape → Plan
m11_plan k s = single (One 0) (member_in s (hedge_inner k s).from (hedge_inner k s).to (expr_inner k s).from s.end)

-- M12: the n children in each order, in what the symbol holds; a and b are the parts within the hedge and the expression
abbrev pub reordered : Shape → Within → Within → ℕ → Plan
reordered s a b n = single (Orders n) (full_recipe (Copy 0 s.at)
    (Word 6000) (Ordered a.from n) (Word 0) (Copy b.from s.end)
    (Copy s.end s.len) nothing nothing nothing nothing nothing nothing 0 0 0)

abbrev pub m12_plan : List ℕ → Shape → Hedge → Plan
m12_plan k s h = reordered s (hedge_inner k s) (expr_inner k s) (width (children_of h))

-- M5: the hedge in the first part start..mid, and ε in the second; or the other way round
abbrev pub m5_first : Shape → ℕ → ℕ → Recipe
m5_first s start mid = full_recipe (Copy 0 s.at)
    (Word 6000) (Copy s.h.from s.h.to) (Copy start mid)
    (Word 6000) (Word 0) (Copy mid s.end)
    (Copy s.end s.len) nothing nothing nothing nothing 0 0 0

abbrev pub m5_second : Shape → ℕ → ℕ → Recipe
m5_second s start mid = full_recipe (Copy 0 s.at)
    (Word 6000) (Word 0) (Copy start mid)
    (Word 6000) (Copy s.h.from s.h.to) (Copy mid s.end)
    (Copy s.end s.len) nothing nothing nothing nothing 0 0 0

abbrev pub shared : Shape → ℕ → ℕ → Plan
shared s start mid = plan_of Two (m5_first s start mid) (m5_second s start mid)

-- M6, M7: the hedge in the first part start..mid; or in the second
abbrev pub halved : Shape → ℕ → ℕ → Plan
halved s start mid = plan_of Two (member_in s s.h.from s.h.to start mid) (member_in s s.h.from s.h.to mid s.end)

-- M10: X() = f(), and the hedge under X ↦ f in f(R); a and b are the parts within the hedge and the expression
abbrev pub named : Shape → Within → Within → Plan
named s a b = single (One b.from) (full_recipe (Put 0 s.at)
    (Word 5000) (Copy s.h.from a.from) (Word 0) (Word 0) (Copy s.expr b.from) (Word 0) (Word 0)
    (Word 6000) (Put s.h.from s.h.to) (Copy s.expr s.end)
    (Put s.end s.len) s.h.from a.from s.expr)

abbrev pub m10_plan : List ℕ → Shape → Plan
m10_plan k s = named s (hedge_inner k s) (expr_inner k s)

-- ---- where the first of two parts ends

abbrev pub first_part : Expr → List ℕ
first_part eps = []
first_part (cat a b) = expr_words a
first_part (alt a b) = expr_words a
first_part (star a) = []
first_part (over f a) = []

abbrev pub mid_of : List ℕ → Shape → Expr → ℕ
mid_of k s R = (expr_inner k s).from + length (first_part R)

-- the plans of the rules by their places
abbrev pub membership_plans : List ℕ → Shape → Hedge → Expr → List (ℕ × Plan)
membership_plans k s h R =
    (at_r2, r2_plan s) ∷ (at_m1, m1_plan k s) ∷ (at_m3, m3_plan s) ∷ (at_m4, m4_plan k s)
    ∷ (at_m5, shared s (expr_inner k s).from (mid_of k s R)) ∷ (at_m6, halved s (expr_inner k s).from (mid_of k s R)) ∷ (at_m7, halved s (expr_inner k s).from (mid_of k s R))
    ∷ (at_m10, m10_plan k s) ∷ (at_m11, m11_plan k s) ∷ (at_m12, m12_plan k s h) ∷ []

-- the plan of the rule of a place in the list; the F rules drop the conjunction
unfoldable pub membership_plan : ℕ → List ℕ → Shape → Hedge → Expr → Plan
membership_plan n k s h R = tabled n (membership_plans k s h R)
