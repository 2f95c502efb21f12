-- The first rule at a membership as a tree of decisions: by how the hedge begins and by the expression, and then by single tests.
-- The answer is the rule's place in the list, or `no_rule`.
use Rattle.std.specs.Prelude.{ℕ, Bool, false}
use Rattle.language.specs.declared.Sym.{Sym}
use Rattle.language.specs.declared.Signature.{Signature}
use Rattle.language.specs.declared.Name.{Name}
use Rattle.language.specs.declared.Name.TheVariants.{Symbol, Blank}
use Rattle.language.specs.declared.Kind.{Kind}
use Rattle.language.specs.declared.Kind.TheVariants as kind
use Rattle.language.specs.Kinds.{pick}
use Rattle.language.specs.Trees.{Functor, symbol, fvar, Hedge, ε, tvar, hvar, node, Expr, eps, cat, alt, star, over, is_unordered, eq_s}
use Rattle.rules.specs.Looks.{empty, has_term, all_terms}
use Rattle.rules.specs.Expressions.{nullable}
use Rattle.views.specs.declared.Look.{Look}
use Rattle.views.specs.declared.Look.TheVariants.{Empty, Term, Run, Node}
use Rattle.rules.specs.Places.{at_r2, at_f5, at_f6, at_f7, at_m1, at_m2, at_m3, at_m4, at_m5, at_m6, at_m7, at_m10, at_m11, at_m12, no_rule}

-- a single f(H) in f(R): M12 where f is unordered and H is terms, which `terms` says, and M11 where it is ordered
abbrev pub same_rank : Signature → Bool → Sym → ℕ
same_rank σ terms f = pick (is_unordered σ f) (pick terms at_m12 no_rule) at_m11

-- a single F(H) in g(R): F5, M10, or as above
abbrev pub over_rank : Signature → Bool → Functor → Sym → ℕ
over_rank σ terms (symbol f) g = pick (eq_s f g) (same_rank σ terms f) at_f5
over_rank σ terms (fvar X) g = at_m10

-- a hedge that begins with a term: F7, M5, M6, M4, or M2 where more follows; `single` is for a single term in g(R)
abbrev pub term_rank : (Sym → ℕ) → Bool → Expr → ℕ
term_rank single last eps = at_f7
term_rank single last (cat a b) = pick last at_m5 at_m2
term_rank single last (alt a b) = pick last at_m6 at_m2
term_rank single last (star a) = pick last at_m4 at_m2
term_rank single last (over g a) = pick last (single g) at_m2

-- a hedge that begins with a hedge variable, before r: F7, M1, M7, M3
abbrev pub run_rank : Hedge → Expr → ℕ
run_rank r eps = pick (has_term r) at_f7 at_m1
run_rank r (cat a b) = no_rule
run_rank r (alt a b) = at_m7
run_rank r (star a) = no_rule
run_rank r (over g a) = pick (empty r) no_rule at_m3

abbrev pub rank_in : Signature → Hedge → Expr → ℕ
rank_in σ ε R = pick (nullable R) at_r2 at_f6
rank_in σ (tvar x r) R = term_rank (λ g. no_rule) (empty r) R
rank_in σ (hvar p r) R = run_rank r R
rank_in σ (node F c r) R = term_rank (over_rank σ (all_terms c) F) (empty r) R

-- ---- the same by how the hedge begins and by what the first word of the expression is

-- whether the first element's children are terms
abbrev pub child_terms : Hedge → Bool
child_terms ε = false
child_terms (tvar x r) = false
child_terms (hvar p r) = false
child_terms (node F c r) = all_terms c

abbrev pub over_by : Signature → Bool → Name → Sym → ℕ
over_by σ terms (Symbol f) g = pick (eq_s f g) (same_rank σ terms f) at_f5
over_by σ terms (Blank X) g = at_m10

-- a single term in g(R)
abbrev pub single_by : Signature → Bool → Look → Sym → ℕ
single_by σ terms Empty g = no_rule
single_by σ terms (Term x last) g = no_rule
single_by σ terms (Run p last) g = no_rule
single_by σ terms (Node f last bare) g = over_by σ terms f g

-- one answer for each form of an expression, and no rule by a word that begins none
abbrev pub by_first : Kind → ℕ → ℕ → ℕ → ℕ → (Sym → ℕ) → ℕ
by_first kind.End e c a s o = no_rule
by_first (kind.Term x) e c a s o = no_rule
by_first (kind.Run p) e c a s o = no_rule
by_first (kind.Symbol g) e c a s o = o g
by_first (kind.Function X) e c a s o = no_rule
by_first kind.Equation e c a s o = no_rule
by_first kind.Membership e c a s o = no_rule
by_first kind.Eps e c a s o = e
by_first kind.Cat e c a s o = c
by_first kind.Alt e c a s o = a
by_first kind.Star e c a s o = s
by_first kind.Other e c a s o = no_rule

abbrev pub term_by : Signature → Bool → Look → Bool → Kind → ℕ
term_by σ terms look last first = by_first first at_f7 (pick last at_m5 at_m2) (pick last at_m6 at_m2) (pick last at_m4 at_m2) (λ g. pick last (single_by σ terms look g) at_m2)

abbrev pub run_by : Kind → Bool → Bool → ℕ
run_by first last terms = by_first first (pick terms at_f7 at_m1) no_rule at_m7 no_rule (λ g. pick last no_rule at_m3)
