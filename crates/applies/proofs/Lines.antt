-- Whether a line of a rule answers, by what is read off the look of a hedge, a functor or an expression.
use mathlib.Core.Path.{◌≡◌, refl}
use mathlib.Core.Bool.{not, ◌&&◌, ◌||◌}
use Rattle.language.specs.declared.TermVar.{TermVar}
use Rattle.language.specs.declared.HedgeVar.{HedgeVar}
use Rattle.language.specs.declared.FunVar.{FunVar}
use Rattle.language.specs.declared.Sym.{Sym}
use Rattle.language.specs.declared.Signature.{Signature}
use Rattle.language.specs.Trees.{Functor, symbol, fvar, Hedge, ε, tvar, hvar, node, Expr, eps, cat, alt, star, over, Conj, eq_f, Var, tv, hv, fv, in_conj}
use Rattle.rules.specs.Looks.{empty, first_term, first_run, lone, lone_term, lone_t, lone_h, lone_node, as_symbol, as_blank, is_eps, as_cat, as_alt, as_star, as_over}
use Rattle.rules.specs.Rules.{Answer, ◌>>=◌, keeps_order, too}
use Rattle.rules.specs.Solved.{is_some}
use Rattle.views.specs.Looks.{name_of, look_of, first_kind, head, tail}
use Rattle.plans.proofs.Ranking.{lone-on}
use Rattle.applies.specs.Parts.{is_empty, is_term, is_run, is_last, is_bare, single, lone_variable, lone_run, lone_functor, variable_of, run_of, name_in, is_symbol, symbol_of, blank_of, is_blank, same_name, keeps_name, children_of, is_form, symbol_in}

-- the functor of F(H), and R of g(R)
abbrev pub functor_of : Hedge → Functor
functor_of ε = symbol (record { 0 = 0 })
functor_of (tvar x r) = symbol (record { 0 = 0 })
functor_of (hvar p r) = symbol (record { 0 = 0 })
functor_of (node f c r) = f

abbrev pub inner_of : Expr → Expr
inner_of eps = eps
inner_of (cat a b) = eps
inner_of (alt a b) = eps
inner_of (star a) = eps
inner_of (over g a) = a

-- ---- a line that looks at a hedge

pub lone_t-on : (l : Hedge) (f : TermVar → Answer) → is_some (lone_t l >>= f) ≡ lone_variable (look_of l) && is_some (f (variable_of (look_of l)))
unfolding ◌>>=◌
lone_t-on ε f = refl
lone_t-on (tvar x s) f = lone-on x s f
lone_t-on (hvar p s) f = refl
lone_t-on (node g c s) f = refl

pub lone_h-on : (l : Hedge) (f : HedgeVar → Answer) → is_some (lone_h l >>= f) ≡ lone_run (look_of l) && is_some (f (run_of (look_of l)))
unfolding ◌>>=◌
lone_h-on ε f = refl
lone_h-on (tvar x s) f = refl
lone_h-on (hvar p s) f = lone-on p s f
lone_h-on (node g c s) f = refl

pub lone_node-on : (l : Hedge) (f : Functor × Hedge → Answer) → is_some (lone_node l >>= f) ≡ lone_functor (look_of l) && is_some (f (functor_of l, children_of l))
unfolding ◌>>=◌
lone_node-on ε f = refl
lone_node-on (tvar x s) f = refl
lone_node-on (hvar p s) f = refl
lone_node-on (node g c s) f = lone-on (g, c) s f

-- a single term is the hedge itself
itself : (q : Hedge → Hedge) (s : Hedge) (f : Hedge → Answer) → is_some (lone (q ε) s >>= f) ≡ empty s && is_some (f (q s))
unfolding ◌>>=◌
itself q ε f = refl
itself q (tvar x s) f = refl
itself q (hvar p s) f = refl
itself q (node g c s) f = refl

pub lone_term-on : (l : Hedge) (f : Hedge → Answer) → is_some (lone_term l >>= f) ≡ single (look_of l) && is_some (f l)
unfolding ◌>>=◌
lone_term-on ε f = refl
lone_term-on (tvar x s) f = itself (tvar x) s f
lone_term-on (hvar p s) f = refl
lone_term-on (node g c s) f = itself (node g c) s f

pub first_term-on : (l : Hedge) (f : Hedge × Hedge → Answer) → is_some (first_term l >>= f) ≡ is_term (look_of l) && is_some (f (head l, tail l))
unfolding ◌>>=◌
first_term-on ε f = refl
first_term-on (tvar x s) f = refl
first_term-on (hvar p s) f = refl
first_term-on (node g c s) f = refl

pub first_run-on : (l : Hedge) (f : HedgeVar × Hedge → Answer) → is_some (first_run l >>= f) ≡ is_run (look_of l) && is_some (f (run_of (look_of l), tail l))
unfolding ◌>>=◌
first_run-on ε f = refl
first_run-on (tvar x s) f = refl
first_run-on (hvar p s) f = refl
first_run-on (node g c s) f = refl

-- ---- at a functor, at an expression

pub as_symbol-on : (F : Functor) (f : Sym → Answer) → is_some (as_symbol F >>= f) ≡ is_symbol (name_of F) && is_some (f (symbol_of (name_of F)))
unfolding ◌>>=◌
as_symbol-on (symbol g) f = refl
as_symbol-on (fvar X) f = refl

pub as_blank-on : (F : Functor) (f : FunVar → Answer) → is_some (as_blank F >>= f) ≡ not (is_symbol (name_of F)) && is_some (f (blank_of (name_of F)))
unfolding ◌>>=◌
as_blank-on (symbol g) f = refl
as_blank-on (fvar X) f = refl

pub as_over-on : (R : Expr) (f : Sym × Expr → Answer) → is_some (as_over R >>= f) ≡ is_form 3000 (first_kind R) && is_some (f (symbol_in (first_kind R), inner_of R))
unfolding ◌>>=◌
as_over-on eps f = refl
as_over-on (cat a b) f = refl
as_over-on (alt a b) f = refl
as_over-on (star a) f = refl
as_over-on (over g a) f = refl

pub eps-form : (R : Expr) → is_eps R ≡ is_form 7000 (first_kind R)
eps-form eps = refl
eps-form (cat a b) = refl
eps-form (alt a b) = refl
eps-form (star a) = refl
eps-form (over g a) = refl

pub cat-form : (R : Expr) → is_some (as_cat R) ≡ is_form 7001 (first_kind R)
cat-form eps = refl
cat-form (cat a b) = refl
cat-form (alt a b) = refl
cat-form (star a) = refl
cat-form (over g a) = refl

pub alt-form : (R : Expr) → is_some (as_alt R) ≡ is_form 7002 (first_kind R)
alt-form eps = refl
alt-form (cat a b) = refl
alt-form (alt a b) = refl
alt-form (star a) = refl
alt-form (over g a) = refl

pub star-form : (R : Expr) → is_some (as_star R) ≡ is_form 7003 (first_kind R)
star-form eps = refl
star-form (cat a b) = refl
star-form (alt a b) = refl
star-form (star a) = refl
star-form (over g a) = refl

-- ---- the parts of a hedge, by its look

pub name-law : (l : Hedge) → name_of (functor_of l) ≡ name_in (look_of l)
name-law ε = refl
name-law (tvar x s) = refl
name-law (hvar p s) = refl
name-law (node g c s) = refl

pub empty-law : (l : Hedge) → empty l ≡ is_empty (look_of l)
empty-law ε = refl
empty-law (tvar x s) = refl
empty-law (hvar p s) = refl
empty-law (node g c s) = refl

pub last-law : (l : Hedge) → empty (tail l) ≡ is_last (look_of l)
last-law ε = refl
last-law (tvar x s) = refl
last-law (hvar p s) = refl
last-law (node g c s) = refl

pub bare-law : (l : Hedge) → empty (children_of l) ≡ is_bare (look_of l)
bare-law ε = refl
bare-law (tvar x s) = refl
bare-law (hvar p s) = refl
bare-law (node g c s) = refl

pub same-law : (F G : Functor) → eq_f F G ≡ same_name (name_of F) (name_of G)
same-law (symbol f) (symbol g) = refl
same-law (symbol f) (fvar Y) = refl
same-law (fvar X) (symbol g) = refl
same-law (fvar X) (fvar Y) = refl

pub keeps-law : (σ : Signature) (F : Functor) → keeps_order σ F ≡ keeps_name σ (name_of F)
keeps-law σ (symbol f) = refl
keeps-law σ (fvar X) = refl

pub blank-law : (X : FunVar) (G : Functor) → eq_f (fvar X) G ≡ is_blank X (name_of G)
blank-law X (symbol g) = refl
blank-law X (fvar Y) = refl

-- ---- a variable that the other side is, too

lone-too : {A : Type 0} (var : A → Var) (a : A) (s : Hedge) (K : Conj) → too var (lone a s) K ≡ not (empty s) || in_conj (var a) K
lone-too var a ε K = refl
lone-too var a (tvar x s) K = refl
lone-too var a (hvar p s) K = refl
lone-too var a (node g c s) K = refl

pub variable-too : (r : Hedge) (K : Conj) → too tv (lone_t r) K ≡ not (lone_variable (look_of r)) || in_conj (tv (variable_of (look_of r))) K
variable-too ε K = refl
variable-too (tvar y t) K = lone-too tv y t K
variable-too (hvar q t) K = refl
variable-too (node g d t) K = refl

pub run-too : (r : Hedge) (K : Conj) → too hv (lone_h r) K ≡ not (lone_run (look_of r)) || in_conj (hv (run_of (look_of r))) K
run-too ε K = refl
run-too (tvar y t) K = refl
run-too (hvar q t) K = lone-too hv q t K
run-too (node g d t) K = refl

pub blank-too : (G : Functor) (K : Conj) → too fv (as_blank G) K ≡ is_symbol (name_of G) || in_conj (fv (blank_of (name_of G))) K
blank-too (symbol g) K = refl
blank-too (fvar Y) K = refl
