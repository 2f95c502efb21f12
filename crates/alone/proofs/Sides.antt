-- A side that is one variable, occurring nowhere else; and a membership's lone variable.
use Prim.Native.Nat.{ℕ}
use native.Mathlib.Omega.{arith}
use mathlib.Core.Path.{◌≡◌, refl, sym, ap, ◌∙◌}
use mathlib.Core.Bool.{Bool, true, false, not, ◌&&◌, ◌||◌}
use mathlib.Core.List.{List, ◌++◌}
use mathlib.Core.Option.{Option, none, some}
use lib.Dec.{eqb}
use lib.ListN.{take, drop}
use lib.Seq.{slice}
use borrow.Author.Tests.{eq-eqb, ne_eqb}
use Rattle.language.specs.Limits.{desk}
use Rattle.language.specs.declared.TermVar.{TermVar}
use Rattle.language.specs.declared.FunVar.{FunVar}
use Rattle.language.specs.declared.Sym.{Sym}
use Rattle.language.specs.declared.Name.{Name}
use Rattle.language.specs.declared.Name.TheVariants.{Symbol, Blank}
use Rattle.language.specs.Trees.{symbol, fvar, Hedge, ε, tvar, hvar, node, Conj, Var, tv, hv, fv, holds, in_conj}
use Rattle.language.specs.Fine.{fine_hedge}
use Rattle.rules.specs.Looks.{empty}
use Rattle.rules.specs.Solved.{given, is_term, is_functor, variable, alone, is_some, lone_var}
use Rattle.rules.proofs.Answers.{Where}
use Rattle.views.specs.Looks.{look_of}
use Rattle.words.specs.Spans.{member}
use Rattle.views.specs.Views.{Sees}
use Rattle.views.specs.declared.Look.{Look}
use Rattle.views.specs.declared.Look.TheVariants.{Empty, Term, Run, Node}
use Rattle.views.specs.declared.View.{View}
use Rattle.views.specs.Variables.{variable_word, fine_var}
use Rattle.views.proofs.Sides.{side-whole}
use Rattle.views.proofs.Members.{member-hedge, elsewhere-sees}
use Rattle.alone.specs.Lone.{held, lone_of, lone_word, lone, word_of, single_term, bare_functor, side_variable, lone_variable, alone_side}
use Rattle.std.specs.Prelude as prelude
use Rattle.std.specs.Prelude.{None}
use Rattle.alone.specs.declared.Variable.{Variable}
use Rattle.alone.specs.declared.Variable.TheVariants as one

-- ---- what the tests of the code join to

pub term-chosen : (l r : Look) (x : TermVar) (last s t : Bool) (y : prelude.Option Variable) → l ≡ Term x last → s ≡ single_term r → t ≡ (last && s) → y ≡ lone t (one.Term x) → y ≡ side_variable l r
term-chosen l r x last s t y el es et ey = ey ∙ ap (λ t. lone t (one.Term x)) (et ∙ ap (λ s. last && s) es) ∙ ap (λ l. side_variable l r) (sym el)

module _ (l r : Look) (name : Name) (last bare : Bool) (el : l ≡ Node name last bare) where
  pub symbol-chosen : (f : Sym) → name ≡ Symbol f → None ≡ side_variable l r
  symbol-chosen f e = ap (λ n. side_variable (Node n last bare) r) (sym e) ∙ ap (λ l. side_variable l r) (sym el)

  pub blank-chosen : (f : FunVar) (a b c : Bool) (y : prelude.Option Variable) → name ≡ Blank f → a ≡ bare_functor r → b ≡ (last && a) → c ≡ (bare && b) → y ≡ lone c (one.Blank f) → y ≡ side_variable l r
  blank-chosen f a b c y e ea eb ec ey =
      ey ∙ ap (λ t. lone t (one.Blank f)) (ec ∙ ap (λ t. bare && t) (eb ∙ ap (λ t. last && t) ea))
      ∙ ap (λ n. side_variable (Node n last bare) r) (sym e) ∙ ap (λ l. side_variable l r) (sym el)

-- ---- how the hedges begin says which variable it is

single-look : (r : Hedge) → single_term (look_of r) ≡ is_term r
single-look ε = refl
single-look (tvar x r) = refl
single-look (hvar p r) = refl
single-look (node f c r) = refl

bare-look : (r : Hedge) → bare_functor (look_of r) ≡ is_functor r
bare-look ε = refl
bare-look (tvar x r) = refl
bare-look (hvar p r) = refl
bare-look (node f c r) = refl

given-lone : (b : Bool) (v : Var) → lone b (held v) ≡ lone_of (given b v)
given-lone true v = refl
given-lone false v = refl

pub word-lone : (m : Option Var) → lone_word (lone_of m) ≡ word_of m
word-lone none = refl
word-lone (some (tv x)) = refl
word-lone (some (hv p)) = refl
word-lone (some (fv X)) = refl

and_assoc : (a b c : Bool) → (a && (b && c)) ≡ ((a && b) && c)
and_assoc true b c = refl
and_assoc false b c = refl

pub side-look : (l r : Hedge) → side_variable (look_of l) (look_of r) ≡ lone_of (variable l r)
side-look ε r = refl
side-look (tvar x s) r = ap (λ t. lone (empty s && t) (one.Term x)) (single-look r) ∙ given-lone (empty s && is_term r) (tv x)
side-look (hvar q s) r = given-lone (empty s) (hv q)
side-look (node (symbol f) c s) r = refl
side-look (node (fvar X) c s) r =
    ap (λ t. lone (empty c && (empty s && t)) (one.Blank X)) (bare-look r)
    ∙ ap (λ t. lone t (one.Blank X)) (and_assoc (empty c) (empty s) (is_functor r))
    ∙ given-lone (empty c && empty s && is_functor r) (fv X)

pub lone-look : (h : Hedge) → lone_variable (look_of h) ≡ lone_of (lone_var h)
lone-look ε = refl
lone-look (tvar x r) = given-lone (empty r) (tv x)
lone-look (hvar p r) = given-lone (empty r) (hv p)
lone-look (node f c r) = refl

and-true : (b : Bool) → (b && true) ≡ b
and-true true = refl
and-true false = refl

not-bare : (a b : Bool) (f : FunVar) → lone (a && (b && false)) (one.Blank f) ≡ None
not-bare true true f = refl
not-bare true false f = refl
not-bare false b f = refl

-- against a single term a side is the lone variable of a membership
pub side-lone : (x : TermVar) (l : Look) → side_variable l (Term x true) ≡ lone_variable l
side-lone x Empty = refl
side-lone x (Term y last) = ap (λ t. lone t (one.Term y)) (and-true last)
side-lone x (Run p last) = refl
side-lone x (Node (Symbol f) last bare) = refl
side-lone x (Node (Blank f) last bare) = not-bare bare last f

given-fine : (b : Bool) (v : Var) → fine_var desk v → Where (fine_var desk) (given b v)
given-fine true v p = p
given-fine false v p = tt

pub side-fine : (l r : Hedge) → fine_hedge desk l → Where (fine_var desk) (variable l r)
side-fine ε r p = tt
side-fine (tvar x s) r p = given-fine (empty s && is_term r) (tv x) p.0
side-fine (hvar q s) r p = given-fine (empty s) (hv q) p.0
side-fine (node (symbol f) c s) r p = tt
side-fine (node (fvar X) c s) r p = given-fine (empty c && empty s && is_functor r) (fv X) p.0

pub lone-fine : (h : Hedge) → fine_hedge desk h → Where (fine_var desk) (lone_var h)
lone-fine ε p = tt
lone-fine (tvar x s) p = given-fine (empty s) (tv x) p.0
lone-fine (hvar q s) p = given-fine (empty s) (hv q) p.0
lone-fine (node f c s) p = tt

pub word_some : (v : Var) → variable_word v ≡ 0 → ⊥
word_some (tv x) e = omega arith
word_some (hv p) e = omega arith
word_some (fv X) e = omega arith

-- ---- alone: the variable occurs nowhere else

given-some : {A : Type 0} (b : Bool) (a : A) → is_some (given b a) ≡ b
given-some true a = refl
given-some false a = refl

-- ---- a variable's word, by what the tests of the code say

module _ (k : List ℕ) (v : View) (x : ℕ) (ex : x ≡ lone_word (side_variable v.l.look v.r.look)) where
  pub no_word : x ≡ 0 → false ≡ alone_side k v
  unfolding alone_side
  no_word z = rw (← ex) (ap (λ t. not t && not (member x (slice v.r.from v.r.to k) || (member x (take v.at k) || member x (drop v.end k)))) (sym (eq-eqb x 0 z)))

  pub word_stands : (x ≡ 0 → ⊥) → (here there : Bool) → here ≡ member x (slice v.r.from v.r.to k)
      → there ≡ (member x (take v.at k) || member x (drop v.end k)) → not (here || there) ≡ alone_side k v
  unfolding alone_side
  word_stands n here there eh et =
      rw (← ex) (
      ap (λ b. not (b || there)) eh ∙ ap (λ b. not (member x (slice v.r.from v.r.to k) || b)) et
      ∙ ap (λ t. not t && not (member x (slice v.r.from v.r.to k) || (member x (take v.at k) || member x (drop v.end k)))) (sym (ne_eqb x 0 n))
      )

-- where an equation is seen, it is the variable of the trees
pub alone-sees : {k : List ℕ} {v : View} {before : Conj} {l r : Hedge} {behind : Conj} → Sees k v before l r behind
    → alone_side k v ≡ is_some (alone (before ++ behind) r (variable l r))
unfolding alone_side
alone-sees {k} {v} {before} {l} {r} {behind} s =
    ap (λ x. not (eqb x 0) && not (member x (slice v.r.from v.r.to k) || (member x (take v.at k) || member x (drop v.end k)))) word-is
    ∙ go (variable l r) (side-fine l r s.left.fine)
  where
    word-is : lone_word (side_variable v.l.look v.r.look) ≡ word_of (variable l r)
    word-is = ap lone_word (ap (λ a. side_variable a v.r.look) s.left.look ∙ ap (side_variable (look_of l)) s.right.look ∙ side-look l r) ∙ word-lone (variable l r)

    go : (o : Option Var) → Where (fine_var desk) o
        → (not (eqb (word_of o) 0) && not (member (word_of o) (slice v.r.from v.r.to k) || (member (word_of o) (take v.at k) || member (word_of o) (drop v.end k))))
        ≡ is_some (alone (before ++ behind) r o)
    go none f = refl
    go (some w) f =
        ap (λ t. not t && not (member (variable_word w) (slice v.r.from v.r.to k) || (member (variable_word w) (take v.at k) || member (variable_word w) (drop v.end k)))) (ne_eqb (variable_word w) 0 (word_some w))
        ∙ ap (λ b. not (b || (member (variable_word w) (take v.at k) || member (variable_word w) (drop v.end k)))) (ap (member (variable_word w)) (side-whole s.right) ∙ member-hedge w f r s.right.fine)
        ∙ ap (λ b. not (holds w r || b)) (elsewhere-sees w f s) ∙ sym (given-some (not (holds w r || in_conj w (before ++ behind))) (w, r))
