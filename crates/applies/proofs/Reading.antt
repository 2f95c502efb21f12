-- What a test finds in the words is so of the trees that stand there.
use Prim.Native.Nat.{ℕ, ◌+◌, ◌<◌}
use native.Mathlib.Omega.{arith}
use mathlib.Core.Path.{◌≡◌, refl, sym, ap, ◌∙◌, subst}
use mathlib.Core.Bool.{Bool, true, false, ◌&&◌, ◌||◌}
use mathlib.Core.List.{List, ◌++◌}
use lib.Dec.{eqb}
use lib.ListN.{length, take, drop}
use lib.Seq.{slice}
use Rattle.language.specs.declared.TermVar.{TermVar}
use Rattle.language.specs.declared.HedgeVar.{HedgeVar}
use Rattle.language.specs.declared.FunVar.{FunVar}
use Rattle.language.specs.declared.Sym.{Sym}
use Rattle.language.specs.declared.Signature.{Signature}
use Rattle.language.specs.declared.Name.{Name}
use Rattle.language.specs.Limits.{desk}
use Rattle.language.specs.Trees.{symbol, fvar, Hedge, ε, tvar, hvar, node, Expr, Conj, is_unordered, eq_h, eq_s, eq_x, Var, tv, hv, fv, holds, in_conj}
use Rattle.language.specs.Writing.{hedge_words, conj_words}
use Rattle.language.specs.Fine.{fine_hedge}
use Rattle.rules.specs.Looks.{under, inside, up_to}
use Rattle.rules.specs.Solved.{is_some}
use Rattle.words.specs.Spans.{member}
use Rattle.views.specs.declared.Look.{Look}
use Rattle.views.specs.declared.Side.{Side}
use Rattle.views.specs.declared.View.{View}
use Rattle.views.specs.declared.Shape.{Shape}
use Rattle.views.specs.Looks.{look_of, first_kind, tail}
use Rattle.views.specs.Standing.{Stands}
use Rattle.views.specs.Variables.{variable_word, fine_var}
use Rattle.views.specs.Views.{Sided, Sees, Shows}
use Rattle.views.proofs.Members.{member-hedge, elsewhere-sees}
use Rattle.counts.specs.Tables.{table as places}
use Rattle.counts.proofs.Own.{low}
use Rattle.views.proofs.Sides.{side-stands, side-whole}
use Rattle.std.specs.Prelude as prelude
use Rattle.finds.specs.Walks.{Ahead, Spotted}
use Rattle.finds.proofs.Searches.{ahead-some, spotted-some}
use Rattle.plans.specs.Slots.{forth_in}
use Rattle.plans.proofs.Sides.{children-stand}
use Rattle.expressions.specs.Standing.{Here}
use Rattle.applies.specs.Parts.{lone_functor, variable_of, run_of, name_in, is_symbol, symbol_of, blank_of, is_blank, same_name, children_of, form_word, is_form, symbol_in}
use Rattle.applies.specs.Tests.{one_shuffled}

-- two tests put together
pub both : {t a b x y : Bool} → t ≡ (a && b) → a ≡ x → b ≡ y → t ≡ (x && y)
both {t} {a} {b} {x} {y} r p q = r ∙ ap (λ z. z && b) p ∙ ap (λ z. x && z) q

pub one : {t a b x y : Bool} → t ≡ (a || b) → a ≡ x → b ≡ y → t ≡ (x || y)
one {t} {a} {b} {x} {y} r p q = r ∙ ap (λ z. z || b) p ∙ ap (λ z. x || z) q

-- the second is asked for only where the first holds
pub guarded : {t a b x y : Bool} → t ≡ (a && b) → a ≡ x → (x ≡ true → b ≡ y) → t ≡ (x && y)
guarded {b = b} {x = true} r p q = r ∙ ap (λ z. z && b) p ∙ q refl
guarded {b = b} {x = false} r p q = r ∙ ap (λ z. z && b) p

-- a test among others holds where all do
and_first : (a b : Bool) → (a && b) ≡ true → a ≡ true
and_first true b e = refl
and_first false b e = e

and_second : (a b c : Bool) → (a && (b && c)) ≡ true → b ≡ true
and_second true b c e = and_first b c e
and_second false true c e = refl
and_second false false c e = e

module _ (σ : Signature) (l r : Hedge) where
  abbrev one_symbol : Bool
  one_symbol =
      is_symbol (name_in (look_of l)) && (is_symbol (name_in (look_of r))
      && (eq_s (symbol_of (name_in (look_of l))) (symbol_of (name_in (look_of r))) && is_unordered σ (symbol_of (name_in (look_of l)))))

  pub shuffled-left : (K : Conj) → one_shuffled σ K l r ≡ true → lone_functor (look_of l) ≡ true
  shuffled-left K e = and_first (lone_functor (look_of l)) (lone_functor (look_of r) && one_symbol) e

  pub shuffled-right : (K : Conj) → one_shuffled σ K l r ≡ true → lone_functor (look_of r) ≡ true
  shuffled-right K e = and_second (lone_functor (look_of l)) (lone_functor (look_of r)) one_symbol e

-- what is read off a side is so of its hedge
pub read : {k : List ℕ} {s : Side} {h : Hedge} → Sided k s h → {A : Type 0} (f : Look → A) {x : A} → x ≡ f s.look → x ≡ f (look_of h)
read v f e = e ∙ ap f v.look

-- ---- the variable that a hedge begins with is one of its kind

variable-fine : (h : Hedge) → fine_hedge desk h → (variable_of (look_of h)).0 < desk.each
variable-fine ε f = omega arith
variable-fine (tvar x r) f = f.0
variable-fine (hvar p r) f = omega arith
variable-fine (node g c r) f = omega arith

run-fine : (h : Hedge) → fine_hedge desk h → (run_of (look_of h)).0 < desk.each
run-fine ε f = omega arith
run-fine (tvar x r) f = omega arith
run-fine (hvar p r) f = f.0
run-fine (node g c r) f = omega arith

blank-fine : (h : Hedge) → fine_hedge desk h → (blank_of (name_in (look_of h))).0 < desk.each
blank-fine ε f = omega arith
blank-fine (tvar x r) f = omega arith
blank-fine (hvar p r) f = omega arith
blank-fine (node (symbol g) c r) f = omega arith
blank-fine (node (fvar X) c r) f = f.0

-- ---- its word

module _ {k : List ℕ} {s : Side} {h : Hedge} (v : Sided k s h) where
  variable-word : {y : TermVar} → y ≡ variable_of s.look → {x : ℕ} → x ≡ 1000 + y.0 → x ≡ variable_word (tv (variable_of (look_of h)))
  variable-word e d = d ∙ ap (λ (y : TermVar). 1000 + y.0) (read v variable_of e)

  run-word : {p : HedgeVar} → p ≡ run_of s.look → {x : ℕ} → x ≡ 2000 + p.0 → x ≡ variable_word (hv (run_of (look_of h)))
  run-word e d = d ∙ ap (λ (p : HedgeVar). 2000 + p.0) (read v run_of e)

  pub blank-read : {f : Name} → f ≡ name_in s.look → {X : FunVar} → X ≡ blank_of f → X ≡ blank_of (name_in (look_of h))
  blank-read e d = d ∙ ap blank_of (read v name_in e)

  blank-word : {f : Name} → f ≡ name_in s.look → {X : FunVar} → X ≡ blank_of f → {x : ℕ} → x ≡ 4000 + X.0 → x ≡ variable_word (fv (blank_of (name_in (look_of h))))
  blank-word e d g = g ∙ ap (λ (X : FunVar). 4000 + X.0) (blank-read e d)

  pub symbol-read : {f : Name} → f ≡ name_in s.look → {g : Sym} → g ≡ symbol_of f → g ≡ symbol_of (name_in (look_of h))
  symbol-read e d = d ∙ ap symbol_of (read v name_in e)

  -- a variable's word stands in the side
  held : (y : Var) → fine_var desk y → {x : ℕ} → x ≡ variable_word y → {b : Bool} → b ≡ member x (slice s.from s.to k) → b ≡ holds y h
  held y f e d = d ∙ ap (λ z. member z (slice s.from s.to k)) e ∙ ap (member (variable_word y)) (side-whole v) ∙ member-hedge y f h v.fine

-- the children of a single F(H) stand behind its first word
pub children-here : {k : List ℕ} {i j : ℕ} (h : Hedge) {beyond : List ℕ} → Stands k i h beyond → lone_functor (look_of h) ≡ true → j ≡ forth_in (length k) i → Stands k j (children_of h) (hedge_words (tail h) ++ beyond)
children-here ε s e d = absurd (let z : ◌≡◌ {A = ℕ} 0 1 = cc in omega arith)
children-here (tvar x r) s e d = absurd (let z : ◌≡◌ {A = ℕ} 0 1 = cc in omega arith)
children-here (hvar p r) s e d = absurd (let z : ◌≡◌ {A = ℕ} 0 1 = cc in omega arith)
children-here (node f c r) s e d = children-stand s d

-- two numbers are the same
pub same_runs : {p q x y : HedgeVar} → p ≡ x → q ≡ y → eqb p.0 q.0 ≡ eq_h x y
same_runs {p} {q} {x} {y} e d = ap (λ (z : HedgeVar). eqb z.0 q.0) e ∙ ap (λ (z : HedgeVar). eqb x.0 z.0) d

pub same-functions : {X Y x y : FunVar} → X ≡ x → Y ≡ y → eqb X.0 Y.0 ≡ eq_x x y
same-functions {X} {Y} {x} {y} e d = ap (λ (z : FunVar). eqb z.0 Y.0) e ∙ ap (λ (z : FunVar). eqb x.0 z.0) d

pub same-symbols : {f g x y : Sym} → f ≡ x → g ≡ y → eqb f.0 g.0 ≡ eq_s x y
same-symbols {f} {g} {x} {y} e d = ap (λ (z : Sym). eqb z.0 g.0) e ∙ ap (λ (z : Sym). eqb x.0 z.0) d

pub same_names : {f g x y : Name} {b : Bool} → b ≡ same_name f g → f ≡ x → g ≡ y → b ≡ same_name x y
same_names {f} {g} {x} {y} r e d = r ∙ ap (λ z. same_name z g) e ∙ ap (same_name x) d

pub same-blanks : {X x : FunVar} {f y : Name} {b : Bool} → b ≡ is_blank X f → X ≡ x → f ≡ y → b ≡ is_blank x y
same-blanks {X} {x} {f} {y} r e d = r ∙ ap (λ z. is_blank z f) e ∙ ap (is_blank x) d

-- ---- an equation

module _ {k : List ℕ} {v : View} {before : Conj} {l r : Hedge} {behind : Conj} (w : Sees k v before l r behind) where
  -- a variable's word stands elsewhere
  there : (y : Var) → fine_var desk y → {x : ℕ} → x ≡ variable_word y → {b : Bool} → (x < places → b ≡ (member x (take v.at k) || member x (drop v.end k))) → b ≡ in_conj y (before ++ behind)
  there y f e d = d (let z = low y f in omega arith) ∙ ap (λ z. member z (take v.at k) || member z (drop v.end k)) e ∙ elsewhere-sees y f w

  pub variable-held : {y : TermVar} → y ≡ variable_of v.l.look → {x : ℕ} → x ≡ 1000 + y.0 → {b : Bool} → b ≡ member x (slice v.r.from v.r.to k) → b ≡ holds (tv (variable_of (look_of l))) r
  variable-held e d m = held w.right (tv (variable_of (look_of l))) (variable-fine l w.left.fine) (variable-word w.left e d) m

  pub run-held : {p : HedgeVar} → p ≡ run_of v.l.look → {x : ℕ} → x ≡ 2000 + p.0 → {b : Bool} → b ≡ member x (slice v.r.from v.r.to k) → b ≡ holds (hv (run_of (look_of l))) r
  run-held e d m = held w.right (hv (run_of (look_of l))) (run-fine l w.left.fine) (run-word w.left e d) m

  module _ {s : Side} {h : Hedge} (u : Sided k s h) where
    pub variable-there : {y : TermVar} → y ≡ variable_of s.look → {x : ℕ} → x ≡ 1000 + y.0 → {b : Bool} → (x < places → b ≡ (member x (take v.at k) || member x (drop v.end k)))
        → b ≡ in_conj (tv (variable_of (look_of h))) (before ++ behind)
    variable-there e d m = there (tv (variable_of (look_of h))) (variable-fine h u.fine) (variable-word u e d) m

    pub run-there : {p : HedgeVar} → p ≡ run_of s.look → {x : ℕ} → x ≡ 2000 + p.0 → {b : Bool} → (x < places → b ≡ (member x (take v.at k) || member x (drop v.end k)))
        → b ≡ in_conj (hv (run_of (look_of h))) (before ++ behind)
    run-there e d m = there (hv (run_of (look_of h))) (run-fine h u.fine) (run-word u e d) m

    pub blank-there : {f : Name} → f ≡ name_in s.look → {X : FunVar} → X ≡ blank_of f → {x : ℕ} → x ≡ 4000 + X.0 → {b : Bool} → (x < places → b ≡ (member x (take v.at k) || member x (drop v.end k)))
        → b ≡ in_conj (fv (blank_of (name_in (look_of h)))) (before ++ behind)
    blank-there e d g m = there (fv (blank_of (name_in (look_of h)))) (blank-fine h u.fine) (blank-word u e d g) m

  -- what is found along the right side
  pub hidden : {y : TermVar} → y ≡ variable_of v.l.look → {b : Bool} → ((h : Hedge) (beyond : List ℕ) → y.0 < desk.each → Stands k v.r.from h beyond → b ≡ under (tv y) h)
      → b ≡ under (tv (variable_of (look_of l))) r
  hidden e q =
      q r w.right.beyond (subst (λ (y : TermVar). y.0 < desk.each) (sym (read w.left variable_of e)) (variable-fine l w.left.fine)) (side-stands w.right)
      ∙ ap (λ (y : TermVar). under (tv y) r) (read w.left variable_of e)

  run-below : {p : HedgeVar} → p ≡ run_of v.l.look → p.0 < desk.each
  run-below e = subst (λ (p : HedgeVar). p.0 < desk.each) (sym (read w.left run_of e)) (run-fine l w.left.fine)

  pub spotted : {p : HedgeVar} → p ≡ run_of v.l.look → {t : prelude.Option ℕ} → ((h : Hedge) (beyond : List ℕ) → p.0 < desk.each → Stands k v.r.from h beyond → Spotted p v.r.from t h)
      → prelude.is_some t ≡ is_some (inside (run_of (look_of l)) r)
  spotted e q = spotted-some (q r w.right.beyond (run-below e) (side-stands w.right)) ∙ ap (λ (p : HedgeVar). is_some (inside p r)) (read w.left run_of e)

  pub ahead : {p : HedgeVar} → p ≡ run_of v.l.look → {t : prelude.Option ℕ} → ((h : Hedge) (beyond : List ℕ) → p.0 < desk.each → Stands k v.r.from h beyond → Ahead p t h)
      → prelude.is_some t ≡ is_some (up_to (run_of (look_of l)) r)
  ahead e q = ahead-some (q r w.right.beyond (run-below e) (side-stands w.right)) ∙ ap (λ (p : HedgeVar). is_some (up_to p r)) (read w.left run_of e)

-- ---- a membership

module _ {k : List ℕ} {s : Shape} {before : Conj} {h : Hedge} {R : Expr} {behind : Conj} (w : Shows k s before h R behind) where
  pub here : Here k s.expr R (conj_words behind)
  here = record { fine = w.fine; words = w.here }

  pub formed : {n : ℕ} → n ≡ form_word s.first → (x : ℕ) → eqb n x ≡ is_form x (first_kind R)
  formed e x = ap (λ n. eqb n x) (e ∙ ap form_word w.first)

  pub over-read : {g : Sym} → g ≡ symbol_in s.first → g ≡ symbol_in (first_kind R)
  over-read e = e ∙ ap symbol_in w.first
