-- The parts that rules take of fine hedges and expressions are fine, and a fine substitution keeps hedges fine.
use Prim.Native.Nat.{◌<◌}
use mathlib.Core.Path.{sym, subst}
use mathlib.Core.Bool.{Bool, true, false}
use mathlib.Core.List.{List, [], ◌∷◌, ◌++◌, map}
use Rattle.language.specs.Limits.{Limits}
use Rattle.language.specs.Kinds.{pick}
use Rattle.language.specs.declared.TermVar.{TermVar}
use Rattle.language.specs.declared.HedgeVar.{HedgeVar}
use Rattle.language.specs.declared.FunVar.{FunVar}
use Rattle.language.specs.Trees.{Functor, symbol, fvar, Hedge, ε, tvar, hvar, node, Expr, eps, cat, alt, star, over, eqn, mem, Conj, ◌⧺◌, eq_t, eq_h, eq_x, hv, holds}
use Rattle.language.specs.Fine.{fine_functor, fine_hedge, fine_expr, fine_conj}
use Rattle.rules.specs.Substitution.{Subst, put_f, put, put_c, set_t, set_h, set_f, emptied}
use Rattle.rules.specs.Looks.{cuts, is_eps}
use Rattle.rules.specs.Expressions.{nullable, Monomial, joined, ◌⊙◌, linear}
use Rattle.rules.specs.Rules.{vanish}
use Rattle.rules.specs.Each.{Each}
use Rattle.rules.proofs.Each.{each-++, each_map, each-imp}
use Rattle.rules.proofs.Looks.{CutOf, cuts-join}

pub picked : {A : Type 0} (P : A → Type 0) (b : Bool) (x y : A) → P x → P y → P (pick b x y)
picked P true x y p q = p
picked P false x y p q = q

module _ (L : Limits) where
  pub fine-join : (h k : Hedge) → fine_hedge L h → fine_hedge L k → fine_hedge L (h ⧺ k)
  fine-join ε k p q = q
  fine-join (tvar x r) k p q = (p.0, fine-join r k p.1 q)
  fine-join (hvar x r) k p q = (p.0, fine-join r k p.1 q)
  fine-join (node f c r) k p q = (p.0, p.1, fine-join r k p.2 q)

  pub fine-both : (h k : Hedge) → fine_hedge L (h ⧺ k) → fine_hedge L h × fine_hedge L k
  fine-both ε k p = (tt, p)
  fine-both (tvar x r) k p = let i = fine-both r k p.1 in ((p.0, i.0), i.1)
  fine-both (hvar x r) k p = let i = fine-both r k p.1 in ((p.0, i.0), i.1)
  fine-both (node f c r) k p = let i = fine-both r k p.2 in ((p.0, p.1, i.0), i.1)

  pub fine-append : (c k : Conj) → fine_conj L c → fine_conj L k → fine_conj L (c ++ k)
  fine-append [] k p q = q
  fine-append (l ∷ c) k p q = (p.0, fine-append c k p.1 q)

  pub fine-split : (c k : Conj) → fine_conj L (c ++ k) → fine_conj L c × fine_conj L k
  fine-split [] k p = (tt, p)
  fine-split (l ∷ c) k p = let i = fine-split c k p.1 in ((p.0, i.0), i.1)

  -- both parts of each cut
  abbrev pub FinePair : Hedge × Hedge → Type 0
  FinePair c = fine_hedge L c.0 × fine_hedge L c.1

  pub fine-cuts : (h : Hedge) → fine_hedge L h → Each FinePair (cuts h)
  fine-cuts h p = each-imp (CutOf h) FinePair (λ c e. fine-both c.0 c.1 (subst (fine_hedge L) (sym e) p)) (cuts h) (cuts-join h)

  pub fine-vanish : (h : Hedge) → fine_hedge L h → fine_conj L (vanish h)
  fine-vanish ε p = tt
  fine-vanish (tvar x r) p = fine-vanish r p.1
  fine-vanish (hvar x r) p = (((p.0, tt), tt), fine-vanish r p.1)
  fine-vanish (node f c r) p = fine-vanish r p.2

  -- ---- a monomial

  abbrev pub FineMonomial : Monomial → Type 0
  FineMonomial m = (m.name.0 < L.each) × fine_expr L m.inner × fine_expr L m.rest

  fine-joined : (R : Expr) → fine_expr L R → (l : List Monomial) → Each FineMonomial l → Each FineMonomial (map (joined R) l)
  fine-joined R p l e =
      each_map FineMonomial FineMonomial (joined R) (λ m q. (q.0, q.1, picked (fine_expr L) (is_eps m.rest) R (cat m.rest R) p (q.2, p))) l e

  pub fine-linear : (R : Expr) → fine_expr L R → Each FineMonomial (linear R)
  fine-linear eps p = tt
  fine-linear (cat a b) p =
      each-++ FineMonomial (linear a ⊙ b) (pick (nullable a) (linear b) [])
      (picked (Each FineMonomial) (is_eps b) (linear a) (map (joined b) (linear a)) (fine-linear a p.0) (fine-joined b p.1 (linear a) (fine-linear a p.0)))
      (picked (Each FineMonomial) (nullable a) (linear b) [] (fine-linear b p.1) tt)
  fine-linear (alt a b) p = each-++ FineMonomial (linear a) (linear b) (fine-linear a p.0) (fine-linear b p.1)
  fine-linear (star a) p = fine-joined (star a) p (linear a) (fine-linear a p)
  fine-linear (over f a) p = ((p.0, p.1, tt), tt)

  -- ---- a substitution

  pub record FineSubst (s : Subst) : Type 0 where
    pub term : (x : TermVar) → x.0 < L.each → fine_hedge L (s.term x)
    pub hedge : (p : HedgeVar) → p.0 < L.each → fine_hedge L (s.hedge p)
    pub functor : (X : FunVar) → X.0 < L.each → fine_functor L (s.functor X)

  pub fine-set_t : (x : TermVar) (t : Hedge) → fine_hedge L t → FineSubst (set_t x t)
  fine-set_t x t p = record { term = λ y q. picked (fine_hedge L) (eq_t x y) t (tvar y ε) p (q, tt); hedge = λ y q. (q, tt); functor = λ y q. q }

  pub fine-set_h : (x : HedgeVar) (t : Hedge) → fine_hedge L t → FineSubst (set_h x t)
  fine-set_h x t p = record { term = λ y q. (q, tt); hedge = λ y q. picked (fine_hedge L) (eq_h x y) t (hvar y ε) p (q, tt); functor = λ y q. q }

  pub fine-set_f : (X : FunVar) (F : Functor) → fine_functor L F → FineSubst (set_f X F)
  fine-set_f X F p = record { term = λ y q. (q, tt); hedge = λ y q. (q, tt); functor = λ y q. picked (fine_functor L) (eq_x X y) F (fvar y) p q }

  pub fine-emptied : (h : Hedge) → FineSubst (emptied h)
  fine-emptied h = record { term = λ y q. (q, tt); hedge = λ y q. picked (fine_hedge L) (holds (hv y) h) ε (hvar y ε) tt (q, tt); functor = λ y q. q }

  module _ (s : Subst) (fine : FineSubst s) where
    fine-put_f : (f : Functor) → fine_functor L f → fine_functor L (put_f s f)
    fine-put_f (symbol f) p = p
    fine-put_f (fvar X) p = fine.functor X p

    fine-put : (h : Hedge) → fine_hedge L h → fine_hedge L (put s h)
    fine-put ε p = tt
    fine-put (tvar x r) p = fine-join (s.term x) (put s r) (fine.term x p.0) (fine-put r p.1)
    fine-put (hvar x r) p = fine-join (s.hedge x) (put s r) (fine.hedge x p.0) (fine-put r p.1)
    fine-put (node f c r) p = (fine-put_f f p.0, fine-put c p.1, fine-put r p.2)

    pub fine-put_c : (k : Conj) → fine_conj L k → fine_conj L (put_c s k)
    fine-put_c [] p = tt
    fine-put_c (eqn l r ∷ k) p = ((fine-put l p.0.0, fine-put r p.0.1), fine-put_c k p.1)
    fine-put_c (mem h R ∷ k) p = ((fine-put h p.0.0, p.0.1), fine-put_c k p.1)
