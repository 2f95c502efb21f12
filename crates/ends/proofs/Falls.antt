-- What is shown of each rule wherever it applies: what stands for the literal weighs less, or a variable is settled; and a settled variable's own equation is left alone.
use Prim.Native.Nat.{ℕ, zero, suc, ◌+◌, ◌≤◌, ◌<◌}
use mathlib.Core.Path.{◌≡◌, refl, ap, ◌∙◌}
use mathlib.Core.Logic.{◌⊎◌, inl, inr}
use mathlib.Core.Bool.{Bool, true, false, ◌&&◌}
use mathlib.Core.List.{[]}
use mathlib.Core.Option.{Option, none, some}
use native.Mathlib.Omega.{arith}
use lib.Dec.{T}
use Rattle.language.specs.declared.HedgeVar.{HedgeVar}
use Rattle.language.specs.Kinds.{pick}
use Rattle.language.specs.Trees.{Functor, symbol, fvar, Hedge, ε, tvar, hvar, node, Expr, Literal, eqn, mem, Conj, ◌⧺◌, same_words, Var, tv, hv, fv, eq_v, in_functor, holds}
use Rattle.rules.specs.Looks.{empty, onto, up_to}
use Rattle.rules.specs.Elements.{without, or_struck, struck, width, orders}
use Rattle.rules.specs.Solved.{given, is_term, is_functor, variable}
use Rattle.rules.specs.Substitution.{Subst, put_c}
use Rattle.rules.specs.Rules.{Branch, plain, elims, EqRule, InRule}
use Rattle.rules.specs.Each.{Each}
use Rattle.rules.proofs.Answers.{Where, where-map, Answers}
use Rattle.rules.proofs.Looks.{empty-is}
use Rattle.rules.proofs.Elements.{orders-by}
use Rattle.rules.proofs.Tests.{and_parts, true-test, test-true, picks}
use Rattle.ends.specs.Measure.{one, occ_f, occ, occ_l, occ_c, is, own, own_c, places, odd', hedges_l, hedges, rest_l, rest}
use Rattle.ends.proofs.Sums.{places-⧺, own-swapped, occ-swapped, rest-swapped}
use Rattle.ends.proofs.Putting.{Leaves, OneTerm, Clears}

-- ---- what is shown

-- a variable that a side of it is, alone, stands somewhere else too
abbrev pub LeftAlone : Conj → Literal → Type 0
LeftAlone K l = (v : Var) → (own v l ≡ 0) ⊎ (2 ≤ occ_l v l + occ_c v K)

abbrev pub Lighter : Conj → Literal → Type 0
Lighter ls l = (hedges ls < hedges_l l) ⊎ ((hedges ls ≤ hedges_l l) × (rest ls < rest_l l))

-- a variable that was not settled has its equation now, and stands nowhere else
pub record Settles (K : Conj) (l : Literal) (es : Conj) (s : Subst) : Type 0 where
  pub v : Var
  pub there : 1 ≤ occ_l v l
  pub loose : (own v l < occ_l v l) ⊎ (1 ≤ occ_c v K)
  pub once : occ_c v es ≡ 1
  pub alone : own_c v es ≡ 1
  pub clears : Clears v s

-- a membership is gone, and none of the others has grown
pub record Vanishes (l : Literal) (es ls : Conj) (s : Subst) : Type 0 where
  pub equations : hedges es ≡ 0
  pub nothing-else : ls ≡ []
  pub weighed : 0 < hedges_l l
  pub shorter : (k : Conj) → hedges (put_c s k) ≤ hedges k

abbrev pub Minds : Literal → Subst → Type 0
Minds l s = ((v : Var) → occ_l v l ≡ 0 → Leaves v s) × OneTerm s

abbrev pub Falls : Conj → Literal → Branch → Type 0
Falls K l (plain ls) = LeftAlone K l × Lighter ls l
Falls K l (elims es ls s) = LeftAlone K l × Minds l s × (Settles K l es s ⊎ Vanishes l es ls s)

abbrev pub FallsEqn : EqRule → Type 0
FallsEqn rule = (K : Conj) (l r : Hedge) → Answers (Each (Falls K (eqn l r))) (rule K l r)

abbrev pub FallsMem : InRule → Type 0
FallsMem rule = (K : Conj) (h : Hedge) (R : Expr) → Answers (Each (Falls K (mem h R))) (rule K h R)

-- the same with the sides swapped
pub falls-swapped : (K : Conj) (l r : Hedge) (b : Branch) → Falls K (eqn r l) b → Falls K (eqn l r) b
falls-swapped K l r (plain ls) f = (left-swapped, lighter f.1)
  where
    left-swapped : LeftAlone K (eqn l r)
    left-swapped v = elim (f.0 v) [ inl e ↦ inl (own-swapped v l r ∙ e) | inr e ↦ inr (let z = occ-swapped v l r in omega arith) ]

    lighter : Lighter ls (eqn r l) → Lighter ls (eqn l r)
    lighter (inl p) = inl p
    lighter (inr p) = let z = rest-swapped l r in inr (p.0, let y = p.1 in omega arith)
falls-swapped K l r (elims es ls s) f = (left-swapped, (λ v e. f.1.0 v (let z = occ-swapped v l r in omega arith), f.1.1), settles f.2)
  where
    left-swapped : LeftAlone K (eqn l r)
    left-swapped v = elim (f.0 v) [ inl e ↦ inl (own-swapped v l r ∙ e) | inr e ↦ inr (let z = occ-swapped v l r in omega arith) ]

    settles : Settles K (eqn r l) es s ⊎ Vanishes (eqn r l) es ls s → Settles K (eqn l r) es s ⊎ Vanishes (eqn l r) es ls s
    settles (inl t) = inl (record {
      v = t.v;
      there = let z = occ-swapped t.v l r in let y = t.there in omega arith;
      loose = elim t.loose [ inl e ↦ inl (let z = occ-swapped t.v l r in let y = own-swapped t.v l r in omega arith) | inr e ↦ inr e ];
      once = t.once;
      alone = t.alone;
      clears = t.clears;
    })
    settles (inr t) = absurd (let z = t.weighed in omega arith)

-- ---- a side that a variable is

pub zero_or : (n : ℕ) → (n ≡ 0) ⊎ (1 ≤ n)
zero_or zero = inl refl
zero_or (suc n) = inr (omega arith)

pub and_no : (a : Bool) → (a && false) ≡ false
and_no true = refl
and_no false = refl

no-given : (v w : Var) (b : Bool) → b ≡ false → is v (given b w) ≡ 0
no-given v w b e = rw e refl

term-width : (r : Hedge) → is_term r ≡ true → width r ≡ 1
term-width ε e = absurd (let z : ◌≡◌ {A = ℕ} 0 1 = cc in omega arith)
term-width (tvar x r) e = rw (empty-is r (true-test (empty r) e)) refl
term-width (hvar p r) e = absurd (let z : ◌≡◌ {A = ℕ} 0 1 = cc in omega arith)
term-width (node f c r) e = rw (empty-is r (true-test (empty r) e)) refl

functor-term : (r : Hedge) → T (is_functor r) → is_term r ≡ true
functor-term ε t = absurd t
functor-term (tvar x r) t = absurd t
functor-term (hvar p r) t = absurd t
functor-term (node f c r) t = (test-true (empty r)).0 (and_parts (empty c) (empty r) t).1

abbrev pub is_run : Hedge → Bool
is_run ε = false
is_run (tvar x r) = false
is_run (hvar p r) = true
is_run (node f c r) = false

-- one that begins with a term is alone only against a single term, and is one
pub alone-term : (v : Var) (l r : Hedge) → is_run l ≡ false → (is v (variable l r) ≡ 0) ⊎ ((width l ≡ 1) × (is_term r ≡ true))
alone-term v ε r e = inl refl
alone-term v (tvar x s) r e = go (empty s && is_term r) refl
  where
    go : (b : Bool) → (empty s && is_term r) ≡ b → (is v (given b (tv x)) ≡ 0) ⊎ ((width (tvar x s) ≡ 1) × (is_term r ≡ true))
    go true d = let (a, c) = and_parts (empty s) (is_term r) (true-test (empty s && is_term r) d) in inr (rw (empty-is s a) refl, (test-true (is_term r)).0 c)
    go false d = inl refl
alone-term v (hvar p s) r e = absurd (let z : ◌≡◌ {A = ℕ} 0 1 = cc in omega arith)
alone-term v (node (symbol f) c s) r e = inl refl
alone-term v (node (fvar X) c s) r e = go (empty c && empty s && is_functor r) refl
  where
    go : (b : Bool) → (empty c && empty s && is_functor r) ≡ b → (is v (given b (fv X)) ≡ 0) ⊎ ((width (node (fvar X) c s) ≡ 1) × (is_term r ≡ true))
    go true d =
        let (a, g) = and_parts (empty c && empty s) (is_functor r) (true-test (empty c && empty s && is_functor r) d) in
        inr (rw (empty-is s (and_parts (empty c) (empty s) a).1) refl, functor-term r g)
    go false d = inl refl

-- where one that begins with a term stands against something else than a single term, no variable is it
pub faces : (v : Var) (l r : Hedge) → is_run l ≡ false → is_term r ≡ false → is v (variable l r) ≡ 0
faces v l r e d = elim (alone-term v l r e) [ inl z ↦ z | inr z ↦ absurd (let y : ◌≡◌ {A = ℕ} 0 1 = let x = z.1 in cc in omega arith) ]

-- a side that a variable is has one place
pub one_place : (v : Var) (l r : Hedge) → (is v (variable l r) ≡ 0) ⊎ (places l ≡ 1)
one_place v ε r = inl refl
one_place v (tvar x s) r = go (empty s && is_term r) refl
  where
    go : (b : Bool) → (empty s && is_term r) ≡ b → (is v (given b (tv x)) ≡ 0) ⊎ (places (tvar x s) ≡ 1)
    go true d = inr (rw (empty-is s (and_parts (empty s) (is_term r) (true-test (empty s && is_term r) d)).0) refl)
    go false d = inl refl
one_place v (hvar p s) r = go (empty s) refl
  where
    go : (b : Bool) → empty s ≡ b → (is v (given b (hv p)) ≡ 0) ⊎ (places (hvar p s) ≡ 1)
    go true d = inr (rw (empty-is s (true-test (empty s) d)) refl)
    go false d = inl refl
one_place v (node (symbol f) c s) r = inl refl
one_place v (node (fvar X) c s) r = go (empty c && empty s && is_functor r) refl
  where
    go : (b : Bool) → (empty c && empty s && is_functor r) ≡ b → (is v (given b (fv X)) ≡ 0) ⊎ (places (node (fvar X) c s) ≡ 1)
    go true d =
        let a = (and_parts (empty c && empty s) (is_functor r) (true-test (empty c && empty s && is_functor r) d)).0 in
        let (x, y) = and_parts (empty c) (empty s) a in
        inr (rw (empty-is c x, empty-is s y) refl)
    go false d = inl refl

one-functor : (v : Var) (f : Functor) → occ_f v f ≤ 1
one-functor v (symbol f) = omega arith
one-functor v (fvar X) = go (eq_v v (fv X))
  where
    go : (b : Bool) → one b ≤ 1
    go true = omega arith
    go false = omega arith

one-small : (b : Bool) → one b ≤ 1
one-small true = omega arith
one-small false = omega arith

-- no variable stands more often than there are places
pub occ-places : (v : Var) (h : Hedge) → occ v h ≤ places h
occ-places v ε = omega arith
occ-places v (tvar x r) = let y = one-small (eq_v v (tv x)) in let z = occ-places v r in omega arith
occ-places v (hvar p r) = let y = one-small (eq_v v (hv p)) in let z = occ-places v r in omega arith
occ-places v (node f c r) = let x = one-functor v f in let y = occ-places v c in let z = occ-places v r in omega arith

-- ---- weights of equations

pub odd'-on : (m n : ℕ) → m < n → 2 ≤ n → odd' m < odd' n
odd'-on zero zero h k = omega arith
odd'-on zero (suc n) h k = omega arith
odd'-on (suc m) zero h k = omega arith
odd'-on (suc m) (suc n) h k = omega arith

-- ---- fewer places

without_fewer : (e h : Hedge) → Where (λ r. places r < places h) (without e h)
without_fewer e ε = tt
without_fewer e (tvar x r) = picks (Where (λ k. places k < places (tvar x r))) (same_words e (tvar x ε)) (λ _. omega arith)
    (where-map (λ k. places k < places (tvar x r)) (tvar x) (without e r) (λ k p. omega arith) (without_fewer e r))
without_fewer e (hvar p r) = picks (Where (λ k. places k < places (hvar p r))) (same_words e (hvar p ε)) (λ _. omega arith)
    (where-map (λ k. places k < places (hvar p r)) (hvar p) (without e r) (λ k p. omega arith) (without_fewer e r))
without_fewer e (node f c r) = picks (Where (λ k. places k < places (node f c r))) (same_words e (node f c ε)) (λ _. omega arith)
    (where-map (λ k. places k < places (node f c r)) (node f c) (without e r) (λ k p. omega arith) (without_fewer e r))

abbrev Fewer : Hedge → Hedge → Hedge × Hedge → Type 0
Fewer h k a = (places a.0 < places h) × (places a.1 < places k)

struck-one : (r k h : Hedge) (q : Hedge → Hedge) (m : Option (Hedge × Hedge)) (o : Option Hedge) → places r < places h
    → ((a : Hedge) → places a < places r → places (q a) < places h) → Where (Fewer r k) m → Where (λ b. places b < places k) o → Where (Fewer h k) (or_struck r o (onto q m))
struck-one r k h q m none l f p w = where-map (Fewer h k) _ m (λ a t. (f a.0 t.0, t.1)) p
struck-one r k h q m (some b) l f p w = (l, w)

pub struck-fewer : (h k : Hedge) → Where (Fewer h k) (struck h k)
struck-fewer ε k = tt
struck-fewer (tvar x r) k = struck-one r k (tvar x r) (tvar x) (struck r k) (without (tvar x ε) k) (omega arith) (λ a p. omega arith) (struck-fewer r k) (without_fewer (tvar x ε) k)
struck-fewer (hvar p r) k = struck-one r k (hvar p r) (hvar p) (struck r k) (without (hvar p ε) k) (omega arith) (λ a q. omega arith) (struck-fewer r k) (without_fewer (hvar p ε) k)
struck-fewer (node f c r) k = struck-one r k (node f c r) (node f c) (struck r k) (without (node f c ε) k) (omega arith) (λ a q. omega arith) (struck-fewer r k) (without_fewer (node f c ε) k)

pub orders-places : (h : Hedge) → Each (λ t. places t ≡ places h) (orders h)
orders-places = orders-by (λ h k. places k ≡ places h) refl λ h a k d e.
    let w = d.out in
    omega (
      arith,
      e,
      ap places w.whole,
      ap places w.left,
      places-⧺ w.before (a.0 ⧺ w.behind),
      places-⧺ a.0 w.behind,
      places-⧺ w.before w.behind,
      places-⧺ a.0 k,
    )

-- p is not in T, where (T, t, H2) is cut before the first term that holds it
pub up_to-before : (p : HedgeVar) (h : Hedge) → Where (λ a. holds (hv p) a.0 ≡ false) (up_to p h)
up_to-before p ε = tt
up_to-before p (tvar x r) = where-map (λ a. holds (hv p) a.0 ≡ false) _ (up_to p r) (λ a e. e) (up_to-before p r)
up_to-before p (hvar q r) = tt
up_to-before p (node f c r) = go (holds (hv p) c) refl (up_to-before p r)
  where
    no-functor : (f : Functor) → in_functor (hv p) f ≡ false
    no-functor (symbol f) = refl
    no-functor (fvar X) = refl

    go : (b : Bool) → holds (hv p) c ≡ b → Where (λ a. holds (hv p) a.0 ≡ false) (up_to p r)
        → Where (λ a. holds (hv p) a.0 ≡ false) (pick b (some (ε, node f c r)) (onto (node f c) (up_to p r)))
    go true d w = refl
    go false d w = where-map (λ a. holds (hv p) a.0 ≡ false) _ (up_to p r) (λ a e. rw (no-functor f, d) e) w
