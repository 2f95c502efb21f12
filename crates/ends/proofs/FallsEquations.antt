-- Each rule of equations, wherever it applies.
use Prim.Native.Nat.{ℕ, suc, ◌+◌, ◌≤◌, ◌<◌}
use mathlib.Core.Path.{◌≡◌, refl, ap, ◌∙◌}
use mathlib.Core.Logic.{inl, inr}
use mathlib.Core.Bool.{Bool, true, false, ◌&&◌, not}
use mathlib.Core.List.{[], ◌∷◌}
use mathlib.Core.Option.{none}
use native.Mathlib.Omega.{arith}
use lib.Dec.{T}
use Rattle.language.specs.declared.HedgeVar.{HedgeVar}
use Rattle.language.specs.declared.Signature.{Signature}
use Rattle.language.specs.Trees.{Functor, symbol, fvar, Hedge, ε, tvar, hvar, node, eqn, Conj, ◌⧺◌, Var, hv, fv, eq_v, in_conj}
use Rattle.rules.specs.Looks.{empty, first_term, first_run, lone_h, lone_node, as_symbol, inside}
use Rattle.rules.specs.Elements.{struck, width, orders}
use Rattle.rules.specs.Solved.{is_term, is_functor, variable}
use Rattle.rules.specs.Rules.{order_result}
use Rattle.rules.specs.Rules as rules
use Rattle.rules.proofs.Each.{each_map}
use Rattle.rules.proofs.Answers.{Where, look, test, answers}
use Rattle.rules.proofs.Looks.{empty-is, lone_h-is, lone_node-is, first_run-is, as_symbol-is, inside_is}
use Rattle.rules.proofs.Names.{eq_h-is, eq_f-is, same_words-is}
use Rattle.rules.proofs.Tests.{true-test}
use Rattle.ends.specs.Measure.{one, occ_c, is, places, rest_l, rest}
use Rattle.ends.proofs.Sums.{occ-⧺, places-⧺, odd'-some, odd'-few, one_of, in-counted, given_is, variable-once}
use Rattle.ends.proofs.Falls.{LeftAlone, Falls, FallsEqn, zero_or, alone-term, is_run, one_place, occ-places, odd'-on, struck-fewer, orders-places}

-- ---- tests

pub not-true : (b : Bool) → T (not b) → b ≡ false
not-true true t = absurd t
not-true false t = refl

pub counted-in : (v : Var) (k : Conj) → T (in_conj v k) → 1 ≤ occ_c v k
counted-in v k t = let z = in-counted v k in let y = one_of (in_conj v k) t in omega arith

-- ---- what a rule drops or shortens

pub R1-falls : FallsEqn rules.R1
R1-falls K l r = test _ λ _ t. rw (same_words-is l r t) (answers ((alone, inr (omega arith, let z = (odd'-few (places r + places r)).0 in omega arith)), tt))
  where
    alone : LeftAlone K (eqn r r)
    alone v = elim (zero_or (is v (variable r r))) [ inl z ↦ inl (omega arith) | inr z ↦ inr (let y = variable-once v r r in omega arith) ]

-- both sides begin with p: whoever is one of them alone is p
pub Del1-falls : FallsEqn rules.Del1
Del1-falls K l r =
    look (first_run l) (first_run-is l) λ a d. look (first_run r) (first_run-is r) λ b e. test _ λ _ t.
    rw (d, e, ← eq_h-is a.0 b.0 t)
    (answers ((alone a.0 a.1 b.1, inr (omega arith, let z = odd'-on (places a.1 + places b.1) (suc (places a.1) + suc (places b.1)) (omega arith) (omega arith) in omega arith)), tt))
  where
    alone : (p : HedgeVar) (h k : Hedge) → LeftAlone K (eqn (hvar p h) (hvar p k))
    alone p h k v =
        let x = given_is v (hv p) (empty h) in let y = given_is v (hv p) (empty k) in
        elim (zero_or (one (eq_v v (hv p)))) [ inl z ↦ inl (omega arith) | inr z ↦ inr (omega arith) ]

pub Del2-falls : (σ : Signature) → FallsEqn (rules.Del2 σ)
Del2-falls σ K l r =
    look (lone_node l) (lone_node-is l) λ a d. look (lone_node r) (lone_node-is r) λ b e.
    look (as_symbol a.0) (as_symbol-is a.0) λ f s. look (as_symbol b.0) (as_symbol-is b.0) λ g t.
    test _ λ _ _. test _ λ _ _.
    look (struck a.1 b.1) (struck-fewer a.1 b.1) λ c w.
    rw (d, e, s, t) (answers (
      (
        λ v. inl refl,
        inr (
          omega arith,
          let z = odd'-on (suc (places c.0 + 0) + suc (places c.1 + 0)) (suc (places a.1 + 0) + suc (places b.1 + 0)) (let y = w.0 in let x = w.1 in omega arith) (omega arith) in omega arith,
        ),
      ),
      tt,
    ))

pub Del3-falls : FallsEqn rules.Del3
Del3-falls K l r =
    look (lone_h l) (lone_h-is l) λ p d. look (inside p r) (inside_is p r) λ a e.
    rw (d, e) (answers ((alone p a.0 a.1, inr (omega arith, lighter p a.0 a.1)), tt))
  where
    alone : (p : HedgeVar) (h k : Hedge) → LeftAlone K (eqn (hvar p ε) (h ⧺ hvar p k))
    alone p h k v =
        let o = occ-⧺ v h (hvar p k) in let w = places-⧺ h (hvar p k) in
        let x = variable-once v (h ⧺ hvar p k) (hvar p ε) in
        let a = occ-places v h in let b = occ-places v k in
        elim (zero_or (one (eq_v v (hv p)))) [
          | inr z ↦ inr (omega arith)
          | inl z ↦ elim (one_place v (h ⧺ hvar p k) (hvar p ε)) [ inl y ↦ inl (omega arith) | inr y ↦ inl (omega arith) ]
        ]

    lighter : (p : HedgeVar) (h k : Hedge) → rest (eqn h ε ∷ eqn k ε ∷ []) < rest_l (eqn (hvar p ε) (h ⧺ hvar p k))
    lighter p h k =
        let w = places-⧺ h (hvar p k) in
        let x = (odd'-few (places h + 0)).1 in let y = (odd'-few (places k + 0)).1 in
        let z = odd'-some (places (hvar p ε) + places (h ⧺ hvar p k)) (omega arith) in
        omega arith

pub D1-falls : (σ : Signature) → FallsEqn (rules.D1 σ)
D1-falls σ K l r =
    look (lone_node l) (lone_node-is l) λ a d. look (lone_node r) (lone_node-is r) λ b e.
    look (as_symbol a.0) (as_symbol-is a.0) λ f s. look (as_symbol b.0) (as_symbol-is b.0) λ g t.
    test _ λ _ _. test _ λ _ _. test _ λ _ _. test _ λ _ _.
    rw (d, e, s, t)
    (answers (each_map (λ k. places k ≡ places b.1) (Falls K (eqn (node (symbol f) a.1 ε) (node (symbol g) b.1 ε))) (order_result a.1)
    (λ k w. (
      λ v. inl refl,
      inr (
        omega arith,
        let z = odd'-on (places a.1 + places k) (suc (places a.1 + 0) + suc (places b.1 + 0)) (omega arith) (omega arith) in omega arith,
      ),
    )) (orders b.1) (orders-places b.1)))

-- the first term, and what follows
pub first-is : (h : Hedge) → Where (λ a. (h ≡ a.0 ⧺ a.1) × (is_run h ≡ false) × (width h ≡ suc (width a.1)) × (0 < places a.0)) (first_term h)
first-is ε = tt
first-is (tvar x r) = (refl, refl, refl, omega arith)
first-is (hvar p r) = tt
first-is (node f c r) = (refl, refl, refl, omega arith)

empty-width : (h : Hedge) → width h ≡ 0 → empty h ≡ true
empty-width ε e = refl
empty-width (tvar x r) e = absurd (omega arith)
empty-width (hvar p r) e = absurd (omega arith)
empty-width (node f c r) e = absurd (omega arith)

term-wide : (r : Hedge) → is_term r ≡ true → width r ≡ 1
term-wide ε e = absurd (let z : ◌≡◌ {A = ℕ} 0 1 = cc in omega arith)
term-wide (tvar x r) e = rw (empty-is r (true-test (empty r) e)) refl
term-wide (hvar p r) e = absurd (let z : ◌≡◌ {A = ℕ} 0 1 = cc in omega arith)
term-wide (node f c r) e = rw (empty-is r (true-test (empty r) e)) refl

some-width : (a b : Hedge) → T (not (empty a && empty b)) → 1 ≤ width a + width b
some-width ε ε t = absurd t
some-width ε (tvar x r) t = omega arith
some-width ε (hvar p r) t = omega arith
some-width ε (node f c r) t = omega arith
some-width (tvar x r) b t = omega arith
some-width (hvar p r) b t = omega arith
some-width (node f c r) b t = omega arith

width-places : (h : Hedge) → width h ≤ places h
width-places ε = omega arith
width-places (tvar x r) = let z = width-places r in omega arith
width-places (hvar p r) = let z = width-places r in omega arith
width-places (node f c r) = let z = width-places r in omega arith

pub D2-falls : FallsEqn rules.D2
D2-falls K l r =
    look (first_term l) (first-is l) λ a p. look (first_term r) (first-is r) λ b q. test _ λ _ t.
    let n = some-width a.1 b.1 t in
    answers (
      (
        alone p.1 q.1 (let x = p.2 in let y = q.2 in omega arith),
        inr (
          omega arith,
          let x = ap places p.0 ∙ places-⧺ a.0 a.1 in let y = ap places q.0 ∙ places-⧺ b.0 b.1 in
              let v = width-places a.1 in let w = width-places b.1 in
              let c = odd'-some (places a.0 + places b.0) (let z = p.3 in omega arith) in
              let d = odd'-some (places a.1 + places b.1) (omega arith) in
              let e = odd'-some (places l + places r) (let z = p.3 in omega arith) in
              omega arith,
        ),
      ),
      tt,
    )
  where
    alone : is_run l ≡ false → is_run r ≡ false → 3 ≤ width l + width r → LeftAlone K (eqn l r)
    alone d e n v = inl (let x = none l r d n in let y = none r l e (omega arith) in omega arith)
      where
        none : (l r : Hedge) → is_run l ≡ false → 3 ≤ width l + width r → is v (variable l r) ≡ 0
        none l r d n = elim (alone-term v l r d) [ inl z ↦ z | inr z ↦ absurd (let x = z.0 in let y = term-wide r z.1 in omega arith) ]

-- the same functor on both sides: a variable that is a side alone is that functor
pub D0-falls : (σ : Signature) → FallsEqn (rules.D0 σ)
D0-falls σ K l r =
    look (lone_node l) (lone_node-is l) λ a d. look (lone_node r) (lone_node-is r) λ b e.
    test _ λ _ t. test _ λ _ _.
    rw (d, e, ← eq_f-is a.0 b.0 t)
    (answers (
      (
        alone a.0 a.1 b.1,
        inr (
          omega arith,
          let z = odd'-on (places a.1 + places b.1) (suc (places a.1 + 0) + suc (places b.1 + 0)) (omega arith) (omega arith) in omega arith,
        ),
      ),
      tt,
    ))
  where
    alone : (f : Functor) (h k : Hedge) → LeftAlone K (eqn (node f h ε) (node f k ε))
    alone (symbol f) h k v = inl refl
    alone (fvar X) h k v =
        let x = given_is v (fv X) (empty h && true && is_functor (node (fvar X) k ε)) in let y = given_is v (fv X) (empty k && true && is_functor (node (fvar X) h ε)) in
        elim (zero_or (one (eq_v v (fv X)))) [ inl z ↦ inl (omega arith) | inr z ↦ inr (omega arith) ]
