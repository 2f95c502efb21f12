-- The rules of equations that eliminate a variable: it was not settled, and it is.
use Prim.Native.Nat.{ℕ, ◌+◌, ◌≤◌, ◌<◌}
use mathlib.Core.Path.{◌≡◌, refl, ap}
use mathlib.Core.Logic.{◌⊎◌, inl, inr}
use mathlib.Core.Bool.{Bool, true, false, ◌&&◌, not}
use mathlib.Core.List.{[], ◌∷◌, map}
use mathlib.Core.Option.{Option, none, some}
use native.Mathlib.Omega.{arith}
use lib.Dec.{T}
use Rattle.language.specs.declared.TermVar.{TermVar}
use Rattle.language.specs.declared.HedgeVar.{HedgeVar}
use Rattle.language.specs.declared.FunVar.{FunVar}
use Rattle.language.specs.declared.Sym.{Sym}
use Rattle.language.specs.declared.Signature.{Signature}
use Rattle.language.specs.Trees.{Functor, symbol, fvar, Hedge, ε, tvar, hvar, node, Literal, eqn, Conj, ◌⧺◌, eq_t, eq_f, eq_x, same_words, Var, tv, hv, fv, eq_v, holds, in_conj}
use Rattle.rules.specs.Looks.{empty, all_terms, first_run, lone_term, lone_t, lone_h, lone_node, as_blank, up_to, cuts}
use Rattle.rules.specs.Solved.{given, is_term, is_functor, variable}
use Rattle.rules.specs.Substitution.{set_t, set_h, set_f}
use Rattle.rules.specs.Rules.{elims, too, cut_result, every_symbol, named_result}
use Rattle.rules.specs.Rules as rules
use Rattle.rules.specs.Each.{Each}
use Rattle.rules.proofs.Each.{each_map, each_all}
use Rattle.rules.proofs.Answers.{Where, look, test, answers}
use Rattle.rules.proofs.Looks.{empty-is, lone_is, lone_t-is, lone_h-is, lone_node-is, first_run-is, as_blank-is, CutOf, cuts-join}
use Rattle.rules.proofs.Names.{eq_x-is, eq_v-is, eq_v-self}
use Rattle.rules.proofs.Tests.{true-test, picks}
use Rattle.ends.specs.Measure.{one, occ_f, occ, occ_l, occ_c, is, own}
use Rattle.ends.proofs.Sums.{occ-⧺, none_of, one_of, holds-counted, not-held, given_is, variable-once}
use Rattle.ends.proofs.Putting.{OneTerm, set_t-leaves, set_h-leaves, set_f-leaves, set_t-clears, set_h-clears, set_f-clears}
use Rattle.ends.proofs.Falls.{LeftAlone, Settles, Minds, Falls, FallsEqn, zero_or, and_no, faces, is_run, up_to-before}
use Rattle.ends.proofs.FallsEquations.{not-true, counted-in}

-- a single term
pub term_is : (h : Hedge) → Where (λ t. (h ≡ t) × (is_term t ≡ true)) (lone_term h)
term_is ε = tt
term_is (tvar x r) = lone_is (λ s t. (tvar x s ≡ t) × (is_term t ≡ true)) (tvar x ε) (refl, refl) r
term_is (hvar p r) = tt
term_is (node f c r) = lone_is (λ s t. (node f c s ≡ t) × (is_term t ≡ true)) (node f c ε) (refl, refl) r

term-no-run : (t : Hedge) → is_term t ≡ true → is_run t ≡ false
term-no-run ε e = refl
term-no-run (tvar x r) e = refl
term-no-run (hvar p r) e = absurd (let z : ◌≡◌ {A = ℕ} 0 1 = cc in omega arith)
term-no-run (node f c r) e = refl

where-imp : {A : Type 0} {P Q : A → Type 0} → ((a : A) → P a → Q a) → (m : Option A) → Where P m → Where Q m
where-imp f none p = tt
where-imp f (some a) p = f a p

pub self : (v : Var) → one (eq_v v v) ≡ 1
self v = one_of (eq_v v v) (eq_v-self v)

-- either it is that variable, or it is not
same_or : (v w : Var) → (v ≡ w) ⊎ (one (eq_v v w) ≡ 0)
same_or v w = go (eq_v v w) refl
  where
    go : (b : Bool) → eq_v v w ≡ b → (v ≡ w) ⊎ (one b ≡ 0)
    go true e = inl (eq_v-is v w (true-test (eq_v v w) e))
    go false e = inr refl

-- one that stands nowhere in them is another
pub other : (v w : Var) (n : ℕ) → one (eq_v v w) + n ≡ 0 → eq_v v w ≡ false
other v w n e = go (eq_v v w) e
  where
    go : (b : Bool) → one b + n ≡ 0 → b ≡ false
    go true e = absurd (omega arith)
    go false e = refl

-- ---- E1

set-terms : (x : TermVar) (t : Hedge) → is_term t ≡ true → OneTerm (set_t x t)
set-terms x t e y = picks (λ h. is_term h ≡ true) (eq_t x y) (λ _. e) refl

module _ (K : Conj) (x : TermVar) (t : Hedge) (single : is_term t ≡ true) (apart : holds (tv x) t ≡ false) (in_k : T (in_conj (tv x) K)) (too-in : T (too tv (lone_t t) K)) where
  x-in : 1 ≤ occ_c (tv x) K
  x-in = counted-in (tv x) K in_k

  -- the other side, where a variable is that
  other-side : (v : Var) (t : Hedge) → is_run t ≡ false → T (too tv (lone_t t) K) → (is v (variable t (tvar x ε)) ≡ 0) ⊎ ((1 ≤ occ v t) × (1 ≤ occ_c v K))
  other-side v ε d n = inl refl
  other-side v (tvar y ε) d n =
      elim (same_or v (tv y)) [ inl e ↦ inr (rw e (let z = self (tv y) in omega arith), rw e (counted-in (tv y) K n)) | inr e ↦ inl e ]
  other-side v (tvar y (tvar z r)) d n = inl refl
  other-side v (tvar y (hvar z r)) d n = inl refl
  other-side v (tvar y (node f c r)) d n = inl refl
  other-side v (hvar p r) d n = absurd (let z : ◌≡◌ {A = ℕ} 0 1 = cc in omega arith)
  other-side v (node (symbol f) c r) d n = inl refl
  other-side v (node (fvar X) c r) d n = inl (rw (and_no (empty c && empty r)) refl)

  E1-alone : LeftAlone K (eqn (tvar x ε) t)
  E1-alone v = elim (same_or v (tv x)) [
    | inl e ↦ inr (rw e (let z = self (tv x) in let y = x-in in omega arith))
    | inr e ↦ elim (other-side v t (term-no-run t single) too-in) [
      | inl z ↦ inl (let y = given_is v (tv x) (is_term t) in omega arith)
      | inr z ↦ inr (let a = z.0 in let b = z.1 in omega arith)
    ]
  ]

pub E1-falls : FallsEqn rules.E1
E1-falls K l r =
    look (lone_t l) (lone_t-is l) λ x d. look (lone_term r) (term_is r) λ t e.
    test _ λ _ a. test _ λ _ b. test _ λ _ c.
    rw (d, e.0) (answers (whole x t e.1 (not-true _ a) b c, tt))
  where
    whole : (x : TermVar) (t : Hedge) → is_term t ≡ true → holds (tv x) t ≡ false → T (in_conj (tv x) K) → T (too tv (lone_t t) K)
        → Falls K (eqn (tvar x ε) t) (elims (eqn (tvar x ε) t ∷ []) [] (set_t x t))
    whole x t single apart in_k n = (
      E1-alone K x t single apart in_k n,
      (λ v e. set_t-leaves v x t (other v (tv x) (occ v t) (omega arith)), set-terms x t single),
      inl (record {
        v = tv x;
        there = let z = self (tv x) in omega arith;
        loose = inr (counted-in (tv x) K in_k);
        once = let z = self (tv x) in let y = not-held (tv x) t apart in omega arith;
        alone = let y = not-held (tv x) t apart in let w = variable-once (tv x) t (tvar x ε) in let z = self (tv x) in let u = ap (λ b. is (tv x) (given b (tv x))) single in omega arith;
        clears = set_t-clears x t (not-held (tv x) t apart);
      }),
    )

-- ---- E2

module _ (K : Conj) (p : HedgeVar) where
  -- the other side, where a variable is that
  run-side : (v : Var) (r : Hedge) → T (too hv (lone_h r) K) → (is v (variable r (hvar p ε)) ≡ 0) ⊎ ((1 ≤ occ v r) × (1 ≤ occ_c v K))
  run-side v ε n = inl refl
  run-side v (hvar q ε) n =
      elim (same_or v (hv q)) [ inl e ↦ inr (rw e (let z = self (hv q) in omega arith), rw e (counted-in (hv q) K n)) | inr e ↦ inl e ]
  run-side v (hvar q (tvar z r)) n = inl refl
  run-side v (hvar q (hvar z r)) n = inl refl
  run-side v (hvar q (node f c r)) n = inl refl
  run-side v (tvar x r) n = inl (faces v (tvar x r) (hvar p ε) refl refl)
  run-side v (node f c r) n = inl (faces v (node f c r) (hvar p ε) refl refl)

  E2-alone : (r : Hedge) → T (in_conj (hv p) K) → T (too hv (lone_h r) K) → LeftAlone K (eqn (hvar p ε) r)
  E2-alone r in_k n v = elim (same_or v (hv p)) [
    | inl e ↦ inr (rw e (let z = self (hv p) in let y = counted-in (hv p) K in_k in omega arith))
    | inr e ↦ elim (run-side v r n) [ inl z ↦ inl (omega arith) | inr z ↦ inr (let a = z.0 in let b = z.1 in omega arith) ]
  ]

-- p = T, p not in T: what is settled
settles-run : (K : Conj) (l : Literal) (p : HedgeVar) (t : Hedge) → holds (hv p) t ≡ false → 1 ≤ occ_l (hv p) l → (own (hv p) l < occ_l (hv p) l) ⊎ (1 ≤ occ_c (hv p) K)
    → Settles K l (eqn (hvar p ε) t ∷ []) (set_h p t)
settles-run K l p t apart there loose = record {
  v = hv p;
  there = there;
  loose = loose;
  once = let z = self (hv p) in let y = not-held (hv p) t apart in omega arith;
  alone = let y = not-held (hv p) t apart in let w = variable-once (hv p) t (hvar p ε) in let z = self (hv p) in omega arith;
  clears = set_h-clears p t (not-held (hv p) t apart);
}

keep-term : (p : HedgeVar) (t : Hedge) → OneTerm (set_h p t)
keep-term p t y = refl

pub E2-falls : FallsEqn rules.E2
E2-falls K l r =
    look (lone_h l) (lone_h-is l) λ p d.
    test _ λ _ a. test _ λ _ b. test _ λ _ c.
    rw d (answers (
      (
        E2-alone K p r b c,
        (λ v e. set_h-leaves v p r (other v (hv p) (occ v r) (omega arith)), keep-term p r),
        inl (settles-run K (eqn (hvar p ε) r) p r (not-true _ a) (let z = self (hv p) in omega arith) (inr (counted-in (hv p) K b))),
      ),
      tt,
    ))

-- ---- E3, E4

-- (p, H) against something that does not begin with a hedge variable: no variable is a side
wide-alone : (K : Conj) (p : HedgeVar) (h r : Hedge) → T (not (empty h)) → is_run r ≡ false → LeftAlone K (eqn (hvar p h) r)
wide-alone K p h r t e v = inl (let z = ap (λ b. is v (given b (hv p))) (not-true (empty h) t) in let y = faces v r (hvar p h) e refl in omega arith)

part_apart : (p : HedgeVar) (a b t : Hedge) → a ⧺ b ≡ t → holds (hv p) t ≡ false → holds (hv p) a ≡ false
part_apart p a b t e d = not-counted a (let z = occ-⧺ (hv p) a b in let y = not-held (hv p) t d in let x = ap (occ (hv p)) e in omega arith)
  where
    not-counted : (h : Hedge) → occ (hv p) h ≡ 0 → holds (hv p) h ≡ false
    not-counted h e = go (holds (hv p) h) refl
      where
        go : (b : Bool) → holds (hv p) h ≡ b → b ≡ false
        go true d = absurd (let z = holds-counted (hv p) h in let y = ap one d in omega arith)
        go false d = refl

cuts-fall : (K : Conj) (p : HedgeVar) (h r whole rest : Hedge) → T (not (empty h)) → is_run r ≡ false → holds (hv p) whole ≡ false
    → Each (Falls K (eqn (hvar p h) r)) (map (cut_result p h rest) (cuts whole))
cuts-fall K p h r whole rest n e apart = each_map (CutOf whole) (Falls K (eqn (hvar p h) r)) (cut_result p h rest) one-cut (cuts whole) (cuts-join whole)
  where
    one-cut : (c : Hedge × Hedge) → CutOf whole c → Falls K (eqn (hvar p h) r) (cut_result p h rest c)
    one-cut c j = (
      wide-alone K p h r n e,
      (λ v d. set_h-leaves v p c.0 (other v (hv p) (occ v h + occ v r) (omega arith)), keep-term p c.0),
      inl (settles-run K (eqn (hvar p h) r) p c.0 (part_apart p c.0 c.1 whole j apart) (let z = self (hv p) in omega arith)
          (inl (elim (wide-alone K p h r n e (hv p)) [ inl z ↦ (let y = self (hv p) in omega arith) | inr z ↦ (let y = self (hv p) in let x = own-none in omega arith) ]))),
    )
      where
        own-none : own (hv p) (eqn (hvar p h) r) ≡ 0
        own-none = let z = ap (λ b. is (hv p) (given b (hv p))) (not-true (empty h) n) in let y = faces (hv p) r (hvar p h) e refl in omega arith

terms-no-run : (r : Hedge) → T (all_terms r) → is_run r ≡ false
terms-no-run ε t = refl
terms-no-run (tvar x r) t = refl
terms-no-run (hvar p r) t = absurd t
terms-no-run (node f c r) t = refl

pub E3-falls : FallsEqn rules.E3
E3-falls K l r =
    look (first_run l) (first_run-is l) λ a d.
    test _ λ _ n. test _ λ _ t. test _ λ _ h.
    rw d (answers (cuts-fall K a.0 a.1 r r ε n (terms-no-run r t) (not-true _ h)))

up_to-all : (p : HedgeVar) (h : Hedge) → Where (λ a. (is_run h ≡ false) × (holds (hv p) a.0 ≡ false)) (up_to p h)
up_to-all p ε = tt
up_to-all p (tvar x r) = where-imp (λ a e. (refl, e)) (up_to p (tvar x r)) (up_to-before p (tvar x r))
up_to-all p (hvar q r) = tt
up_to-all p (node f c r) = where-imp (λ a e. (refl, e)) (up_to p (node f c r)) (up_to-before p (node f c r))

pub E4-falls : FallsEqn rules.E4
E4-falls K l r =
    look (first_run l) (first_run-is l) λ a d.
    test _ λ _ n.
    look (up_to a.0 r) (up_to-all a.0 r) λ b u.
    rw d (answers (cuts-fall K a.0 a.1 r b.0 b.1 n u.0 u.1))

-- ---- E5, E6, E7

keep-functor : (X : FunVar) (f : Functor) → OneTerm (set_f X f)
keep-functor X f y = refl

other-functor : (X : FunVar) (f : Functor) → eq_f (fvar X) f ≡ false → occ_f (fv X) f ≡ 0
other-functor X (symbol f) e = refl
other-functor X (fvar Y) e = none_of (eq_x X Y) e

-- X() = F(), F not X: what is settled
pub settles-name : (K : Conj) (l : Literal) (X : FunVar) (f : Functor) → occ_f (fv X) f ≡ 0 → 1 ≤ occ_l (fv X) l → (own (fv X) l < occ_l (fv X) l) ⊎ (1 ≤ occ_c (fv X) K)
    → Settles K l (eqn (node (fvar X) ε ε) (node f ε ε) ∷ []) (set_f X f)
settles-name K l X f apart there loose = record {
  v = fv X;
  there = there;
  loose = loose;
  once = let z = self (fv X) in omega arith;
  alone = let z = self (fv X) in let w = variable-once (fv X) (node f ε ε) (node (fvar X) ε ε) in omega arith;
  clears = set_f-clears X f apart;
}

pub minds-name : (l : Literal) (X : FunVar) (f : Functor) → ((v : Var) → occ_l v l ≡ 0 → eq_v v (fv X) ≡ false) → Minds l (set_f X f)
minds-name l X f h = (λ v e. set_f-leaves v X f (h v e), keep-functor X f)

E5-alone : (K : Conj) (X : FunVar) (f : Functor) → T (in_conj (fv X) K) → T (too fv (as_blank f) K) → LeftAlone K (eqn (node (fvar X) ε ε) (node f ε ε))
E5-alone K X (symbol f) in_k n v = elim (same_or v (fv X)) [
  | inl e ↦ inr (rw e (let z = self (fv X) in let y = counted-in (fv X) K in_k in omega arith))
  | inr e ↦ inl (omega arith)
]
E5-alone K X (fvar Y) in_k n v = elim (same_or v (fv X)) [
  | inl e ↦ inr (rw e (let z = self (fv X) in let y = counted-in (fv X) K in_k in omega arith))
  | inr e ↦ elim (same_or v (fv Y)) [
    | inl d ↦ inr (rw d (let z = self (fv Y) in let y = counted-in (fv Y) K n in omega arith))
    | inr d ↦ inl (omega arith)
  ]
]

pub E5-falls : FallsEqn rules.E5
E5-falls K l r =
    look (lone_node l) (lone_node-is l) λ a d. look (as_blank a.0) (as_blank-is a.0) λ X s. look (lone_node r) (lone_node-is r) λ b e.
    test _ λ _ p. test _ λ _ q. test _ λ _ n. test _ λ _ i. test _ λ _ t.
    rw (d, e, s, empty-is a.1 p, empty-is b.1 q) (answers (
      (
        E5-alone K X b.0 i t,
        minds-name (eqn (node (fvar X) ε ε) (node b.0 ε ε)) X b.0 (λ v z. other v (fv X) 0 (omega arith)),
        inl (settles-name K (eqn (node (fvar X) ε ε) (node b.0 ε ε)) X b.0 (other-functor X b.0 (not-true _ n)) (let z = self (fv X) in omega arith) (inr (counted-in (fv X) K i))),
      ),
      tt,
    ))

-- X(H1) against F(H2), not both without children: no variable is a side
with-children : (v : Var) (X : FunVar) (f : Functor) (h k : Hedge) → T (not (empty h && empty k)) → is v (variable (node (fvar X) h ε) (node f k ε)) ≡ 0
with-children v X f h k t = go (empty h) (empty k) (not-true (empty h && empty k) t)
  where
    go : (a b : Bool) → (a && b) ≡ false → is v (given (a && true && (b && true)) (fv X)) ≡ 0
    go true true e = absurd (let z : ◌≡◌ {A = ℕ} 0 1 = cc in omega arith)
    go true false e = refl
    go false b e = refl

and-swapped : (a b : Bool) → T (not (a && b)) → T (not (b && a))
and-swapped true true t = t
and-swapped true false t = tt
and-swapped false true t = tt
and-swapped false false t = tt

E6-own : (v : Var) (X : FunVar) (f : Functor) (h k : Hedge) → T (not (empty h && empty k)) → own v (eqn (node (fvar X) h ε) (node f k ε)) ≡ 0
E6-own v X (symbol f) h k t = let z = with-children v X (symbol f) h k t in omega arith
E6-own v X (fvar Y) h k t = let z = with-children v X (fvar Y) h k t in let y = with-children v Y (fvar X) k h (and-swapped (empty h) (empty k) t) in omega arith

pub E6-falls : FallsEqn rules.E6
E6-falls K l r =
    look (lone_node l) (lone_node-is l) λ a d. look (as_blank a.0) (as_blank-is a.0) λ X s. look (lone_node r) (lone_node-is r) λ b e.
    test _ λ _ p. test _ λ _ n.
    rw (d, e, s) (answers (
      (
        λ v. inl (E6-own v X b.0 a.1 b.1 p),
        minds-name (eqn (node (fvar X) a.1 ε) (node b.0 b.1 ε)) X b.0 (λ v z. other v (fv X) 0 (omega arith)),
        inl (settles-name K (eqn (node (fvar X) a.1 ε) (node b.0 b.1 ε)) X b.0 (other-functor X b.0 (not-true _ n)) (let z = self (fv X) in omega arith)
            (inl (let z = self (fv X) in let y = E6-own (fv X) X b.0 a.1 b.1 p in omega arith))),
      ),
      tt,
    ))

-- X stands on both sides: a variable that is a side alone is X
E7-alone : (K : Conj) (X : FunVar) (h k : Hedge) → LeftAlone K (eqn (node (fvar X) h ε) (node (fvar X) k ε))
E7-alone K X h k v =
    let x = given_is v (fv X) (empty h && true && is_functor (node (fvar X) k ε)) in let y = given_is v (fv X) (empty k && true && is_functor (node (fvar X) h ε)) in
    elim (zero_or (one (eq_v v (fv X)))) [ inl z ↦ inl (omega arith) | inr z ↦ inr (omega arith) ]

-- and both sides are not X alone at once, since their children differ
one-given : (v w : Var) (b c : Bool) → (b && c) ≡ false → is v (given b w) + is v (given c w) ≤ one (eq_v v w)
one-given v w true true e = absurd (let z : ◌≡◌ {A = ℕ} 0 1 = cc in omega arith)
one-given v w true false e = omega arith
one-given v w false true e = omega arith
one-given v w false false e = omega arith

E7-loose : (X : FunVar) (h k : Hedge) → T (not (same_words h k)) → own (fv X) (eqn (node (fvar X) h ε) (node (fvar X) k ε)) < occ_l (fv X) (eqn (node (fvar X) h ε) (node (fvar X) k ε))
E7-loose X h k t =
    let z = self (fv X) in
    let y = one-given (fv X) (fv X) (empty h && true && is_functor (node (fvar X) k ε)) (empty k && true && is_functor (node (fvar X) h ε)) (differ h k t) in
    omega arith
  where
    differ : (h k : Hedge) → T (not (same_words h k)) → ((empty h && true && (empty k && true)) && (empty k && true && (empty h && true))) ≡ false
    differ ε ε t = absurd t
    differ ε (tvar x r) t = refl
    differ ε (hvar p r) t = refl
    differ ε (node f c r) t = refl
    differ (tvar x r) k t = refl
    differ (hvar p r) k t = refl
    differ (node f c r) k t = refl

pub E7-falls : (σ : Signature) → FallsEqn (rules.E7 σ)
E7-falls σ K l r =
    look (lone_node l) (lone_node-is l) λ a d. look (as_blank a.0) (as_blank-is a.0) λ X s.
    look (lone_node r) (lone_node-is r) λ b e. look (as_blank b.0) (as_blank-is b.0) λ Y t.
    test _ λ _ p. test _ λ _ n. test _ λ _ _.
    rw (d, e, s, t, ← eq_x-is X Y p)
    (answers (each_map (λ (f : Sym). Unit {0}) (Falls K (eqn (node (fvar X) a.1 ε) (node (fvar X) b.1 ε))) (named_result X a.1 b.1)
    (λ f _. (
      E7-alone K X a.1 b.1,
      minds-name (eqn (node (fvar X) a.1 ε) (node (fvar X) b.1 ε)) X (symbol f) (λ v z. other v (fv X) 0 (omega arith)),
      inl (settles-name K (eqn (node (fvar X) a.1 ε) (node (fvar X) b.1 ε)) X (symbol f) refl (let z = self (fv X) in omega arith) (inl (E7-loose X a.1 b.1 n))),
    )) (every_symbol σ) (each_all (λ (f : Sym). Unit {0}) (λ f. tt) (every_symbol σ))))
