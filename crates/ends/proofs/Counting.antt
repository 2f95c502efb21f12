-- How many of some variables are not settled: no more where those that were settled are, fewer where one more is.
use Prim.Native.Nat.{ℕ, zero, suc, ◌+◌, ◌≤◌, ◌<◌}
use mathlib.Core.Path.{◌≡◌, refl, sym, ap, ◌∙◌, subst}
use mathlib.Core.Bool.{Bool, true, false, not}
use mathlib.Core.List.{List, [], ◌∷◌, Memᴰ}
use native.Mathlib.Omega.{arith}
use lib.Dec.{eqb}
use borrow.Author.Tests.{eqb-true}
use Rattle.language.specs.Trees.{Functor, symbol, fvar, Hedge, ε, tvar, hvar, node, Literal, eqn, mem, Conj, Var, tv, hv, fv, eq_v}
use Rattle.rules.proofs.Names.{eq_v-is}
use Rattle.rules.proofs.Tests.{and_parts, true-test, test-true}
use Rattle.exact.specs.Made.{Name, a_symbol, a_variable, MadeF, Made, MadeL}
use Rattle.ends.specs.Measure.{one, occ_f, occ, occ_l, occ_c, own_c, settled, unsettled}

-- ---- settled

pub settled_is : (k : Conj) (v : Var) → settled k v ≡ true → (occ_c v k ≡ 1) × (own_c v k ≡ 1)
settled_is k v e =
    let (a, b) = and_parts (eqb (occ_c v k) 1) (eqb (own_c v k) 1) (true-test (settled k v) e) in
    (eqb-true (occ_c v k) 1 ((test-true (eqb (occ_c v k) 1)).0 a), eqb-true (own_c v k) 1 ((test-true (eqb (own_c v k) 1)).0 b))

pub is-settled : (k : Conj) (v : Var) → occ_c v k ≡ 1 → own_c v k ≡ 1 → settled k v ≡ true
is-settled k v a b = rw (a, b) refl

-- ---- counted

module _ (j k : Conj) (stays : (v : Var) → settled k v ≡ true → settled j v ≡ true) where
  no_more : (v : Var) → one (not (settled j v)) ≤ one (not (settled k v))
  no_more v = go (settled k v) (settled j v) (stays v)
    where
      go : (a b : Bool) → (a ≡ true → b ≡ true) → one (not b) ≤ one (not a)
      go true true h = omega arith
      go true false h = absurd (let y = h refl in let z : ◌≡◌ {A = ℕ} 0 1 = cc in omega arith)
      go false true h = omega arith
      go false false h = omega arith

  pub unsettled-no-more : (vs : List Var) → unsettled vs j ≤ unsettled vs k
  unsettled-no-more [] = omega arith
  unsettled-no-more (v ∷ vs) = let y = no_more v in let z = unsettled-no-more vs in omega arith

  pub unsettled-fewer : (vs : List Var) (v : Var) → Memᴰ v vs → settled k v ≡ false → settled j v ≡ true → unsettled vs j < unsettled vs k
  unsettled-fewer (w ∷ vs) v (Memᴰ.head e) a b =
      let z = unsettled-no-more vs in
      let x = ap (λ u. one (not (settled k u))) (sym e) ∙ ap (λ c. one (not c)) a in
      let y = ap (λ u. one (not (settled j u))) (sym e) ∙ ap (λ c. one (not c)) b in
      omega arith
  unsettled-fewer (w ∷ vs) v (Memᴰ.tail m) a b = let y = no_more w in let z = unsettled-fewer vs v m a b in omega arith
  unsettled-fewer [] v x3 a b = elim x3 [ ]

-- ---- all variables are among these

abbrev pub In : List Var → Name → Type 0
In vs (a_symbol f) = Unit {0}
In vs (a_variable v) = Memᴰ v vs

module _ (vs : List Var) (v : Var) where
  there : {A : Type 0} (w : Var) → Memᴰ w vs → (one (eq_v v w) ≡ 0 → A) → (Memᴰ v vs → A) → A
  there {A} w m f g = go (eq_v v w) refl
    where
      go : (b : Bool) → eq_v v w ≡ b → A
      go true e = g (subst (λ u. Memᴰ u vs) (sym (eq_v-is v w (true-test (eq_v v w) e))) m)
      go false e = f (ap one e)

  in-functor : (f : Functor) → MadeF (In vs) f → 1 ≤ occ_f v f → Memᴰ v vs
  in-functor (symbol f) m h = absurd (omega arith)
  in-functor (fvar X) m h = there (fv X) m (λ e. absurd (omega arith)) (λ i. i)

  some_of : {A : Type 0} (m n : ℕ) → 1 ≤ m + n → (1 ≤ m → A) → (1 ≤ n → A) → A
  some_of zero n h f g = g (omega arith)
  some_of (suc m) n h f g = f (omega arith)

  pub in-hedge : (h : Hedge) → Made (In vs) h → 1 ≤ occ v h → Memᴰ v vs
  in-hedge ε m h = absurd (omega arith)
  in-hedge (tvar x r) m h = there (tv x) m.0 (λ e. in-hedge r m.1 (omega arith)) (λ i. i)
  in-hedge (hvar p r) m h = there (hv p) m.0 (λ e. in-hedge r m.1 (omega arith)) (λ i. i)
  in-hedge (node f c r) m h =
      some_of (occ_f v f) (occ v c + occ v r) h (in-functor f m.0) (λ n. some_of (occ v c) (occ v r) n (in-hedge c m.1) (in-hedge r m.2))

  pub in-literal : (l : Literal) → MadeL (In vs) l → 1 ≤ occ_l v l → Memᴰ v vs
  in-literal (eqn l r) m h = some_of (occ v l) (occ v r) h (in-hedge l m.0) (in-hedge r m.1)
  in-literal (mem h R) m n = in-hedge h m.0 n
