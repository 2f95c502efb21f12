-- The tests say that a hedge, or a term, is shared exactly where it is.
use mathlib.Core.Path.{◌≡◌, refl, subst}
use mathlib.Core.Logic.{◌⊎◌, inl, inr, ◌↔◌}
use mathlib.Core.Bool.{Bool, true, false, ◌&&◌}
use mathlib.Core.List.{List, [], ◌∷◌, Memᴰ}
use native.Mathlib.Omega.{arith}
use lib.Dec.{T}
use lib.ListN.{length}
use Rattle.language.specs.Kinds.{pick}
use Rattle.language.specs.Trees.{Expr, eq_s}
use Rattle.rules.specs.Expressions.{nullable, Monomial, linear}
use Rattle.rules.specs.Walk.{Pair, among, onward, reached, some_of, some_pair, shares_by, sharing, shared, common_hedge, common_term}
use Rattle.rules.proofs.Tests.{or_cases, or_left, or_right, and_parts, and_both, true-test}
use Rattle.rules.proofs.Names.{eq_s-is, eq_s-same}
use Rattle.walk.specs.Reach.{Twins, start, inner, rest, Shares, empty, more, SharesTerm}
use Rattle.walk.proofs.Members.{no_more}
use Rattle.walk.proofs.Closures.{among_in, in-among, Closed, closes}
use Rattle.walk.proofs.Onward.{in-onward}
use Rattle.walk.proofs.Reached.{reach-on, reached-exact}

-- ---- some monomial of the one and some of the other

of-some_of : (t : Monomial → Bool) (l : List Monomial) → T (some_of t l) → (n : Monomial) × Memᴰ n l × T (t n)
of-some_of t [] s = absurd s
of-some_of t (n ∷ l) s =
    elim (or_cases (t n) (some_of t l) s) [ inl y ↦ (n, Memᴰ.head refl, y) | inr r ↦ let (k, m, y) = of-some_of t l r in (k, Memᴰ.tail m, y) ]

in-some_of : (t : Monomial → Bool) {n : Monomial} (l : List Monomial) → Memᴰ n l → T (t n) → T (some_of t l)
in-some_of t (k ∷ l) (Memᴰ.head e) y = or_left (t k) (some_of t l) (rw e at y)
in-some_of t (k ∷ l) (Memᴰ.tail m) y = or_right (t k) (some_of t l) (in-some_of t l m y)
in-some_of t {n = n} [] x'' y = elim x'' [ ]

of-some_pair : (t : Monomial → Monomial → Bool) (k l : List Monomial) → T (some_pair t k l) → (m : Monomial) × (n : Monomial) × Memᴰ m k × Memᴰ n l × T (t m n)
of-some_pair t [] l s = absurd s
of-some_pair t (m ∷ k) l s = elim (or_cases (some_of (t m) l) (some_pair t k l) s) [
  | inl y ↦ let (n, i, z) = of-some_of (t m) l y in (m, n, Memᴰ.head refl, i, z)
  | inr y ↦ let (a, b, i, j, z) = of-some_pair t k l y in (a, b, Memᴰ.tail i, j, z)
]

in-some_pair : (t : Monomial → Monomial → Bool) {m n : Monomial} (k l : List Monomial) → Memᴰ m k → Memᴰ n l → T (t m n) → T (some_pair t k l)
in-some_pair t {m} {n} (a ∷ k) l (Memᴰ.head e) j y = or_left (some_of (t a) l) (some_pair t k l) (in-some_of (t a) l j (rw e at y))
in-some_pair t (a ∷ k) l (Memᴰ.tail i) j y = or_right (some_of (t a) l) (some_pair t k l) (in-some_pair t k l i j y)
in-some_pair t {m = m} {n = n} [] l x3 j y = elim x3 [ ]

-- Of the two linear forms of a pair: twins, of which the two further tests hold.
pub some-twins : (p : Pair) (a b : Monomial → Monomial → Bool)
    → T (some_pair (λ m k. eq_s m.name k.name && a m k && b m k) (linear p.0) (linear p.1)) ↔ ((m : Monomial) × (k : Monomial) × Twins p m k × T (a m k) × T (b m k))
some-twins p a b = (
  λ y.
      let (m, k, i, j, z) = of-some_pair t (linear p.0) (linear p.1) y in
      let (w, v) = and_parts (eq_s m.name k.name && a m k) (b m k) z in
      let (e, u) = and_parts (eq_s m.name k.name) (a m k) w in
      (m, k, record { one = i; other = j; name = eq_s-is m.name k.name e }, u, v),
  λ y.
      let (m, k, w, u, v) = y in
      in-some_pair t (linear p.0) (linear p.1) w.one w.other
      (and_both (eq_s m.name k.name && a m k) (b m k) (and_both (eq_s m.name k.name) (a m k) (eq_s-same m.name k.name w.name) u) v),
)
  where
    t : Monomial → Monomial → Bool
    t m k = eq_s m.name k.name && a m k && b m k

-- ---- what is shared by what is known

abbrev inside_in : List Pair → Monomial → Monomial → Bool
inside_in s m k = among (m.inner, k.inner) s

abbrev rest_in : List Pair → Monomial → Monomial → Bool
rest_in s m k = among (m.rest, k.rest) s

abbrev Known : List Pair → Pair → Type 0
Known s p =
    (T (nullable p.0) × T (nullable p.1))
    ⊎ ((m : Monomial) × (k : Monomial) × Twins p m k × T (among (m.inner, k.inner) s) × T (among (m.rest, k.rest) s))

shares-by : (s : List Pair) (p : Pair) → T (shares_by s p) ↔ Known s p
shares-by s p = (
  λ y. elim (or_cases (nullable p.0 && nullable p.1) (some_pair t (linear p.0) (linear p.1)) y) [
    | inl a ↦ inl (and_parts (nullable p.0) (nullable p.1) a)
    | inr a ↦ inr ((some-twins p (inside_in s) (rest_in s)).0 a)
  ],
  λ y. elim y [
    | inl (a, b) ↦ or_left (nullable p.0 && nullable p.1) (some_pair t (linear p.0) (linear p.1)) (and_both (nullable p.0) (nullable p.1) a b)
    | inr a ↦ or_right (nullable p.0 && nullable p.1) (some_pair t (linear p.0) (linear p.1)) ((some-twins p (inside_in s) (rest_in s)).1 a)
  ],
)
  where
    t : Monomial → Monomial → Bool
    t m k = eq_s m.name k.name && among (m.inner, k.inner) s && among (m.rest, k.rest) s

of-sharing : (ps s : List Pair) {q : Pair} → Memᴰ q (sharing ps s) → Memᴰ q ps × T (shares_by s q)
of-sharing [] s m = elim m [ ]
of-sharing (p ∷ ps) s {q = q} m = go (shares_by s p) refl (of-sharing ps s) m
  where
    go : (b : Bool) → shares_by s p ≡ b → (Memᴰ q (sharing ps s) → Memᴰ q ps × T (shares_by s q))
        → Memᴰ q (pick b (p ∷ sharing ps s) (sharing ps s)) → Memᴰ q (p ∷ ps) × T (shares_by s q)
    go true e on (Memᴰ.head d) = (Memᴰ.head d, rw d (true-test (shares_by s p) e))
    go true e on (Memᴰ.tail m) = let (i, t) = on m in (Memᴰ.tail i, t)
    go false e on m = let (i, t) = on m in (Memᴰ.tail i, t)

in-sharing : (ps s : List Pair) {q : Pair} → Memᴰ q ps → T (shares_by s q) → Memᴰ q (sharing ps s)
in-sharing (p ∷ ps) s {q = q} m t = go (shares_by s p) refl (in-sharing ps s) m
  where
    go : (b : Bool) → shares_by s p ≡ b → (Memᴰ q ps → T (shares_by s q) → Memᴰ q (sharing ps s))
        → Memᴰ q (p ∷ ps) → Memᴰ q (pick b (p ∷ sharing ps s) (sharing ps s))
    go true e on (Memᴰ.head d) = Memᴰ.head d
    go true e on (Memᴰ.tail m) = Memᴰ.tail (on m t)
    go false e on (Memᴰ.head d) = absurd (rw e at (subst (λ q. T (shares_by s q)) d t))
    go false e on (Memᴰ.tail m) = on m t
in-sharing [] s {q = q} m t = elim m [ ]

-- ---- all that is shared

module _ (ps : List Pair) where
  -- one of them, and a hedge is shared
  abbrev Sound : Pair → Type 0
  Sound q = Memᴰ q ps × Shares q

  known-shares : (s : List Pair) → ((q : Pair) → Memᴰ q s → Sound q) → (p : Pair) → Known s p → Shares p
  known-shares s a p (inl (x, y)) = empty x y
  known-shares s a p (inr (m, k, t, x, y)) = more t (a (m.inner, k.inner) (among_in (m.inner, k.inner) s x)).1 (a (m.rest, k.rest) (among_in (m.rest, k.rest) s y)).1

  follows : (s : List Pair) → ((q : Pair) → Memᴰ q s → Sound q) → (q : Pair) → Memᴰ q (sharing ps s) → Sound q
  follows s a q m = let (i, t) = of-sharing ps s m in (i, known-shares s a q ((shares-by s q).0 t))

  shared-closed : Closed (sharing ps) Sound [] (shared ps)
  unfolding shared
  shared-closed =
      closes (sharing ps) Sound follows (length ps) (λ s o a. no_more s ps o (λ q m. (a q m).0)) (length ps) [] tt (λ q m. elim m [ ]) (omega arith)

  -- where the list is closed, whatever shares a hedge is found
  module _ (on : (p q : Pair) → Memᴰ p ps → Memᴰ q (onward p) → Memᴰ q ps) where
    found : (p : Pair) → Shares p → Memᴰ p ps → Memᴰ p (shared ps)
    found p (empty x y) i = shared-closed.closed p (in-sharing ps (shared ps) i ((shares-by (shared ps) p).1 (inl (x, y))))
    found p (more {m = m} {k = k} t x y) i =
        let a = found (m.inner, k.inner) x (on p (m.inner, k.inner) i (in-onward p (m, k, t, inl refl))) in
        let b = found (m.rest, k.rest) y (on p (m.rest, k.rest) i (in-onward p (m, k, t, inr refl))) in
        shared-closed.closed p (in-sharing ps (shared ps) i
        ((shares-by (shared ps) p).1 (inr (m, k, t, in-among (m.inner, k.inner) (shared ps) a, in-among (m.rest, k.rest) (shared ps) b))))

module _ (R S : Expr) where
  -- of the pairs of a walk those that share a hedge
  shared-exact : (p : Pair) → Memᴰ p (reached R S) → T (among p (shared (reached R S))) ↔ Shares p
  shared-exact p i = (
    λ t. ((shared-closed (reached R S)).all p (among_in p (shared (reached R S)) t)).1,
    λ h. in-among p (shared (reached R S)) (found (reached R S) (λ p q m n. (reached-exact R S q).1 (reach-on R S p q ((reached-exact R S p).0 m) n)) p h i),
  )

  -- A hedge is shared exactly where the test says so.
  pub hedge-exact : T (common_hedge R S) ↔ Shares (R, S)
  unfolding common_hedge
  hedge-exact = shared-exact (R, S) ((reached-exact R S (R, S)).1 (start refl))

  -- A term is shared exactly where the test says so.
  pub term-exact : T (common_term R S) ↔ SharesTerm (R, S)
  unfolding common_term
  term-exact = (
    λ y.
        let (m, k, t, a, b) = (some-twins (R, S) (inside_in (shared (reached R S))) ends).0 y in
        let (c, d) = and_parts (nullable m.rest) (nullable k.rest) b in
        record { monomial = m; twin = k; twins = t; inside = (shared-exact (m.inner, k.inner) (inside m k t)).0 a; ends = c; twin-ends = d },
    λ y.
        (some-twins (R, S) (inside_in (shared (reached R S))) ends).1 (
          y.monomial,
          y.twin,
          y.twins,
          (shared-exact (y.monomial.inner, y.twin.inner) (inside y.monomial y.twin y.twins)).1 y.inside,
          and_both (nullable y.monomial.rest) (nullable y.twin.rest) y.ends y.twin-ends,
        ),
  )
    where
      ends : Monomial → Monomial → Bool
      ends m k = nullable m.rest && nullable k.rest

      inside : (m k : Monomial) → Twins (R, S) m k → Memᴰ (m.inner, k.inner) (reached R S)
      inside m k t = (reached-exact R S (m.inner, k.inner)).1 (inner (start refl) t refl)
