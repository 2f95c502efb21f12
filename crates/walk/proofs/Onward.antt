-- Where a walk goes on to from a pair: just to the pairs that its twins lead to.
use mathlib.Core.Path.{◌≡◌, refl, subst}
use mathlib.Core.Logic.{◌⊎◌, inl, inr, ◌↔◌}
use mathlib.Core.Bool.{Bool, true, false}
use mathlib.Core.List.{List, [], ◌∷◌, Memᴰ}
use Rattle.language.specs.Kinds.{pick}
use Rattle.language.specs.Trees.{eq_s}
use Rattle.rules.specs.Expressions.{Monomial, linear}
use Rattle.rules.specs.Walk.{Pair, parts_of, parts_with, parts_all, onward, onwards}
use Rattle.rules.proofs.Tests.{true-test}
use Rattle.rules.proofs.Names.{eq_s-is, eq_s-same}
use Rattle.walk.specs.Reach.{Twins}
use Rattle.walk.proofs.Members.{in_left_lem, in_right_lem, of-++}

-- one of the two pairs that two monomials lead to
abbrev Either : Monomial → Monomial → Pair → Type 0
Either m k q = (q ≡ (m.inner, k.inner)) ⊎ (q ≡ (m.rest, k.rest))

abbrev Leads : Monomial → Monomial → Pair → Type 0
Leads m k q = (m.name ≡ k.name) × Either m k q

parts-of : (m k : Monomial) {q : Pair} → Memᴰ q (parts_of m k) ↔ Leads m k q
parts-of m k {q} = go (eq_s m.name k.name) refl
  where
    to : Memᴰ q ((m.inner, k.inner) ∷ (m.rest, k.rest) ∷ []) → Either m k q
    to (Memᴰ.head e) = inl e
    to (Memᴰ.tail (Memᴰ.head e)) = inr e
    to (Memᴰ.tail (Memᴰ.tail n)) = elim n [ ]

    from : Either m k q → Memᴰ q ((m.inner, k.inner) ∷ (m.rest, k.rest) ∷ [])
    from (inl e) = Memᴰ.head e
    from (inr e) = Memᴰ.tail (Memᴰ.head e)

    go : (b : Bool) → eq_s m.name k.name ≡ b → Memᴰ q (pick b ((m.inner, k.inner) ∷ (m.rest, k.rest) ∷ []) []) ↔ Leads m k q
    go true e = (λ n. (eq_s-is m.name k.name (true-test (eq_s m.name k.name) e), to n), λ l. from l.1)
    go false e = (λ n. elim n [ ], λ l. absurd (rw e at (eq_s-same m.name k.name l.0)))

of-parts_with : (m : Monomial) (l : List Monomial) {q : Pair} → Memᴰ q (parts_with m l) → (k : Monomial) × Memᴰ k l × Leads m k q
of-parts_with m [] n = elim n [ ]
of-parts_with m (k ∷ l) n = elim (of-++ (parts_of m k) n) [
  | inl i ↦ (k, Memᴰ.head refl, (parts-of m k).0 i)
  | inr i ↦ let (j, x, y) = of-parts_with m l i in (j, Memᴰ.tail x, y)
]

in-parts_with : (m : Monomial) {k : Monomial} (l : List Monomial) {q : Pair} → Memᴰ k l → Leads m k q → Memᴰ q (parts_with m l)
in-parts_with m {k} (j ∷ l) {q = q} (Memᴰ.head e) y = in_left_lem (parts_with m l) ((parts-of m j).1 (subst (λ k. Leads m k q) e y))
in-parts_with m (j ∷ l) (Memᴰ.tail i) y = in_right_lem (parts_of m j) (in-parts_with m l i y)
in-parts_with m {k = k} [] {q = q} x'' y = elim x'' [ ]

of_parts : (k l : List Monomial) {q : Pair} → Memᴰ q (parts_all k l) → (m : Monomial) × (n : Monomial) × Memᴰ m k × Memᴰ n l × Leads m n q
of_parts [] l n = elim n [ ]
of_parts (m ∷ k) l n = elim (of-++ (parts_with m l) n) [
  | inl i ↦ let (j, x, y) = of-parts_with m l i in (m, j, Memᴰ.head refl, x, y)
  | inr i ↦ let (a, b, x, y, z) = of_parts k l i in (a, b, Memᴰ.tail x, y, z)
]

in_parts : {m n : Monomial} (k l : List Monomial) {q : Pair} → Memᴰ m k → Memᴰ n l → Leads m n q → Memᴰ q (parts_all k l)
in_parts {n = n} (a ∷ k) l {q = q} (Memᴰ.head e) j y = in_left_lem (parts_all k l) (in-parts_with a l j (subst (λ m. Leads m n q) e y))
in_parts (a ∷ k) l (Memᴰ.tail i) j y = in_right_lem (parts_with a l) (in_parts k l i j y)
in_parts {m = m} {n = n} [] l {q = q} x3 j y = elim x3 [ ]

-- twins of p lead to q
abbrev pub On : Pair → Pair → Type 0
On p q = (m : Monomial) × (k : Monomial) × Twins p m k × Either m k q

pub of-onward : (p : Pair) {q : Pair} → Memᴰ q (onward p) → On p q
of-onward p n = let (m, k, i, j, (e, o)) = of_parts (linear p.0) (linear p.1) n in (m, k, record { one = i; other = j; name = e }, o)

pub in-onward : (p : Pair) {q : Pair} → On p q → Memᴰ q (onward p)
in-onward p (m, k, t, o) = in_parts (linear p.0) (linear p.1) t.one t.other (t.name, o)

pub of-onwards : (s : List Pair) {q : Pair} → Memᴰ q (onwards s) → (p : Pair) × Memᴰ p s × Memᴰ q (onward p)
of-onwards [] n = elim n [ ]
of-onwards (p ∷ s) n = elim (of-++ (onward p) n) [
  | inl i ↦ (p, Memᴰ.head refl, i)
  | inr i ↦ let (r, x, y) = of-onwards s i in (r, Memᴰ.tail x, y)
]

pub in-onwards : {p : Pair} (s : List Pair) {q : Pair} → Memᴰ p s → Memᴰ q (onward p) → Memᴰ q (onwards s)
in-onwards (r ∷ s) {q = q} (Memᴰ.head e) n = in_left_lem (onwards s) (subst (λ p. Memᴰ q (onward p)) e n)
in-onwards (r ∷ s) (Memᴰ.tail i) n = in_right_lem (onward r) (in-onwards s i n)
in-onwards {p = p} [] {q = q} x'' n = elim x'' [ ]
