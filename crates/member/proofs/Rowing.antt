-- The places of the symbols that a term can be.
use Prim.Native.Nat.{ℕ, ◌+◌, ◌-◌, ◌<◌, ◌≤◌}
use mathlib.Core.Path.{◌≡◌, refl}
use mathlib.Core.Logic.{inl, inr, ◌↔◌}
use mathlib.Core.Bool.{Bool, true, false}
use mathlib.Core.List.{List, [], ◌∷◌, ◌++◌}
use native.Mathlib.Omega.{arith}
use lib.Dec.{T, leb}
use lib.ListN.{length, get_or, length-append, get_or-append}
use lib.Seq.{get_or-append-add}
use borrow.Author.Tests.{leb-true, leb-false}
use Rattle.language.specs.declared.Sym.{Sym}
use Rattle.language.specs.Kinds.{pick}
use Rattle.language.specs.Trees.{Expr, eps, cat, alt, star, over}
use Rattle.rules.proofs.Each.{some-++}
use Rattle.any_order.specs.Places.{size_e}
use Rattle.any_order.specs.Sharing.{In, Ascending}
use Rattle.any_order.proofs.Placing.{in-at}
use Rattle.member.specs.Leaves.{Leaf}
use Rattle.member.specs.Gathering.{row_of}
use Rattle.member.proofs.Sharing.{leaf-within}

module _ (p : Sym → Expr → Bool) where
  abbrev OnLeaf : Expr → ℕ → ℕ → Type 0
  OnLeaf R at q = (g : Sym) × (S : Expr) × Leaf R at q g S × T (p g S)

  picked : (b : Bool) (at q : ℕ) → In q (pick b (at ∷ []) []) → (q ≡ at) × T b
  picked true at q (inl e) = (e, tt)
  picked true at q (inr z) = absurd z
  picked false at q z = absurd z

  unpicked : (b : Bool) (at : ℕ) → T b → In at (pick b (at ∷ []) [])
  unpicked true at t = inl refl
  unpicked false at t = absurd t

  pub row_in : (R : Expr) (at q : ℕ) → In q (row_of p R at) ↔ ((g : Sym) × (S : Expr) × Leaf R at q g S × T (p g S))
  row_in eps at q = (λ z. absurd z, λ (g, S, x, t). absurd x)
  row_in (cat a b) at q = (
    λ i. elim ((some-++ (λ x. q ≡ x) (row_of p a (at + 1)) (row_of p b (at + 1 + size_e a))).0 i) [
      | inl y ↦ let (g, S, x, t) = (row_in a (at + 1) q).0 y in (g, S, inl x, t)
      | inr y ↦ let (g, S, x, t) = (row_in b (at + 1 + size_e a) q).0 y in (g, S, inr x, t)
    ],
    λ (g, S, x, t). (some-++ (λ x. q ≡ x) (row_of p a (at + 1)) (row_of p b (at + 1 + size_e a))).1
        (elim x [ inl y ↦ inl ((row_in a (at + 1) q).1 (g, S, y, t)) | inr y ↦ inr ((row_in b (at + 1 + size_e a) q).1 (g, S, y, t)) ]),
  )
  row_in (alt a b) at q = (
    λ i. elim ((some-++ (λ x. q ≡ x) (row_of p a (at + 1)) (row_of p b (at + 1 + size_e a))).0 i) [
      | inl y ↦ let (g, S, x, t) = (row_in a (at + 1) q).0 y in (g, S, inl x, t)
      | inr y ↦ let (g, S, x, t) = (row_in b (at + 1 + size_e a) q).0 y in (g, S, inr x, t)
    ],
    λ (g, S, x, t). (some-++ (λ x. q ≡ x) (row_of p a (at + 1)) (row_of p b (at + 1 + size_e a))).1
        (elim x [ inl y ↦ inl ((row_in a (at + 1) q).1 (g, S, y, t)) | inr y ↦ inr ((row_in b (at + 1 + size_e a) q).1 (g, S, y, t)) ]),
  )
  row_in (star a) at q = row_in a (at + 1) q
  row_in (over g S) at q = (
    λ i. let (e, t) = picked (p g S) at q i in (g, S, (e, refl, refl), t),
    λ (g', S', (e, d, f), t). rw (e, d, f) (unpicked (p g' S') at t),
  )

  pub row_within : (R : Expr) (at q : ℕ) → In q (row_of p R at) → (at ≤ q) × (q < at + size_e R)
  row_within R at q i = let (g, S, x, t) = (row_in R at q).0 i in leaf-within R at q g S x

  ascending-++ : (xs ys : List ℕ) → Ascending xs → Ascending ys → ((x y : ℕ) → In x xs → In y ys → x ≤ y) → Ascending (xs ++ ys)
  ascending-++ xs ys a b h i j l u = by (leb (1 + j) (length xs)) refl (leb (1 + i) (length xs)) refl
    where
      by : (s : Bool) → leb (1 + j) (length xs) ≡ s → (t : Bool) → leb (1 + i) (length xs) ≡ t → get_or (xs ++ ys) i 0 ≤ get_or (xs ++ ys) j 0
      by true e t d =
          let v = leb-true (1 + j) (length xs) e in
          omega (arith, get_or-append xs ys 0 i (omega arith), get_or-append xs ys 0 j (omega arith), a i j l (omega arith))
      by false e true d =
          let v = leb-false (1 + j) (length xs) e in
          let y = leb-true (1 + i) (length xs) d in
          let n : length xs + (j - length xs) ≡ j = omega arith in
          let m : j - length xs < length ys = omega (arith, length-append xs ys) in
          let z : get_or (xs ++ ys) j 0 ≡ get_or ys (j - length xs) 0 = rw n at (get_or-append-add xs ys (j - length xs) 0) in
          omega (arith, get_or-append xs ys 0 i (omega arith), h (get_or xs i 0) (get_or ys (j - length xs) 0) (in-at xs i (omega arith)) (in-at ys (j - length xs) m))
      by false e false d =
          let v = leb-false (1 + j) (length xs) e in
          let y = leb-false (1 + i) (length xs) d in
          let n : length xs + (j - length xs) ≡ j = omega arith in
          let o : length xs + (i - length xs) ≡ i = omega arith in
          let m : j - length xs < length ys = omega (arith, length-append xs ys) in
          let z : get_or (xs ++ ys) j 0 ≡ get_or ys (j - length xs) 0 = rw n at (get_or-append-add xs ys (j - length xs) 0) in
          let x : get_or (xs ++ ys) i 0 ≡ get_or ys (i - length xs) 0 = rw o at (get_or-append-add xs ys (i - length xs) 0) in
          omega (arith, b (i - length xs) (j - length xs) (omega arith) m)

  ascending-one : (x : Bool) (at : ℕ) → Ascending (pick x (at ∷ []) [])
  ascending-one true at i j l u = let e : i ≡ j = omega arith in rw e (omega arith)
  ascending-one false at i j l u = absurd (omega arith)

  pub row-ascending : (R : Expr) (at : ℕ) → Ascending (row_of p R at)
  row-ascending eps at = λ i j l u. absurd (omega arith)
  row-ascending (cat a b) at =
      ascending-++ (row_of p a (at + 1)) (row_of p b (at + 1 + size_e a)) (row-ascending a (at + 1)) (row-ascending b (at + 1 + size_e a))
      (λ x y i j. omega (arith, (row_within a (at + 1) x i).1, (row_within b (at + 1 + size_e a) y j).0))
  row-ascending (alt a b) at =
      ascending-++ (row_of p a (at + 1)) (row_of p b (at + 1 + size_e a)) (row-ascending a (at + 1)) (row-ascending b (at + 1 + size_e a))
      (λ x y i j. omega (arith, (row_within a (at + 1) x i).1, (row_within b (at + 1 + size_e a) y j).0))
  row-ascending (star a) at = row-ascending a (at + 1)
  row-ascending (over g S) at = ascending-one (p g S) at
