-- Being in a list: in two in a row, in what a function makes of each, in the pairs of two lists; and lists in which nothing stands twice.
use Prim.Native.Nat.{suc, ◌+◌, ◌*◌, ◌≤◌, zero-le, suc-le-suc}
use mathlib.Core.Path.{◌≡◌, refl, sym, ◌∙◌, ap}
use mathlib.Core.Logic.{◌⊎◌, inl, inr}
use mathlib.Core.List.{List, [], ◌∷◌, ◌++◌, map, Memᴰ}
use native.Mathlib.Nat.{zero-mul, suc-mul, add_comm}
use lib.ListN.{length, length-append, length-map}
use Rattle.rules.specs.Each.{Some}
use Rattle.walk.specs.Reach.{Once}

module _ {A : Type 0} where
  pub in_left_lem : {x : A} {xs : List A} (ys : List A) → Memᴰ x xs → Memᴰ x (xs ++ ys)
  in_left_lem ys (Memᴰ.head e) = Memᴰ.head e
  in_left_lem ys (Memᴰ.tail m) = Memᴰ.tail (in_left_lem ys m)

  pub in_right_lem : {x : A} (xs : List A) {ys : List A} → Memᴰ x ys → Memᴰ x (xs ++ ys)
  in_right_lem [] m = m
  in_right_lem (y ∷ xs) m = Memᴰ.tail (in_right_lem xs m)

  pub of-++ : {x : A} (xs : List A) {ys : List A} → Memᴰ x (xs ++ ys) → Memᴰ x xs ⊎ Memᴰ x ys
  of-++ [] m = inr m
  of-++ (y ∷ xs) (Memᴰ.head e) = inl (Memᴰ.head e)
  of-++ (y ∷ xs) (Memᴰ.tail m) = elim (of-++ xs m) [ inl n ↦ inl (Memᴰ.tail n) | inr n ↦ inr n ]

  pub in_map : {B : Type 0} (f : A → B) {x : A} {xs : List A} → Memᴰ x xs → Memᴰ (f x) (map f xs)
  in_map f (Memᴰ.head e) = Memᴰ.head (ap f e)
  in_map f (Memᴰ.tail m) = Memᴰ.tail (in_map f m)

  pub of_map : {B : Type 0} (f : A → B) {y : B} (xs : List A) → Memᴰ y (map f xs) → (x : A) × Memᴰ x xs × (y ≡ f x)
  of_map f (x ∷ xs) (Memᴰ.head e) = (x, Memᴰ.head refl, e)
  of_map f (x ∷ xs) (Memᴰ.tail m) = let (z, n, e) = of_map f xs m in (z, Memᴰ.tail n, e)
  of_map {B = B} f {y = y} [] x' = elim x' [ ]

  pub some_in : (P : A → Type 0) (xs : List A) → Some P xs → (x : A) × Memᴰ x xs × P x
  some_in P [] s = absurd s
  some_in P (x ∷ xs) (inl p) = (x, Memᴰ.head refl, p)
  some_in P (x ∷ xs) (inr s) = let (y, m, p) = some_in P xs s in (y, Memᴰ.tail m, p)

  pub in_some : (P : A → Type 0) {x : A} {xs : List A} → Memᴰ x xs → P x → Some P xs
  in_some P (Memᴰ.head e) p = inl (rw e at p)
  in_some P (Memᴰ.tail m) p = inr (in_some P m p)

-- ---- one of the one list and one of the other

abbrev pub pairs : {A : Type 0} → List A → List A → List (A × A)
pairs [] ys = []
pairs (x ∷ xs) ys = map (λ y. (x, y)) ys ++ pairs xs ys

pub in_pairs : {A : Type 0} {x y : A} (xs : List A) {ys : List A} → Memᴰ x xs → Memᴰ y ys → Memᴰ (x, y) (pairs xs ys)
in_pairs (z ∷ xs) {ys = ys} (Memᴰ.head e) n = rw e (in_left_lem (pairs xs ys) (in_map (λ y. (z, y)) n))
in_pairs (z ∷ xs) {ys = ys} (Memᴰ.tail m) n = in_right_lem (map (λ y. (z, y)) ys) (in_pairs xs m n)
in_pairs {A = A} {y = y} [] {ys = ys} x3 n = elim x3 [ ]

pub of-pairs : {A : Type 0} {z : A × A} (xs : List A) {ys : List A} → Memᴰ z (pairs xs ys) → Memᴰ z.0 xs × Memᴰ z.1 ys
of-pairs {z} (x ∷ xs) {ys = ys} m =
    elim (of-++ (map (λ y. (x, y)) ys) m) [
      | inl k ↦ let (y, n, e) = of_map (λ y. (x, y)) ys k in (Memᴰ.head (ap (λ p. p.0) e), rw e n)
      | inr k ↦ let (a, b) = of-pairs xs k in (Memᴰ.tail a, b)
    ]
of-pairs {A = A} {z = z} [] {ys = ys} m = elim m [ ]

pub pairs-length : {A : Type 0} (xs ys : List A) → length (pairs xs ys) ≡ length xs * length ys
pairs-length {A} [] ys = sym (zero-mul (length ys))
pairs-length {A} (x ∷ xs) ys =
    length-append (map (λ y. (x, y)) ys) (pairs xs ys) ∙ rw (length-map {B = A × A} ys (λ y. (x, y)), pairs-length xs ys, suc-mul (length xs) (length ys)) (add_comm (length ys) (length xs * length ys))

-- ---- nothing twice

-- ys without its x: whatever else is in ys is still there
without : {A : Type 0} {x : A} (ys : List A) → Memᴰ x ys → (zs : List A) × (length ys ≡ suc (length zs)) × ((y : A) → Memᴰ y ys → (y ≡ x) ⊎ Memᴰ y zs)
without {A} {x} (z ∷ ys) (Memᴰ.head e) = (ys, refl, λ y m. go y m)
  where
    go : (y : A) → Memᴰ y (z ∷ ys) → (y ≡ x) ⊎ Memᴰ y ys
    go y (Memᴰ.head d) = inl (d ∙ sym e)
    go y (Memᴰ.tail n) = inr n
without {A} {x} (z ∷ ys) (Memᴰ.tail m) = let (zs, e, h) = without ys m in (z ∷ zs, ap suc e, λ y n. go zs h y n)
  where
    go : (zs : List A) → ((y : A) → Memᴰ y ys → (y ≡ x) ⊎ Memᴰ y zs) → (y : A) → Memᴰ y (z ∷ ys) → (y ≡ x) ⊎ Memᴰ y (z ∷ zs)
    go zs h y (Memᴰ.head d) = inr (Memᴰ.head d)
    go zs h y (Memᴰ.tail n) = elim (h y n) [ inl d ↦ inl d | inr k ↦ inr (Memᴰ.tail k) ]
without {A = A} {x = x} [] x'' = elim x'' [ ]

-- where nothing stands twice and all is in ys, there is not more than in ys
pub no_more : {A : Type 0} (xs ys : List A) → Once xs → ((x : A) → Memᴰ x xs → Memᴰ x ys) → length xs ≤ length ys
no_more [] ys o h = zero-le
no_more {A} (x ∷ xs) ys o h =
    let (zs, e, w) = without ys (h x (Memᴰ.head refl)) in
    let l = no_more xs zs o.1 (λ y m. other zs y m (w y (h y (Memᴰ.tail m)))) in
    rw e (suc-le-suc l)
  where
    other : (zs : List A) (y : A) → Memᴰ y xs → (y ≡ x) ⊎ Memᴰ y zs → Memᴰ y zs
    other zs y m (inl d) = absurd (o.0 (rw d at m))
    other zs y m (inr n) = n
