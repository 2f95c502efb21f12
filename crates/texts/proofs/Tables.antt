-- Tables of names: putting in, finding, other names, numbers in order.
use Prim.Native.Nat.{ℕ, zero, suc, ◌+◌, ◌<◌, ◌≤◌}
use native.Mathlib.Omega.{arith}
use mathlib.Core.Path.{◌≡◌, refl, sym, ap, ◌∙◌}
use mathlib.Core.Bool.{Bool, true, false, ◌||◌}
use mathlib.Core.List.{List, [], ◌∷◌, ◌++◌, map, append_assoc}
use mathlib.Core.Option.{Option, none, some}
use lib.Dec.{ltb, eqb}
use lib.ListN.{length, length-append}
use borrow.Author.Tests.{eqb-true, ltb-true, eq-eqb, eqb-false, ltb-false, lt-ltb, le-ltb}
use Rattle.language.specs.Kinds.{pick}
use Rattle.texts.specs.Numbering.{holds, place, enter, entered, in_order}

-- ---- all of a list

abbrev pub All : (ℕ → Type 0) → List ℕ → Type 0
All P [] = Unit {0}
All P (n ∷ l) = P n × All P l

pub all-++ : (P : ℕ → Type 0) (l k : List ℕ) → All P l → All P k → All P (l ++ k)
all-++ P [] k a b = b
all-++ P (n ∷ l) k a b = (a.0, all-++ P l k a.1 b)

pub all_map : (P Q : ℕ → Type 0) (l : List ℕ) → ((n : ℕ) → P n → Q n) → All P l → All Q l
all_map P Q [] f a = tt
all_map P Q (n ∷ l) f a = (f n a.0, all_map P Q l f a.1)

-- ---- a table with more behind it

holds-++ : (n : ℕ) (l k : List ℕ) → holds n (l ++ k) ≡ (holds n l || holds n k)
holds-++ n [] k = refl
holds-++ n (m ∷ l) k = on (eqb n m) (holds-++ n l k)
  where
    on : (b : Bool) → holds n (l ++ k) ≡ (holds n l || holds n k) → (b || holds n (l ++ k)) ≡ ((b || holds n l) || holds n k)
    on true i = refl
    on false i = i

pub place_found : (n : ℕ) (l k : List ℕ) → holds n l ≡ true → place n (l ++ k) ≡ place n l
place_found n [] k e = absurd (let z : ◌≡◌ {A = ℕ} 0 1 = cc in omega arith)
place_found n (m ∷ l) k e = on (eqb n m) e (place_found n l k)
  where
    on : (b : Bool) → (b || holds n l) ≡ true → (holds n l ≡ true → place n (l ++ k) ≡ place n l) → pick b 0 (suc (place n (l ++ k))) ≡ pick b 0 (suc (place n l))
    on true z i = refl
    on false z i = ap suc (i z)

pub place-behind : (n : ℕ) (l k : List ℕ) → holds n l ≡ false → place n (l ++ k) ≡ length l + place n k
place-behind n [] k e = omega arith
place-behind n (m ∷ l) k e = on (eqb n m) e (place-behind n l k)
  where
    on : (b : Bool) → (b || holds n l) ≡ false → (holds n l ≡ false → place n (l ++ k) ≡ length l + place n k) → pick b 0 (suc (place n (l ++ k))) ≡ suc (length l) + place n k
    on true z i = absurd (let y : ◌≡◌ {A = ℕ} 0 1 = cc in omega arith)
    on false z i = let j = i z in omega arith

pub place-below : (n : ℕ) (l : List ℕ) → holds n l ≡ true → place n l < length l
place-below n [] e = absurd (let z : ◌≡◌ {A = ℕ} 0 1 = cc in omega arith)
place-below n (m ∷ l) e = on (eqb n m) e (place-below n l)
  where
    on : (b : Bool) → (b || holds n l) ≡ true → (holds n l ≡ true → place n l < length l) → pick b 0 (suc (place n l)) < suc (length l)
    on true z i = omega arith
    on false z i = let j = i z in omega arith

place-self : (n : ℕ) → place n (n ∷ []) ≡ 0
place-self n = ap (λ b. pick b 0 1) (eq-eqb n n refl)

-- a table only grows at its end
pub grows : (t l : List ℕ) → (k : List ℕ) × (entered t l ≡ t ++ k)
grows t [] = ([], end t)
  where
    end : (t : List ℕ) → t ≡ t ++ []
    end [] = refl
    end (n ∷ t) = ap (λ z. n ∷ z) (end t)
grows t (n ∷ l) = on (holds n t) (grows t l) (grows (t ++ (n ∷ [])) l)
  where
    on : (b : Bool) → (k : List ℕ) × (entered t l ≡ t ++ k) → (k : List ℕ) × (entered (t ++ (n ∷ [])) l ≡ (t ++ (n ∷ [])) ++ k)
        → (k : List ℕ) × (entered (pick b t (t ++ (n ∷ []))) l ≡ t ++ k)
    on true i g = i
    on false i g = (n ∷ g.0, g.1 ∙ append_assoc t (n ∷ []) g.0)

-- ---- other names, one to one below B

module _ (B : ℕ) (ρ : ℕ → ℕ) (same : (n m : ℕ) → n < B → m < B → eqb (ρ n) (ρ m) ≡ eqb n m) where
  Below : ℕ → Type 0
  Below n = n < B

  pub holds-other : (n : ℕ) (t : List ℕ) → n < B → All (λ m. m < B) t → holds (ρ n) (map ρ t) ≡ holds n t
  holds-other n [] p a = refl
  holds-other n (m ∷ t) p a = ap (λ b. b || holds (ρ n) (map ρ t)) (same n m p a.0) ∙ ap (λ b. eqb n m || b) (holds-other n t p a.1)

  pub place_other : (n : ℕ) (t : List ℕ) → n < B → All (λ m. m < B) t → place (ρ n) (map ρ t) ≡ place n t
  place_other n [] p a = refl
  place_other n (m ∷ t) p a = ap (λ b. pick b 0 (suc (place (ρ n) (map ρ t)))) (same n m p a.0) ∙ ap (λ z. pick (eqb n m) 0 (suc z)) (place_other n t p a.1)

  map-++ : (l k : List ℕ) → map ρ (l ++ k) ≡ map ρ l ++ map ρ k
  map-++ [] k = refl
  map-++ (n ∷ l) k = ap (λ z. ρ n ∷ z) (map-++ l k)

  all-enter : (n : ℕ) (t : List ℕ) → n < B → All (λ m. m < B) t → All (λ m. m < B) (enter n t)
  all-enter n t p a = on (holds n t)
    where
      on : (b : Bool) → All (λ m. m < B) (pick b t (t ++ (n ∷ [])))
      on true = a
      on false = all-++ (λ m. m < B) t (n ∷ []) a (p, tt)

  enter-other : (n : ℕ) (t : List ℕ) → n < B → All (λ m. m < B) t → enter (ρ n) (map ρ t) ≡ map ρ (enter n t)
  enter-other n t p a = ap (λ b. pick b (map ρ t) (map ρ t ++ (ρ n ∷ []))) (holds-other n t p a) ∙ on (holds n t)
    where
      on : (b : Bool) → pick b (map ρ t) (map ρ t ++ (ρ n ∷ [])) ≡ map ρ (pick b t (t ++ (n ∷ [])))
      on true = refl
      on false = sym (map-++ t (n ∷ []))

  pub entered-other : (t l : List ℕ) → All (λ m. m < B) t → All (λ m. m < B) l → (entered (map ρ t) (map ρ l) ≡ map ρ (entered t l)) × All (λ m. m < B) (entered t l)
  entered-other t [] a b = (refl, a)
  entered-other t (n ∷ l) a b =
      let i = entered-other (enter n t) l (all-enter n t b.0 a) b.1 in
      (ap (λ z. entered z (map ρ l)) (enter-other n t b.0 a) ∙ i.0, i.1)

-- ---- numbers in order

abbrev pub up_to : ℕ → List ℕ
up_to zero = []
up_to (suc n) = up_to n ++ (n ∷ [])

pub length-up_to : (n : ℕ) → length (up_to n) ≡ n
length-up_to zero = refl
length-up_to (suc n) = let i = length-up_to n in simp length-append (omega arith)

-- below suc n: below n, or n
ltb-suc : (m n : ℕ) → (ltb m n || (eqb m n || false)) ≡ ltb m (suc n)
ltb-suc m n = on (ltb m n) refl (eqb m n) refl
  where
    on : (b : Bool) → ltb m n ≡ b → (d : Bool) → eqb m n ≡ d → (b || (d || false)) ≡ ltb m (suc n)
    on true e d f = let z = ltb-true m n e in sym (lt-ltb m (suc n) (omega arith))
    on false e true f = let z = eqb-true m n f in sym (lt-ltb m (suc n) (omega arith))
    on false e false f = let z = ltb-false m n e in let y = eqb-false m n f in sym (le-ltb m (suc n) (omega arith))

pub holds-up_to : (m n : ℕ) → holds m (up_to n) ≡ ltb m n
holds-up_to m zero = sym (le-ltb m 0 (omega arith))
holds-up_to m (suc n) = holds-++ m (up_to n) (n ∷ []) ∙ ap (λ b. b || (eqb m n || false)) (holds-up_to m n) ∙ ltb-suc m n

pub place-up_to : (m n : ℕ) → m < n → place m (up_to n) ≡ m
place-up_to m zero p = absurd (omega arith)
place-up_to m (suc n) p = on (ltb m n) refl (place-up_to m n)
  where
    on : (b : Bool) → ltb m n ≡ b → (m < n → place m (up_to n) ≡ m) → place m (up_to n ++ (n ∷ [])) ≡ m
    on true e i = place_found m (up_to n) (n ∷ []) (holds-up_to m n ∙ e) ∙ i (ltb-true m n e)
    on false e i =
        let z = ltb-false m n e in
        let q : n ≡ m = omega arith in
        place-behind m (up_to n) (n ∷ []) (holds-up_to m n ∙ e)
        ∙ ap (λ k. length (up_to n) + place m (k ∷ [])) q
        ∙ ap (λ k. length (up_to n) + k) (place-self m)
        ∙ (let y = length-up_to n in omega arith)

some_same : (n m : ℕ) → ◌≡◌ {A = Option ℕ} (some n) (some m) → n ≡ m
some_same n m e = cc

-- The table of numbers that are in order is these numbers, and all of them are below its length.
pub in_order_lem : (n m : ℕ) (l : List ℕ) → in_order n l ≡ some m → (entered (up_to n) l ≡ up_to m) × (n ≤ m) × All (λ k. k < m) l
in_order_lem n m [] e = let z = some_same n m e in (ap up_to z, omega arith, tt)
in_order_lem n m (k ∷ l) e = on (ltb k n) refl (eqb k n) refl e (in_order_lem n m l) (in_order_lem (suc n) m l)
  where
    Out : ℕ → Type 0
    Out a = in_order a l ≡ some m → (entered (up_to a) l ≡ up_to m) × (a ≤ m) × All (λ k. k < m) l

    on : (b : Bool) → ltb k n ≡ b → (d : Bool) → eqb k n ≡ d → pick b (in_order n l) (pick d (in_order (suc n) l) none) ≡ some m → Out n → Out (suc n)
        → (entered (enter k (up_to n)) l ≡ up_to m) × (n ≤ m) × All (λ k. k < m) (k ∷ l)
    on true b d e' z i j =
        let p = ltb-true k n b in
        let o = i z in
        let q = o.1 in
        (ap (λ h. entered (pick h (up_to n) (up_to n ++ (k ∷ []))) l) (holds-up_to k n ∙ b) ∙ o.0, o.1, (omega arith, o.2))
    on false b true f z i j =
        let p = eqb-true k n f in
        let o = j z in
        let q = o.1 in (
          ap (λ h. entered (pick h (up_to n) (up_to n ++ (k ∷ []))) l) (holds-up_to k n ∙ b) ∙ ap (λ h. entered (up_to n ++ (h ∷ [])) l) p ∙ o.0,
          omega arith,
          (omega arith, o.2),
        )
    on false b false f z i j = absurd (let y : ◌≡◌ {A = ℕ} 0 1 = cc in omega arith)

-- The numbers that a table gives are in order.
pub numbers-in-order : (t l : List ℕ) → in_order (length t) (map (λ n. place n (entered t l)) l) ≡ some (length (entered t l))
numbers-in-order t [] = refl
numbers-in-order t (n ∷ l) = on (holds n t) refl (numbers-in-order t l) (numbers-in-order (t ++ (n ∷ [])) l)
  where
    Out : List ℕ → Type 0
    Out s = in_order (length s) (map (λ n. place n (entered s l)) l) ≡ some (length (entered s l))

    on : (b : Bool) → holds n t ≡ b → Out t → Out (t ++ (n ∷ []))
        → in_order (length t) (place n (entered (pick b t (t ++ (n ∷ []))) l) ∷ map (λ m. place m (entered (pick b t (t ++ (n ∷ []))) l)) l) ≡ some (length (entered (pick b t (t ++ (n ∷ []))) l))
    on true b i j =
        let g = grows t l in
        let p = place-below n t b in
        let q : place n (entered t l) ≡ place n t = ap (place n) g.1 ∙ place_found n t g.0 b in
        ap (λ h. pick h (in_order (length t) (map (λ m. place m (entered t l)) l)) (pick (eqb (place n (entered t l)) (length t)) (in_order (suc (length t)) (map (λ m. place m (entered t l)) l)) none))
        (lt-ltb (place n (entered t l)) (length t) (omega arith))
        ∙ i
    on false b i j =
        let g = grows (t ++ (n ∷ [])) l in
        let s : holds n (t ++ (n ∷ [])) ≡ true = holds-++ n t (n ∷ []) ∙ ap (λ h. h || (eqb n n || false)) b ∙ ap (λ h. h || false) (eq-eqb n n refl) in
        let q : place n (entered (t ++ (n ∷ [])) l) ≡ length t = ap (place n) g.1 ∙ place_found n (t ++ (n ∷ [])) g.0 s ∙ place-behind n t (n ∷ []) b ∙ ap (λ k. length t + k) (place-self n) ∙ (omega arith) in
        let w : length (t ++ (n ∷ [])) ≡ suc (length t) = simp length-append (omega arith) in
        ap (λ h. pick h (in_order (length t) (map (λ m. place m (entered (t ++ (n ∷ [])) l)) l)) (pick (eqb (place n (entered (t ++ (n ∷ [])) l)) (length t)) (in_order (suc (length t)) (map (λ m. place m (entered (t ++ (n ∷ [])) l)) l)) none))
        (le-ltb (place n (entered (t ++ (n ∷ [])) l)) (length t) (omega arith))
        ∙ ap (λ h. pick h (in_order (suc (length t)) (map (λ m. place m (entered (t ++ (n ∷ [])) l)) l)) none) (eq-eqb (place n (entered (t ++ (n ∷ [])) l)) (length t) q)
        ∙ ap (λ k. in_order k (map (λ m. place m (entered (t ++ (n ∷ [])) l)) l)) (sym w)
        ∙ j
