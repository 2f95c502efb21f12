-- Laws of what stands at a symbol's place: the spot that was sought is there, and so are all others of its expression and of the one inside it.
use Prim.Native.Nat.{ℕ, ◌+◌, ◌<◌, ◌≤◌}
use mathlib.Core.Path.{◌≡◌, refl, sym, ap, subst, ◌∙◌}
use mathlib.Core.Bool.{Bool, true, false}
use native.Mathlib.Omega.{arith}
use lib.Dec.{eqb, ltb}
use lib.ListN.{length, length-append}
use borrow.Author.Tests.{eqb-true, eq-eqb, ne_eqb, lt-ltb, le-ltb}
use Rattle.language.specs.Trees.{Expr, eps, cat, alt, star, over}
use Rattle.language.specs.Writing.{expr_words}
use Rattle.walk.specs.Spots.{Spot, here, in_left, in_right, in_first, in_second, in_star, whole, inner_at}
use Rattle.charts.specs.Levels.{place_of, Sought, nowhere, on_top, below, through, under, sought}

-- a spot stands within its expression
pub place_in : (at : ℕ) (p : Spot) → (at ≤ place_of at p) × (place_of at p < at + length (expr_words (whole p)))
place_in at (here f R) = (omega arith, omega arith)
place_in at (in_left p b) = let (x, y) = place_in (at + 1) p in let l = length-append (expr_words (whole p)) (expr_words b) in (omega arith, omega arith)
place_in at (in_right a p) = let (x, y) = place_in (at + 1 + length (expr_words a)) p in let l = length-append (expr_words a) (expr_words (whole p)) in (omega arith, omega arith)
place_in at (in_first p b) = let (x, y) = place_in (at + 1) p in let l = length-append (expr_words (whole p)) (expr_words b) in (omega arith, omega arith)
place_in at (in_second a p) = let (x, y) = place_in (at + 1 + length (expr_words a)) p in let l = length-append (expr_words a) (expr_words (whole p)) in (omega arith, omega arith)
place_in at (in_star p) = let (x, y) = place_in (at + 1) p in (omega arith, omega arith)

abbrev size : Expr → ℕ
size R = length (expr_words R)

-- ---- which part

module _ (at : ℕ) (a b : Expr) (j : ℕ) where
  abbrev mid : ℕ
  mid = at + 1 + size a

  pub cat-left : j < mid → sought at (cat a b) j ≡ through (λ p. in_left p b) (sought (at + 1) a j)
  cat-left h = ap (λ t. elim t [ true ↦ through (λ p. in_left p b) (sought (at + 1) a j) | false ↦ through (in_right a) (sought mid b j) ]) (lt-ltb j mid h)

  pub cat-right : mid ≤ j → sought at (cat a b) j ≡ through (in_right a) (sought mid b j)
  cat-right h = ap (λ t. elim t [ true ↦ through (λ p. in_left p b) (sought (at + 1) a j) | false ↦ through (in_right a) (sought mid b j) ]) (le-ltb j mid h)

  pub alt-left : j < mid → sought at (alt a b) j ≡ through (λ p. in_first p b) (sought (at + 1) a j)
  alt-left h = ap (λ t. elim t [ true ↦ through (λ p. in_first p b) (sought (at + 1) a j) | false ↦ through (in_second a) (sought mid b j) ]) (lt-ltb j mid h)

  pub alt-right : mid ≤ j → sought at (alt a b) j ≡ through (in_second a) (sought mid b j)
  alt-right h = ap (λ t. elim t [ true ↦ through (λ p. in_first p b) (sought (at + 1) a j) | false ↦ through (in_second a) (sought mid b j) ]) (le-ltb j mid h)

pub over-here : (at : ℕ) (f : _) (a : Expr) (j : ℕ) → j ≡ at → sought at (over f a) j ≡ on_top (here f a)
over-here at f a j h = ap (λ t. elim t [ true ↦ on_top (here f a) | false ↦ under (at + 1) (sought (at + 1) a j) ]) (eq-eqb j at h)

pub over_below : (at : ℕ) (f : _) (a : Expr) (j : ℕ) → at < j → sought at (over f a) j ≡ under (at + 1) (sought (at + 1) a j)
over_below at f a j h = ap (λ t. elim t [ true ↦ on_top (here f a) | false ↦ under (at + 1) (sought (at + 1) a j) ]) (ne_eqb j at (omega arith))

-- ---- the spots of the expression itself

pub sought-top : (at : ℕ) (q : Spot) → sought at (whole q) (place_of at q) ≡ on_top q
sought-top at (here f a) = over-here at f a at refl
sought-top at (in_left q b) = cat-left at (whole q) b (place_of (at + 1) q) (place_in (at + 1) q).1 ∙ ap (through (λ p. in_left p b)) (sought-top (at + 1) q)
sought-top at (in_right a q) = cat-right at a (whole q) (place_of (mid at a a 0) q) (place_in (mid at a a 0) q).0 ∙ ap (through (in_right a)) (sought-top (mid at a a 0) q)
sought-top at (in_first q b) = alt-left at (whole q) b (place_of (at + 1) q) (place_in (at + 1) q).1 ∙ ap (through (λ p. in_first p b)) (sought-top (at + 1) q)
sought-top at (in_second a q) = alt-right at a (whole q) (place_of (mid at a a 0) q) (place_in (mid at a a 0) q).0 ∙ ap (through (in_second a)) (sought-top (mid at a a 0) q)
sought-top at (in_star q) = ap (through in_star) (sought-top (at + 1) q)

-- ---- what is found stands there

-- of the expression R at `at`
abbrev pub Right : ℕ → Expr → ℕ → Sought → Type 0
Right at R j nowhere = Unit {0}
Right at R j (on_top p) = (whole p ≡ R) × (place_of at p ≡ j)
Right at R j (below l p) = (place_of l p ≡ j) × (at < l) × (l + size (whole p) ≤ at + size R)

right-through : (at m : ℕ) (R A : Expr) (j : ℕ) (f : Spot → Spot) (s : Sought) → ((p : Spot) → whole p ≡ A → (whole (f p) ≡ R) × (place_of at (f p) ≡ place_of m p))
    → at < m → m + size A ≤ at + size R → Right m A j s → Right at R j (through f s)
right-through at m R A j f nowhere h l n r = tt
right-through at m R A j f (on_top p) h l n r = let (e, d) = h p r.0 in (e, d ∙ r.1)
right-through at m R A j f (below i p) h l n r = let x = r.1 in let y = r.2 in (r.0, omega arith, omega arith)

right-under : (at : ℕ) (R A : Expr) (j : ℕ) (s : Sought) → at + 1 + size A ≤ at + size R → Right (at + 1) A j s → Right at R j (under (at + 1) s)
right-under at R A j nowhere n r = tt
right-under at R A j (on_top p) n r = let e = ap size r.0 in (r.1, omega arith, omega arith)
right-under at R A j (below i p) n r = let x = r.1 in let y = r.2 in (r.0, omega arith, omega arith)

-- P of the one that a test chooses
pub chosen : (P : Sought → Type 0) (t : Bool) {x y : Sought} → P x → P y → P (elim t [ true ↦ x | false ↦ y ])
chosen P true p q = p
chosen P false p q = q

pub sought-right : (at : ℕ) (R : Expr) (j : ℕ) → Right at R j (sought at R j)
sought-right at eps j = tt
sought-right at (cat a b) j =
    let l = length-append (expr_words a) (expr_words b) in
    chosen (Right at (cat a b) j) (ltb j (at + 1 + size a))
    (right-through at (at + 1) (cat a b) a j (λ p. in_left p b) (sought (at + 1) a j) (λ p w. (ap (λ X. cat X b) w, refl)) (omega arith) (omega arith) (sought-right (at + 1) a j))
    (right-through at (at + 1 + size a) (cat a b) b j (in_right a) (sought (at + 1 + size a) b j) (λ p w. (ap (cat a) w, refl)) (omega arith) (omega arith) (sought-right (at + 1 + size a) b j))
sought-right at (alt a b) j =
    let l = length-append (expr_words a) (expr_words b) in
    chosen (Right at (alt a b) j) (ltb j (at + 1 + size a))
    (right-through at (at + 1) (alt a b) a j (λ p. in_first p b) (sought (at + 1) a j) (λ p w. (ap (λ X. alt X b) w, refl)) (omega arith) (omega arith) (sought-right (at + 1) a j))
    (right-through at (at + 1 + size a) (alt a b) b j (in_second a) (sought (at + 1 + size a) b j) (λ p w. (ap (alt a) w, refl)) (omega arith) (omega arith) (sought-right (at + 1 + size a) b j))
sought-right at (star a) j =
    right-through at (at + 1) (star a) a j in_star (sought (at + 1) a j) (λ p w. (ap star w, refl)) (omega arith) (omega arith) (sought-right (at + 1) a j)
sought-right at (over f a) j = go (eqb j at) refl (sought-right (at + 1) a j)
  where
    go : (t : Bool) → eqb j at ≡ t → Right (at + 1) a j (sought (at + 1) a j) → Right at (over f a) j (elim t [ true ↦ on_top (here f a) | false ↦ under (at + 1) (sought (at + 1) a j) ])
    go true e r = (refl, sym (eqb-true j at e))
    go false e r = right-under at (over f a) a j (sought (at + 1) a j) (omega arith) r

-- ---- the spots beside it, and those inside it

inner-in : (at : ℕ) (p : Spot) → place_of at p + 1 + size (inner_at p) ≤ at + size (whole p)
inner-in at (here f R) = omega arith
inner-in at (in_left p b) = let x = inner-in (at + 1) p in let l = length-append (expr_words (whole p)) (expr_words b) in omega arith
inner-in at (in_right a p) = let x = inner-in (at + 1 + size a) p in let l = length-append (expr_words a) (expr_words (whole p)) in omega arith
inner-in at (in_first p b) = let x = inner-in (at + 1) p in let l = length-append (expr_words (whole p)) (expr_words b) in omega arith
inner-in at (in_second a p) = let x = inner-in (at + 1 + size a) p in let l = length-append (expr_words a) (expr_words (whole p)) in omega arith
inner-in at (in_star p) = let x = inner-in (at + 1) p in omega arith

-- the spots of A, which stands at m, are found
abbrev Finds : ℕ → Expr → ℕ → Expr → Type 0
Finds at R m A = (q : Spot) → whole q ≡ A → sought at R (place_of m q) ≡ below m q

-- those of the same inner expression, and those of the expression inside the symbol
abbrev pub Around : ℕ → Expr → ℕ → Sought → Type 0
Around at R j nowhere = Unit {0}
Around at R j (on_top p) = Finds at R (j + 1) (inner_at p)
Around at R j (below l p) = Finds at R l (whole p) × Finds at R (j + 1) (inner_at p)

module _ (at m : ℕ) (R A : Expr) (f : Sought → Sought) (keeps : (l : ℕ) (q : Spot) → f (below l q) ≡ below l q)
    (part : (i : ℕ) → m ≤ i → i < m + size A → sought at R i ≡ f (sought m A i)) where
  -- what is found in a part is found in the whole
  finds-through : (n : ℕ) (B : Expr) → m ≤ n → n + size B ≤ m + size A → Finds m A n B → Finds at R n B
  finds-through n B l h d q w =
      let (x, y) = place_in n q in
      let s = ap size w in
      part (place_of n q) (omega arith) (omega arith) ∙ ap f (d q w) ∙ keeps n q

around-through : (at m : ℕ) (R A : Expr) (j : ℕ) (f : Spot → Spot) (s : Sought) → ((p : Spot) → inner_at (f p) ≡ inner_at p)
    → ((i : ℕ) → m ≤ i → i < m + size A → sought at R i ≡ through f (sought m A i)) → Right m A j s → Around m A j s → Around at R j (through f s)
around-through at m R A j f nowhere k h r d = tt
around-through at m R A j f (on_top p) k h r d =
    let (x, y) = place_in m p in
    let z = inner-in m p in
    let e = r.1 in
    let v = ap size r.0 in
    subst (Finds at R (j + 1)) (sym (k p)) (finds-through at m R A (through f) (λ l q. refl) h (j + 1) (inner_at p) (omega arith) (omega arith) d)
around-through at m R A j f (below l p) k h r d =
    let (x, y) = place_in l p in
    let z = inner-in l p in
    let (e, u, v) = r in
    (finds-through at m R A (through f) (λ l q. refl) h l (whole p) (omega arith) (omega arith) d.0, finds-through at m R A (through f) (λ l q. refl) h (j + 1) (inner_at p) (omega arith) (omega arith) d.1)

module _ (at : ℕ) (f : _) (a : Expr) where
  inside : (i : ℕ) → at + 1 ≤ i → i < at + 1 + size a → sought at (over f a) i ≡ under (at + 1) (sought (at + 1) a i)
  inside i l h = over_below at f a i (omega arith)

  -- the expression inside the symbol at `at`
  finds-inside : Finds at (over f a) (at + 1) a
  finds-inside q w =
      let (x, y) = place_in (at + 1) q in
      over_below at f a (place_of (at + 1) q) (omega arith) ∙ ap (under (at + 1)) (subst (λ A. sought (at + 1) A (place_of (at + 1) q) ≡ on_top q) w (sought-top (at + 1) q))

  around-under : (j : ℕ) (s : Sought) → Right (at + 1) a j s → Around (at + 1) a j s → Around at (over f a) j (under (at + 1) s)
  around-under j nowhere r d = tt
  around-under j (on_top p) r d =
      let z = inner-in (at + 1) p in
      let (x, y) = place_in (at + 1) p in
      let e = r.1 in
      let v = ap size r.0 in
      (subst (Finds at (over f a) (at + 1)) (sym r.0) finds-inside, finds-through at (at + 1) (over f a) a (under (at + 1)) (λ l q. refl) inside (j + 1) (inner_at p) (omega arith) (omega arith) d)
  around-under j (below l p) r d =
      let (x, y) = place_in l p in
      let z = inner-in l p in
      let (e, u, v) = r in
      (finds-through at (at + 1) (over f a) a (under (at + 1)) (λ l q. refl) inside l (whole p) (omega arith) (omega arith) d.0, finds-through at (at + 1) (over f a) a (under (at + 1)) (λ l q. refl) inside (j + 1) (inner_at p) (omega arith) (omega arith) d.1)

pub sought-around : (at : ℕ) (R : Expr) (j : ℕ) → Around at R j (sought at R j)
sought-around at eps j = tt
sought-around at (cat a b) j =
    chosen (Around at (cat a b) j) (ltb j (at + 1 + size a))
    (around-through at (at + 1) (cat a b) a j (λ p. in_left p b) (sought (at + 1) a j) (λ p. refl) (λ i l h. cat-left at a b i (omega arith)) (sought-right (at + 1) a j) (sought-around (at + 1) a j))
    (around-through at (at + 1 + size a) (cat a b) b j (in_right a) (sought (at + 1 + size a) b j) (λ p. refl) (λ i l h. cat-right at a b i l) (sought-right (at + 1 + size a) b j) (sought-around (at + 1 + size a) b j))
sought-around at (alt a b) j =
    chosen (Around at (alt a b) j) (ltb j (at + 1 + size a))
    (around-through at (at + 1) (alt a b) a j (λ p. in_first p b) (sought (at + 1) a j) (λ p. refl) (λ i l h. alt-left at a b i (omega arith)) (sought-right (at + 1) a j) (sought-around (at + 1) a j))
    (around-through at (at + 1 + size a) (alt a b) b j (in_second a) (sought (at + 1 + size a) b j) (λ p. refl) (λ i l h. alt-right at a b i l) (sought-right (at + 1 + size a) b j) (sought-around (at + 1 + size a) b j))
sought-around at (star a) j =
    around-through at (at + 1) (star a) a j in_star (sought (at + 1) a j) (λ p. refl) (λ i l h. refl) (sought-right (at + 1) a j) (sought-around (at + 1) a j)
sought-around at (over f a) j = go (eqb j at) refl (sought-around (at + 1) a j)
  where
    go : (t : Bool) → eqb j at ≡ t → Around (at + 1) a j (sought (at + 1) a j) → Around at (over f a) j (elim t [ true ↦ on_top (here f a) | false ↦ under (at + 1) (sought (at + 1) a j) ])
    go true e d = subst (λ i. Finds at (over f a) (i + 1) a) (sym (eqb-true j at e)) (finds-inside at f a)
    go false e d = around-under at f a j (sought (at + 1) a j) (sought-right (at + 1) a j) d
