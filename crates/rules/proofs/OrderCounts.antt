-- The orders of a hedge of n elements are n!, and each has as many words as the hedge: so the sizes of D1's and M12's results are known before any of them
-- is made. And which order stands at which place.
use Prim.Native.Nat.{ℕ, zero, suc, ◌+◌, ◌*◌, ◌<◌}
use mathlib.Core.Path.{◌≡◌, refl, ◌∙◌, ap}
use mathlib.Core.List.{List, [], ◌∷◌, map}
use native.Mathlib.Omega.{arith}
use native.Mathlib.Nat.{suc-mul}
use lib.ListN.{length, get_or, length-append, length-map, get_or-append}
use lib.Seq.{get_or-append-add}
use Rattle.language.specs.Trees.{Hedge, ε, tvar, hvar, node, ◌⧺◌}
use Rattle.language.specs.Writing.{hedge_words}
use Rattle.rules.specs.Each.{Each}
use Rattle.rules.specs.Elements.{drawn, spread, width, orders_of, orders, factorial}
use Rattle.rules.proofs.Each.{each-imp}
use Rattle.rules.proofs.Elements.{Drawn, drawn-is, orders-by}

-- ---- how many

length-spread : {A B : Type 0} (g : A → List B) (m : ℕ) (xs : List A) → Each (λ x. length (g x) ≡ m) xs → length (spread g xs) ≡ length xs * m
length-spread g m [] e = omega arith
length-spread g m (x ∷ xs) e = rw (length-append (g x) (spread g xs), e.0, length-spread g m xs e.1, suc-mul (length xs) m) (omega arith)

pub length-drawn : (h : Hedge) → length (drawn h) ≡ width h
length-drawn ε = refl
length-drawn (tvar x r) = ap suc (length-map (drawn r) _ ∙ length-drawn r)
length-drawn (hvar p r) = ap suc (length-map (drawn r) _ ∙ length-drawn r)
length-drawn (node f c r) = ap suc (length-map (drawn r) _ ∙ length-drawn r)

pub orders_of-count : (n : ℕ) (h : Hedge) → width h ≡ n → length (orders_of n h) ≡ factorial n
orders_of-count zero h e = refl
orders_of-count (suc n) h e =
    length-spread (λ (a : Hedge × Hedge). map (◌⧺◌ a.0) (orders_of n a.1)) (factorial n) (drawn h)
    (each-imp (Drawn h) (λ (a : Hedge × Hedge). length (map (◌⧺◌ a.0) (orders_of n a.1)) ≡ factorial n)
    (λ a d. length-map (orders_of n a.1) (◌⧺◌ a.0) ∙ orders_of-count n a.1 (omega (arith, d.fewer, e))) (drawn h) (drawn-is h))
    ∙ ap (λ k. k * factorial n) (length-drawn h ∙ e)

pub orders-count : (h : Hedge) → length (orders h) ≡ factorial (width h)
unfolding orders
orders-count h = orders_of-count (width h) h refl

-- ---- how long

abbrev words : Hedge → ℕ
words h = length (hedge_words h)

words_row : (h k : Hedge) → suc (words (h ⧺ k)) ≡ words h + words k
words_row ε k = omega arith
words_row (tvar x r) k = omega (arith, words_row r k)
words_row (hvar p r) k = omega (arith, words_row r k)
words_row (node f c r) k =
    omega (arith, words_row r k, length-append (hedge_words c) (hedge_words (r ⧺ k)), length-append (hedge_words c) (hedge_words r))

pub orders-long : (h : Hedge) → Each (λ k. length (hedge_words k) ≡ length (hedge_words h)) (orders h)
orders-long = orders-by (λ h k. words k ≡ words h) refl λ h a k d e.
    let w = d.out in
    omega (
      arith,
      e,
      ap words w.whole,
      ap words w.left,
      words_row w.before (a.0 ⧺ w.behind),
      words_row a.0 w.behind,
      words_row w.before w.behind,
      words_row a.0 k,
    )

-- ---- which

-- the i-th block of so many: its r-th
spread_at : {A B : Type 0} (g : A → List B) (m : ℕ) (d : B) (x₀ : A) (xs : List A) → Each (λ x. length (g x) ≡ m) xs → (i r : ℕ) → i < length xs → r < m
    → get_or (spread g xs) (i * m + r) d ≡ get_or (g (get_or xs i x₀)) r d
spread_at g m d x₀ [] e i r p q = absurd (omega arith)
spread_at g m d x₀ (x ∷ xs) e zero r p q =
    let j : 0 * m + r ≡ r = omega arith in rw j (get_or-append (g x) (spread g xs) d r (omega (arith, e.0)))
spread_at g m d x₀ (x ∷ xs) e (suc i) r p q =
    let j : suc i * m + r ≡ length (g x) + (i * m + r) = omega (arith, suc-mul i m, e.0) in
    rw j (get_or-append-add (g x) (spread g xs) (i * m + r) d ∙ spread_at g m d x₀ xs e.1 i r (omega arith) q)

-- within a list, what stands outside it does not matter
get_d-map-in : {A B : Type 0} (f : A → B) (l : List A) (n : ℕ) (d : A) (b : B) → n < length l → get_or (map f l) n b ≡ f (get_or l n d)
get_d-map-in f [] n d b p = absurd (omega arith)
get_d-map-in f (x ∷ xs) zero d b p = refl
get_d-map-in f (x ∷ xs) (suc n) d b p = get_d-map-in f xs n d b (omega arith)

-- one of the list
each_at : {A : Type 0} (P : A → Type 0) (xs : List A) (i : ℕ) (d : A) → Each P xs → i < length xs → P (get_or xs i d)
each_at P [] i d e p = absurd (omega arith)
each_at P (x ∷ xs) zero d e p = e.0
each_at P (x ∷ xs) (suc i) d e p = each_at P xs i d e.1 (omega arith)

-- The order at i · n! + r of n + 1 elements: the i-th element first, and then the others in their order at r.
pub order-at : (n : ℕ) (h : Hedge) (i r : ℕ) → width h ≡ suc n → i < suc n → r < factorial n
    → get_or (orders h) (i * factorial n + r) ε ≡ (get_or (drawn h) i (ε, ε)).0 ⧺ get_or (orders_of n (get_or (drawn h) i (ε, ε)).1) r ε
unfolding orders
order-at n h i r e p q =
    rw e (spread_at (λ (a : Hedge × Hedge). map (◌⧺◌ a.0) (orders_of n a.1)) (factorial n) ε (ε, ε) (drawn h) counts i r (omega (arith, length-drawn h)) q
    ∙ within (get_or (drawn h) i (ε, ε))
    (rw (orders_of-count n (get_or (drawn h) i (ε, ε)).1 (omega (arith, e, (each_at (Drawn h) (drawn h) i (ε, ε) (drawn-is h) (omega (arith, length-drawn h))).fewer))) q))
  where
    counts : Each (λ (a : Hedge × Hedge). length (map (◌⧺◌ a.0) (orders_of n a.1)) ≡ factorial n) (drawn h)
    counts =
        each-imp (Drawn h) (λ (a : Hedge × Hedge). length (map (◌⧺◌ a.0) (orders_of n a.1)) ≡ factorial n)
        (λ a d. length-map (orders_of n a.1) (◌⧺◌ a.0) ∙ orders_of-count n a.1 (omega (arith, d.fewer, e))) (drawn h) (drawn-is h)

    within : (a : Hedge × Hedge) → r < length (orders_of n a.1) → get_or (map (◌⧺◌ a.0) (orders_of n a.1)) r ε ≡ a.0 ⧺ get_or (orders_of n a.1) r ε
    within a l = get_d-map-in (◌⧺◌ a.0) (orders_of n a.1) r ε ε l
