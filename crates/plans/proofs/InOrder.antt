-- The elements of a hedge in the order of a number: their words are those of the hedge at that place in the list of its orders.
use Prim.Native.Nat.{ℕ, zero, suc, ◌+◌, ◌-◌, ◌/◌, ◌%◌, ◌<◌}
use mathlib.Core.Path.{◌≡◌, refl, sym, ap, ◌∙◌, subst}
use mathlib.Core.List.{List, [], ◌∷◌, ◌++◌, append_assoc, map}
use native.Mathlib.Omega.{arith}
use native.Mathlib.Nat.{mod-lt, mod-eq_of_lt, div-add-mod', div-lt_iff_lt-mul}
use lib.ListN.{length, get_or}
use lib.Seq.{slice}
use Rattle.language.specs.Trees.{Hedge, ε, tvar, hvar, node}
use Rattle.language.specs.Writing.{hedge_words}
use Rattle.meaning.specs.Values.{numbers}
use Rattle.rules.specs.Elements.{drawn, width, orders_of, orders, factorial}
use Rattle.rules.proofs.OrderCounts.{length-drawn, orders-count, order-at}
use Rattle.words.specs.Spans.{element_end, places}
use Rattle.words.proofs.Parts.{part_of}
use Rattle.views.specs.Looks.{head, tail, body_words}
use Rattle.views.specs.Standing.{Stands}
use Rattle.views.proofs.Words.{words-join}
use Rattle.views.proofs.Spans.{stands-split, stands-place, stands-next}
use Rattle.orders.specs.Orders.{drop_at, first_in, in_order, elements_at, ordered}
use Rattle.orders.proofs.Orders.{orders-some}

-- ---- places of the elements of a hedge

abbrev Rows : List ℕ → List ℕ → Hedge → Type 0
Rows k [] ε = Unit {0}
Rows k [] (tvar x r) = ⊥
Rows k [] (hvar p r) = ⊥
Rows k [] (node f c r) = ⊥
Rows k (p ∷ ps) ε = ⊥
Rows k (p ∷ ps) (tvar x r) = (slice p (element_end k p) k ≡ body_words (tvar x ε)) × Rows k ps r
Rows k (p ∷ ps) (hvar q r) = (slice p (element_end k p) k ≡ body_words (hvar q ε)) × Rows k ps r
Rows k (p ∷ ps) (node f c r) = (slice p (element_end k p) k ≡ body_words (node f c ε)) × Rows k ps r

stands-words : {k : List ℕ} {i : ℕ} {h : Hedge} {beyond : List ℕ} → Stands k i h beyond → slice i (element_end k i) k ≡ body_words (head h)
stands-words {k} {i} {h} {beyond} s =
    part_of k i (element_end k i) (body_words (head h)) (hedge_words (tail h) ++ beyond) (stands-split s) (stands-place s)

stands-rows : (k : List ℕ) (i : ℕ) (h : Hedge) (beyond : List ℕ) → Stands k i h beyond → Rows k (places (width h) k i) h
unfolding places
stands-rows k i ε beyond s = tt
stands-rows k i (tvar x r) beyond s = (stands-words s, stands-rows k (element_end k i) r beyond (stands-next s))
stands-rows k i (hvar p r) beyond s = (stands-words s, stands-rows k (element_end k i) r beyond (stands-next s))
stands-rows k i (node f c r) beyond s = (stands-words s, stands-rows k (element_end k i) r beyond (stands-next s))

rows-width : (k ps : List ℕ) (h : Hedge) → Rows k ps h → width h ≡ length ps
rows-width k [] ε t = refl
rows-width k [] (tvar x r) t = absurd t
rows-width k [] (hvar p r) t = absurd t
rows-width k [] (node f c r) t = absurd t
rows-width k (p ∷ ps) ε t = absurd t
rows-width k (p ∷ ps) (tvar x r) t = ap suc (rows-width k ps r t.1)
rows-width k (p ∷ ps) (hvar q r) t = ap suc (rows-width k ps r t.1)
rows-width k (p ∷ ps) (node f c r) t = ap suc (rows-width k ps r t.1)

length-drop-at : (d : ℕ) (ps : List ℕ) → d < length ps → length ps ≡ suc (length (drop_at d ps))
length-drop-at d [] h = absurd (omega arith)
length-drop-at zero (p ∷ ps) h = refl
length-drop-at (suc d) (p ∷ ps) h = ap suc (length-drop-at d ps (omega arith))

-- ---- one drawn

at_map : {A B : Type 0} (f : A → B) (l : List A) (n : ℕ) (d : A) (b : B) → n < length l → get_or (map f l) n b ≡ f (get_or l n d)
at_map f [] n d b p = absurd (omega arith)
at_map f (x ∷ xs) zero d b p = refl
at_map f (x ∷ xs) (suc n) d b p = at_map f xs n d b (omega arith)

abbrev Out : List ℕ → List ℕ → ℕ → Hedge × Hedge → Type 0
Out k ps i a = (slice (get_or ps i 0) (element_end k (get_or ps i 0)) k ≡ body_words a.0) × Rows k (drop_at i ps) a.1

rows-drawn : (k ps : List ℕ) (h : Hedge) (i : ℕ) → i < width h → Rows k ps h → Out k ps i (get_or (drawn h) i (ε, ε))
rows-drawn k [] ε i l t = absurd (omega arith)
rows-drawn k [] (tvar x r) i l t = absurd t
rows-drawn k [] (hvar p r) i l t = absurd t
rows-drawn k [] (node f c r) i l t = absurd t
rows-drawn k (p ∷ ps) ε i l t = absurd t
rows-drawn k (p ∷ ps) (tvar x r) zero l t = t
rows-drawn k (p ∷ ps) (hvar q r) zero l t = t
rows-drawn k (p ∷ ps) (node f c r) zero l t = t
rows-drawn k (p ∷ ps) (tvar x r) (suc i) l t =
    let o = rows-drawn k ps r i (omega arith) t.1 in
    subst (Out k (p ∷ ps) (suc i)) (sym (at_map (λ (a : Hedge × Hedge). (a.0, tvar x a.1)) (drawn r) i (ε, ε) (ε, ε) (let e = length-drawn r in omega arith))) (o.0, (t.0, o.1))
rows-drawn k (p ∷ ps) (hvar q r) (suc i) l t =
    let o = rows-drawn k ps r i (omega arith) t.1 in
    subst (Out k (p ∷ ps) (suc i)) (sym (at_map (λ (a : Hedge × Hedge). (a.0, hvar q a.1)) (drawn r) i (ε, ε) (ε, ε) (let e = length-drawn r in omega arith))) (o.0, (t.0, o.1))
rows-drawn k (p ∷ ps) (node f c r) (suc i) l t =
    let o = rows-drawn k ps r i (omega arith) t.1 in
    subst (Out k (p ∷ ps) (suc i)) (sym (at_map (λ (a : Hedge × Hedge). (a.0, node f c a.1)) (drawn r) i (ε, ε) (ε, ε) (let e = length-drawn r in omega arith))) (o.0, (t.0, o.1))

-- ---- all of them

orders-by-width : (n : ℕ) (h : Hedge) → width h ≡ n → orders h ≡ orders_of n h
unfolding orders
orders-by-width n h e = ap (λ m. orders_of m h) e

lone-order : (h : Hedge) → width h ≡ 0 → (j : ℕ) → get_or (orders h) j ε ≡ ε
lone-order h e j = ap (λ (hs : List Hedge). get_or hs j ε) (orders-by-width 0 h e) ∙ go j
  where
    go : (j : ℕ) → get_or (ε ∷ []) j ε ≡ ε
    go zero = refl
    go (suc j) = refl

rows-order : (n : ℕ) (k ps : List ℕ) (h : Hedge) (j : ℕ) → width h ≡ n → Rows k ps h → j < factorial n → elements_at k (in_order n j ps) ++ (0 ∷ []) ≡ hedge_words (get_or (orders h) j ε)
rows-order zero k ps h j e t l = sym (ap hedge_words (lone-order h e j))
rows-order (suc n) k ps h j e t l =
    let i : j / factorial n < suc n = (div-lt_iff_lt-mul {x = j} {y = suc n} (orders-some n)).1 l in
    let first : first_in n j ≡ j / factorial n = mod-eq_of_lt i in
    let r = mod-lt j (orders-some n) in
    let a = get_or (drawn h) (j / factorial n) (ε, ε) in
    let o = rows-drawn k ps h (j / factorial n) (omega arith) t in
    let w : width a.1 ≡ n = omega (arith, rows-width k ps h t, rows-width k (drop_at (j / factorial n) ps) a.1 o.1, length-drop-at (j / factorial n) ps (omega (arith, rows-width k ps h t))) in
    let p = get_or ps (j / factorial n) 0 in
    let z = rows-order n k (drop_at (j / factorial n) ps) a.1 (j % factorial n) w o.1 r in
    ap (λ d. elements_at k (get_or ps d 0 ∷ in_order n (j % factorial n) (drop_at d ps)) ++ (0 ∷ [])) first
    ∙ append_assoc (slice p (element_end k p) k) (elements_at k (in_order n (j % factorial n) (drop_at (j / factorial n) ps))) (0 ∷ [])
    ∙ ap (λ ws. ws ++ (elements_at k (in_order n (j % factorial n) (drop_at (j / factorial n) ps)) ++ (0 ∷ []))) o.0
    ∙ ap (λ ws. body_words a.0 ++ ws) (z ∙ ap (λ (hs : List Hedge). hedge_words (get_or hs (j % factorial n) ε)) (orders-by-width n a.1 w))
    ∙ sym (words-join a.0 (get_or (orders_of n a.1) (j % factorial n) ε))
    ∙ sym (ap hedge_words (order-at n h (j / factorial n) (j % factorial n) e i r))
    ∙ ap (λ m. hedge_words (get_or (orders h) m ε)) (div-add-mod' j (factorial n))

-- of a hedge in the words
pub ordered_words : {k : List ℕ} {from : ℕ} (h : Hedge) {beyond : List ℕ} → Stands k from h beyond → (j : ℕ) → j < factorial (width h)
    → ordered k from (width h) j ++ (0 ∷ []) ≡ hedge_words (get_or (orders h) j ε)
unfolding ordered
ordered_words {k} {from} h {beyond} s j l = rows-order (width h) k (places (width h) k from) h j refl (stands-rows k from h beyond s) l

-- ---- one result for each

map-from : {A B : Type 0} (f : ℕ → B) (g : A → B) (d : A) (xs : List A) (i : ℕ) → ((j : ℕ) → j < length xs → f (i + j) ≡ g (get_or xs j d)) → map f (numbers i (length xs)) ≡ map g xs
map-from f g d [] i e = refl
map-from f g d (x ∷ xs) i e =
    let z : i ≡ i + 0 = omega arith in
    ap (λ (b : _). b ∷ map f (numbers (suc i) (length xs))) (ap f z ∙ e 0 (omega arith))
    ∙ ap (λ bs. g x ∷ bs) (map-from f g d xs (suc i) (λ j l. let y : suc i + j ≡ i + suc j = omega arith in ap f y ∙ e (suc j) (omega arith)))

-- what is made by number is what is made of each order
pub each-order : {B : Type 0} {k : List ℕ} {from : ℕ} (h : Hedge) {beyond : List ℕ} → Stands k from h beyond → (n : ℕ) → n ≡ width h → (f : ℕ → B) (g : Hedge → B)
    → ((j : ℕ) (t : Hedge) → ordered k from n j ++ (0 ∷ []) ≡ hedge_words t → f j ≡ g t) → map f (numbers 0 (factorial n)) ≡ map g (orders h)
each-order {B} {k} {from} h s n e f g same =
    ap (λ m. map f (numbers 0 m)) (ap factorial e ∙ sym (orders-count h))
    ∙ map-from f g ε (orders h) 0 (λ j l. let z : 0 + j ≡ j = omega arith in ap f z ∙ same j (get_or (orders h) j ε)
    (ap (λ m. ordered k from m j ++ (0 ∷ [])) e ∙ ordered_words h s j (let c = orders-count h in omega arith)))
