-- Orders by digits: each has all of its elements, so they are equally long; what one digit takes; and what a small number leaves in its place.
use Prim.Native.Nat.{ℕ, zero, suc, ◌+◌, ◌-◌, ◌/◌, ◌%◌, ◌<◌, ◌≤◌}
use mathlib.Core.Path.{◌≡◌, refl, sym, ap, ◌∙◌, subst}
use mathlib.Core.List.{List, [], ◌∷◌, ◌++◌, append-nil}
use mathlib.Core.Logic.{◌⊎◌, inl, inr}
use native.Mathlib.Decide.{dec_le}
use native.Mathlib.Omega.{arith}
use native.Mathlib.Nat.{mod-lt, mod-eq_of_lt, div-eq_of_lt, zero-mod, suc-mul}
use lib.Dec.{leb}
use lib.ListN.{length, get_or, take, length-append, length-drop}
use lib.Seq.{slice, take_all, length-take-le}
use borrow.Author.Tests.{le-leb, lt-leb}
use Rattle.language.specs.Kinds.{pick}
use Rattle.rules.specs.Elements.{factorial}
use Rattle.words.specs.Spans.{element_end, places}
use Rattle.words.proofs.Spans.{element-stop, element-more}
use Rattle.slices.proofs.Parts.{Split, part-short}
use Rattle.slices.proofs.Still.{Still}
use Rattle.orders.specs.Agreeing.{Agree}
use Rattle.orders.specs.Orders.{drop_at, first_in, in_order, elements_at, ordered, plenty, some_orders}

-- ---- without one

pub drop-before : (d : ℕ) (ps : List ℕ) (i : ℕ) → i < d → get_or (drop_at d ps) i 0 ≡ get_or ps i 0
drop-before d [] i h = refl
drop-before zero (p ∷ ps) i h = absurd (omega arith)
drop-before (suc d) (p ∷ ps) zero h = refl
drop-before (suc d) (p ∷ ps) (suc i) h = drop-before d ps i (omega arith)

pub drop-behind : (d : ℕ) (ps : List ℕ) (i : ℕ) → d ≤ i → get_or (drop_at d ps) i 0 ≡ get_or ps (suc i) 0
drop-behind d [] i h = refl
drop-behind zero (p ∷ ps) i h = refl
drop-behind (suc d) (p ∷ ps) zero h = absurd (omega arith)
drop-behind (suc d) (p ∷ ps) (suc i) h = drop-behind d ps i (omega arith)

-- ---- lists that begin alike are ordered alike

pub first_below : (m j : ℕ) → first_in m j < suc m
first_below m j = mod-lt (j / factorial m) (omega arith)

drop-agree : (m d : ℕ) (a b : List ℕ) → Agree (suc m) a b → Agree m (drop_at d a) (drop_at d b)
drop-agree m d a b h i l = go (dec_le d i)
  where
    go : Dec (d ≤ i) → get_or (drop_at d a) i 0 ≡ get_or (drop_at d b) i 0
    go (yes p) = drop-behind d a i p ∙ h (suc i) (omega arith) ∙ sym (drop-behind d b i p)
    go (no p) = drop-before d a i (omega arith) ∙ h i (omega arith) ∙ sym (drop-before d b i (omega arith))

pub agree-order : (m j : ℕ) (a b : List ℕ) → Agree m a b → in_order m j a ≡ in_order m j b
agree-order zero j a b h = refl
agree-order (suc m) j a b h =
    ap (λ (p : ℕ). p ∷ in_order m (j % factorial m) (drop_at (first_in m j) a)) (h (first_in m j) (first_below m j))
    ∙ ap (λ (ps : List ℕ). get_or b (first_in m j) 0 ∷ ps) (agree-order m (j % factorial m) (drop_at (first_in m j) a) (drop_at (first_in m j) b) (drop-agree m (first_in m j) a b h))

-- ---- one digit

-- the element that comes next, and those that are left
pub next-in-order : (k : List ℕ) (m j : ℕ) (ps : List ℕ) → Split (elements_at k (in_order (suc m) j ps))
    (slice (get_or ps (first_in m j) 0) (element_end k (get_or ps (first_in m j) 0)) k) (elements_at k (in_order m (j % factorial m) (drop_at (first_in m j) ps)))
next-in-order k m j ps = record { eq = refl }

-- the same by what was found: how many orders those have that are left, and where the element ends
pub next-found : (k : List ℕ) (m j : ℕ) (ps : List ℕ) → (m ≡ 0 → ⊥) → {w block end : ℕ} → w ≡ m → block ≡ factorial (m - 1) → end ≡ element_end k (get_or ps (j / block % w) 0)
    → Split (elements_at k (in_order m j ps)) (slice (get_or ps (j / block % w) 0) end k) (elements_at k (in_order (m - 1) (j % block) (drop_at (j / block % w) ps)))
next-found k zero j ps nz f b e = absurd (nz refl)
next-found k (suc r) j ps nz {w} {block} {end} f b e = let z : suc r - 1 ≡ r = omega arith in rw (e, f, b, z) (next-in-order k r j ps)

pub orders-some : (m : ℕ) → 0 < factorial m
orders-some zero = omega arith
orders-some (suc m) = let f = orders-some m in let y = suc-mul m (factorial m) in omega arith

-- none is left
pub none-in-order : (k : List ℕ) (j : ℕ) (ps : List ℕ) {m : ℕ} → m ≡ 0 → elements_at k (in_order m j ps) ≡ []
none-in-order k j ps e = ap (λ i. elements_at k (in_order i j ps)) e

-- all of the words at once
pub at_once : (ws : List ℕ) → Split ws ws []
at_once ws = record { eq = sym (append-nil ws) }

-- the same words still to come, said otherwise
pub still-as : {old : List ℕ} {at : ℕ} {all new : List ℕ} {e : ℕ} {ws vs : List ℕ} → ws ≡ vs → Still old at all new e ws → Still old at all new e vs
still-as {old} {at} {all} {new} {e} z s = subst (Still old at all new e) z s

-- ---- a small number

pub orders-many : (m : ℕ) → 8 ≤ m → plenty ≤ factorial m
orders-many zero h = absurd (omega arith)
orders-many (suc m) h = go (orders-many m) (dec_le 8 m)
  where
    go : (8 ≤ m → plenty ≤ factorial m) → Dec (8 ≤ m) → plenty ≤ factorial (suc m)
    go f (yes p) = let x = f p in let y = suc-mul m (factorial m) in omega arith
    go f (no p) = let e : m ≡ 7 = omega arith in rw e (omega arith)

first-zero : (m j : ℕ) → j < factorial m → first_in m j ≡ 0
first-zero m j h = ap (λ n. n % suc m) (div-eq_of_lt h) ∙ zero-mod (suc m)

-- it leaves the first of many where it is
pub first-stays : (k : List ℕ) (from m j : ℕ) → 8 ≤ m → j < plenty → Split (elements_at k (in_order (suc m) j (places (suc m) k from))) (slice from (element_end k from) k) (elements_at k (in_order m j (places m k (element_end k from))))
unfolding places
first-stays k from m j h l =
    let b = orders-many m h in
    let below : j < factorial m = omega arith in
    record {
      eq =
          ap (λ (d : ℕ). elements_at k (get_or (from ∷ places m k (element_end k from)) d 0 ∷ in_order m (j % factorial m) (drop_at d (from ∷ places m k (element_end k from))))) (first-zero m j below)
          ∙ ap (λ (i : ℕ). slice from (element_end k from) k ++ elements_at k (in_order m i (places m k (element_end k from)))) (mod-eq_of_lt below);
    }

pub first_found : (k : List ℕ) (from m j : ℕ) → 8 < m → j < plenty → {end : ℕ} → end ≡ element_end k from
    → Split (elements_at k (in_order m j (places m k from))) (slice from end k) (elements_at k (in_order (m - 1) j (places (m - 1) k end)))
first_found k from zero j h l e = absurd (omega arith)
first_found k from (suc r) j h l {end} e = let z : suc r - 1 ≡ r = omega arith in rw (e, z) (first-stays k from r j (omega arith) l)

-- ---- how long

length-places : (n : ℕ) (k : List ℕ) (from : ℕ) → length (places n k from) ≡ n
unfolding places
length-places zero k from = refl
length-places (suc n) k from = ap suc (length-places n k (element_end k from))

abbrev long : List ℕ → List ℕ → ℕ
long k ps = length (elements_at k ps)

-- the words of one element
abbrev alone : List ℕ → ℕ → ℕ
alone k p = length (slice p (element_end k p) k)

taken_out : (k : List ℕ) (d : ℕ) (ps : List ℕ) → d < length ps → (length ps ≡ suc (length (drop_at d ps))) × (long k ps ≡ alone k (get_or ps d 0) + long k (drop_at d ps))
taken_out k d [] h = absurd (omega arith)
taken_out k zero (p ∷ ps) h = (refl, length-append (slice p (element_end k p) k) (elements_at k ps))
taken_out k (suc d) (p ∷ ps) h =
    let t = taken_out k d ps (omega arith) in
    let t₀ = t.0 in
    let t₁ = t.1 in
    (ap suc t₀, omega (arith, t₁, length-append (slice p (element_end k p) k) (elements_at k ps), length-append (slice p (element_end k p) k) (elements_at k (drop_at d ps))))

all-in-order : (k : List ℕ) (n j : ℕ) (ps : List ℕ) → length ps ≡ n → long k (in_order n j ps) ≡ long k ps
all-in-order k zero j [] e = refl
all-in-order k zero j (p ∷ ps) e = absurd (omega arith)
all-in-order k (suc m) j ps e =
    let d = first_in m j in
    let t = taken_out k d ps (let b = first_below m j in omega arith) in
    let t₀ = t.0 in
    let t₁ = t.1 in
    let x = all-in-order k m (j % factorial m) (drop_at d ps) (omega arith) in
    omega (arith, t₁, x, length-append (slice (get_or ps d 0) (element_end k (get_or ps d 0)) k) (elements_at k (in_order m (j % factorial m) (drop_at d ps))))

module _ (k : List ℕ) (from n : ℕ) where
  pub ordered-long : (j : ℕ) → length (ordered k from n j) ≡ long k (places n k from)
  unfolding ordered
  ordered-long j = all-in-order k n j (places n k from) (length-places n k from)

  -- all orders are equally long
  pub ordered-length : (j : ℕ) → length (ordered k from n j) ≡ length (ordered k from n 0)
  ordered-length j = ordered-long j ∙ sym (ordered-long 0)

-- ---- the part that they stand in

taken : (t : ℕ) (k : List ℕ) → ((length (take t k) ≡ t) × (t ≤ length k)) ⊎ ((length (take t k) ≡ length k) × (length k ≤ t))
taken t k = go (dec_le t (length k))
  where
    go : Dec (t ≤ length k) → ((length (take t k) ≡ t) × (t ≤ length k)) ⊎ ((length (take t k) ≡ length k) × (length k ≤ t))
    go (yes p) = inl (length-take-le t k p, p)
    go (no p) = inr (ap length (take_all t k (omega arith)), omega arith)

two-parts : (k : List ℕ) (a b c : ℕ) → a ≤ b → b ≤ c → length (slice a c k) ≡ length (slice a b k) + length (slice b c k)
two-parts k a b c p q = go (taken b k) (taken c k)
  where
    x : length (slice a c k) ≡ length (take c k) - a
    x = length-drop a (take c k)

    y : length (slice a b k) ≡ length (take b k) - a
    y = length-drop a (take b k)

    z : length (slice b c k) ≡ length (take c k) - b
    z = length-drop b (take c k)

    go : ((length (take b k) ≡ b) × (b ≤ length k)) ⊎ ((length (take b k) ≡ length k) × (length k ≤ b)) → ((length (take c k) ≡ c) × (c ≤ length k)) ⊎ ((length (take c k) ≡ length k) × (length k ≤ c))
        → length (slice a c k) ≡ length (slice a b k) + length (slice b c k)
    go (inl s) (inl t) = omega (arith, x, y, z, s.0, s.1, t.0, t.1)
    go (inl s) (inr t) = omega (arith, x, y, z, s.0, s.1, t.0, t.1)
    go (inr s) (inl t) = omega (arith, x, y, z, s.0, s.1, t.0, t.1)
    go (inr s) (inr t) = omega (arith, x, y, z, s.0, s.1, t.0, t.1)

element-forth : (k : List ℕ) (i : ℕ) → i ≤ element_end k i
element-forth k i = go (get_or k i 0) refl
  where
    go : (x : ℕ) → get_or k i 0 ≡ x → i ≤ element_end k i
    go zero e = let s = element-stop k i e in omega arith
    go (suc x) e = let s = element-more k i (λ z. omega arith) in omega (arith, s.0)

-- m of them are still to come, from p on
pub record Counting (k : List ℕ) (from n p m : ℕ) : Type 0 where
  pub forth : from ≤ p
  pub left : long k (places n k from) ≡ length (slice from p k) + long k (places m k p)

pub counting-all : (k : List ℕ) (from n : ℕ) → Counting k from n from n
counting-all k from n = record { forth = omega arith; left = let e = two-parts k from from from (omega arith) (omega arith) in omega arith }

none_left : (k : List ℕ) (p m : ℕ) → m ≡ 0 → long k (places m k p) ≡ 0
unfolding places
none_left k p m z = ap (λ i. long k (places i k p)) z

one_left : (k : List ℕ) (p m r : ℕ) → m ≡ suc r → long k (places m k p) ≡ alone k p + long k (places r k (element_end k p))
unfolding places
one_left k p m r e =
    ap (λ i. long k (places i k p)) e ∙ length-append (slice p (element_end k p) k) (elements_at k (places r k (element_end k p)))

module _ {k : List ℕ} {from n p m : ℕ} (c : Counting k from n p m) where
  pub counting-on : (m ≡ 0 → ⊥) → {e : ℕ} → e ≡ element_end k p → Counting k from n e (m - 1)
  counting-on nz {e} i =
      let q = element-forth k p in
      let f = c.forth in
      let l = c.left in
      let t = two-parts k from p (element_end k p) f q in
      let u = one_left k p m (m - 1) (omega arith) in
      record { forth = omega arith; left = rw i (omega arith) }

  pub counting-done : m ≡ 0 → {r : ℕ} → r ≡ length (slice from p k) → r ≡ length (ordered k from n 0)
  counting-done z {r} e = let l = c.left in let o = ordered-long k from n 0 in let v = none_left k p m z in omega arith

-- they are a part of the words
record Ending (k : List ℕ) (from n : ℕ) : Type 0 where
  pub end : ℕ
  pub forth : from ≤ end
  pub all : long k (places n k from) ≡ length (slice from end k)

ending : (n : ℕ) (k : List ℕ) (from : ℕ) → Ending k from n
ending zero k from = record { end = from; forth = omega arith; all = let z = none_left k from 0 refl in let t = two-parts k from from from (omega arith) (omega arith) in omega arith }
ending (suc n) k from =
    let r = ending n k (element_end k from) in
    let q = element-forth k from in
    let f = r.forth in
    record {
      end = r.end;
      forth = omega arith;
      all = omega (arith, one_left k from (suc n) n refl, r.all, two-parts k from (element_end k from) r.end q f);
    }

pub ordered-short : (k : List ℕ) (from n j : ℕ) → length (ordered k from n j) ≤ length k
ordered-short k from n j = let e = ending n k from in omega (arith, ordered-long k from n j, e.all, part-short k from e.end)

-- ---- how many

pub few-orders : (m : ℕ) {n r : ℕ} → n ≡ m → r ≡ factorial m → m ≤ 7 → r ≡ some_orders n
unfolding some_orders
few-orders m {n} e d h = d ∙ sym (ap (λ i. pick (leb i 7) (factorial i) plenty) e ∙ ap (λ b. pick b (factorial m) plenty) (le-leb m 7 h))

pub many-orders : {n : ℕ} → 7 < n → plenty ≡ some_orders n
unfolding some_orders
many-orders {n} h = sym (ap (λ b. pick b (factorial n) plenty) (lt-leb n 7 h))

pub counted-orders : (n : ℕ) → n ≤ 7 → {r : ℕ} → r ≡ some_orders n → r ≡ factorial n
counted-orders n h e = e ∙ sym (few-orders n refl refl h)
