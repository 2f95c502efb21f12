-- Looking a pair up along its chain: all places where it can still stand are below x.
use Prim.Native.Nat.{ℕ, zero, suc, ◌+◌, ◌*◌, ◌-◌, ◌<◌, ◌≤◌}
use mathlib.Core.Path.{◌≡◌, refl, sym, ◌∙◌, ap, subst}
use mathlib.Core.Bool.{Bool, true, false}
use mathlib.Core.List.{List}
use native.Mathlib.Omega.{arith}
use native.Mathlib.Nat.{mod-lt, zero-lt-suc}
use lib.ListN.{length, get_or, set, length-set}
use lib.Seq.{get_or-set_same, get_or-set_other}
use native.Mathlib.Decide.{ℕ_discrete}
use lib.Dec.{T, eqb, eqb→eq, eqb_refl}
use Rattle.language.specs.Limits.{walked_pairs}
use Rattle.clash.specs.Chains.{chain_of, chain_at, Chained, IsPair, Apart, Tested, Found, stops}

pub chain-lt : (a b : ℕ) → chain_of a b < 4093
unfolding chain_of
chain-lt a b = mod-lt (a * 769 + b) (zero-lt-suc 4092)

pub record Below (left right : List ℕ) (n a b h x : ℕ) : Type 0 where
  pub chain : h ≡ chain_of a b
  pub fits : x ≤ n
  pub kind : (i : ℕ) → x ≡ suc i → chain_at left right i ≡ h
  pub left_over : (j : ℕ) → j < n → IsPair left right a b j → j < x

is-chain : {left right : List ℕ} {a b i : ℕ} → IsPair left right a b i → chain_at left right i ≡ chain_of a b
is-chain s = rw (s.one, s.other)

module _ {left right links heads : List ℕ} {n a b : ℕ} (C : Chained left right links heads n) where
  pub starts : (h x : ℕ) → h ≡ chain_of a b → x ≡ get_or heads h 0 → Below left right n a b h x
  starts h x e d =
      record {
        chain = e;
        fits = rw d (C.head_in h);
        kind = λ i f. C.head-chain h i (sym d ∙ f);
        left_over = λ j l s. rw d (subst (λ k. j < get_or heads k 0) (is-chain s ∙ sym e) (C.head-past j l));
      }

  pub goes_on : (h x y : ℕ) → Below left right n a b h x → (x ≡ 0 → ⊥) → (IsPair left right a b (x - 1) → ⊥) → y ≡ get_or links (x - 1) 0 → Below left right n a b h y
  goes_on h zero y B z t d = absurd (z refl)
  goes_on h (suc i) y B z t d =
      let e : suc i - 1 ≡ i = omega arith in
      let l : i < n = omega (arith, B.fits) in
      let k : y ≡ get_or links i 0 = d ∙ ap (λ i. get_or links i 0) e in
      record {
        chain = B.chain;
        fits = let p = C.link-in i l in omega arith;
        kind = λ j f. C.link-chain i j l (sym k ∙ f) ∙ B.kind i refl;
        left_over = λ j m s.
            let q : j < suc i = B.left_over j m s in
            let ne : j ≡ i → ⊥ = λ g. t (subst (IsPair left right a b) (g ∙ sym e) s) in
            let p : j < i = omega arith in
            rw k (C.link-past i j l p (is-chain s ∙ sym B.chain ∙ sym (B.kind i refl)));
      }

  pub less : (h x y : ℕ) → Below left right n a b h x → (x ≡ 0 → ⊥) → y ≡ get_or links (x - 1) 0 → y < x
  less h zero y B z d = absurd (z refl)
  less h (suc i) y B z d =
      let e : suc i - 1 ≡ i = omega arith in
      let l : i < n = omega (arith, B.fits) in
      let k : y ≡ get_or links i 0 = d ∙ ap (λ i. get_or links i 0) e in
      let p = C.link-in i l in
      omega arith

pub met : {left right : List ℕ} {n a b h x : ℕ} → Below left right n a b h x → (x ≡ 0 → ⊥) → IsPair left right a b (x - 1) → Found left right n a b x
met {left} {right} {n} {a} {b} {h} {x} B z s =
    record {
      here = λ i e. let p = B.fits in let d : x - 1 ≡ i = omega arith in (omega arith, subst (IsPair left right a b) d s);
      nowhere = λ e. absurd (z e);
    }

pub unmet : {left right : List ℕ} {n a b h x : ℕ} → Below left right n a b h x → x ≡ 0 → Found left right n a b 0
unmet B e = record { here = λ i f. absurd (omega arith); nowhere = λ f i l s. let p = B.left_over i l s in absurd (omega arith) }

pub tested-one : {left right : List ℕ} {a b i : ℕ} → get_or left i 0 ≡ a → Tested left right a b i (eqb (get_or right i 0) b)
tested-one {left} {right} {a} {b} {i} e =
    record {
      yes = λ t. record { one = e; other = eqb→eq (get_or right i 0) b (rw t tt) };
      not = λ f s. let t : T (eqb (get_or right i 0) b) = rw s.other (eqb_refl b) in rw f at t;
    }

false≢true : {A : Type 0} → false ≡ true → A
false≢true e = absurd (subst T (sym e) tt)

pub tested-none : {left right : List ℕ} {a b i : ℕ} → (get_or left i 0 ≡ a → ⊥) → Tested left right a b i false
tested-none n = record { yes = λ t. false≢true t; not = λ f s. n s.one }

-- ---- as the code's facts have them

module _ {left right links heads : List ℕ} {n a b h x : ℕ} where
  pub in-room : Chained left right links heads n → Below left right n a b h x → (x ≡ 0 → ⊥) → x - 1 ≤ walked_pairs
  in-room C B z = let p = C.few in let q = B.fits in omega arith

  pub in_array : Chained left right links heads n → Below left right n a b h x → (x ≡ 0 → ⊥) → x - 1 < stops
  in_array C B z = let p = C.few in let q = B.fits in omega arith

  pub step : {y : ℕ} {r : Bool} → Chained left right links heads n → Below left right n a b h x → (x ≡ 0 → ⊥) → Tested left right a b (x - 1) r → r ≡ false → y ≡ get_or links (x - 1) 0
      → Below left right n a b h y
  step {y} C B z t e d = goes_on C h x y B z (t.not e) d

pub hit : {left right : List ℕ} {n a b h x : ℕ} {r : Bool} → Below left right n a b h x → (x ≡ 0 → ⊥) → Tested left right a b (x - 1) r → r ≡ true → Found left right n a b x
hit B z t e = met B z (t.yes e)

-- ---- one pair more

module _ {left right links heads : List ℕ} {n : ℕ} (a b : ℕ) (C : Chained left right links heads n) (u : n ≤ walked_pairs) (f : Found left right n a b 0) where
  x : n < length left
  x = let e = C.lefts in omega arith

  y : n < length right
  y = let e = C.rights in omega arith

  z : n < length links
  z = let e = C.linked in omega arith

  abbrev left' : List ℕ
  left' = set left n a

  abbrev right' : List ℕ
  right' = set right n b

  abbrev h : ℕ
  h = chain_of a b

  abbrev links' : List ℕ
  links' = set links n (get_or heads h 0)

  abbrev heads' : List ℕ
  heads' = set heads h (n + 1)

  -- the chains of the others are as before, and the new pair's is h
  old : (j : ℕ) → j < n → chain_at left' right' j ≡ chain_at left right j
  old j l = rw (get_or-set_other left n j a 0 (omega arith), get_or-set_other right n j b 0 (omega arith))

  new : chain_at left' right' n ≡ h
  new = rw (get_or-set_same left n a 0 x, get_or-set_same right n b 0 y)

  room : h < length heads
  room = let p = chain-lt a b in let q = C.room in omega arith

  head-h : get_or heads' h 0 ≡ n + 1
  head-h = get_or-set_same heads h (n + 1) 0 room

  head-other : (k : ℕ) → (k ≡ h → ⊥) → get_or heads' k 0 ≡ get_or heads k 0
  head-other k ne = get_or-set_other heads h k (n + 1) 0 ne

  link-n : get_or links' n 0 ≡ get_or heads h 0
  link-n = get_or-set_same links n (get_or heads h 0) 0 z

  link-other : (i : ℕ) → i < n → get_or links' i 0 ≡ get_or links i 0
  link-other i l = get_or-set_other links n i (get_or heads h 0) 0 (omega arith)

  head-past' : (j : ℕ) → j < n + 1 → j < get_or heads' (chain_at left' right' j) 0
  head-past' j l = go (ℕ_discrete j n)
    where
      other : j < n → Dec (chain_at left right j ≡ h) → j < get_or heads' (chain_at left right j) 0
      other m (yes e) = let d : get_or heads' (chain_at left right j) 0 ≡ n + 1 = ap (λ k. get_or heads' k 0) e ∙ head-h in omega arith
      other m (no ne) = let d = head-other (chain_at left right j) ne in let p = C.head-past j m in omega arith

      go : Dec (j ≡ n) → j < get_or heads' (chain_at left' right' j) 0
      go (yes e) = let d : get_or heads' (chain_at left' right' j) 0 ≡ n + 1 = ap (λ k. get_or heads' k 0) (ap (chain_at left' right') e ∙ new) ∙ head-h in omega arith
      go (no ne) =
          let m : j < n = omega arith in
          subst (λ k. j < get_or heads' k 0) (sym (old j m)) (other m (ℕ_discrete (chain_at left right j) h))

  head-in' : (k : ℕ) → get_or heads' k 0 ≤ n + 1
  head-in' k = go (ℕ_discrete k h)
    where
      go : Dec (k ≡ h) → get_or heads' k 0 ≤ n + 1
      go (yes e) = let d : get_or heads' k 0 ≡ n + 1 = ap (λ k. get_or heads' k 0) e ∙ head-h in omega arith
      go (no ne) = let d = head-other k ne in let p = C.head_in k in omega arith

  head-chain' : (k i : ℕ) → get_or heads' k 0 ≡ suc i → chain_at left' right' i ≡ k
  head-chain' k i f = go (ℕ_discrete k h)
    where
      go : Dec (k ≡ h) → chain_at left' right' i ≡ k
      go (yes e) =
          let d : get_or heads' k 0 ≡ n + 1 = ap (λ k. get_or heads' k 0) e ∙ head-h in
          let g : i ≡ n = omega arith in
          ap (chain_at left' right') g ∙ new ∙ sym e
      go (no ne) =
          let d = head-other k ne in
          let p = C.head_in k in
          let m : i < n = omega arith in
          old i m ∙ C.head-chain k i (sym d ∙ f)

  link-past' : (i j : ℕ) → i < n + 1 → j < i → chain_at left' right' j ≡ chain_at left' right' i → j < get_or links' i 0
  link-past' i j l m e = go (ℕ_discrete i n)
    where
      go : Dec (i ≡ n) → j < get_or links' i 0
      go (yes g) =
          let p : j < n = omega arith in
          let d : get_or links' i 0 ≡ get_or heads h 0 = ap (λ i. get_or links' i 0) g ∙ link-n in
          let c : chain_at left right j ≡ h = sym (old j p) ∙ e ∙ ap (chain_at left' right') g ∙ new in
          let q : j < get_or heads h 0 = subst (λ k. j < get_or heads k 0) c (C.head-past j p) in
          omega arith
      go (no ne) =
          let p : i < n = omega arith in
          let d = link-other i p in
          let q = C.link-past i j p m (sym (old j (omega arith)) ∙ e ∙ old i p) in
          omega arith

  link-in' : (i : ℕ) → i < n + 1 → get_or links' i 0 ≤ i
  link-in' i l = go (ℕ_discrete i n)
    where
      go : Dec (i ≡ n) → get_or links' i 0 ≤ i
      go (yes g) = let d : get_or links' i 0 ≡ get_or heads h 0 = ap (λ i. get_or links' i 0) g ∙ link-n in let p = C.head_in h in omega arith
      go (no ne) = let p : i < n = omega arith in let d = link-other i p in let q = C.link-in i p in omega arith

  link-chain' : (i j : ℕ) → i < n + 1 → get_or links' i 0 ≡ suc j → chain_at left' right' j ≡ chain_at left' right' i
  link-chain' i j l f = go (ℕ_discrete i n)
    where
      go : Dec (i ≡ n) → chain_at left' right' j ≡ chain_at left' right' i
      go (yes g) =
          let d : get_or links' i 0 ≡ get_or heads h 0 = ap (λ i. get_or links' i 0) g ∙ link-n in
          let p = C.head_in h in
          let m : j < n = omega arith in
          old j m ∙ C.head-chain h j (sym d ∙ f) ∙ sym new ∙ ap (chain_at left' right') (sym g)
      go (no ne) =
          let p : i < n = omega arith in
          let d = link-other i p in
          let q = C.link-in i p in
          old j (omega arith) ∙ C.link-chain i j p (sym d ∙ f) ∙ sym (old i p)

  left-new : get_or left' n 0 ≡ a
  left-new = get_or-set_same left n a 0 x

  right_new : get_or right' n 0 ≡ b
  right_new = get_or-set_same right n b 0 y

  left-old : (i : ℕ) → i < n → get_or left' i 0 ≡ get_or left i 0
  left-old i l = get_or-set_other left n i a 0 (omega arith)

  right-old : (i : ℕ) → i < n → get_or right' i 0 ≡ get_or right i 0
  right-old i l = get_or-set_other right n i b 0 (omega arith)

  apart-new : Apart left' right' (n + 1)
  apart-new i j l m s = go (ℕ_discrete j n)
    where
      go : Dec (j ≡ n) → ⊥
      go (yes e) =
          let x = left-old i (omega arith) in
          let y = right-old i (omega arith) in
          f.nowhere refl i (omega arith) (record {
            one = sym x ∙ sym s.one ∙ ap (λ j. get_or left' j 0) e ∙ left-new;
            other = sym y ∙ sym s.other ∙ ap (λ j. get_or right' j 0) e ∙ right_new;
          })
      go (no ne) =
          C.apart i j l (omega arith) (record {
            one = sym (left-old j (omega arith)) ∙ s.one ∙ left-old i (omega arith);
            other = sym (right-old j (omega arith)) ∙ s.other ∙ right-old i (omega arith);
          })

  pub added : Chained left' right' links' heads' (n + 1)
  added =
      record {
        few = omega arith;
        lefts = length-set left n a ∙ C.lefts;
        rights = length-set right n b ∙ C.rights;
        linked = length-set links n (get_or heads h 0) ∙ C.linked;
        room = length-set heads h (n + 1) ∙ C.room;
        apart = apart-new;
        head-past = head-past';
        head_in = head-in';
        head-chain = head-chain';
        link-past = link-past';
        link-in = link-in';
        link-chain = link-chain';
      }

pub added-at : {left right links heads : List ℕ} {n k r : ℕ} (a b : ℕ) → Chained left right links heads n → n ≤ walked_pairs → Found left right n a b 0
    → k ≡ chain_of a b → r ≡ n + 1 → Chained (set left n a) (set right n b) (set links n (get_or heads k 0)) (set heads k r) (n + 1)
added-at {left} {right} {links} {heads} {n} a b C u f e d = rw (e, d) (added a b C u f)
