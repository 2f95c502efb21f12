-- What lies in ranges that are met, added and repeated.
use Prim.Native.Nat.{ℕ, zero, suc, ◌+◌, ◌-◌, ◌<◌, ◌≤◌, max, min}
use mathlib.Core.Path.{◌≡◌, refl, sym, ◌∙◌}
use mathlib.Core.Logic.{◌⊎◌, inl, inr}
use mathlib.Core.Bool.{Bool, true, false, ◌||◌}
use native.Mathlib.Omega.{arith}
use lib.Dec.{leb}
use borrow.Author.Tests.{leb-true, leb-false}
use Rattle.any_order.specs.declared.Range.{Range}
use Rattle.any_order.specs.Searching.{Lies, Emptied, Met, Added, Repeated}

pub not-both : {b : Bool} → b ≡ true → b ≡ false → ⊥
not-both {b} e d = let z : false ≡ true = sym d ∙ e in let y : ◌≡◌ {A = ℕ} 0 1 = cc in omega arith

pub lies : {n : ℕ} {r : Range} → r.least ≤ n → (r.endless ≡ true) ⊎ (n ≤ r.most) → Lies n r
lies l h = record { low = l; high = h }

-- ---- none

pub open-some : {r : Range} → r.endless ≡ true → Emptied r false
open-some o = record { empty = λ e. absurd (not-both e refl); some = λ e. lies (omega arith) (inl o) }

pub closed_some : {r : Range} → r.least ≤ r.most → Emptied r false
closed_some z = record { empty = λ e. absurd (not-both e refl); some = λ e. lies (omega arith) (inr z) }

pub closed_none : {r : Range} → r.endless ≡ false → r.most < r.least → Emptied r true
closed_none {r} o z = record {
  empty = λ e n y. by y.low y.high;
  some = λ e. absurd (not-both refl e);
}
  where
    by : {n : ℕ} → r.least ≤ n → (r.endless ≡ true) ⊎ (n ≤ r.most) → ⊥
    by l (inl x) = not-both x o
    by l (inr x) = omega arith

-- ---- both

closed-high : {b : Bool} {n m : ℕ} → b ≡ false → (b ≡ true) ⊎ (n ≤ m) → n ≤ m
closed-high o (inl x) = absurd (not-both x o)
closed-high o (inr x) = x

module _ {a b : Range} {m : ℕ} (e : m ≡ max a.least b.least) where
  pub met-left-open : a.endless ≡ true → Met a b (record { least = m; most = b.most; endless = b.endless })
  met-left-open o = record {
    small = λ N x y. (omega arith, y.1);
    lies = λ n. (λ y. (lies (omega (arith, y.low)) (inl o), lies (omega (arith, y.low)) y.high), λ z. lies (omega (arith, z.0.low, z.1.low)) z.1.high);
  }

  pub met-right-open : a.endless ≡ false → b.endless ≡ true → Met a b (record { least = m; most = a.most; endless = false })
  met-right-open c o = record {
    small = λ N x y. (omega arith, x.1);
    lies = λ n. (λ y. (lies (omega (arith, y.low)) (inr (closed-high refl y.high)), lies (omega (arith, y.low)) (inl o)), λ z. lies (omega (arith, z.0.low, z.1.low)) (inr (closed-high c z.0.high)));
  }

  pub met-closed : {k : ℕ} → a.endless ≡ false → b.endless ≡ false → k ≡ min a.most b.most → Met a b (record { least = m; most = k; endless = false })
  met-closed {k} c o d = record {
    small = λ N x y. (omega arith, omega arith);
    lies = λ n. (
      λ y. let h = closed-high refl y.high in (lies (omega (arith, y.low)) (inr (omega arith)), lies (omega (arith, y.low)) (inr (omega arith))),
      λ z. let g = closed-high c z.0.high in let h = closed-high o z.1.high in lies (omega (arith, z.0.low, z.1.low)) (inr (omega arith)),
    );
  }

-- ---- sums

pub added-left-none : {a b : Range} {t : Bool} → Emptied a t → t ≡ true → Added a b a
added-left-none y t = record {
  small = λ N M x z. (omega arith, omega arith);
  lies = λ n. (λ x. absurd (y.empty t n x), λ (i, j, e, x, z). absurd (y.empty t i x));
}

pub added-right-none : {a b : Range} {t : Bool} → Emptied b t → t ≡ true → Added a b b
added-right-none y t = record {
  small = λ N M x z. (omega arith, omega arith);
  lies = λ n. (λ x. absurd (y.empty t n x), λ (i, j, e, x, z). absurd (y.empty t j z));
}

or-sides : (x y : Bool) → (x || y) ≡ true → (x ≡ true) ⊎ (y ≡ true)
or-sides true y e = inl refl
or-sides false y e = inr e

or_left : (x y : Bool) → x ≡ true → (x || y) ≡ true
or_left x y e = rw e refl

or_right : (x y : Bool) → y ≡ true → (x || y) ≡ true
or_right true y e = refl
or_right false y e = e

-- n in two parts, one of each
abbrev Cut : Range → Range → ℕ → Type 0
Cut a b n = (i : ℕ) × (j : ℕ) × (n ≡ i + j) × Lies i a × Lies j b

module _ (a b : Range) where
  abbrev sum : Bool → Range
  sum o = record { least = a.least + b.least; most = a.most + b.most; endless = o }

  cut_left : (n : ℕ) → a.least + b.least ≤ n → a.endless ≡ true → Lies b.least b → Cut a b n
  cut_left n l p y = (n - b.least, b.least, omega arith, lies (omega arith) (inl p), y)

  cut_right : (n : ℕ) → a.least + b.least ≤ n → b.endless ≡ true → Lies a.least a → Cut a b n
  cut_right n l p x = (a.least, n - a.least, omega arith, x, lies (omega arith) (inl p))

  cut-closed : (n : ℕ) → a.least + b.least ≤ n → n ≤ a.most + b.most → a.least ≤ a.most → b.least ≤ b.most → Cut a b n
  cut-closed n l h p q = by (leb (n - b.least) a.most) refl
    where
      by : (t : Bool) → leb (n - b.least) a.most ≡ t → Cut a b n
      by true z = let u = leb-true (n - b.least) a.most z in (n - b.least, b.least, omega arith, lies (omega arith) (inr u), lies (omega arith) (inr q))
      by false z = let u = leb-false (n - b.least) a.most z in (a.most, n - a.most, omega arith, lies p (inr (omega arith)), lies (omega arith) (inr (omega arith)))

  cut : (o : Bool) → o ≡ (a.endless || b.endless) → (n : ℕ) → Lies a.least a → Lies b.least b → Lies n (sum o) → Cut a b n
  cut o e n x y z = go x.high y.high z.high
    where
      go : (a.endless ≡ true) ⊎ (a.least ≤ a.most) → (b.endless ≡ true) ⊎ (b.least ≤ b.most) → (o ≡ true) ⊎ (n ≤ a.most + b.most) → Cut a b n
      go (inl p) q r = cut_left n z.low p y
      go (inr p) (inl q) r = cut_right n z.low q x
      go (inr p) (inr q) (inr r) = cut-closed n z.low r p q
      go (inr p) (inr q) (inl r) = elim (or-sides a.endless b.endless (sym e ∙ r)) [ inl u ↦ cut_left n z.low u y | inr u ↦ cut_right n z.low u x ]

  uncut : (o : Bool) → o ≡ (a.endless || b.endless) → (n : ℕ) → Cut a b n → Lies n (sum o)
  uncut o e n (i, j, d, x, y) = lies (omega (arith, x.low, y.low)) (go x.high y.high)
    where
      go : (a.endless ≡ true) ⊎ (i ≤ a.most) → (b.endless ≡ true) ⊎ (j ≤ b.most) → (o ≡ true) ⊎ (n ≤ a.most + b.most)
      go (inl p) q = inl (e ∙ or_left a.endless b.endless p)
      go (inr p) (inl q) = inl (e ∙ or_right a.endless b.endless q)
      go (inr p) (inr q) = inr (omega (arith, d))

pub added : {a b : Range} {o s t : Bool} → o ≡ (a.endless || b.endless) → Emptied a s → s ≡ false → Emptied b t → t ≡ false
    → Added a b (record { least = a.least + b.least; most = a.most + b.most; endless = o })
added {a} {b} {o} e x p y q = record {
  small = λ N M u v. (omega arith, omega arith);
  lies = λ n. (λ z. cut a b o e n (x.some p) (y.some q) z, λ z. uncut a b o e n z);
}

-- ---- any number

pub repeated-none : {a : Range} {t : Bool} → Emptied a t → t ≡ true → Repeated a a
repeated-none y t = record {
  small = λ N x. (omega arith, omega arith);
  lies = λ n. (λ x. absurd (y.empty t n x), λ (i, z, x). absurd (y.empty t i x));
}

pub repeated : {a : Range} {m : ℕ} {t : Bool} → Emptied a t → t ≡ false → m ≡ min a.least 1 → Repeated a (record { least = m; most = 0; endless = true })
repeated {a} {m} y t e = record {
  small = λ N x. (omega arith, omega arith);
  lies = λ n. (λ z. (a.least, (λ p. omega (arith, z.low)), y.some t), λ (i, z, x). lies (low n i z x.low) (inl refl));
}
  where
    low : (n i : ℕ) → (0 < i → 0 < n) → a.least ≤ i → m ≤ n
    low n zero z l = omega arith
    low n (suc i) z l = omega (arith, z (omega arith))
