-- What the numbers on an expression's symbols may become, by the word that stands there.
use Prim.Native.Nat.{ℕ, ◌+◌, ◌*◌, ◌<◌, ◌≤◌}
use mathlib.Core.Path.{◌≡◌, refl}
use mathlib.Core.Logic.{inl, inr}
use mathlib.Core.Bool.{Bool, true, false}
use mathlib.Core.List.{List}
use native.Mathlib.Omega.{arith}
use lib.ListN.{length, get_or}
use Rattle.language.specs.Limits.{desk}
use Rattle.language.specs.Trees.{Expr}
use Rattle.any_order.specs.declared.Range.{Range}
use Rattle.any_order.specs.declared.Span.{Span}
use Rattle.any_order.specs.Places.{size_e, At, Expression}
use Rattle.any_order.specs.Sharing.{Sums}
use Rattle.any_order.specs.Searching.{Past, Lies, Small, Met, Added, Repeated, Few, counts, Grows, Spanned, Possible}
use Rattle.any_order.proofs.Ranges.{lies, not-both}
use Rattle.any_order.proofs.Standing.{at-fits, by-eps, by-cat, by-alt, by-star, by_over}

-- ---- whether a symbol may get more

module _ {l : List ℕ} {p kind f n : ℕ} (e : n ≡ get_or l p 0) where
  pub grows-later : kind + 1 < n → Grows l p kind f true
  grows-later z = record { yes = λ _. inl (omega arith); no = λ _. refl }

  pub grows-past : n < kind + 1 → Grows l p kind f false
  grows-past z = record { yes = λ y. absurd (not-both y refl); no = λ y. absurd (elim y [ inl u ↦ omega arith | inr u ↦ omega (arith, u.0) ]) }

  pub grows-here : n ≤ kind + 1 → kind + 1 ≤ n → f ≤ p → Grows l p kind f true
  grows-here y z q = record { yes = λ _. inr (omega arith, q); no = λ _. refl }

  pub grows-before : n ≤ kind + 1 → p < f → Grows l p kind f false
  grows-before z q = record { yes = λ y. absurd (not-both y refl); no = λ y. absurd (elim y [ inl u ↦ omega arith | inr u ↦ omega (arith, u.1) ]) }

-- ---- by the word

module _ {e : List ℕ} {at : ℕ} {c l : List ℕ} {kind f : ℕ} where
  pub sp-eps : get_or e at 0 ≡ 7000 → Spanned e at c l kind f (record { end = at + 1; range = record { least = 0; most = 0; endless = true } })
  sp-eps w = record {
    end = by-eps (λ R. at + 1 ≡ at + size_e R) w refl;
    small = by-eps (λ R. Small (65536 * size_e R) (record { least = 0; most = 0; endless = true })) w (omega arith, omega arith);
    sound = λ R x d g n s. lies (omega arith) (inl refl);
    exact = λ R x q n y. by-eps (λ R. Sums R at (counts c) n) w tt R x;
  }

  pub sp-over : {end n : ℕ} {b : Bool} → get_or e at 0 < 7000 → Past e (at + 1) end → n ≡ get_or c at 0 → Few c → Grows l at kind f b
      → Spanned e at c l kind f (record { end = end; range = record { least = n; most = n; endless = b } })
  sp-over {end} {n} {b} w p z few g = record {
    end = by_over (λ R. end ≡ at + size_e R) w (λ s v a x. omega (arith, p.each a x));
    small = by_over (λ R. Small (65536 * size_e R) (record { least = n; most = n; endless = b })) w (λ s v a x. (omega (arith, few.all at), omega (arith, few.all at)));
    sound = λ R x d y m. by_over (λ R. Sums R at d m → Lies m (record { least = n; most = n; endless = b })) w
        (λ s v a u t. lies (omega (arith, y.least at)) (elim (y.rest at) [ inl o ↦ inl (g.no o) | inr o ↦ inr (omega arith) ])) R x;
    exact = λ R x q m. by_over (λ R. Lies m (record { least = n; most = n; endless = b }) → Sums R at (counts c) m) w
        (λ s v a u t. elim t.high [ inl o ↦ absurd (q at (g.yes o)) | inr o ↦ omega (arith, t.low) ]) R x;
  }

  pub sp-star : {a : Span} {r : Range} → get_or e at 0 ≡ 7003 → Spanned e (at + 1) c l kind f a → Repeated a.range r → Spanned e at c l kind f (record { end = a.end; range = r })
  sp-star {a} {r} w s m = record {
    end = by-star (λ R. a.end ≡ at + size_e R) w (λ A x. omega (arith, s.end A x));
    small = by-star (λ R. Small (65536 * size_e R) r) w (λ A x. let (u, v) = m.small (65536 * size_e A) (s.small A x) in (omega arith, omega arith));
    sound = λ R x d g n. by-star (λ R. Sums R at d n → Lies n r) w (λ A y (i, z, t). (m.lies n).1 (i, z, s.sound A y d g i t)) R x;
    exact = λ R x q n. by-star (λ R. Lies n r → Sums R at (counts c) n) w (λ A y z. let (i, u, t) = (m.lies n).0 z in (i, u, s.exact A y q i t)) R x;
  }

  pub sp-cat : {a b : Span} {r : Range} → get_or e at 0 ≡ 7001 → Spanned e (at + 1) c l kind f a → Spanned e a.end c l kind f b → Met a.range b.range r
      → Spanned e at c l kind f (record { end = b.end; range = r })
  sp-cat {a} {b} {r} w s t m = record {
    end = by-cat (λ R. b.end ≡ at + size_e R) w (λ A B x y. let z = s.end A x in omega (arith, t.end B (rw z y)));
    small = by-cat (λ R. Small (65536 * size_e R) r) w (λ A B x y.
        let z = s.end A x in
        let u = s.small A x in
        let v = t.small B (rw z y) in
        m.small (65536 * (1 + size_e A + size_e B)) (omega arith, omega arith) (omega arith, omega arith));
    sound = λ R x d g n. by-cat (λ R. Sums R at d n → Lies n r) w (λ A B y u (p, q).
        let z = s.end A y in
        (m.lies n).1 (s.sound A y d g n p, t.sound B (rw z u) d g n (rw z q))) R x;
    exact = λ R x k n. by-cat (λ R. Lies n r → Sums R at (counts c) n) w (λ A B y u v.
        let z = s.end A y in
        let (p, q) = (m.lies n).0 v in
        (s.exact A y k n p, rw z at (t.exact B (rw z u) k n q))) R x;
  }

  pub sp-alt : {a b : Span} {r : Range} → get_or e at 0 ≡ 7002 → Spanned e (at + 1) c l kind f a → Spanned e a.end c l kind f b → Added a.range b.range r
      → Spanned e at c l kind f (record { end = b.end; range = r })
  sp-alt {a} {b} {r} w s t m = record {
    end = by-alt (λ R. b.end ≡ at + size_e R) w (λ A B x y. let z = s.end A x in omega (arith, t.end B (rw z y)));
    small = by-alt (λ R. Small (65536 * size_e R) r) w (λ A B x y.
        let z = s.end A x in
        let (u, v) = m.small (65536 * size_e A) (65536 * size_e B) (s.small A x) (t.small B (rw z y)) in
        (omega arith, omega arith));
    sound = λ R x d g n. by-alt (λ R. Sums R at d n → Lies n r) w (λ A B y u (i, j, o, p, q).
        let z = s.end A y in
        (m.lies n).1 (i, j, o, s.sound A y d g i p, t.sound B (rw z u) d g j (rw z q))) R x;
    exact = λ R x k n. by-alt (λ R. Lies n r → Sums R at (counts c) n) w (λ A B y u v.
        let z = s.end A y in
        let (i, j, o, p, q) = (m.lies n).0 v in
        (i, j, o, s.exact A y k i p, rw z at (t.exact B (rw z u) k j q))) R x;
  }

  pub span-end : {a : Span} → Spanned e at c l kind f a → (R : Expr) → At e at R → a.end ≡ at + size_e R
  span-end s = s.end

  -- no sum of two passes the limit
  pub span_small : {a : Span} → Expression e at → length e ≤ desk.question → Spanned e at c l kind f a → Small 1000000000000 a.range
  span_small p le s =
      let z = at-fits p.here in
      let (u, v) = s.small p.R p.here in
      (omega arith, omega arith)

  -- ---- one member

  pub too_many : {a : Span} → Spanned e at c l kind f a → 1 < a.range.least → Possible e at c l kind f false
  too_many s z = record { sound = λ R x d g q. absurd (omega (arith, (s.sound R x d g 1 q).low)); exact = λ R x q y. absurd (not-both y refl) }

  pub yes-endless : {a : Span} → Spanned e at c l kind f a → a.range.least ≤ 1 → a.range.endless ≡ true → Possible e at c l kind f true
  yes-endless s z o = record { sound = λ R x d g q. refl; exact = λ R x q y. s.exact R x q 1 (lies z (inl o)) }

  pub too_few : {a : Span} → Spanned e at c l kind f a → a.range.endless ≡ false → a.range.most < 1 → Possible e at c l kind f false
  too_few s o z = record {
    sound = λ R x d g q. absurd (elim (s.sound R x d g 1 q).high [ inl u ↦ not-both u o | inr u ↦ omega arith ]);
    exact = λ R x q y. absurd (not-both y refl);
  }

  pub yes-one : {a : Span} → Spanned e at c l kind f a → a.range.least ≤ 1 → 1 ≤ a.range.most → Possible e at c l kind f true
  yes-one s z o = record { sound = λ R x d g q. refl; exact = λ R x q y. s.exact R x q 1 (lies z (inr o)) }
