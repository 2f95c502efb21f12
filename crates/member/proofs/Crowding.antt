-- Where there is no room for the places of a term: each symbol alone, as a kind of its own.
use Prim.Native.Nat.{ℕ, ◌+◌, ◌-◌, ◌*◌, ◌<◌, ◌≤◌}
use mathlib.Core.Path.{◌≡◌, refl, sym, ◌∙◌}
use mathlib.Core.Logic.{inl, inr, ◌↔◌}
use mathlib.Core.Bool.{Bool, true, false}
use mathlib.Core.List.{List, [], ◌∷◌, ◌++◌}
use native.Mathlib.Omega.{arith}
use lib.ListN.{length, get_or, set, length-set}
use lib.Seq.{get_or-set_same, get_or-set_other}
use Rattle.language.specs.declared.Sym.{Sym}
use Rattle.language.specs.declared.Signature.{Signature}
use Rattle.language.specs.Trees.{Expr, cat}
use Rattle.meaning.specs.Complete.{Complete, tree}
use Rattle.rules.specs.Each.{Each}
use Rattle.rules.proofs.Each.{each-++}
use Rattle.rules.proofs.Tests.{test-true}
use Rattle.any_order.specs.Places.{size_e, At, at-eps, at-cat, at-alt, at-star, at-over, Expression}
use Rattle.any_order.specs.Sharing.{bump, Kind, In, Rest, Good, none, Recorded, Records}
use Rattle.any_order.proofs.Ranges.{not-both}
use Rattle.member.specs.declared.Seen.{Seen}
use Rattle.member.specs.declared.Tried.{Tried}
use Rattle.member.specs.Marks.{tests, of_term}
use Rattle.member.specs.Leaves.{Fits, Terms}
use Rattle.passing.specs.Places.{size_c, Holds, Skipped, Beside}
use Rattle.member.specs.Places.{Looked}
use Rattle.member.specs.Gathering.{Spared, Inner, Gathered, Answered, Shuffles, ShufflesBy}
use Rattle.member.proofs.Decides.{tests-decide, of-term→, of-term←}
use Rattle.member.proofs.Kindred.{rest_out, snoc-rest, records-same, records-snoc}
use Rattle.passing.proofs.Standing.{child, behind}
use Rattle.any_order.proofs.Standing.{at_lt, by-eps, by-star}
use Rattle.member.proofs.Standing.{at_size, by-symbol, symbol-at, under}
use Rattle.passing.proofs.Beside.{beside-refl, beside-wide, beside_trans}
use Rattle.member.proofs.Asking.{spared-refl, spared-trans, spared-less, spared-set}
use Rattle.member.proofs.Shuffling.{gathered_next, gathered-six, iff-trans, some_words, total-snoc}

pub inner-self : {e : List ℕ} {at : ℕ} → Expression e at → Inner e at at
inner-self p = record { R = p.R; here = p.here; S = p.R; there = p.here; low = omega arith; high = omega arith }

module _ {e : List ℕ} {at q : ℕ} where
  pub inner-expression : Inner e at q → Expression e q
  inner-expression i = record { R = i.S; here = i.there }

  pub inner-whole : Inner e at q → Expression e at
  inner-whole i = record { R = i.R; here = i.here }

  pub inner_first : Inner e at q → (get_or e q 0 ≡ 7000 → ⊥) → Inner e at (q + 1)
  inner_first i n = go i.there i.high
    where
      go : {S : Expr} → At e q S → q + size_e S ≤ at + size_e i.R → Inner e at (q + 1)
      go (at-eps l w) u = absurd (n w)
      go (at-cat {a = a} l w x y) u = record { R = i.R; here = i.here; S = a; there = x; low = omega (arith, i.low); high = omega arith }
      go (at-alt {a = a} l w x y) u = record { R = i.R; here = i.here; S = a; there = x; low = omega (arith, i.low); high = omega arith }
      go (at-star {a = a} l w x) u = record { R = i.R; here = i.here; S = a; there = x; low = omega (arith, i.low); high = omega arith }
      go (at-over {a = a} l w v x) u = record { R = i.R; here = i.here; S = a; there = x; low = omega (arith, i.low); high = omega arith }

  pub inner-second : {n : ℕ} → Inner e at q → (get_or e q 0 ≡ 7000 → ⊥) → 7000 ≤ get_or e q 0 → (get_or e q 0 ≡ 7003 → ⊥) → ((R : Expr) → At e (q + 1) R → n ≡ q + 1 + size_e R) → Inner e at n
  inner-second {n} i n0 lo n3 z = go i.there i.high
    where
      go : {S : Expr} → At e q S → q + size_e S ≤ at + size_e i.R → Inner e at n
      go (at-eps l w) u = absurd (n0 w)
      go (at-cat {a = a} {b = b} l w x y) u = let d = z a x in record { R = i.R; here = i.here; S = b; there = rw d y; low = omega (arith, i.low); high = omega arith }
      go (at-alt {a = a} {b = b} l w x y) u = let d = z a x in record { R = i.R; here = i.here; S = b; there = rw d y; low = omega (arith, i.low); high = omega arith }
      go (at-star l w x) u = absurd (n3 w)
      go (at-over l w v x) u = absurd (omega arith)

-- the words of a kind with one term and one place
single : {w : List ℕ} (w₁ : List ℕ) (top q : ℕ) {w₂ : List ℕ} → Spared w w₁ top → top + 6 ≤ length w → w₂ ≡ set (set (set w₁ top 1) (top + 1) 1) (top + 2) q → Recorded w₂ top (record { times = 1; places = q ∷ [] })
single w₁ top q s le d = rw d (record {
  times = get_or-set_other (set (set w₁ top 1) (top + 1) 1) (top + 2) top q 0 (omega arith) ∙ get_or-set_other (set w₁ top 1) (top + 1) top 1 0 (omega arith) ∙ get_or-set_same w₁ top 1 0 (omega (arith, s.len));
  some = omega arith;
  count = get_or-set_other (set (set w₁ top 1) (top + 1) 1) (top + 2) (top + 1) q 0 (omega arith) ∙ get_or-set_same (set w₁ top 1) (top + 1) 1 0 (omega (arith, length-set w₁ top 1, s.len));
  places = λ i z. at_first i (omega arith);
  ascending = λ i j lo hi. let z : i ≡ j = omega arith in rw z (omega arith);
})
  where
    at_first : (i : ℕ) → i ≡ 0 → get_or (set (set (set w₁ top 1) (top + 1) 1) (top + 2) q) (top + 2 + i) 0 ≡ get_or (q ∷ []) i 0
    at_first i z =
        let o : top + 2 + 0 ≡ top + 2 = omega arith in
        rw (z, o) (get_or-set_same (set (set w₁ top 1) (top + 1) 1) (top + 2) q 0 (omega (arith, length-set (set w₁ top 1) (top + 1) 1, length-set w₁ top 1, s.len)))

pub gathered-one : {e : List ℕ} {at q : ℕ} {h : List ℕ} {j : ℕ} {w : List ℕ} {base top next : ℕ} {w₁ w₂ : List ℕ} → Inner e at q → Gathered e h j w base top → (get_or h j 0 ≡ 0 → ⊥) → Skipped h (j + 1) next → Spared w w₁ top
    → w₂ ≡ set (set (set w₁ top 1) (top + 1) 1) (top + 2) q → Gathered e h next w₂ base (top + 3)
gathered-one {e} {at} {q} {h} {j} {w} {base} {top} {next} {w₁} {w₂} i g n sk s d =
    gathered_next g n sk sp.len (g.ks ++ (record { times = 1; places = q ∷ [] } ∷ []))
    (records-snoc w₂ base g.ks top (record { times = 1; places = q ∷ [] }) (top + 3) (records-same w w₂ base g.ks top (λ p lo hi. sp.low p hi) g.records) (single w₁ top q s (gathered-six g n).0 d) (omega arith))
    (each-++ (λ (k : Kind). Each (λ p. p < length e) k.places) g.ks (record { times = 1; places = q ∷ [] } ∷ []) g.within ((at_lt i.there, tt), tt))
    (total-snoc g.ks (record { times = 1; places = q ∷ [] }))
    (λ u c r z. let rr : top + 2 * size_c (tree u c r) ≤ length w = rw z at g.room in omega (arith, some_words c))
  where
    sp : Spared w w₂ top
    sp = rw d (spared-set (set (set w₁ top 1) (top + 1) 1) (top + 2) q (spared-set (set w₁ top 1) (top + 1) 1 (spared-set w₁ top 1 s (omega arith) refl) (omega arith) refl) (omega arith) refl)

crowd-beside : {σ : Signature} {e : List ℕ} {at q : ℕ} {h : List ℕ} {j : ℕ} {k k₁ : List Bool} {w w₁ : List ℕ} {top : ℕ} {y : Bool} → get_or e q 0 < 7000 → Inner e at q
    → Answered σ e q h j k k₁ w w₁ top y → (R : Expr) → At e at R → Beside k k₁ at (at + size_e R)
crowd-beside v i a R x =
    let o = symbol-at (inner-expression i) v in
    let b = a.beside o.g o.S o.here in
    let z = at_size x i.here in
    let u = at_size o.here i.there in
    beside-wide b (omega (arith, i.low)) (omega (arith, i.high))

crowd-size : {e : List ℕ} {q : ℕ} {s : Seen} → get_or e q 0 < 7000 → Looked e (q + 1) s → (S : Expr) → At e q S → s.end ≡ q + size_e S
crowd-size {q = q} {s = s} v l = by-symbol (λ S. s.end ≡ q + size_e S) v (λ g S x. omega (arith, (l.each S (under x)).0))

module _ {σ : Signature} {e : List ℕ} {at q : ℕ} {h : List ℕ} {j : ℕ} {k : List Bool} {w : List ℕ} {base top : ℕ} where
  pub crowd-eps : get_or e q 0 ≡ 7000 → ShufflesBy σ e at q h j k k w w base top (record { end = q + 1; yes = false })
  crowd-eps v = record {
    spared = spared-refl;
    len = refl;
    beside = λ R x. beside-refl;
    sized = λ _. by-eps (λ S. q + 1 ≡ q + size_e S) v refl;
    each = λ R S f c g ks x y hh rec. by-eps (λ S. (false ≡ true) ↔ ((p : ℕ) × Fits σ S q f c p × Rest (λ d. Terms (Fits σ R at) (Good R at) g (bump d p)) ks none)) v
        (λ t. absurd (not-both t refl), λ (p, (g', S', z, m), s). absurd z) S y;
  }

  module _ {k₁ : List Bool} {w₁ : List ℕ} {s : Seen} {y : Bool} (v : get_or e q 0 < 7000) (i : Inner e at q) (l : Looked e (q + 1) s) (a : Answered σ e q h j k k₁ w w₁ top y) where
    pub crowd-no : y ≡ false → ShufflesBy σ e at q h j k k₁ w w₁ base top (record { end = s.end; yes = false })
    crowd-no n = record {
      spared = a.spared;
      len = a.len;
      beside = crowd-beside v i a;
      sized = λ _. crowd-size v l;
      each = λ R S f c g ks x y hh rec. by-symbol (λ S. (false ≡ true) ↔ ((p : ℕ) × Fits σ S q f c p × Rest (λ d. Terms (Fits σ R at) (Good R at) g (bump d p)) ks none)) v
          (λ g' S' u. (
            λ t. absurd (not-both t refl),
            λ (p, (g'', S'', (e₁, e₂, e₃), m), r). absurd (not-both ((test-true (of_term σ f (tests σ c) g' S')).0 (of-term← σ f c (tests σ c) (tests-decide σ c) g' S' (rw (e₂, e₃) m))) (sym (a.each g' S' f c g u hh) ∙ n)),
          )) S y;
    }

    pub crowd-yes : {next : ℕ} {k₂ : List Bool} {w₂ w₃ : List ℕ} {r : Bool} → y ≡ true → Skipped h (j + 1) next → top + 6 ≤ length w
        → w₂ ≡ set (set (set w₁ top 1) (top + 1) 1) (top + 2) q → Shuffles σ e at h next k₁ k₂ w₂ w₃ base (top + 3) r
        → ShufflesBy σ e at q h j k k₂ w w₃ base top (record { end = s.end; yes = r })
    crowd-yes {next} {k₂} {w₂} {w₃} {r} n sk le d m = record {
      spared = spared-trans sp (spared-less m.spared (omega arith));
      len = m.len ∙ a.len;
      beside = λ R x. beside_trans (crowd-beside v i a R x) (m.beside R x);
      sized = λ _. crowd-size v l;
      each = λ R S f c g ks x y hh rec. by-symbol (λ S. (r ≡ true) ↔ ((p : ℕ) × Fits σ S q f c p × Rest (λ d. Terms (Fits σ R at) (Good R at) g (bump d p)) ks none)) v
          (λ g' S' u.
          let yes = of-term→ σ f c (tests σ c) (tests-decide σ c) g' S' ((test-true (of_term σ f (tests σ c) g' S')).1 (sym (a.each g' S' f c g u hh) ∙ n)) in
          let rest = m.each R g (ks ++ (record { times = 1; places = q ∷ [] } ∷ [])) x (rw (sk.each c (child hh)) (behind hh)) (single-records ks rec) in
          let one = iff-trans rest (snoc-rest (Terms (Fits σ R at) (Good R at) g) (q ∷ []) ks none) in
          let out = iff-trans one (rest_out (λ p. In p (q ∷ [])) (λ p d. Terms (Fits σ R at) (Good R at) g (bump d p)) ks none) in (
            λ t. let (p, i, w) = out.0 t in (p, (g', S', (only p i, refl, refl), yes), w),
            λ (p, (g'', S'', (e₁, e₂, e₃), m'), w). out.1 (p, inl e₁, w),
          )) S y;
    }
      where
        only : (p : ℕ) → In p (q ∷ []) → p ≡ q
        only p (inl z) = z
        only p (inr z) = absurd z

        sp : Spared w w₂ top
        sp = rw d (spared-set (set (set w₁ top 1) (top + 1) 1) (top + 2) q (spared-set (set w₁ top 1) (top + 1) 1 (spared-set w₁ top 1 a.spared (omega arith) refl) (omega arith) refl) (omega arith) refl)

        single-records : (ks : List Kind) → Records w base ks top → Records w₂ base (ks ++ (record { times = 1; places = q ∷ [] } ∷ [])) (top + 3)
        single-records ks rec = records-snoc w₂ base ks top (record { times = 1; places = q ∷ [] }) (top + 3) (records-same w w₂ base ks top (λ p lo hi. sp.low p hi) rec) (single w₁ top q a.spared le d) (omega arith)

  pub crowd-star : {k₁ : List Bool} {w₁ : List ℕ} {r : Tried} → get_or e q 0 ≡ 7003 → ShufflesBy σ e at (q + 1) h j k k₁ w w₁ base top r → ShufflesBy σ e at q h j k k₁ w w₁ base top r
  crowd-star {r = r} v a = record {
    spared = a.spared;
    len = a.len;
    beside = a.beside;
    sized = λ n. by-star (λ S. r.end ≡ q + size_e S) v (λ A x. omega (arith, a.sized n A x));
    each = λ R S f c g ks x y hh rec. by-star (λ S. (r.yes ≡ true) ↔ ((p : ℕ) × Fits σ S q f c p × Rest (λ d. Terms (Fits σ R at) (Good R at) g (bump d p)) ks none)) v
        (λ A u. a.each R A f c g ks x u hh rec) S y;
  }

  -- 7001 and 7002
  module _ {k₁ : List Bool} {w₁ : List ℕ} {a : Tried} (i : Inner e at q) (n0 : get_or e q 0 ≡ 7000 → ⊥) (lo : 7000 ≤ get_or e q 0) (n3 : get_or e q 0 ≡ 7003 → ⊥)
      (x : ShufflesBy σ e at (q + 1) h j k k₁ w w₁ base top a) where
    pub crowd-first : a.yes ≡ true → ShufflesBy σ e at q h j k k₁ w w₁ base top a
    crowd-first z = record {
      spared = x.spared;
      len = x.len;
      beside = x.beside;
      sized = λ n. absurd (not-both z n);
      each = λ R S f c g ks v y hh rec. go R f c g ks v hh rec y;
    }
      where
        go : (R : Expr) (f : Sym) (c g : Complete) (ks : List Kind) → At e at R → Holds h j (tree f c g) → Records w base ks top → {S : Expr} → At e q S
            → (a.yes ≡ true) ↔ ((p : ℕ) × Fits σ S q f c p × Rest (λ d. Terms (Fits σ R at) (Good R at) g (bump d p)) ks none)
        go R f c g ks r hh rec (at-eps l w) = absurd (n0 w)
        go R f c g ks r hh rec (at-cat {a = A} {b = B} l w u v) = (λ _. let (p, (g', S', o, m), t) = (x.each R A f c g ks r u hh rec).0 z in (p, (g', S', inl o, m), t), λ _. z)
        go R f c g ks r hh rec (at-alt {a = A} {b = B} l w u v) = (λ _. let (p, (g', S', o, m), t) = (x.each R A f c g ks r u hh rec).0 z in (p, (g', S', inl o, m), t), λ _. z)
        go R f c g ks r hh rec (at-star l w u) = absurd (n3 w)
        go R f c g ks r hh rec (at-over l w u v) = absurd (omega arith)

    pub crowd-second : {k₂ : List Bool} {w₂ : List ℕ} {b : Tried} → a.yes ≡ false → ShufflesBy σ e at a.end h j k₁ k₂ w₁ w₂ base top b → ShufflesBy σ e at q h j k k₂ w w₂ base top b
    crowd-second {k₂} {w₂} {b} z y = record {
      spared = spared-trans x.spared y.spared;
      len = y.len ∙ x.len;
      beside = λ R v. beside_trans (x.beside R v) (y.beside R v);
      sized = λ n S u. size n u;
      each = λ R S f c g ks v u hh rec. go R f c g ks v hh rec u;
    }
      where
        size : b.yes ≡ false → {S : Expr} → At e q S → b.end ≡ q + size_e S
        size n (at-eps l w) = absurd (n0 w)
        size n (at-cat {a = A} {b = B} l' w u v) = let d = x.sized z A u in omega (arith, y.sized n B (rw d v))
        size n (at-alt {a = A} {b = B} l' w u v) = let d = x.sized z A u in omega (arith, y.sized n B (rw d v))
        size n (at-star l w u) = absurd (n3 w)
        size n (at-over l w u v) = absurd (omega arith)

        both : (A B : Expr) (R : Expr) (f : Sym) (c g : Complete) (ks : List Kind) → At e at R → Holds h j (tree f c g) → Records w base ks top → At e (q + 1) A → At e (q + 1 + size_e A) B
            → (b.yes ≡ true) ↔ ((p : ℕ) × Fits σ (cat A B) q f c p × Rest (λ d. Terms (Fits σ R at) (Good R at) g (bump d p)) ks none)
        both A B R f c g ks r hh rec u v =
            let d = x.sized z A u in
            let m = y.each R B f c g ks r (rw d v) hh (records-same w w₁ base ks top (λ p lo hi. x.spared.low p hi) rec) in (
              λ t. let (p, (g', S', o, k), s) = m.0 t in (p, (g', S', inr (rw d at o), k), s),
              λ (p, (g', S', o, k), s). elim o [
                | inl o' ↦ absurd (not-both ((x.each R A f c g ks r u hh rec).1 (p, (g', S', o', k), s)) z)
                | inr o' ↦ m.1 (p, (g', S', rw d o', k), s)
              ],
            )

        go : (R : Expr) (f : Sym) (c g : Complete) (ks : List Kind) → At e at R → Holds h j (tree f c g) → Records w base ks top → {S : Expr} → At e q S
            → (b.yes ≡ true) ↔ ((p : ℕ) × Fits σ S q f c p × Rest (λ d. Terms (Fits σ R at) (Good R at) g (bump d p)) ks none)
        go R f c g ks r hh rec (at-eps l w) = absurd (n0 w)
        go R f c g ks r hh rec (at-cat {a = A} {b = B} l w u v) = both A B R f c g ks r hh rec u v
        go R f c g ks r hh rec (at-alt {a = A} {b = B} l w u v) = both A B R f c g ks r hh rec u v
        go R f c g ks r hh rec (at-star l w u) = absurd (n3 w)
        go R f c g ks r hh rec (at-over l w u v) = absurd (omega arith)
