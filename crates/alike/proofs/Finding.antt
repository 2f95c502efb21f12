-- Along the trees of the right: those that are taken are passed, and the first that fits is found.
use Prim.Native.Nat.{ℕ, ◌+◌, ◌-◌, ◌≤◌}
use mathlib.Core.Path.{◌≡◌, refl, sym, ap, ◌∙◌}
use mathlib.Core.Bool.{Bool, true, false, ◌&&◌, ◌||◌, not}
use mathlib.Core.List.{List}
use native.Mathlib.Omega.{arith}
use borrow.Author.Tests.{eq-eqb, ne_eqb}
use lib.ListN.{length, get_or}
use Rattle.language.specs.declared.Sym.{Sym}
use Rattle.language.specs.declared.Signature.{Signature}
use Rattle.language.specs.Kinds.{pick}
use Rattle.language.specs.Trees.{is_unordered}
use Rattle.meaning.specs.Complete.{Complete, tree}
use Rattle.passing.specs.Places.{size_c, Holds, at-tree, Hedge, Term, Skipped, Beside}
use Rattle.passing.proofs.Standing.{holds-lt, by-nil, by-tree, rest, child, behind, word}
use Rattle.passing.proofs.Beside.{beside-refl, beside-wide, beside_trans}
use Rattle.alike.specs.Taking.{fit, left, found, Tops}
use Rattle.alike.specs.Tasks.{Onward, Passed, Fitted, Found, Compared}
use Rattle.alike.proofs.Taking.{tops-high, tops-trans, tops-below, Within, here, within_low, within-ends, within_on}

is_true : (b : Bool) → not b ≡ false → b ≡ true
is_true true e = refl
is_true false e = sym e

pub is_false : (b : Bool) → not b ≡ true → b ≡ false
is_false true e = sym e
is_false false e = refl

-- ---- passing what is taken

pub record Passing (w : List ℕ) (k : List Bool) (y p : ℕ) : Type 0 where
  pub at : Hedge w p
  pub low : y ≤ p
  pub each : (h : Complete) → Holds w y h → Onward w k y p h

module _ {w : List ℕ} {k : List Bool} {y : ℕ} where
  pub passes-start : Hedge w y → Passing w k y y
  passes-start p = record { at = p; low = omega arith; each = λ h x. record { rest = h; here = x; all = refl; ends = refl } }

  module _ {p : ℕ} (s : Passing w k y p) where
    pub passes_on : {n : ℕ} → (get_or w p 0 ≡ 0 → ⊥) → not (get_or k p false) ≡ false → Skipped w (p + 1) n → Passing w k y n
    passes_on {n} z m t = record {
      at = rest s.at z t;
      low = by-tree (λ _. y ≤ n) z (λ f c r v a b. omega (arith, t.each c a, s.low)) s.at.g s.at.here;
      each = λ h x.
          let o = s.each h x in
          by-tree (λ q. left k y h ≡ left k p q → p + size_c q ≡ y + size_c h → Onward w k y n h) z
          (λ f c r v a b l e.
          let q = t.each c a in
          record { rest = r; here = rw q b; all = l ∙ rw (is_true (get_or k p false) m, q); ends = omega arith })
          o.rest o.here o.all o.ends;
    }

    pub passes-free : not (get_or k p false) ≡ true → Passed w k y p
    passes-free m = record { later = s.low; free = λ _. is_false (get_or k p false) m; each = s.each }

    pub passes-end : get_or w p 0 ≡ 0 → Passed w k y p
    passes-end e = record { later = s.low; free = λ z. absurd (z e); each = s.each }

-- ---- one tree

module _ {σ : Signature} {w : List ℕ} {x p : ℕ} {k : List Bool} where
  pub fits-taken : get_or k p false ≡ true → Fitted σ w x p k k false
  fits-taken m = record { len = refl; beside = λ g d t a. beside-refl; each = λ f c s g d t a b. rw m }

  pub fits-other : get_or k p false ≡ false → (get_or w x 0 ≡ get_or w p 0 → ⊥) → Fitted σ w x p k k false
  fits-other m n = record { len = refl; beside = λ g d t a. beside-refl; each = λ f c s g d t a b. rw (m, ne_eqb f.0 g.0 (λ e. n (omega (arith, word a, word b)))) }

  pub fits_below : {k' : List Bool} {v r : Bool} → get_or k p false ≡ false → get_or w x 0 ≡ get_or w p 0 → v ≡ is_unordered σ (record { 0 = get_or w x 0 - 3000 })
      → Compared σ w (x + 1) (p + 1) k v k' r → Fitted σ w x p k k' r
  fits_below {k'} {v} {r} m e u t = record {
    len = t.len;
    beside = λ g d t' a. t.beside d (child a);
    each = λ f c s g d t' a b.
        let n : get_or w x 0 - 3000 ≡ f.0 = omega (arith, word a) in
        let i : v ≡ is_unordered σ f = u ∙ ap (λ n. is_unordered σ (record { 0 = n })) n in
        rw (m, eq-eqb f.0 g.0 (omega (arith, word a, word b))) (rw i at (t.each c d (child a) (child b)));
  }

-- ---- the first that fits

module _ {A : Type 0} (x y z : A) where
  on : (m v b : Bool) → false ≡ (not m && v) → (b || m) ≡ true → pick m x (pick v y (pick b x z)) ≡ x
  on true v b e d = refl
  on false true b e d = absurd (let z : ◌≡◌ {A = ℕ} 0 1 = cc in omega arith)
  on false false true e d = refl
  on false false false e d = absurd (let z : ◌≡◌ {A = ℕ} 0 1 = cc in omega arith)

  halts : (m v b : Bool) → false ≡ (not m && v) → (b || m) ≡ false → pick m x (pick v y (pick b x z)) ≡ z
  halts true v true e d = absurd (let z : ◌≡◌ {A = ℕ} 0 1 = cc in omega arith)
  halts true v false e d = absurd (let z : ◌≡◌ {A = ℕ} 0 1 = cc in omega arith)
  halts false true b e d = absurd (let z : ◌≡◌ {A = ℕ} 0 1 = cc in omega arith)
  halts false false true e d = absurd (let z : ◌≡◌ {A = ℕ} 0 1 = cc in omega arith)
  halts false false false e d = refl

  hits : (m v b : Bool) → true ≡ (not m && v) → pick m x (pick v y (pick b x z)) ≡ y
  hits true v b e = absurd (let z : ◌≡◌ {A = ℕ} 0 1 = cc in omega arith)
  hits false true b e = refl
  hits false false b e = absurd (let z : ◌≡◌ {A = ℕ} 0 1 = cc in omega arith)

-- what is found from y on is found from p on, where `rest` stands
pub record Sought (σ : Signature) (w : List ℕ) (y : ℕ) (k₀ k : List Bool) (b : Bool) (p : ℕ) (f : Sym) (c h : Complete) : Type 0 where
  pub rest : Complete
  pub here : Holds w p rest
  pub within : Within y h p rest
  pub tops : Tops k₀ k y h
  pub goes : found (length w) k₀ b (fit σ f c) y h ≡ found (length w) k₀ b (fit σ f c) p rest

pub record Seeking (σ : Signature) (w : List ℕ) (x y : ℕ) (k₀ : List Bool) (b : Bool) (k : List Bool) (p : ℕ) : Type 0 where
  pub one : Term w x
  pub at : Hedge w p
  pub long : length w ≤ length k
  pub low : y ≤ p
  pub beside : Beside k₀ k y p
  pub each : (f : Sym) (c s h : Complete) → Holds w x (tree f c s) → Holds w y h → Sought σ w y k₀ k b p f c h

module _ {σ : Signature} {w : List ℕ} {x y : ℕ} {k₀ : List Bool} {b : Bool} where
  pub seeks-start : Term w x → Hedge w y → length w ≤ length k₀ → Seeking σ w x y k₀ b k₀ y
  seeks-start t p l = record {
    one = t;
    at = p;
    long = l;
    low = omega arith;
    beside = beside-refl;
    each = λ f c s h a d. record { rest = h; here = d; within = here; tops = tops-high k₀ k₀ y h (λ z l. refl); goes = refl };
  }

  module _ {k : List Bool} {p : ℕ} (s : Seeking σ w x y k₀ b k p) where
    some : (h : Complete) → Holds w y h → Sought σ w y k₀ k b p s.one.f s.one.c h
    some h d = s.each s.one.f s.one.c s.one.r h s.one.here d

    -- the tree at p was looked at
    module _ (z : get_or w p 0 ≡ 0 → ⊥) {k' : List Bool} {v : Bool} (t : Fitted σ w x p k k' v) where
      -- what stands at p begins with a tree
      first : (P : Complete → Type 0) → ((g : Sym) (d r : Complete) → Holds w p (tree g d r) → P (tree g d r)) → (q : Complete) → Holds w p q → P q
      first P n q h = by-tree P z (λ g d r e a c. n g d r (at-tree (holds-lt h) e a c)) q h

      kept : get_or k p false ≡ get_or k₀ p false
      kept = s.beside.high p (omega arith)

      kept_on : get_or k' p false ≡ get_or k₀ p false
      kept_on = first (λ _. get_or k' p false ≡ get_or k₀ p false) (λ g d r a. (t.beside g d r a).low p (omega arith) ∙ kept) s.at.g s.at.here

      tops-on : (f : Sym) (c h : Complete) → Sought σ w y k₀ k b p f c h → Tops k₀ k' y h
      tops-on f c h o = first (λ q. Within y h p q → Tops k₀ k' y h) (λ g d r a i. tops-trans k₀ k k' y h o.tops (tops-below i (t.beside g d r a))) o.rest o.here o.within

      beside-on : (h : Complete) → Holds w y h → Beside k₀ k' y (y + size_c h)
      beside-on h d = let o = some h d in first (λ q. Within y h p q → Beside k₀ k' y (y + size_c h))
          (λ g d r a i. let l = within_low i in let n = within-ends i in
          beside_trans (beside-wide s.beside (omega arith) (omega arith)) (beside-wide (t.beside g d r a) (omega arith) (omega arith)))
          o.rest o.here o.within

      -- its answer is the next to be looked for, or that there is none, or p
      found_at : {r : ℕ} → ((f : Sym) (c u : Complete) (g : Sym) (d q : Complete) → Holds w x (tree f c u) → Holds w p (tree g d q) → found (length w) k₀ b (fit σ f c) p (tree g d q) ≡ r)
          → Found σ w x y k₀ b k' r
      found_at {r} e = record {
        len = t.len ∙ s.beside.len;
        tops = λ h d. tops-on s.one.f s.one.c h (some h d);
        beside = beside-on;
        each = λ f c u h a d. let o = s.each f c u h a d in
            sym (o.goes ∙ first (λ q. found (length w) k₀ b (fit σ f c) p q ≡ r) (λ g d q a'. e f c u g d q a a') o.rest o.here);
      }

      pub seeks-found : v ≡ true → Found σ w x y k₀ b k' p
      seeks-found e = found_at λ f c u g d q a a'. hits _ _ _ (get_or k₀ p false) (fit σ f c g d) b (sym e ∙ rw kept at (t.each f c u g d q a a'))

      module _ {o : Bool} (no : v ≡ false) (is : o ≡ (b || get_or k' p false)) where
        pub seeks-halt : not o ≡ true → Found σ w x y k₀ b k' (length w)
        seeks-halt e = found_at λ f c u g d q a a'. halts _ _ _ (get_or k₀ p false) (fit σ f c g d) b (sym no ∙ rw kept at (t.each f c u g d q a a')) (rw kept_on at (sym is ∙ is_false o e))

        pub seeks-on : {n : ℕ} → not o ≡ false → Skipped w (p + 1) n → Seeking σ w x y k₀ b k' n
        seeks-on {n} e m = record {
          one = s.one;
          at = rest s.at z m;
          long = omega (arith, t.len, s.long);
          low = first (λ _. y ≤ n) (λ g d r a. omega (arith, m.each d (child a), s.low)) s.at.g s.at.here;
          beside = first (λ _. Beside k₀ k' y n)
              (λ g d r a. let q = m.each d (child a) in let l = s.low in
              beside_trans (beside-wide s.beside (omega arith) (omega arith)) (beside-wide (t.beside g d r a) (omega arith) (omega arith)))
              s.at.g s.at.here;
          each = λ f c u h a d. let i = s.each f c u h a d in
              first (λ q. Holds w p q → Within y h p q → found (length w) k₀ b (fit σ f c) y h ≡ found (length w) k₀ b (fit σ f c) p q → Sought σ w y k₀ k' b n f c h)
              (λ g d q a' l j e'.
              let w' = m.each d (child a') in
              record {
                rest = q;
                here = rw w' (behind l);
                within = rw w' (within_on j);
                tops = tops-on f c h i;
                goes = rw w' (e' ∙ on _ _ _ (get_or k₀ p false) (fit σ f c g d) b (sym no ∙ rw kept at (t.each f c u g d q a a')) (rw kept_on at (sym is ∙ is_true o e)));
              })
              i.rest i.here i.here i.within i.goes;
        }

    pub seeks-end : get_or w p 0 ≡ 0 → Found σ w x y k₀ b k (length w)
    seeks-end e = record {
      len = s.beside.len;
      tops = λ h d. (some h d).tops;
      beside = λ h d. let o = some h d in let n = within-ends o.within in beside-wide s.beside (omega arith) (omega arith);
      each = λ f c u h a d. let o = s.each f c u h a d in
          sym (o.goes ∙ by-nil (λ q. found (length w) k₀ b (fit σ f c) p q ≡ length w) e refl o.rest o.here);
    }
