-- What one more term does to the bools that keep the marks, by the word that stands there.
use Prim.Native.Nat.{ℕ, ◌+◌, ◌-◌, ◌*◌, ◌<◌, ◌≤◌}
use mathlib.Core.Path.{◌≡◌, refl, ◌∙◌, ap}
use mathlib.Core.Bool.{Bool, true, false, ◌&&◌, ◌||◌}
use mathlib.Core.List.{List}
use native.Mathlib.Omega.{arith}
use native.Mathlib.Decide.{ℕ_discrete}
use lib.ListN.{length, get_or, set, length-set}
use lib.Seq.{get_or-set_same}
use Rattle.language.specs.declared.Sym.{Sym}
use Rattle.language.specs.declared.Signature.{Signature}
use Rattle.language.specs.Trees.{Expr}
use Rattle.meaning.specs.Complete.{Complete, tree}
use Rattle.rules.specs.Expressions.{nullable}
use Rattle.member.specs.declared.Seen.{Seen}
use Rattle.member.specs.declared.Step.{Step}
use Rattle.member.specs.Marks.{Marked, mcat, malt, mstar, bare, final, shift, tests, of_term}
use Rattle.any_order.specs.Places.{size_e, At, Expression}
use Rattle.passing.specs.Places.{Holds, at-tree, Beside}
use Rattle.member.specs.Places.{Kept, kept-eps, kept-cat, kept-alt, kept-star, kept-over, Looked, Shifted, Enters, Follows, Keeps, Together}
use Rattle.member.proofs.Decides.{bare-shift}
use Rattle.passing.proofs.Beside.{beside-refl, beside-wide, beside_trans, beside-set}
use Rattle.any_order.proofs.Standing.{at_lt, first, is-alt, by-eps, by-cat, by-alt, by-star, by_over}
use Rattle.member.proofs.Standing.{m-eps, m-cat, m-alt, m-star, m-over, m-symbol, symbol-at, under}
use Rattle.member.specs.Gathering.{Answered}

-- ---- what changes

kept-beside : {k k' : List Bool} {at : ℕ} {M : Marked} → ((i : ℕ) → at ≤ i → i < at + size_e (bare M) → get_or k' i false ≡ get_or k i false) → Kept k at M → Kept k' at M
kept-beside z kept-eps = kept-eps
kept-beside {at = at} z (kept-cat q x y) =
    kept-cat (z at (omega arith) (omega arith) ∙ q) (kept-beside (λ i l u. z i (omega arith) (omega arith)) x) (kept-beside (λ i l u. z i (omega arith) (omega arith)) y)
kept-beside z (kept-alt x y) = kept-alt (kept-beside (λ i l u. z i (omega arith) (omega arith)) x) (kept-beside (λ i l u. z i (omega arith) (omega arith)) y)
kept-beside {at = at} z (kept-star q x) = kept-star (z at (omega arith) (omega arith) ∙ q) (kept-beside (λ i l u. z i (omega arith) (omega arith)) x)
kept-beside z kept-over = kept-over

-- ---- the parts of what stands there

pub child : {h : List ℕ} {j : ℕ} {f : Sym} {c r : Complete} → Holds h j (tree f c r) → Holds h (j + 1) c
child (at-tree l w p q) = p

word : {h : List ℕ} {j : ℕ} {f : Sym} {c r : Complete} → Holds h j (tree f c r) → get_or h j 0 ≡ 3000 + f.0
word (at-tree l w p q) = w

un-star : {k : List Bool} {at : ℕ} {A : Marked} → Kept k at (mstar A) → (get_or k at false ≡ final A) × Kept k (at + 1) A
un-star (kept-star q x) = (q, x)

un-cat : {k : List Bool} {at : ℕ} {A B : Marked} → Kept k at (mcat A B) → (get_or k at false ≡ final A) × Kept k (at + 1) A × Kept k (at + 1 + size_e (bare A)) B
un-cat (kept-cat q x y) = (q, x, y)

un-alt : {k : List Bool} {at : ℕ} {A B : Marked} → Kept k at (malt A B) → Kept k (at + 1) A × Kept k (at + 1 + size_e (bare A)) B
un-alt (kept-alt x y) = (x, y)

-- ---- what the parts are read with

pub enters-star : {x : ℕ} {m old r : Bool} → x ≡ 7003 → r ≡ (m || old) → Enters x m old r
enters-star z d = record { star = λ _. d; other = λ n. absurd (n z) }

pub enters-other : {x : ℕ} {m old : Bool} → (x ≡ 7003 → ⊥) → Enters x m old m
enters-other n = record { star = λ z. absurd (n z); other = λ _. refl }

pub follows-cat : {x : ℕ} {m old null b r : Bool} → x ≡ 7001 → b ≡ (m && null) → r ≡ (old || b) → Follows x m old null r
follows-cat {old = old} z q d = record { cat = λ _. d ∙ ap (λ v. old || v) q; other = λ n. absurd (n z) }

pub follows-other : {x : ℕ} {m old null : Bool} → (x ≡ 7001 → ⊥) → Follows x m old null m
follows-other n = record { cat = λ z. absurd (n z); other = λ _. refl }

pub keeps-none : {k : List Bool} {at x : ℕ} {fin : Bool} → x ≡ 7002 → Keeps k at x fin k
keeps-none z = record { alt = λ _. refl; other = λ n. absurd (n z) }

pub keeps-one : {k : List Bool} {at x : ℕ} {fin : Bool} → (x ≡ 7002 → ⊥) → Keeps k at x fin (set k at fin)
keeps-one n = record { alt = λ z. absurd (n z); other = λ _. refl }

pub keeps-len : {k k' : List Bool} {at x : ℕ} {fin : Bool} → Keeps k at x fin k' → length k' ≡ length k
keeps-len {k} {k'} {at} {x} {fin} p = go (ℕ_discrete x 7002)
  where
    go : Dec (x ≡ 7002) → length k' ≡ length k
    go (yes z) = ap length (p.alt z)
    go (no n) = ap length (p.other n) ∙ length-set k at fin

pub together-cat : {x : ℕ} {a b : Step} {v₁ v₂ v₃ : Bool} → x ≡ 7001 → v₁ ≡ (a.null && b.null) → v₂ ≡ (a.fin && b.null) → v₃ ≡ (v₂ || b.fin)
    → Together x a b (record { end = b.end; null = v₁; fin = v₃ })
together-cat z q₁ q₂ q₃ = record { cat = λ _. rw (q₁, q₃, q₂) refl; other = λ n. absurd (n z) }

pub together-alt : {x : ℕ} {a b : Step} {v₁ v₂ : Bool} → (x ≡ 7001 → ⊥) → v₁ ≡ (a.null || b.null) → v₂ ≡ (a.fin || b.fin)
    → Together x a b (record { end = b.end; null = v₁; fin = v₂ })
together-alt n q₁ q₂ = record { cat = λ z. absurd (n z); other = λ _. rw (q₁, q₂) refl }

-- ---- by the word

shifted_by : {σ : Signature} {e : List ℕ} {at : ℕ} {h : List ℕ} {j : ℕ} {k k₁ k' : List Bool} {m m₁ : Bool} {a b : Step}
    → k ≡ k₁ → m ≡ m₁ → b ≡ a → Shifted σ e at h j k m k' a → Shifted σ e at h j k₁ m₁ k' b
shifted_by d z y s = rw y (rw (d, z) at s)

module _ {σ : Signature} {e : List ℕ} {at : ℕ} {h : List ℕ} {j : ℕ} {k : List Bool} {m : Bool} where
  pub sh-eps : get_or e at 0 ≡ 7000 → Shifted σ e at h j k m k (record { end = at + 1; null = true; fin = false })
  sh-eps w = record {
    beside = beside-refl;
    sized = by-eps _ w (refl, refl);
    each = λ M f c rst x kk hh. m-eps (λ M. (false ≡ final (shift m (of_term σ f (tests σ c)) M)) × Kept k at (shift m (of_term σ f (tests σ c)) M)) w (refl, kept-eps) M x;
  }

  -- a symbol: no term may stand here, it is another, or its children decide
  pub sh-no : {s : Seen} → get_or e at 0 < 7000 → Looked e (at + 1) s → m ≡ false → Shifted σ e at h j k m k (record { end = s.end; null = false; fin = false })
  sh-no w l z = record {
    beside = beside-refl;
    sized = by_over _ w (λ f v a x. (omega (arith, (l.each a x).0), refl));
    each = λ M f c rst x kk hh. m-over (λ M. (false ≡ final (shift m (of_term σ f (tests σ c)) M)) × Kept k at (shift m (of_term σ f (tests σ c)) M)) w
        (λ b g v R y. (rw z, kept-over)) M x;
  }

  pub sh-ask : {s : Seen} {k' : List Bool} {v v' : List ℕ} {top : ℕ} {y : Bool} → get_or e at 0 < 7000 → Looked e (at + 1) s → m ≡ true → Expression e at
      → Answered σ e at h j k k' v v' top y → Shifted σ e at h j k m k' (record { end = s.end; null = false; fin = y })
  sh-ask {s} {k'} {y = y} w l z p a = record {
    beside =
        let q = symbol-at p w in
        let b = a.beside q.g q.S q.here in
        let u = (l.each q.S (under q.here)).0 in
        beside-wide b (omega arith) (omega arith);
    sized = by_over _ w (λ f v a x. (omega (arith, (l.each a x).0), refl));
    each = λ M f c rst x kk hh. m-symbol (λ M. (y ≡ final (shift m (of_term σ f (tests σ c)) M)) × Kept k' at (shift m (of_term σ f (tests σ c)) M)) w
        (λ b g S t. (rw z (a.each g S f c rst t hh), kept-over)) M x;
  }

  pub sh-star : {i : Bool} {a : Step} {k₁ k' : List Bool} → get_or e at 0 ≡ 7003 → Expression e at → length e ≤ length k → i ≡ (m || get_or k at false)
      → Shifted σ e (at + 1) h j k i k₁ a → k' ≡ set k₁ at a.fin → Shifted σ e at h j k m k' (record { end = a.end; null = true; fin = a.fin })
  sh-star {i} {a} {k₁} {k'} w p le ie s e₁ = record {
    beside =
        let q = first p (omega arith) in
        let u = (s.sized q.R q.here).0 in
        beside_trans (beside-wide s.beside (omega arith) (omega arith)) (beside-wide (beside-set a.fin e₁) (omega arith) (omega arith));
    sized = by-star _ w (λ b x. (omega (arith, (s.sized b x).0), refl));
    each = λ M f c rst x kk hh. m-star (λ M. Kept k at M → (a.fin ≡ final (shift m (of_term σ f (tests σ c)) M)) × Kept k' at (shift m (of_term σ f (tests σ c)) M)) w
        (λ A y kk.
        let (q, ka) = un-star kk in
        let u : i ≡ (m || final A) = cc in
        let (fa, ka₁) = s.each A f c rst y ka hh in
        let fa' : a.fin ≡ final (shift (m || final A) (of_term σ f (tests σ c)) A) = rw u at fa in
        let ka' : Kept k₁ (at + 1) (shift (m || final A) (of_term σ f (tests σ c)) A) = rw u at ka₁ in
        let lt : at < length k₁ = omega (arith, at_lt p.here, s.beside.len) in
        let st : Beside k₁ k' at (at + 1) = beside-set a.fin e₁ in
        (fa', kept-star {a = shift (m || final A) (of_term σ f (tests σ c)) A} (rw e₁ (get_or-set_same k₁ at a.fin false lt) ∙ fa') (kept-beside (λ n l r. st.high n l) ka')))
        M x kk;
  }

  pub sh-cat : {b₁ i v₁ v₂ v₃ : Bool} {a b : Step} {k₁ k₂ k' : List Bool} → get_or e at 0 ≡ 7001 → Expression e at → length e ≤ length k
      → Shifted σ e (at + 1) h j k m k₁ a → k₂ ≡ set k₁ at a.fin → b₁ ≡ (m && a.null) → i ≡ (get_or k at false || b₁) → Shifted σ e a.end h j k₂ i k' b
      → v₁ ≡ (a.null && b.null) → v₂ ≡ (a.fin && b.null) → v₃ ≡ (v₂ || b.fin)
      → Shifted σ e at h j k m k' (record { end = b.end; null = v₁; fin = v₃ })
  sh-cat {b₁} {i} {v₁} {v₂} {v₃} {a} {b} {k₁} {k₂} {k'} w p le s e₁ be ie t q₁ q₂ q₃ = record {
    beside = by-cat (λ R. Beside k k' at b.end) w (λ A B x y.
        let z = (s.sized A x).0 in
        let z' = (t.sized B (rw z y)).0 in
        beside_trans (beside_trans (beside-wide s.beside (omega arith) (omega arith)) (beside-wide (beside-set a.fin e₁) (omega arith) (omega arith))) (beside-wide t.beside (omega arith) (omega arith)))
        p.R p.here;
    sized = by-cat _ w (λ A B x y. let (z, n) = s.sized A x in let (z', n') = t.sized B (rw z y) in (omega arith, rw (q₁, n, n')));
    each = λ M f c rst x kk hh. m-cat (λ M. Kept k at M → (v₃ ≡ final (shift m (of_term σ f (tests σ c)) M)) × Kept k' at (shift m (of_term σ f (tests σ c)) M)) w
        (λ A B y z kk.
        let (q, ka, kb) = un-cat kk in
        let (ea, na) = s.sized (bare A) y in
        let u : i ≡ (final A || (m && nullable (bare A))) = cc in
        let (fa, ka₁) = s.each A f c rst y ka hh in
        let st : Beside k₁ k₂ at (at + 1) = beside-set a.fin e₁ in
        let kb₂ : Kept k₂ a.end B = rw ea (kept-beside (λ n l r. st.high n (omega arith) ∙ s.beside.high n (omega arith)) kb) in
        let nb = (t.sized (bare B) (rw ea z)).1 in
        let (fb, kb₁) = t.each B f c rst (rw ea z) kb₂ hh in
        let fb' : b.fin ≡ final (shift (final A || (m && nullable (bare A))) (of_term σ f (tests σ c)) B) = rw u at fb in
        let kb' : Kept k' (at + 1 + size_e (bare A)) (shift (final A || (m && nullable (bare A))) (of_term σ f (tests σ c)) B) = rw (u, ea) at kb₁ in
        let lt : at < length k₁ = omega (arith, at_lt p.here, s.beside.len) in
        let sz : size_e (bare (shift m (of_term σ f (tests σ c)) A)) ≡ size_e (bare A) = ap size_e (bare-shift m (of_term σ f (tests σ c)) A) in (
          rw (bare-shift (final A || (m && nullable (bare A))) (of_term σ f (tests σ c)) B) (cc),
          kept-cat {a = shift m (of_term σ f (tests σ c)) A} {b = shift (final A || (m && nullable (bare A))) (of_term σ f (tests σ c)) B}
              (t.beside.low at (omega arith) ∙ rw e₁ (get_or-set_same k₁ at a.fin false lt) ∙ fa)
              (kept-beside (λ n l r. t.beside.low n (omega arith) ∙ st.high n l) ka₁)
              (rw sz kb'),
        ))
        M x kk;
  }

  pub sh-alt : {v₁ v₂ : Bool} {a b : Step} {k₁ k' : List Bool} → get_or e at 0 ≡ 7002 → Expression e at
      → Shifted σ e (at + 1) h j k m k₁ a → Shifted σ e a.end h j k₁ m k' b
      → v₁ ≡ (a.null || b.null) → v₂ ≡ (a.fin || b.fin)
      → Shifted σ e at h j k m k' (record { end = b.end; null = v₁; fin = v₂ })
  sh-alt {v₁} {v₂} {a} {b} {k₁} {k'} w p s t q₁ q₂ = record {
    beside = by-alt (λ R. Beside k k' at b.end) w (λ A B x y.
        let z = (s.sized A x).0 in
        let z' = (t.sized B (rw z y)).0 in
        beside_trans (beside-wide s.beside (omega arith) (omega arith)) (beside-wide t.beside (omega arith) (omega arith)))
        p.R p.here;
    sized = by-alt _ w (λ A B x y. let (z, n) = s.sized A x in let (z', n') = t.sized B (rw z y) in (omega arith, rw (q₁, n, n')));
    each = λ M f c rst x kk hh. m-alt (λ M. Kept k at M → (v₂ ≡ final (shift m (of_term σ f (tests σ c)) M)) × Kept k' at (shift m (of_term σ f (tests σ c)) M)) w
        (λ A B y z kk.
        let (ka, kb) = un-alt kk in
        let ea = (s.sized (bare A) y).0 in
        let (fa, ka₁) = s.each A f c rst y ka hh in
        let kb₂ : Kept k₁ a.end B = rw ea (kept-beside (λ n l r. s.beside.high n (omega arith)) kb) in
        let (fb, kb₁) = t.each B f c rst (rw ea z) kb₂ hh in
        let kb' : Kept k' (at + 1 + size_e (bare A)) (shift m (of_term σ f (tests σ c)) B) = rw ea at kb₁ in
        let sz : size_e (bare (shift m (of_term σ f (tests σ c)) A)) ≡ size_e (bare A) = ap size_e (bare-shift m (of_term σ f (tests σ c)) A) in (
          cc,
          kept-alt {a = shift m (of_term σ f (tests σ c)) A} {b = shift m (of_term σ f (tests σ c)) B}
              (kept-beside (λ n l r. t.beside.low n (omega arith)) ka₁)
              (rw sz kb'),
        ))
        M x kk;
  }

module _ {σ : Signature} {e : List ℕ} {at : ℕ} {h : List ℕ} {j : ℕ} {k : List Bool} {m i : Bool} {a : Step} {k₁ k₂ : List Bool}
    (p : Expression e at) (le : length e ≤ length k) (en : Enters (get_or e at 0) m (get_or k at false) i) (s : Shifted σ e (at + 1) h j k i k₁ a)
    (kp : Keeps k₁ at (get_or e at 0) a.fin k₂) where
  pub sh-one : get_or e at 0 ≡ 7003 → Shifted σ e at h j k m k₂ (record { end = a.end; null = true; fin = a.fin })
  sh-one w = sh-star w p le (en.star w) s (kp.other (λ z. omega (arith, w, z)))

  pub sh-two : {i₂ : Bool} {b r : Step} {k' : List Bool} → (get_or e at 0 ≡ 7000 → ⊥) → 7000 ≤ get_or e at 0 → (get_or e at 0 ≡ 7003 → ⊥)
      → Follows (get_or e at 0) m (get_or k at false) a.null i₂ → Shifted σ e a.end h j k₂ i₂ k' b → Together (get_or e at 0) a b r → Shifted σ e at h j k m k' r
  sh-two {i₂} {b} {r} {k'} n₀ n₁ n₃ fl t tg = go (ℕ_discrete (get_or e at 0) 7001)
    where
      go : Dec (get_or e at 0 ≡ 7001) → Shifted σ e at h j k m k' r
      go (yes w) = shifted_by refl refl (tg.cat w)
          (sh-cat {b₁ = m && a.null} w p le (shifted_by refl (en.other n₃) refl s) (kp.other (λ z. omega (arith, w, z))) refl (fl.cat w) t refl refl refl)
      go (no n) =
          let w = is-alt p n₀ n₃ n₁ n in
          shifted_by refl refl (tg.other n) (sh-alt w p (shifted_by refl (en.other n₃) refl s) (shifted_by (kp.alt w) (fl.other n) refl t) refl refl)

pub shifted_end : {σ : Signature} {e h : List ℕ} {at j : ℕ} {k k' : List Bool} {m : Bool} {a : Step} → Shifted σ e at h j k m k' a → (R : Expr) → At e at R → a.end ≡ at + size_e R
shifted_end s R x = (s.sized R x).0

pub shifted-falls : {σ : Signature} {e h : List ℕ} {at j t : ℕ} {k k' : List Bool} {m : Bool} {a : Step} → 100000000 * (length e - at) + 2 ≡ t → Shifted σ e (at + 1) h j k m k' a → Expression e at → (get_or e at 0 ≡ 7000 → ⊥) → 100000000 * (length e - a.end) + 2 < t
shifted-falls z s p n = let q = first p n in omega (arith, (s.sized q.R q.here).0, at_lt p.here)
