-- Whether a term is of a symbol, and which symbols it can be.
use Prim.Native.Nat.{ℕ, ◌+◌, ◌-◌, ◌*◌, ◌<◌, ◌≤◌}
use mathlib.Core.Path.{◌≡◌, refl, sym, ◌∙◌, ap}
use mathlib.Core.Logic.{◌↔◌}
use mathlib.Core.Bool.{Bool, true, false, ◌||◌}
use mathlib.Core.List.{List, [], ◌∷◌, ◌++◌}
use native.Mathlib.Omega.{arith}
use native.Mathlib.Decide.{dec_lt}
use lib.Dec.{T, leb, eqb}
use lib.ListN.{length, get_or, set, length-set, length-append, get_or-append}
use lib.Seq.{get_or-set_same, get_or-set_other, get_or-append-add}
use borrow.Author.Tests.{eq-eqb, ne_eqb, leb-true, leb-false}
use Rattle.language.specs.declared.Sym.{Sym}
use Rattle.language.specs.declared.Signature.{Signature}
use Rattle.language.specs.Trees.{Expr, is_unordered, any_unordered}
use Rattle.meaning.specs.Complete.{Complete, nil, tree}
use Rattle.meaning.proofs.Same.{none_any, none-unordered}
use Rattle.rules.proofs.Tests.{test-true}
use Rattle.any_order.specs.Places.{size_e, At, at-eps, at-cat, at-alt, at-star, at-over, Expression}
use Rattle.any_order.specs.Sharing.{Good, none}
use Rattle.any_order.proofs.Ranges.{not-both}
use Rattle.any_order.proofs.Determined.{same_test}
use Rattle.member.specs.declared.Seen.{Seen}
use Rattle.member.specs.declared.Fitted.{Fitted}
use Rattle.member.specs.Marks.{tests, of_term}
use Rattle.member.specs.Leaves.{Fits, Terms}
use Rattle.passing.specs.Places.{size_c, Holds, Term, Skipped, Beside}
use Rattle.member.specs.Places.{Looked, Accepted}
use Rattle.member.specs.Gathering.{row_of, Lists, Spared, Symbol, Scene, Spacious, Lent, Gathered, Answered, FittedAll, Shuffles, Noted}
use Rattle.member.proofs.Decides.{tests-decide, shuffled}
use Rattle.member.proofs.Sharing.{shares}
use Rattle.passing.proofs.Standing.{holds-lt, holds_fits, by-tree, word, child}
use Rattle.any_order.proofs.Standing.{at_lt, first, by-eps, by-star}
use Rattle.member.proofs.Standing.{by-symbol, symbol-at, symbol-word, under}
use Rattle.passing.proofs.Beside.{beside-refl, beside-wide, beside_trans}

-- ---- what is lent

pub spared-refl : {w : List ℕ} {top : ℕ} → Spared w w top
spared-refl = record { len = refl; low = λ q z. refl }

pub spared-trans : {w v u : List ℕ} {top : ℕ} → Spared w v top → Spared v u top → Spared w u top
spared-trans a b = record { len = b.len ∙ a.len; low = λ q z. b.low q z ∙ a.low q z }

pub spared-less : {w v : List ℕ} {top t : ℕ} → Spared w v t → top ≤ t → Spared w v top
spared-less a l = record { len = a.len; low = λ q z. a.low q (omega arith) }

pub spared-set : {w : List ℕ} (v : List ℕ) {u : List ℕ} {top : ℕ} (p x : ℕ) → Spared w v top → top ≤ p → u ≡ set v p x → Spared w u top
spared-set v p x a l e = rw e (record { len = length-set v p x ∙ a.len; low = λ q z. get_or-set_other v p q x 0 (omega arith) ∙ a.low q z })

pub scene_on : {e h : List ℕ} {k k' : List Bool} → Scene e h k → length k' ≡ length k → Scene e h k'
scene_on s z = record { long = omega (arith, s.long); short = s.short; hedge = s.hedge }

pub term-some : {h : List ℕ} {j : ℕ} → Term h j → get_or h j 0 ≡ 0 → ⊥
term-some t z = omega (arith, word t.here)

pub next-far : {h : List ℕ} {j n : ℕ} → Skipped h (j + 1) n → Term h j → (j + 2 ≤ n) × (j < length h)
next-far s t = (omega (arith, s.each t.c (child t.here), some_size t.c), holds-lt t.here)
  where
    some_size : (g : Complete) → 1 ≤ size_c g
    some_size nil = omega arith
    some_size (tree f c r) = omega arith

module _ {σ : Signature} {h : List ℕ} {j : ℕ} {w : List ℕ} {top : ℕ} where
  pub lent-less : {t : ℕ} → Lent σ h j w top → t ≤ top → Lent σ h j w t
  lent-less l z = record { room = λ t. let s = l.room t in record { g = s.g; here = s.here; room = omega (arith, s.room); bounded = s.bounded } }

  pub lent-on : {v : List ℕ} → Lent σ h j w top → length v ≡ length w → Lent σ h j v top
  lent-on l e = record { room = λ t. let s = l.room t in record { g = s.g; here = s.here; room = omega (arith, s.room); bounded = omega (arith, s.bounded) } }

  pub lent-children : Lent σ h j w top → (get_or h j 0 ≡ 0 → ⊥) → Lent σ h (j + 1) w top
  lent-children l n = record { room = λ t. go (l.room t) }
    where
      go : Spacious h j w top → Spacious h (j + 1) w top
      go s = by-tree (λ g. top + 2 * size_c g ≤ length w → Spacious h (j + 1) w top) n (λ f c r v x y z. record { g = c; here = x; room = omega arith; bounded = s.bounded }) s.g s.here s.room

  pub lent-rest : {n : ℕ} → Lent σ h j w top → (get_or h j 0 ≡ 0 → ⊥) → Skipped h (j + 1) n → Lent σ h n w top
  lent-rest {n} l z k = record { room = λ t. go (l.room t) }
    where
      go : Spacious h j w top → Spacious h n w top
      go s = by-tree (λ g. top + 2 * size_c g ≤ length w → Spacious h n w top) z
          (λ f c r v x y u. record { g = r; here = rw (k.each c x) y; room = omega arith; bounded = s.bounded }) s.g s.here s.room

unordered-any : (σ : Signature) (f : Sym) → is_unordered σ f ≡ true → T (any_unordered σ)
unordered-any σ f e = go (any_unordered σ) refl
  where
    go : (b : Bool) → any_unordered σ ≡ b → T b
    go true d = tt
    go false d = absurd (not-both e (none-unordered σ (none_any σ d) f))

-- ---- a term and a symbol

same-sym : (f : Sym) (n : ℕ) → n ≡ f.0 → ◌≡◌ {A = Sym} (record { 0 = n }) f
same-sym f n e = ap (λ x. record { 0 = x }) e

-- whether the symbol is unordered, by its word
its-kind : (σ : Signature) (h : List ℕ) (j : ℕ) (f : Sym) (c rest : Complete) (x : ℕ) (b : Bool) → x ≡ get_or h j 0 → b ≡ is_unordered σ (record { 0 = x - 3000 }) → Holds h j (tree f c rest) → is_unordered σ f ≡ b
its-kind σ h j f c rest x b q u t = ap (is_unordered σ) (sym (same-sym f (x - 3000) (omega (arith, word t)))) ∙ sym u

in-some-order : (σ : Signature) (at : ℕ) (c : Complete) (S : Expr) (r : Bool) → (r ≡ true) ↔ Terms (Fits σ S at) (Good S at) c none → r ≡ (tests σ c).any_order (S ∷ [])
in-some-order σ at c S r m =
    let s = shares σ S at c in
    let d = shuffled σ c (tests σ c) (tests-decide σ c) S in
    let t = test-true ((tests σ c).any_order (S ∷ [])) in
    same_test r ((tests σ c).any_order (S ∷ [])) m (λ e. s.0 (d.0 (t.1 e)), λ x. t.0 (d.1 (s.1 x)))

pub ask-gathers : (σ : Signature) (x : ℕ) {e h : List ℕ} {j : ℕ} {k : List Bool} {w : List ℕ} {top : ℕ} {b : Bool} → b ≡ is_unordered σ (record { 0 = x - 3000 }) → b ≡ true → Lent σ h j w top
    → Scene e h k → Gathered e h j w top top
ask-gathers σ x u z l s =
    let r = l.room (unordered-any σ (record { 0 = x - 3000 }) (sym u ∙ z)) in
    record {
      g = r.g;
      here = r.here;
      ks = [];
      records = refl;
      within = tt;
      few = omega (arith, holds_fits r.here, s.hedge);
      room = r.room;
      bounded = r.bounded;
    }

module _ {σ : Signature} {e : List ℕ} {p : ℕ} {h : List ℕ} {j : ℕ} where
  pub ask-other : {k : List Bool} {w : List ℕ} {top : ℕ} → (get_or e p 0 ≡ get_or h j 0 → ⊥) → Answered σ e p h j k k w w top false
  ask-other n = record {
    spared = spared-refl;
    len = refl;
    beside = λ g S x. beside-refl;
    each = λ g S f c rest x y. rw (ne_eqb g.0 f.0 (λ d. n (omega (arith, symbol-word x, word y)))) refl;
  }

  module _ {k k' : List Bool} {w w' : List ℕ} {top : ℕ} {b y : Bool} (q : get_or e p 0 ≡ get_or h j 0) (u : b ≡ is_unordered σ (record { 0 = get_or e p 0 - 3000 })) where
    pub ask-in-order : b ≡ false → Accepted σ e (p + 1) h (j + 1) k k' y → Spared w w' top → Answered σ e p h j k k' w w' top y
    ask-in-order z a s = record {
      spared = s;
      len = a.len;
      beside = λ g S x. a.beside S (under x);
      each = λ g S f c rest x t.
          let d : eqb g.0 f.0 ≡ true = eq-eqb g.0 f.0 (omega (arith, symbol-word x, word t)) in
          let o : is_unordered σ f ≡ false = its-kind σ h j f c rest (get_or e p 0) b q u t ∙ z in
          rw (d, o) (a.each S c (under x) (child t));
    }

    pub ask-any-order : b ≡ true → Shuffles σ e (p + 1) h (j + 1) k k' w w' top top y → Answered σ e p h j k k' w w' top y
    ask-any-order z a = record {
      spared = a.spared;
      len = a.len;
      beside = λ g S x. a.beside S (under x);
      each = λ g S f c rest x t.
          let d : eqb g.0 f.0 ≡ true = eq-eqb g.0 f.0 (omega (arith, symbol-word x, word t)) in
          let o : is_unordered σ f ≡ true = its-kind σ h j f c rest (get_or e p 0) b q u t ∙ z in
          rw (d, o) (in-some-order σ (p + 1) c S y (a.each S c [] (under x) (child t) refl));
    }

pub symbol-lt : {e : List ℕ} {p : ℕ} → Symbol e p → (p < length e) × (3000 ≤ get_or e p 0)
symbol-lt s = (at_lt s.here, omega (arith, symbol-word s.here))

pub symbol-under : {e : List ℕ} {p : ℕ} → Symbol e p → Expression e (p + 1)
symbol-under s = record { R = s.S; here = under s.here }

-- ---- all symbols

lists-none : {w : List ℕ} {t : ℕ} → Lists w t [] t
lists-none = record { end = omega arith; each = λ i z. absurd (omega arith) }

lists-one : {w : List ℕ} (v : List ℕ) {t x : ℕ} → t < length v → w ≡ set v t x → Lists w t (x ∷ []) (t + 1)
lists-one {w} v {t} {x} l e = record { end = refl; each = λ i z. go i (omega arith) }
  where
    go : (i : ℕ) → i ≡ 0 → get_or w (t + i) 0 ≡ get_or (x ∷ []) i 0
    go i z = let y : t + 0 ≡ t = omega arith in rw (z, y, e) (get_or-set_same v t x 0 l)

lists-join : {v w : List ℕ} {a b c : ℕ} {L M : List ℕ} → Lists v a L b → Spared v w b → Lists w b M c → Lists w a (L ++ M) c
lists-join {v} {w} {a} {b} {c} {L} {M} x s y = record {
  end = omega (arith, x.end, y.end, length-append L M);
  each = λ i z. by i z (leb (i + 1) (length L)) refl;
}
  where
    by : (i : ℕ) → i < length (L ++ M) → (t : Bool) → leb (i + 1) (length L) ≡ t → get_or w (a + i) 0 ≡ get_or (L ++ M) i 0
    by i z true e =
        let l = leb-true (i + 1) (length L) e in
        s.low (a + i) (omega (arith, x.end)) ∙ x.each i (omega arith) ∙ sym (get_or-append L M 0 i (omega arith))
    by i z false e =
        let l = leb-false (i + 1) (length L) e in
        let n : a + i ≡ b + (i - length L) = omega (arith, x.end) in
        let m : length L + (i - length L) ≡ i = omega arith in
        let g : get_or (L ++ M) i 0 ≡ get_or M (i - length L) 0 = rw m at (get_or-append-add L M (i - length L) 0) in
        rw n (y.each (i - length L) (omega (arith, length-append L M))) ∙ sym g

or-false : (x y o : Bool) → o ≡ (x || y) → o ≡ false → (x ≡ false) × (y ≡ false)
or-false true y o e z = absurd (not-both e z)
or-false false y o e z = (refl, sym e ∙ z)

fitted-by : {σ : Signature} {e : List ℕ} {at : ℕ} {h : List ℕ} {j : ℕ} {k k' : List Bool} {w v v₁ : List ℕ} {t cap : ℕ} {r r₁ : Fitted}
    → v₁ ≡ v → r₁ ≡ r → FittedAll σ e at h j k k' w v t cap r → FittedAll σ e at h j k k' w v₁ t cap r₁
fitted-by d z f = rw (d, z) f

-- what is written of one symbol
module _ {w : List ℕ} {t cap at : ℕ} {y : Bool} {end : ℕ} where
  pub noted-not : y ≡ false → Noted w t cap at y end w (record { end = end; top = t; full = false })
  noted-not n = record { not = λ _. (refl, refl); one = λ z. absurd (not-both z n); more = λ z. absurd (not-both z n) }

  pub noted_one : {w₁ : List ℕ} → y ≡ true → t < cap → w₁ ≡ set w t at → Noted w t cap at y end w₁ (record { end = end; top = t + 1; full = false })
  noted_one z l d = record { not = λ n. absurd (not-both z n); one = λ _ _. (d, refl); more = λ _ g. absurd (omega arith) }

  pub noted_more : y ≡ true → cap ≤ t → Noted w t cap at y end w (record { end = end; top = t; full = true })
  noted_more z g = record { not = λ n. absurd (not-both z n); one = λ _ l. absurd (omega arith); more = λ _ _. (refl, refl) }

pub noted-len : {w w' : List ℕ} {t cap at : ℕ} {y : Bool} {end : ℕ} {r : Fitted} → Noted w t cap at y end w' r → length w' ≡ length w
noted-len {w} {w'} {t} {cap} {at} {y} n = go y refl (dec_lt t cap)
  where
    go : (b : Bool) → y ≡ b → Dec (t < cap) → length w' ≡ length w
    go false q d = ap length (n.not q).0
    go true q (yes d) = ap length (n.one q d).0 ∙ length-set w t at
    go true q (no d) = ap length (n.more q (omega arith)).0

module _ {σ : Signature} {e : List ℕ} {at : ℕ} {h : List ℕ} {j : ℕ} {k : List Bool} {w : List ℕ} {t cap : ℕ} where
  pub fit-eps : get_or e at 0 ≡ 7000 → t ≤ cap → FittedAll σ e at h j k k w w t cap (record { end = at + 1; top = t; full = false })
  fit-eps v z = record {
    spared = spared-refl;
    beside = beside-refl;
    sized = by-eps (λ R. at + 1 ≡ at + size_e R) v refl;
    within = (omega arith, z);
    each = λ R f c rest x y n. by-eps (λ R. Lists w t (row_of (of_term σ f (tests σ c)) R at) t) v lists-none R x;
  }

  module _ {k' : List Bool} {w' : List ℕ} {s : Seen} {y : Bool} (v : get_or e at 0 < 7000) (p : Expression e at) (l : Looked e (at + 1) s) (a : Answered σ e at h j k k' w w' t y) (z : t ≤ cap) where
    its-beside : Beside k k' at s.end
    its-beside =
        let q = symbol-at p v in
        let b = a.beside q.g q.S q.here in
        let u = (l.each q.S (under q.here)).0 in
        beside-wide b (omega arith) (omega arith)

    its-size : (R : Expr) → At e at R → s.end ≡ at + size_e R
    its-size = by-symbol (λ R. s.end ≡ at + size_e R) v (λ g S x. omega (arith, (l.each S (under x)).0))

    fit_none : y ≡ false → FittedAll σ e at h j k k' w w' t cap (record { end = s.end; top = t; full = false })
    fit_none n = record {
      spared = a.spared;
      beside = its-beside;
      sized = its-size;
      within = (omega arith, z);
      each = λ R f c rest x d m. by-symbol (λ R. Lists w' t (row_of (of_term σ f (tests σ c)) R at) t) v
          (λ g S u. let i : of_term σ f (tests σ c) g S ≡ false = sym (a.each g S f c rest u d) ∙ n in rw i lists-none) R x;
    }

    fit-full : FittedAll σ e at h j k k' w w' t cap (record { end = s.end; top = t; full = true })
    fit-full = record { spared = a.spared; beside = its-beside; sized = its-size; within = (omega arith, z); each = λ R f c rest x d m. absurd (not-both refl m) }

    fit-one : {w₂ : List ℕ} → y ≡ true → t < cap → cap ≤ length w → w₂ ≡ set w' t at → FittedAll σ e at h j k k' w w₂ t cap (record { end = s.end; top = t + 1; full = false })
    fit-one {w₂} n o r d = record {
      spared = spared-set w' t at a.spared (omega arith) d;
      beside = its-beside;
      sized = its-size;
      within = (omega arith, omega arith);
      each = λ R f c rest x d' m. by-symbol (λ R. Lists w₂ t (row_of (of_term σ f (tests σ c)) R at) (t + 1)) v
          (λ g S u. let i : of_term σ f (tests σ c) g S ≡ true = sym (a.each g S f c rest u d') ∙ n in rw i (lists-one w' (omega (arith, a.spared.len)) d)) R x;
    }

    -- whichever it is
    pub fit-noted : {w₂ : List ℕ} {r : Fitted} → cap ≤ length w → Noted w' t cap at y s.end w₂ r → FittedAll σ e at h j k k' w w₂ t cap r
    fit-noted {w₂} {r} u n = go y refl (dec_lt t cap)
      where
        go : (b : Bool) → y ≡ b → Dec (t < cap) → FittedAll σ e at h j k k' w w₂ t cap r
        go false q d = fitted-by (n.not q).0 (n.not q).1 (fit_none q)
        go true q (yes d) = fitted-by refl (n.one q d).1 (fit-one q d u (n.one q d).0)
        go true q (no d) = let g : cap ≤ t = omega arith in fitted-by (n.more q g).0 (n.more q g).1 fit-full

  pub fit-star : {k' : List Bool} {w' : List ℕ} {r : Fitted} → get_or e at 0 ≡ 7003 → Expression e at → FittedAll σ e (at + 1) h j k k' w w' t cap r → FittedAll σ e at h j k k' w w' t cap r
  fit-star {k'} {w'} {r} v p a = record {
    spared = a.spared;
    beside = let q = first p (omega arith) in let u = a.sized q.R q.here in beside-wide a.beside (omega arith) (omega arith);
    sized = by-star (λ R. r.end ≡ at + size_e R) v (λ A x. omega (arith, a.sized A x));
    within = a.within;
    each = λ R f c rest x y n. by-star (λ R. Lists w' t (row_of (of_term σ f (tests σ c)) R at) r.top) v (λ A u. a.each A f c rest u y n) R x;
  }

  -- 7001 and 7002
  pub fit-two : {k₁ k₂ : List Bool} {w₁ w₂ : List ℕ} {a b : Fitted} {o : Bool} → Expression e at → (get_or e at 0 ≡ 7000 → ⊥) → 7000 ≤ get_or e at 0 → (get_or e at 0 ≡ 7003 → ⊥)
      → FittedAll σ e (at + 1) h j k k₁ w w₁ t cap a → FittedAll σ e a.end h j k₁ k₂ w₁ w₂ a.top cap b → o ≡ (a.full || b.full)
      → FittedAll σ e at h j k k₂ w w₂ t cap (record { end = b.end; top = b.top; full = o })
  fit-two {k₁} {k₂} {w₁} {w₂} {a} {b} {o} p n0 lo n3 x y z = record {
    spared = spared-trans x.spared (spared-less y.spared x.within.0);
    beside =
        let q = first p n0 in
        let u = x.sized q.R q.here in
        beside_trans (beside-wide x.beside (omega arith) (omega (arith, (whole p.here).0))) (beside-wide y.beside (omega arith) (omega arith));
    sized = λ R v. (whole v).1;
    within = (omega (arith, x.within.0, y.within.0), y.within.1);
    each = λ R f c rest v g n. rows v f c rest g n;
  }
    where
      whole : {R : Expr} → At e at R → (a.end ≤ b.end) × (b.end ≡ at + size_e R)
      whole (at-eps l w) = absurd (n0 w)
      whole (at-cat {a = A} {b = B} l w u v) = let q = x.sized A u in let r = y.sized B (rw q v) in (omega arith, omega arith)
      whole (at-alt {a = A} {b = B} l w u v) = let q = x.sized A u in let r = y.sized B (rw q v) in (omega arith, omega arith)
      whole (at-star l w u) = absurd (n3 w)
      whole (at-over l w u v) = absurd (omega arith)

      rows : {R : Expr} → At e at R → (f : Sym) (c rest : Complete) → Holds h j (tree f c rest) → o ≡ false → Lists w₂ t (row_of (of_term σ f (tests σ c)) R at) b.top
      rows (at-eps l w) f c rest g n = absurd (n0 w)
      rows (at-cat {a = A} {b = B} l w u v) f c rest g n =
          let (n₁, n₂) = or-false a.full b.full o z n in
          let q = x.sized A u in
          lists-join (x.each A f c rest u g n₁) y.spared (rw q at (y.each B f c rest (rw q v) g n₂))
      rows (at-alt {a = A} {b = B} l w u v) f c rest g n =
          let (n₁, n₂) = or-false a.full b.full o z n in
          let q = x.sized A u in
          lists-join (x.each A f c rest u g n₁) y.spared (rw q at (y.each B f c rest (rw q v) g n₂))
      rows (at-star l w u) f c rest g n = absurd (n3 w)
      rows (at-over l w u v) f c rest g n = absurd (omega arith)
