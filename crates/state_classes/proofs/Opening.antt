-- Tails laid open, split and compared.
use Prim.Native.Nat.{ℕ, ◌+◌, ◌<◌, ◌≤◌}
use mathlib.Core.Path.{◌≡◌, refl, sym, ap, ap₂, subst, ◌∙◌}
use mathlib.Core.Bool.{Bool, true, false}
use mathlib.Core.List.{List, [], ◌++◌}
use native.Mathlib.Omega.{arith}
use native.Mathlib.Decide.{dec_le}
use lib.Dec.{eqb}
use lib.ListN.{length, get_or, get_or-eq_default}
use lib.Seq.{slice}
use borrow.Author.Tests.{eqb-true, eq-eqb}
use Rattle.language.specs.Limits.{desk}
use Rattle.language.specs.Kinds.{pick}
use Rattle.language.specs.Trees.{Expr, eps, cat}
use Rattle.language.specs.Writing.{expr_words}
use Rattle.language.proofs.Laws.{expressions-read}
use Rattle.rules.specs.Looks.{is_eps}
use Rattle.words.specs.Places.{same_list}
use Rattle.words.proofs.Same.{list-refl, list-is}
use Rattle.expressions.specs.declared.Part.{Part}
use Rattle.expressions.specs.Standing.{Here, Parted}
use Rattle.expressions.proofs.Standing.{words-here, second-of, by-eps, by-cat, word-of}
use Rattle.walk.specs.Spots.{behind}
use Rattle.state_classes.specs.declared.tails.Cut.{Cut}
use Rattle.state_classes.specs.declared.tails.Tail.{Tail}
use Rattle.state_classes.specs.declared.tails.Laid.{Laid}
use Rattle.state_classes.specs.declared.tails.Split.{Split}
use Rattle.std.specs.Prelude.{Option, None, Some}
use Rattle.state_classes.specs.declared.tails.Laid.TheVariants.{One, Two}
use Rattle.state_classes.specs.Tails.{Left, Spent, Rested, Compared, Alike, Is, Joined, OpenedNone, OpenedOne, OpenedTwo, Opened, both_one, Apart, Whole, Nothing, Same}
use Rattle.state_classes.proofs.Peeling.{differ}

-- ---- two places

one-here : {k : List ℕ} {a : ℕ} (A B : Expr) (w v : List ℕ) → Here k a A w → Here k a B v → A ≡ B
one-here A B w v h g = ((expressions-read desk).one-reading A B w v h.fine g.fine (sym h.words ∙ g.words)).0

pub alike_same : {k : List ℕ} {a b : ℕ} → a ≡ b → Alike k a b true
alike_same {k} {a} {b} e = record { each = λ A B w v h g. record { yes = λ _. one-here A B w v (subst (λ m. Here k m A w) e h) g; not = λ z. differ z } }

pub alike-words : {k : List ℕ} {a b : ℕ} {p q : Part} {r : Bool} → Parted k a p → Parted k b q → r ≡ same_list (slice a p.end k) (slice b q.end k) → Alike k a b r
alike-words {k} {a} {b} {p} {q} {r} x y e = record { each = λ A B w v h g. compared A B w v h g }
  where
    compared : (A B : Expr) (w v : List ℕ) → Here k a A w → Here k b B v → Compared r A B
    compared A B w v h g =
        let d = words-here h (x.each A w h).end in
        let c = words-here g (y.each B v g).end in
        let z : r ≡ same_list (expr_words A) (expr_words B) = e ∙ ap (λ l. same_list l (slice b q.end k)) d ∙ ap (same_list (expr_words A)) c in
        record {
          yes = λ t. ((expressions-read desk).one-reading A B [] [] h.fine g.fine (ap (λ l. l ++ []) (list-is (expr_words A) (expr_words B) (sym z ∙ t)))).0;
          not = λ t i. differ (sym (list-refl (expr_words B)) ∙ ap (λ X. same_list (expr_words X) (expr_words B)) (sym i) ∙ sym z ∙ t);
        }

-- ---- laid open

abbrev Form : List ℕ → Tail → Expr → Bool → Type 0
Form k t X b = elim b [ true ↦ Left k t.at t.symbol X | false ↦ (w : List ℕ) × Here k t.at X w ]

is-rest : {k : List ℕ} {X : Expr} (t : Tail) → t.rest ≡ true → Is k t X → Left k t.at t.symbol X
is-rest {k} {X} t e i = subst (Form k t X) e i

is_whole : {k : List ℕ} {X : Expr} (t : Tail) → t.rest ≡ false → Is k t X → (w : List ℕ) × Here k t.at X w
is_whole {k} {X} t e i = subst (Form k t X) e i

-- what is behind something
behind-nothing : (B : Expr) → is_eps B ≡ false → behind B eps ≡ B
behind-nothing B e = ap (λ b. pick b eps B) e

behind-some : (B C : Expr) → is_eps B ≡ false → is_eps C ≡ false → behind B C ≡ cat C B
behind-some B C e d = ap (λ b. pick b C (pick (is_eps C) B (cat C B))) e ∙ ap (λ b. pick b B (cat C B)) d

behind-full : (B C : Expr) → is_eps B ≡ false → is_eps (behind B C) ≡ false
behind-full B C e = ap (λ b. is_eps (pick b C (pick (is_eps C) B (cat C B)))) e ∙ go (is_eps C)
  where
    go : (b : Bool) → is_eps (pick b B (cat C B)) ≡ false
    go true = e
    go false = refl

module _ {k : List ℕ} {t : Tail} where
  pub opened-none : t.rest ≡ true → Spent k t.at t.symbol → OpenedNone k t
  opened-none r p = record { none = λ X i. p.none X (is-rest t r i) }

  pub opened-one : {a : Cut} → t.rest ≡ true → Rested k t.at t.symbol a → Spent k a.next t.symbol → OpenedOne k t a.part
  opened-one {a} r p q =
      record {
        low = p.further.2;
        one = λ X i.
            let m = p.some X (is-rest t r i) in
            let e = m.is ∙ ap (behind m.last) (q.none m.before m.left) ∙ behind-nothing m.last m.full in
            (m.beyond, subst (λ X. Here k a.part X m.beyond) (sym e) m.stands);
      }

  pub opened-two : {a b : Cut} → t.rest ≡ true → Rested k t.at t.symbol a → Rested k a.next t.symbol b → OpenedTwo k t a
  opened-two {a} {b} r p q =
      record {
        further = let (x, y, z) = p.further in (z, x, y);
        two = λ X i.
            let m = p.some X (is-rest t r i) in
            let n = q.some m.before m.left in
            record {
              first = m.before;
              second = m.last;
              beyond = m.beyond;
              is = m.is ∙ behind-some m.last m.before m.full (ap is_eps n.is ∙ behind-full n.last n.before n.full);
              tail = m.left;
              stands = m.stands;
            };
      }

  pub opened-whole : t.rest ≡ false → OpenedOne k t t.at
  opened-whole r = record { low = omega arith; one = λ X i. is_whole t r i }

-- ---- taken apart

pub word_in : (k : List ℕ) (i : ℕ) → get_or k i 0 ≡ 7001 → i < length k
word_in k i e = go (dec_le (length k) i)
  where
    go : Dec (length k ≤ i) → i < length k
    go (yes h) = let z = get_or-eq_default k 0 h in absurd (omega arith)
    go (no h) = omega arith

module _ {k : List ℕ} {t : Tail} {part : ℕ} (o : Laid) (is : o ≡ One part) (u : Opened k t (Some o)) where
  p : OpenedOne k t part
  p = subst (λ o. Opened k t (Some o)) is u

  pub split_one : {a : Part} → get_or k part 0 ≡ 7001 → Parted k (part + 1) a → Apart k t (record { rest = record { at = part + 1; symbol = t.symbol; rest = false }; part = a.end })
  split_one {a} z q =
      record {
        further = let x = p.low in let i = word_in k part z in (omega arith, omega arith);
        yes = λ X i. let (w, h) = p.one X i in cut X w h;
      }
    where
      cut : (X : Expr) (w : List ℕ) → Here k part X w → Joined k X (record { at = part + 1; symbol = t.symbol; rest = false }) a.end
      cut X w h =
          by-cat (λ A v. X ≡ A → Joined k X (record { at = part + 1; symbol = t.symbol; rest = false }) a.end) z (λ A B v i f e.
          record { first = A; second = B; beyond = v; is = e; tail = (expr_words B ++ v, i); stands = second-of i f (q.each A _ i).end }) X w h refl

  pub split-none : (get_or k part 0 ≡ 7001 → ⊥) → Whole k t part
  split-none z =
      record {
        one = p.one;
        not = λ X i A B f. let (w, h) = p.one X i in z (word-of k part (subst (λ X. Here k part X w) f h).words);
      }

pub split-two : {k : List ℕ} {t : Tail} {c : Cut} → OpenedTwo k t c → Apart k t (record { rest = record { at = c.next; symbol = t.symbol; rest = true }; part = c.part })
split-two p = record { further = let (x, y, z) = p.further in (y, z); yes = λ X i. p.two X i }

-- ---- eps

not-eps : {A : Type 0} (B C : Expr) → cat B C ≡ eps → A
not-eps B C e = absurd (let z : ◌≡◌ {A = ℕ} 0 1 = cc in omega arith)

module _ {k : List ℕ} where
  pub nothing-none : {o : Option Laid} → o ≡ None → Nothing k o true
  nothing-none e = subst (λ o. Nothing k o true) (sym e) none
    where
      none : Nothing k None true
      none = record { each = λ t p X i. record { yes = λ _. p.none X i; not = λ z. differ z } }

  pub nothing-one : {o : Option Laid} {part : ℕ} {c : Bool} → o ≡ Some (One part) → c ≡ eqb (get_or k part 0) 7000 → Nothing k o c
  nothing-one {o} {part} {c} e d = subst (λ o. Nothing k o c) (sym e) one
    where
      told : (X : Expr) (w : List ℕ) → Here k part X w → Compared c X eps
      told X w h =
          record {
            yes = λ z. by-eps (λ A v. X ≡ A → X ≡ eps) (eqb-true _ 7000 (sym d ∙ z)) (λ v e. e) X w h refl;
            not = λ z f. differ (sym (eq-eqb _ 7000 (word-of k part (subst (λ X. Here k part X w) f h).words)) ∙ sym d ∙ z);
          }

      one : Nothing k (Some (One part)) c
      one = record { each = λ t p X i. let (w, h) = p.one X i in told X w h }

  pub nothing-two : {o : Option Laid} {c : Cut} → o ≡ Some (Two c) → Nothing k o false
  nothing-two {o} {c} e = subst (λ o. Nothing k o false) (sym e) two
    where
      two : Nothing k (Some (Two c)) false
      two = record { each = λ t p X i. record { yes = λ z. differ (sym z); not = λ _ f. let m = p.two X i in not-eps m.first m.second (sym m.is ∙ f) } }

-- ---- two tails

firsts : {A B C D : Expr} → cat A B ≡ cat C D → A ≡ C
firsts e = cc

seconds : {A B C D : Expr} → cat A B ≡ cat C D → B ≡ D
seconds e = cc

some-is : {A : Type 0} {a b : A} → Some a ≡ Some b → a ≡ b
some-is e = cc

module _ {k : List ℕ} {s t : Tail} where
  pub same_left : {b : Option Laid} {r : Bool} → OpenedNone k s → Opened k t b → Nothing k b r → Same k s t r
  same_left p q c =
      record { each = λ X Y i j. let e = p.none X i in let d = c.each t q Y j in record { yes = λ z. e ∙ sym (d.yes z); not = λ z f. d.not z (sym f ∙ e) } }

  pub same-right : {a : Option Laid} {r : Bool} → Opened k s a → OpenedNone k t → Nothing k a r → Same k s t r
  same-right p q c =
      record { each = λ X Y i j. let e = q.none Y j in let d = c.each s p X i in record { yes = λ z. d.yes z ∙ sym e; not = λ z f. d.not z (f ∙ e) } }

  -- the two places are those of the two expressions
  pub same-ones : {p q : ℕ} {r : Bool} (a b : Laid) → both_one a b ≡ Some (p, q) → Opened k s (Some a) → Opened k t (Some b) → Alike k p q r → Same k s t r
  same-ones {p} {q} {r} (One x) (One y) e u v c =
      let l : x ≡ p = ap (λ (z : ℕ × ℕ). z.0) (some-is e) in
      let m : y ≡ q = ap (λ (z : ℕ × ℕ). z.1) (some-is e) in
      record { each = λ X Y i j. let (w, h) = u.one X i in let (z, g) = v.one Y j in c.each X Y w z (subst (λ n. Here k n X w) l h) (subst (λ n. Here k n Y z) m g) }
  same-ones (One x) (Two d) e u v c = absurd (let z : ◌≡◌ {A = ℕ} 0 1 = cc in omega arith)
  same-ones (Two d) (One y) e u v c = absurd (let z : ◌≡◌ {A = ℕ} 0 1 = cc in omega arith)
  same-ones (Two c) (Two d) e u v f = absurd (let z : ◌≡◌ {A = ℕ} 0 1 = cc in omega arith)

  -- one of them is a concatenation, the other is not
  pub same-whole : {p : ℕ} (a b : Laid) → both_one a b ≡ None → Opened k s (Some a) → Opened k t (Some b) → Whole k s p → Same k s t false
  same-whole (One x) (One y) e u v c = absurd (let z : ◌≡◌ {A = ℕ} 0 1 = cc in omega arith)
  same-whole (One x) (Two d) e u v c =
      record { each = λ X Y i j. record { yes = λ z. differ (sym z); not = λ _ w. let g = v.two Y j in c.not X i g.first g.second (w ∙ g.is) } }
  same-whole (Two d) b e u v c =
      record { each = λ X Y i j. record { yes = λ z. differ (sym z); not = λ _ w. let g = u.two X i in c.not X i g.first g.second g.is } }

  pub same-other : {p : ℕ} (a b : Laid) → both_one a b ≡ None → Opened k s (Some a) → Opened k t (Some b) → Whole k t p → Same k s t false
  same-other (One x) (One y) e u v c = absurd (let z : ◌≡◌ {A = ℕ} 0 1 = cc in omega arith)
  same-other (Two d) (One y) e u v c =
      record { each = λ X Y i j. record { yes = λ z. differ (sym z); not = λ _ w. let g = u.two X i in c.not Y j g.first g.second (sym w ∙ g.is) } }
  same-other a (Two d) e u v c =
      record { each = λ X Y i j. record { yes = λ z. differ (sym z); not = λ _ w. let g = v.two Y j in c.not Y j g.first g.second g.is } }

  module _ {c d : Split} (u : Apart k s c) (v : Apart k t d) where
    -- the second parts differ, or they are the same and the rest decides
    pub same_parts : {r : Bool} → Alike k c.part d.part true → Same k c.rest d.rest r → Same k s t r
    same_parts e f =
        record {
          each = λ X Y i j.
              let g = u.yes X i in
              let h = v.yes Y j in
              let l = f.each g.first h.first g.tail h.tail in
              let o = (e.each g.second h.second g.beyond h.beyond g.stands h.stands).yes refl in
              record {
                yes = λ z. g.is ∙ ap₂ cat (l.yes z) o ∙ sym h.is;
                not = λ z w. l.not z (firsts (sym g.is ∙ w ∙ h.is));
              };
        }

    pub same-differ : Alike k c.part d.part false → Same k s t false
    same-differ e =
        record {
          each = λ X Y i j.
              let g = u.yes X i in
              let h = v.yes Y j in
              record {
                yes = λ z. differ (sym z);
                not = λ z w. (e.each g.second h.second g.beyond h.beyond g.stands h.stands).not refl (seconds (sym g.is ∙ w ∙ h.is));
              };
        }
