-- The way down to a symbol: at each step the part is found in which it stands.
use Prim.Native.Nat.{ℕ, zero, suc, ◌+◌, ◌<◌, ◌≤◌}
use mathlib.Core.Path.{◌≡◌, refl, sym, ap, subst, ◌∙◌}
use mathlib.Core.Logic.{◌⊎◌, inl, inr}
use mathlib.Core.Bool.{Bool, true, false}
use mathlib.Core.List.{List, ◌++◌}
use native.Mathlib.Omega.{arith}
use lib.Dec.{eqb, leb, ltb}
use lib.ListN.{length, get_or}
use borrow.Author.Tests.{eqb-true, eqb-false, leb-true, leb-false, eq-eqb, ne_eqb, le-leb, lt-leb, lt-ltb, le-ltb}
use Rattle.language.specs.Limits.{desk}
use Rattle.language.specs.Fine.{fine_expr}
use Rattle.language.specs.Kinds.{pick}
use Rattle.language.specs.Trees.{Expr, eps, cat, alt, star, over}
use Rattle.language.specs.Writing.{expr_words}
use Rattle.expressions.specs.declared.Part.{Part}
use Rattle.expressions.specs.Passing.{part_at}
use Rattle.expressions.specs.Standing.{Here, Parted}
use Rattle.expressions.proofs.Standing.{second-of, cases, by_over, past_end, word-of}
use Rattle.walk.specs.Spots.{Spot, here, in_left, in_right, in_first, in_second, in_star}
use Rattle.charts.specs.Levels.{Sought, nowhere, on_top, below, through, under, sought, lower_at, level_from, level_of, Lowered, Leveled}
use Rattle.charts.proofs.Places.{place_in, Right, sought-right, cat-left, cat-right, alt-left, alt-right, over-here, over_below}

-- ---- the test of the second part

pub later-star : (x mid p : ℕ) → x ≡ 7003 → false ≡ pick (eqb x 7003) false (leb mid p)
later-star x mid p e = rw (eq-eqb x 7003 e) refl

pub later-other : (x mid p : ℕ) → (x ≡ 7003 → ⊥) → leb mid p ≡ pick (eqb x 7003) false (leb mid p)
later-other x mid p n = rw (ne_eqb x 7003 n) refl

-- ---- one part down

lower-is : (k : List ℕ) (x j : ℕ) (q : Part) → q ≡ part_at k (x + 1) → pick (pick (eqb (get_or k x 0) 7003) false (leb q.end j)) q.end (x + 1) ≡ lower_at k x j
unfolding lower_at
lower-is k x j q e = ap (λ (p : Part). pick (pick (eqb (get_or k x 0) 7003) false (leb p.end j)) p.end (x + 1)) e

pub lowered : {k : List ℕ} {x j : ℕ} {q : Part} (b : Bool) {y : ℕ} → Parted k (x + 1) q → b ≡ pick (eqb (get_or k x 0) 7003) false (leb q.end j) → y ≡ pick b q.end (x + 1)
    → Lowered k x j y
lowered {k} {x} {j} {q} b {y} a t e =
    record {
      is = e ∙ ap (λ c. pick c q.end (x + 1)) t ∙ lower-is k x j q a.is;
      further = further b e;
      star = λ A w h. e ∙ ap (λ c. pick c q.end (x + 1)) (t ∙ ap (λ c. pick c false (leb q.end j)) (eq-eqb (get_or k x 0) 7003 (word-of k x h.words)));
      first = λ A B w h lo hi l.
          let d = (a.each A _ h).end in
          e ∙ ap (λ c. pick c q.end (x + 1)) (t ∙ ap (λ c. pick c false (leb q.end j)) (ne_eqb (get_or k x 0) 7003 (omega arith)) ∙ lt-leb q.end j (omega arith));
      second = λ A B w h lo hi l.
          let d = (a.each A _ h).end in
          e ∙ ap (λ c. pick c q.end (x + 1)) (t ∙ ap (λ c. pick c false (leb q.end j)) (ne_eqb (get_or k x 0) 7003 (omega arith)) ∙ le-leb q.end j (omega arith)) ∙ d;
    }
  where
    further : (b : Bool) → y ≡ pick b q.end (x + 1) → x < y
    further true e = let z = a.after in omega arith
    further false e = omega arith

-- ---- the steps down, by the words alone

level-stop : (n : ℕ) (k : List ℕ) (x l j : ℕ) → j ≤ x → level_from n k x l j ≡ l
unfolding level_from
level-stop zero k x l j h = refl
level-stop (suc n) k x l j h = rw (le-ltb x j h) refl

level-past : (n : ℕ) (k : List ℕ) (x l j : ℕ) → length k ≤ x → level_from n k x l j ≡ l
unfolding level_from
level-past zero k x l j h = refl
level-past (suc n) k x l j h = go (ltb x j) (ltb x (length k)) (le-ltb x (length k) h)
  where
    go : (b c : Bool) → c ≡ false → pick b (pick c (pick (ltb (get_or k x 0) 7000) (level_from n k (x + 1) (x + 1) j) (level_from n k (lower_at k x j) l j)) l) l ≡ l
    go true c e = rw e refl
    go false c e = refl

level-symbol : (n : ℕ) (k : List ℕ) (x l j : ℕ) → x < j → x < length k → get_or k x 0 < 7000 → level_from (suc n) k x l j ≡ level_from n k (x + 1) (x + 1) j
unfolding level_from
level-symbol n k x l j h i o = rw (lt-ltb x j h, lt-ltb x (length k) i, lt-ltb (get_or k x 0) 7000 o) refl

level-lower : (n : ℕ) (k : List ℕ) (x l j : ℕ) → x < j → x < length k → 7000 ≤ get_or k x 0 → level_from (suc n) k x l j ≡ level_from n k (lower_at k x j) l j
unfolding level_from
level-lower n k x l j h i o = rw (lt-ltb x j h, lt-ltb x (length k) i, le-ltb (get_or k x 0) 7000 o) refl

-- so many steps are enough from x, and they end where all of them end
pub record Down (k : List ℕ) (at j x l : ℕ) : Type 0 where
  pub steps : ℕ
  pub enough : j ≤ x + steps
  pub same : level_from steps k x l j ≡ level_of k at j

down-on : (k : List ℕ) (at j x l y m : ℕ) → x < j → x < y → ((n : ℕ) → level_from (suc n) k x l j ≡ level_from n k y m j) → Down k at j x l → Down k at j y m
down-on k at j x l y m h i f d = go d.steps d.enough d.same
  where
    go : (n : ℕ) → j ≤ x + n → level_from n k x l j ≡ level_of k at j → Down k at j y m
    go zero e s = absurd (omega arith)
    go (suc n) e s = record { steps = n; enough = omega arith; same = sym (f n) ∙ s }

-- ---- nothing is found before the expression

none_before : (x : ℕ) (A : Expr) (j : ℕ) → j < x → sought x A j ≡ nowhere
none_before x A j h = go (sought x A j) (sought-right x A j)
  where
    go : (s : Sought) → Right x A j s → s ≡ nowhere
    go nowhere r = refl
    go (on_top p) r = let (u, v) = place_in x p in let e = r.1 in absurd (omega arith)
    go (below l p) r = let (u, v) = place_in l p in let (e, m, n) = r in absurd (omega arith)

-- ---- on the way

through-through : (f g : Spot → Spot) (s : Sought) → through f (through g s) ≡ through (λ p. f (g p)) s
through-through f g nowhere = refl
through-through f g (on_top p) = refl
through-through f g (below l p) = refl

through-under : (f : Spot → Spot) (l : ℕ) (s : Sought) → through f (under l s) ≡ under l (through (λ p. p) s)
through-under f l nowhere = refl
through-under f l (on_top p) = refl
through-under f l (below m p) = refl

under-under : (f : Spot → Spot) (i l : ℕ) (s : Sought) → under i (through f (under l s)) ≡ under l (through (λ p. p) s)
under-under f i l nowhere = refl
under-under f i l (on_top p) = refl
under-under f i l (below m p) = refl

same_self : (s : Sought) → s ≡ through (λ p. p) s
same_self nowhere = refl
same_self (on_top p) = refl
same_self (below l p) = refl

-- at x the part A stands, and what is found there is found in the whole: in the expression itself, or in an inner one at l
pub record On (k : List ℕ) (at : ℕ) (R : Expr) (j x l : ℕ) : Type 0 where
  pub part : Expr
  pub beyond : List ℕ
  pub stands : Here k x part beyond
  pub into : Spot → Spot
  pub found : ((l ≡ at) × (sought at R j ≡ through into (sought x part j))) ⊎ (sought at R j ≡ under l (through into (sought x part j)))

-- or there is no symbol at j
pub record Ways (k : List ℕ) (at j x l : ℕ) : Type 0 where
  pub down : Down k at j x l
  pub each : (R : Expr) (w : List ℕ) → Here k at R w → (sought at R j ≡ nowhere) ⊎ On k at R j x l

pub way-start : (k : List ℕ) (at j : ℕ) → Ways k at j at at
way-start k at j = record { down = record { steps = j; enough = omega arith; same = refl }; each = λ R w h. inr (record { part = R; beyond = w; stands = h; into = λ p. p; found = inl (refl, same_self (sought at R j)) }) }

module _ {k : List ℕ} {at : ℕ} {R : Expr} {j x l : ℕ} (d : On k at R j x l) where
  -- nothing is found here
  lost : sought x d.part j ≡ nowhere → sought at R j ≡ nowhere
  lost e = elim d.found [
    | inl (i, z) ↦ z ∙ ap (through d.into) e
    | inr z ↦ z ∙ ap (λ s. under l (through d.into s)) e
  ]

  -- through a part
  on-through : (y : ℕ) (A : Expr) (w : List ℕ) → Here k y A w → (f : Spot → Spot) → sought x d.part j ≡ through f (sought y A j) → On k at R j y l
  on-through y A w h f e =
      record {
        part = A;
        beyond = w;
        stands = h;
        into = λ p. d.into (f p);
        found = elim d.found [
          | inl (i, z) ↦ inl (i, z ∙ ap (through d.into) e ∙ through-through d.into f (sought y A j))
          | inr z ↦ inr (z ∙ ap (λ s. under l (through d.into s)) e ∙ ap (under l) (through-through d.into f (sought y A j)))
        ];
      }

  -- into a symbol
  on-under : (A : Expr) (w : List ℕ) → Here k (x + 1) A w → sought x d.part j ≡ under (x + 1) (sought (x + 1) A j) → On k at R j (x + 1) (x + 1)
  on-under A w h e =
      record {
        part = A;
        beyond = w;
        stands = h;
        into = λ p. p;
        found = elim d.found [
          | inl (i, z) ↦ inr (z ∙ ap (through d.into) e ∙ through-under d.into (x + 1) (sought (x + 1) A j))
          | inr z ↦ inr (z ∙ ap (λ s. under l (through d.into s)) e ∙ under-under d.into l (x + 1) (sought (x + 1) A j))
        ];
      }

  -- the symbol is here
  abbrev Ends : Type 0
  Ends = (sought x d.part j ≡ nowhere) ⊎ ((p : Spot) × (sought x d.part j ≡ on_top p))

-- a step into a part
pub way-lower : {k : List ℕ} {at j x l y : ℕ} → x < j → x < length k → 7000 ≤ get_or k x 0 → Lowered k x j y → Ways k at j x l → Ways k at j y l
way-lower {k} {at} {j} {x} {l} {y} lt in-k lo c v =
    record {
      down = down-on k at j x l y l lt c.further (λ n. level-lower n k x l j lt in-k lo ∙ ap (λ z. level_from n k z l j) (sym c.is)) v.down;
      each = λ R w h. elim (v.each R w h) [ inl z ↦ inl z | inr d ↦ go R d ];
    }
  where
    Next : (R : Expr) → On k at R j x l → Expr → List ℕ → Type 0
    Next R d A u = d.part ≡ A → (sought at R j ≡ nowhere) ⊎ On k at R j y l

    two : (R : Expr) (d : On k at R j x l) (A B : Expr) (u : List ℕ) → Here k (x + 1) A (expr_words B ++ u) → fine_expr desk B → 7000 < get_or k x 0 → get_or k x 0 < 7003 → (f g : Spot → Spot)
        → (j < x + 1 + length (expr_words A) → sought x d.part j ≡ through f (sought (x + 1) A j))
        → (x + 1 + length (expr_words A) ≤ j → sought x d.part j ≡ through g (sought (x + 1 + length (expr_words A)) B j)) → On k at R j y l
    two R d A B u i o a b f g p q = side (leb (x + 1 + length (expr_words A)) j) refl
      where
        side : (t : Bool) → leb (x + 1 + length (expr_words A)) j ≡ t → On k at R j y l
        side true e =
            let n = leb-true (x + 1 + length (expr_words A)) j e in
            subst (λ m. On k at R j m l) (sym (c.second A B u i a b n)) (on-through d (x + 1 + length (expr_words A)) B u (second-of i o refl) g (q n))
        side false e =
            let n = leb-false (x + 1 + length (expr_words A)) j e in
            subst (λ m. On k at R j m l) (sym (c.first A B u i a b n)) (on-through d (x + 1) A (expr_words B ++ u) i f (p n))

    go : (R : Expr) (d : On k at R j x l) → (sought at R j ≡ nowhere) ⊎ On k at R j y l
    go R d =
        cases (Next R d)
        (λ z u e. inl (lost d (ap (λ A. sought x A j) e)))
        (λ z A B u i o e. inr (two R d A B u i o (omega arith) (omega arith) (λ p. in_left p B) (in_right A) (λ n. ap (λ A. sought x A j) e ∙ cat-left x A B j n) (λ n. ap (λ A. sought x A j) e ∙ cat-right x A B j n)))
        (λ z A B u i o e. inr (two R d A B u i o (omega arith) (omega arith) (λ p. in_first p B) (in_second A) (λ n. ap (λ A. sought x A j) e ∙ alt-left x A B j n) (λ n. ap (λ A. sought x A j) e ∙ alt-right x A B j n)))
        (λ z A u i e. inr (subst (λ m. On k at R j m l) (sym (c.star A d.beyond (subst (λ A. Here k x A d.beyond) e d.stands))) (on-through d (x + 1) A u i in_star (ap (λ A. sought x A j) e))))
        (λ f z b A u i e. absurd (omega arith))
        d.part d.beyond d.stands refl

-- a step into a symbol
pub way-under : {k : List ℕ} {at j x l : ℕ} → x < j → x < length k → get_or k x 0 < 7000 → Ways k at j x l → Ways k at j (x + 1) (x + 1)
way-under {k} {at} {j} {x} {l} lt in-k lo v =
    record {
      down = down-on k at j x l (x + 1) (x + 1) lt (omega arith) (λ n. level-symbol n k x l j lt in-k lo) v.down;
      each = λ R w h. elim (v.each R w h) [ inl z ↦ inl z | inr d ↦ go R d ];
    }
  where
    Next : (R : Expr) → On k at R j x l → Expr → List ℕ → Type 0
    Next R d A u = d.part ≡ A → (sought at R j ≡ nowhere) ⊎ On k at R j (x + 1) (x + 1)

    go : (R : Expr) (d : On k at R j x l) → (sought at R j ≡ nowhere) ⊎ On k at R j (x + 1) (x + 1)
    go R d =
        by_over (Next R d) lo (λ f z b A u i e. inr (on-under d A u i (ap (λ A. sought x A j) e ∙ over_below x f A j lt)))
        d.part d.beyond d.stands refl

-- at the end
different : {A : Type 0} → ◌≡◌ {A = ℕ} 0 1 → A
different z = absurd (omega arith)

leveled : {k : List ℕ} {at j x l : ℕ} → ((n : ℕ) → level_from n k x l j ≡ l) → ((R : Expr) (w : List ℕ) → Here k at R w → (d : On k at R j x l) → Ends d) → Ways k at j x l → Leveled k at j l
leveled {k} {at} {j} {x} {l} s f v = record { is = sym (s v.down.steps) ∙ v.down.same; top = λ R w h p e. at_top R w h p e; deeper = λ R w h m p e. at-below R w h m p e }
  where
    at_top : (R : Expr) (w : List ℕ) → Here k at R w → (p : Spot) → sought at R j ≡ on_top p → l ≡ at
    at_top R w h p e = elim (v.each R w h) [
      | inl z ↦ different cc
      | inr d ↦ elim (f R w h d) [
        | inl z ↦ let y = lost d z in different cc
        | inr (q, z) ↦ elim d.found [ inl (i, y) ↦ i | inr y ↦ let u = y ∙ ap (λ s. under l (through d.into s)) z in different cc ]
      ]
    ]

    at-below : (R : Expr) (w : List ℕ) → Here k at R w → (m : ℕ) (p : Spot) → sought at R j ≡ below m p → l ≡ m
    at-below R w h m p e = elim (v.each R w h) [
      | inl z ↦ different cc
      | inr d ↦ elim (f R w h d) [
        | inl z ↦ let y = lost d z in different cc
        | inr (q, z) ↦ elim d.found [ inl (i, y) ↦ let u = y ∙ ap (through d.into) z in different cc | inr y ↦ let u = y ∙ ap (λ s. under l (through d.into s)) z in cc ]
      ]
    ]

pub way_end : {k : List ℕ} {at j x l : ℕ} → j ≤ x → Ways k at j x l → Leveled k at j l
way_end {k} {at} {j} {x} {l} le v = leveled (λ n. level-stop n k x l j le) (λ R w h d. ends R d) v
  where
    ends : (R : Expr) (d : On k at R j x l) → Ends d
    ends R d = go d.part
      where
        before : (A : Expr) (n : ℕ) → x < n → sought n A j ≡ nowhere
        before A n h = none_before n A j (omega arith)

        go : (A : Expr) → (sought x A j ≡ nowhere) ⊎ ((p : Spot) × (sought x A j ≡ on_top p))
        go eps = inl refl
        go (cat a b) = inl (cat-left x a b j (omega arith) ∙ ap (through (λ p. in_left p b)) (before a (x + 1) (omega arith)))
        go (alt a b) = inl (alt-left x a b j (omega arith) ∙ ap (through (λ p. in_first p b)) (before a (x + 1) (omega arith)))
        go (star a) = inl (ap (through in_star) (before a (x + 1) (omega arith)))
        go (over f a) = here-or (eqb j x) refl
          where
            here-or : (t : Bool) → eqb j x ≡ t → (sought x (over f a) j ≡ nowhere) ⊎ ((p : Spot) × (sought x (over f a) j ≡ on_top p))
            here-or true e = inr (here f a, over-here x f a j (eqb-true j x e))
            here-or false e = let n = eqb-false j x e in inl (none_before x (over f a) j (omega arith))

pub way-past : {k : List ℕ} {at j x l : ℕ} → length k ≤ x → Ways k at j x l → Leveled k at j l
way-past {k} {at} {j} {x} {l} le v = leveled (λ n. level-past n k x l j le) (λ R w h d. past_end (λ A u. Ends d) le d.part d.beyond d.stands) v
