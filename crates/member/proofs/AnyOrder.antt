-- What may be left decides membership in any order: a term can be taken out of a hedge that, put in some order, is a member of each of several expressions
-- in a row, exactly where what remains is such a hedge of one of the rows that are left.
use Prim.Native.Nat.{ℕ, suc, ◌+◌, ◌≤◌}
use mathlib.Core.Path.{◌≡◌, refl, sym, ◌∙◌, ap}
use mathlib.Core.Logic.{◌⊎◌, inl, inr, ◌↔◌}
use mathlib.Core.Bool.{Bool, true, false}
use mathlib.Core.List.{List, [], ◌∷◌, ◌++◌, map}
use native.Mathlib.Omega.{arith}
use lib.Dec.{T, leb}
use borrow.Author.Tests.{leb-true, leb-false}
use Rattle.language.specs.declared.Sym.{Sym}
use Rattle.language.specs.Kinds.{pick}
use Rattle.language.specs.declared.Signature.{Signature}
use Rattle.language.specs.Trees.{Expr, eps, cat, alt, star, over}
use Rattle.meaning.specs.Complete.{Complete, nil, tree, ◌·◌, Draws, Shuffled, Same}
use Rattle.meaning.specs.Meaning.{Many, stop, more, Member}
use Rattle.meaning.proofs.Complete.{·-nil, ·-assoc}
use Rattle.meaning.proofs.Shuffles.{shuffled-refl, shuffled-draws, shuffled-trans, shuffled-sym, shuffled-front}
use Rattle.meaning.proofs.Same.{same-sym, same-nil, nil-no-tree, same_first}
use Rattle.rules.specs.Each.{Some}
use Rattle.rules.proofs.Each.{some-++, some-map, some-imp}
use Rattle.rules.proofs.Tests.{or_cases, or_left, or_right}
use Rattle.member.specs.AnyOrder.{left, left_of, some, breadth, shortest, shortest_of}

-- ---- in some order, with something beside

-- one tree more before both
pub shuffled-tree : (f : Sym) (c g h : Complete) → Shuffled g h → Shuffled (tree f c g) (tree f c h)
shuffled-tree f c g h s = (g, inl refl, s)

pub shuffled-behind : (u g h : Complete) → Shuffled g h → Shuffled (u · g) (u · h)
shuffled-behind nil g h s = s
shuffled-behind (tree f c u) g h s = shuffled-tree f c (u · g) (u · h) (shuffled-behind u g h s)

shuffled-swap : (u v : Complete) → Shuffled (u · v) (v · u)
shuffled-swap u v =
    let e : v · nil ≡ v = ·-nil v in
    let d : u · nil ≡ u = ·-nil u in
    rw (e, d) at (shuffled-front u v nil)

pub shuffled-beside : (g h v : Complete) → Shuffled g h → Shuffled (g · v) (h · v)
shuffled-beside g h v s = shuffled-trans (g · v) (v · g) (h · v) (shuffled-swap g v) (shuffled-trans (v · g) (v · h) (h · v) (shuffled-behind v g h s) (shuffled-swap v h))

-- a tree drawn from two in a row is drawn from one of them
draws-row : (f : Sym) (c u v r : Complete) → Draws f c (u · v) r
    → ((x : Complete) × Draws f c u x × (r ≡ x · v)) ⊎ ((x : Complete) × Draws f c v x × (r ≡ u · x))
draws-row f c nil v r p = inr (r, p, refl)
draws-row f c (tree g d u) v r (inl e) = let e₁ : tree f c u ≡ tree g d u = cc in let e₂ : r ≡ u · v = cc in inl (u, inl e₁, e₂)
draws-row f c (tree g d u) v r (inr (s, e, p)) = elim (draws-row f c u v s p) [
  | inl x ↦ inl (tree g d x.0, inr (x.0, refl, x.1), e ∙ ap (tree g d) x.2)
  | inr x ↦ inr (x.0, x.1, e ∙ ap (tree g d) x.2)
]

-- the tree f over c before r is, in some order, g: it is drawn from g, and r is what is left in some order
drawn-out : (f : Sym) (c r g : Complete) → Shuffled (tree f c r) g → (x : Complete) × Draws f c g x × Shuffled r x
drawn-out f c r g s =
    let (x, p, t) = shuffled-draws g (tree f c r) f c r (shuffled-sym (tree f c r) g s) (inl refl) in
    (x, p, shuffled-sym x r t)

module _ (σ : Signature) where
  -- a hedge of each, in a row
  abbrev pub Row : List Expr → Complete → Type 0
  Row [] g = g ≡ nil
  Row (R ∷ rs) g = (u : Complete) × (v : Complete) × (g ≡ u · v) × Member σ R u × Row rs v

  -- and in some order
  abbrev pub InSomeOrder : List Expr → Complete → Type 0
  InSomeOrder rs g = (e : Complete) × Shuffled g e × Row rs e

  row-join : (qs rs : List Expr) (g h : Complete) → Row qs g → Row rs h → Row (qs ++ rs) (g · h)
  row-join [] rs g h p q = rw p q
  row-join (R ∷ qs) rs g h (u, v, e, m, p) q = (u, v · h, ap (λ k. k · h) e ∙ ·-assoc u v h, m, row-join qs rs v h p q)

  row_cut : (qs rs : List Expr) (g : Complete) → Row (qs ++ rs) g → (u : Complete) × (v : Complete) × (g ≡ u · v) × Row qs u × Row rs v
  row_cut [] rs g p = (nil, g, refl, refl, p)
  row_cut (R ∷ qs) rs g (u, v, e, m, p) =
      let (x, y, d, q, s) = row_cut qs rs v p in
      (u · x, y, e ∙ ap (λ k. u · k) d ∙ sym (·-assoc u x y), (u, x, refl, m, q), s)

  pub row_one : (R : Expr) (g : Complete) → Member σ R g → Row (R ∷ []) g
  row_one R g m = (g, nil, sym (·-nil g), m, refl)

  pub one-row : (R : Expr) (g : Complete) → Row (R ∷ []) g → Member σ R g
  one-row R g (u, v, e, m, p) = rw (e, p, ·-nil u) m

  -- one of the rows, cut before rs
  rows_cut : (rs : List Expr) (qs : List (List Expr)) (r : Complete) → Some (λ q. Row q r) (map (λ (q : List Expr). q ++ rs) qs)
      → (u : Complete) × (v : Complete) × (r ≡ u · v) × Some (λ q. Row q u) qs × Row rs v
  rows_cut rs [] r z = absurd z
  rows_cut rs (q ∷ qs) r (inl y) = let (u, v, d, k, l) = row_cut q rs r y in (u, v, d, inl k, l)
  rows_cut rs (q ∷ qs) r (inr y) = let (u, v, d, k, l) = rows_cut rs qs r y in (u, v, d, inr k, l)

  -- or behind R
  rows_behind : (R : Expr) (qs : List (List Expr)) (r : Complete) → Some (λ q. Row q r) (map (λ (q : List Expr). R ∷ q) qs)
      → (u : Complete) × (v : Complete) × (r ≡ u · v) × Member σ R u × Some (λ q. Row q v) qs
  rows_behind R [] r z = absurd z
  rows_behind R (q ∷ qs) r (inl (u, v, d, m, k)) = (u, v, d, m, inl k)
  rows_behind R (q ∷ qs) r (inr y) = let (u, v, d, m, k) = rows_behind R qs r y in (u, v, d, m, inr k)

  module _ (p : Sym → Expr → Bool) (f : Sym) (c : Complete) where
    -- ---- a term taken out

    module _ (yes← : (g : Sym) (R : Expr) → Member σ (over g R) (tree f c nil) → T (p g R)) where
      picked-in : (b : Bool) (P : List Expr → Type 0) → T b → P [] → Some P (pick b ([] ∷ []) [])
      picked-in true P t q = inl q
      picked-in false P t q = absurd t

      single : (g : Sym) (S : Expr) (e r : Complete) → Member σ (over g S) e → Draws f c e r → Some (λ q. InSomeOrder q r) (pick (p g S) ([] ∷ []) [])
      single g S nil r (d, m, x) w = absurd w
      single g S (tree a b k) r (d, m, x) w =
          let (first, rest) = (same_first σ a g b d k nil).0 m in
          drawn (same-nil σ k rest) first w
        where
          drawn : k ≡ nil → Same σ (tree a b nil) (tree g d nil) → Draws f c (tree a b k) r → Some (λ q. InSomeOrder q r) (pick (p g S) ([] ∷ []) [])
          drawn z first (inl e) =
              let e₁ : a ≡ f = cc in let e₂ : b ≡ c = cc in let e₃ : r ≡ k = cc in
              picked-in (p g S) (λ q. InSomeOrder q r) (yes← g S (d, rw (e₁, e₂) at first, x)) (nil, e₃ ∙ z, refl)
          drawn z first (inr (s, e, y)) = absurd (rw z at y)

      -- with u before, or v behind
      behind : (u x : Complete) (a : Expr) (qs : List (List Expr)) → Member σ a u → Some (λ q. InSomeOrder q x) qs → Some (λ q. InSomeOrder q (u · x)) (map (λ (q : List Expr). a ∷ q) qs)
      behind u x a qs m s =
          (some-map (λ q. InSomeOrder q (u · x)) (λ (q : List Expr). a ∷ q) qs).1
          (some-imp (λ q. InSomeOrder q x) (λ q. InSomeOrder (a ∷ q) (u · x)) (λ q (e, t, y). (u · e, shuffled-behind u x e t, (u, e, refl, m, y))) qs s)

      before : (x v : Complete) (rs : List Expr) (qs : List (List Expr)) → Row rs v → Some (λ q. InSomeOrder q x) qs → Some (λ q. InSomeOrder q (x · v)) (map (λ (q : List Expr). q ++ rs) qs)
      before x v rs qs m s =
          (some-map (λ q. InSomeOrder q (x · v)) (λ (q : List Expr). q ++ rs) qs).1
          (some-imp (λ q. InSomeOrder q x) (λ q. InSomeOrder (q ++ rs) (x · v)) (λ q (e, t, y). (e · v, shuffled-beside x e v t, row-join q rs e v y m)) qs s)

      -- a member more of a star goes to its others
      absorbed : (a : Expr) (u x : Complete) (qs : List (List Expr)) → Member σ a u → Some (λ q. InSomeOrder q x) (map (λ (q : List Expr). q ++ (star a ∷ [])) qs)
          → Some (λ q. InSomeOrder q (u · x)) (map (λ (q : List Expr). q ++ (star a ∷ [])) qs)
      absorbed a u x qs m s =
          (some-map (λ q. InSomeOrder q (u · x)) (λ (q : List Expr). q ++ (star a ∷ [])) qs).1
          (some-imp (λ q. InSomeOrder (q ++ (star a ∷ [])) x) (λ q. InSomeOrder (q ++ (star a ∷ [])) (u · x)) (λ q z. one q z)
          qs ((some-map (λ q. InSomeOrder q x) (λ (q : List Expr). q ++ (star a ∷ [])) qs).0 s))
        where
          one : (q : List Expr) → InSomeOrder (q ++ (star a ∷ [])) x → InSomeOrder (q ++ (star a ∷ [])) (u · x)
          one q (e, t, y) =
              let (s, w, d, k, l) = row_cut q (star a ∷ []) e y in (
                s · (u · w),
                shuffled-trans (u · x) (u · (s · w)) (s · (u · w)) (shuffled-behind u x (s · w) (rw d at t)) (shuffled-front u s w),
                row-join q (star a ∷ []) s (u · w) k (row_one (star a) (u · w) (more {u = u} {v = w} refl m (one-row (star a) w l))),
              )

      many-taken : (a : Expr) → ((e r : Complete) → Member σ a e → Draws f c e r → Some (λ q. InSomeOrder q r) (left p a))
          → {e : Complete} (r : Complete) → Many (Member σ a) e → Draws f c e r → Some (λ q. InSomeOrder q r) (map (λ (q : List Expr). q ++ (star a ∷ [])) (left p a))
      many-taken a on r (stop d) w = absurd (rw d at w)
      many-taken a on r (more {u = u} {v = v} d m k) w = elim (draws-row f c u v r (rw d at w)) [
        | inl x ↦ rw x.2 (before x.0 v (star a ∷ []) (left p a) (row_one (star a) v k) (on u x.0 m x.1))
        | inr x ↦ rw x.2 (absorbed a u x.0 (left p a) m (many-taken a on x.0 k x.1))
      ]

      taken : (R : Expr) (e r : Complete) → Member σ R e → Draws f c e r → Some (λ q. InSomeOrder q r) (left p R)
      taken eps e r m w = absurd (rw m at w)
      taken (cat a b) e r (u, v, d, m, n) w =
          (some-++ (λ q. InSomeOrder q r) (map (λ (q : List Expr). q ++ (b ∷ [])) (left p a)) (map (λ (q : List Expr). a ∷ q) (left p b))).1
          (elim (draws-row f c u v r (rw d at w)) [
            | inl x ↦ inl (rw x.2 (before x.0 v (b ∷ []) (left p a) (row_one b v n) (taken a u x.0 m x.1)))
            | inr x ↦ inr (rw x.2 (behind u x.0 a (left p b) m (taken b v x.0 n x.1)))
          ])
      taken (alt a b) e r (inl m) w = (some-++ (λ q. InSomeOrder q r) (left p a) (left p b)).1 (inl (taken a e r m w))
      taken (alt a b) e r (inr m) w = (some-++ (λ q. InSomeOrder q r) (left p a) (left p b)).1 (inr (taken b e r m w))
      taken (star a) e r m w = many-taken a (taken a) r m w
      taken (over g S) e r m w = single g S e r m w

      taken_of : (rs : List Expr) (e r : Complete) → Row rs e → Draws f c e r → Some (λ q. InSomeOrder q r) (left_of p rs)
      taken_of [] e r m w = absurd (rw m at w)
      taken_of (R ∷ rs) e r (u, v, d, m, n) w =
          (some-++ (λ q. InSomeOrder q r) (map (λ (q : List Expr). q ++ rs) (left p R)) (map (λ (q : List Expr). R ∷ q) (left_of p rs))).1
          (elim (draws-row f c u v r (rw d at w)) [
            | inl x ↦ inl (rw x.2 (before x.0 v rs (left p R) n (taken R u x.0 m x.1)))
            | inr x ↦ inr (rw x.2 (behind u x.0 R (left_of p rs) m (taken_of rs v x.0 n x.1)))
          ])

      pub any_left : (rs : List Expr) (r : Complete) → InSomeOrder rs (tree f c r) → Some (λ q. InSomeOrder q r) (left_of p rs)
      any_left rs r (e, s, m) =
          let (x, w, t) = drawn-out f c r e s in
          some-imp (λ q. InSomeOrder q x) (λ q. InSomeOrder q r) (λ q (k, z, y). (k, shuffled-trans r x k t z, y)) (left_of p rs) (taken_of rs e x m w)

    -- ---- and put back

    module _ (yes→ : (g : Sym) (R : Expr) → T (p g R) → Member σ (over g R) (tree f c nil)) where
      -- some row that is left has r: the whole has the term and r in some order
      abbrev Back : (Complete → Type 0) → Complete → Type 0
      Back P r = (e : Complete) × P e × Shuffled (tree f c r) e

      picked-out : (b : Bool) (P : List Expr → Type 0) → Some P (pick b ([] ∷ []) []) → T b × P []
      picked-out true P (inl q) = (tt, q)
      picked-out true P (inr z) = absurd z
      picked-out false P z = absurd z

      -- a hedge behind, or before
      back-behind : (P Q : Complete → Type 0) (s w : Complete) → ((e : Complete) → P e → Q (e · w)) → Back P s → Back Q (s · w)
      back-behind P Q s w h (e, m, t) = (e · w, h e m, shuffled-beside (tree f c s) e w t)

      back-before : (P Q : Complete → Type 0) (u w : Complete) → ((e : Complete) → P e → Q (u · e)) → Back P w → Back Q (u · w)
      back-before P Q u w h (e, m, t) =
          (u · e, h e m, shuffled-trans (tree f c (u · w)) (u · tree f c w) (u · e) (shuffled-sym (u · tree f c w) (tree f c (u · w)) (shuffled-front u (tree f c nil) w)) (shuffled-behind u (tree f c w) e t))

      put_back : (R : Expr) (r : Complete) → Some (λ q. Row q r) (left p R) → Back (Member σ R) r
      put_back eps r s = absurd s
      put_back (cat a b) r s = elim ((some-++ (λ q. Row q r) (map (λ (q : List Expr). q ++ (b ∷ [])) (left p a)) (map (λ (q : List Expr). a ∷ q) (left p b))).0 s) [
        | inl x ↦
            let (u, v, d, k, l) = rows_cut (b ∷ []) (left p a) r x in
            rw d (back-behind (Member σ a) (Member σ (cat a b)) u v (λ e m. (e, v, refl, m, one-row b v l)) (put_back a u k))
        | inr x ↦
            let (u, v, d, m, k) = rows_behind a (left p b) r x in
            rw d (back-before (Member σ b) (Member σ (cat a b)) u v (λ e n. (u, e, refl, m, n)) (put_back b v k))
      ]
      put_back (alt a b) r s = elim ((some-++ (λ q. Row q r) (left p a) (left p b)).0 s) [
        | inl x ↦ let (e, m, t) = put_back a r x in (e, inl m, t)
        | inr x ↦ let (e, m, t) = put_back b r x in (e, inr m, t)
      ]
      put_back (star a) r s =
          let (u, v, d, k, l) = rows_cut (star a ∷ []) (left p a) r s in
          rw d (back-behind (Member σ a) (Member σ (star a)) u v (λ e m. more {u = e} {v = v} refl m (one-row (star a) v l)) (put_back a u k))
      put_back (over g S) r s =
          let (t, e) = picked-out (p g S) (λ q. Row q r) s in
          (tree f c nil, yes→ g S t, rw e (shuffled-refl (tree f c nil)))

      put-back-of : (rs : List Expr) (r : Complete) → Some (λ q. Row q r) (left_of p rs) → Back (Row rs) r
      put-back-of [] r s = absurd s
      put-back-of (R ∷ rs) r s = elim ((some-++ (λ q. Row q r) (map (λ (q : List Expr). q ++ rs) (left p R)) (map (λ (q : List Expr). R ∷ q) (left_of p rs))).0 s) [
        | inl x ↦
            let (u, v, d, k, l) = rows_cut rs (left p R) r x in
            rw d (back-behind (Member σ R) (Row (R ∷ rs)) u v (λ e m. (e, v, refl, m, l)) (put_back R u k))
        | inr x ↦
            let (u, v, d, m, k) = rows_behind R (left_of p rs) r x in
            rw d (back-before (Row rs) (Row (R ∷ rs)) u v (λ e n. (u, e, refl, m, n)) (put-back-of rs v k))
      ]

      pub left-any : (rs : List Expr) (r : Complete) → Some (λ q. InSomeOrder q r) (left_of p rs) → InSomeOrder rs (tree f c r)
      left-any rs r s =
          let (k, t, m) = one (left_of p rs) s in
          let (e, n, z) = put-back-of rs k m in
          (e, shuffled-trans (tree f c r) (tree f c k) e (shuffled-tree f c r k t) z, n)
        where
          one : (qs : List (List Expr)) → Some (λ q. InSomeOrder q r) qs → (k : Complete) × Shuffled r k × Some (λ q. Row q k) qs
          one [] z = absurd z
          one (q ∷ qs) (inl (k, t, m)) = (k, t, inl m)
          one (q ∷ qs) (inr y) = let (k, t, m) = one qs y in (k, t, inr m)

-- ---- tests of lists

pub some_is : {A : Type 0} (t : A → Bool) (P : A → Type 0) → ((x : A) → T (t x) ↔ P x) → (xs : List A) → T (some t xs) ↔ Some P xs
some_is t P h [] = (λ z. z, λ z. z)
some_is t P h (x ∷ xs) = (
  λ s. elim (or_cases (t x) (some t xs) s) [ inl y ↦ inl ((h x).0 y) | inr y ↦ inr ((some_is t P h xs).0 y) ],
  λ s. elim s [ inl y ↦ or_left (t x) (some t xs) ((h x).1 y) | inr y ↦ or_right (t x) (some t xs) ((some_is t P h xs).1 y) ],
)

-- ---- too few terms

breadth-· : (g h : Complete) → breadth (g · h) ≡ breadth g + breadth h
breadth-· nil h = omega arith
breadth-· (tree f c r) h = omega (arith, breadth-· r h)

draws-breadth : (f : Sym) (c g r : Complete) → Draws f c g r → breadth g ≡ suc (breadth r)
draws-breadth f c nil r p = absurd p
draws-breadth f c (tree a b g) r (inl e) = ap breadth (sym e)
draws-breadth f c (tree a b g) r (inr (s, e, p)) = omega (arith, draws-breadth f c g s p, ap breadth e)

shuffled-breadth : (g h : Complete) → Shuffled g h → breadth g ≡ breadth h
shuffled-breadth g nil p = ap breadth p
shuffled-breadth g (tree f c h) (r, p, m) = omega (arith, draws-breadth f c g r p, shuffled-breadth r h m)

-- the lesser of two is at most each
lesser : (m n : ℕ) → (pick (leb m n) m n ≤ m) × (pick (leb m n) m n ≤ n)
lesser m n = go (leb m n) refl
  where
    go : (t : Bool) → leb m n ≡ t → (pick t m n ≤ m) × (pick t m n ≤ n)
    go true e = (omega arith, leb-true m n e)
    go false e = (omega (arith, leb-false m n e), omega arith)

module _ (σ : Signature) where
  same-breadth : (g h : Complete) → Same σ g h → breadth g ≡ breadth h
  same-breadth nil nil m = refl
  same-breadth nil (tree f c h) m = absurd (nil-no-tree σ f c h m)
  same-breadth (tree f c g) nil m = absurd (nil-no-tree σ f c g (same-sym σ _ _ m))
  same-breadth (tree f c g) (tree f' d h) m = ap suc (same-breadth g h ((same_first σ f f' c d g h).0 m).1)

  -- a member has at least as many terms as the shortest
  member-short : (R : Expr) (g : Complete) → Member σ R g → shortest R ≤ breadth g
  member-short eps g m = omega arith
  member-short (cat a b) g (u, v, e, m, n) = omega (arith, member-short a u m, member-short b v n, breadth-· u v, ap breadth e)
  member-short (alt a b) g (inl m) = omega (arith, (lesser (shortest a) (shortest b)).0, member-short a g m)
  member-short (alt a b) g (inr m) = omega (arith, (lesser (shortest a) (shortest b)).1, member-short b g m)
  member-short (star a) g m = omega arith
  member-short (over f a) g (c, s, m) = omega (arith, same-breadth g (tree f c nil) s)

  row-short : (rs : List Expr) (g : Complete) → Row σ rs g → shortest_of rs ≤ breadth g
  row-short [] g m = omega arith
  row-short (R ∷ rs) g (u, v, e, m, n) = omega (arith, member-short R u m, row-short rs v n, breadth-· u v, ap breadth e)

  pub order-short : (rs : List Expr) (g : Complete) → InSomeOrder σ rs g → shortest_of rs ≤ breadth g
  order-short rs g (e, s, m) = omega (arith, row-short rs e m, shuffled-breadth g e s)
