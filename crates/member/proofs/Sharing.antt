-- A hedge is, in some order, a member of an expression exactly where its terms can be put on the expression's symbols so that the numbers are those of one member.
use Prim.Native.Nat.{ℕ, zero, suc, ◌+◌, ◌<◌, ◌≤◌}
use mathlib.Core.Path.{◌≡◌, refl, sym, ◌∙◌, ap}
use mathlib.Core.Logic.{◌⊎◌, inl, inr, ◌↔◌}
use mathlib.Core.List.{List, [], ◌∷◌}
use native.Mathlib.Omega.{arith}
use native.Mathlib.Decide.{ℕ_discrete}
use Rattle.language.specs.declared.Sym.{Sym}
use Rattle.language.specs.declared.Signature.{Signature}
use Rattle.language.specs.Trees.{Expr, eps, cat, alt, star, over}
use Rattle.meaning.specs.Complete.{Complete, nil, tree, ◌·◌, Draws, Shuffled}
use Rattle.meaning.specs.Meaning.{Many, stop, more, Member}
use Rattle.meaning.proofs.Complete.{·-nil, ·-assoc}
use Rattle.meaning.proofs.Shuffles.{shuffled-refl, shuffled-trans, shuffled-sym, shuffled-front}
use Rattle.meaning.proofs.Same.{same-nil, nil-no-tree, same_first}
use Rattle.rules.specs.Each.{Each}
use Rattle.any_order.specs.Places.{size_e}
use Rattle.any_order.specs.Sharing.{Counts, bump, Sums, Good, none}
use Rattle.any_order.proofs.Shares.{Like, Respects, sums-within, good-like, bump-like, bump-swap, bump-same, bump-other}
use Rattle.member.specs.Leaves.{Leaf, Fits, Terms}
use Rattle.member.proofs.AnyOrder.{shuffled-tree, shuffled-behind, shuffled-beside}

abbrev pub Fit : Type 1
Fit = Sym → Complete → ℕ → Type 0

pub leaf-within : (R : Expr) (at p : ℕ) (g : Sym) (S : Expr) → Leaf R at p g S → (at ≤ p) × (p < at + size_e R)
leaf-within eps at p g S x = absurd x
leaf-within (cat a b) at p g S (inl x) = let (l, u) = leaf-within a (at + 1) p g S x in (omega arith, omega arith)
leaf-within (cat a b) at p g S (inr x) = let (l, u) = leaf-within b (at + 1 + size_e a) p g S x in (omega arith, omega arith)
leaf-within (alt a b) at p g S (inl x) = let (l, u) = leaf-within a (at + 1) p g S x in (omega arith, omega arith)
leaf-within (alt a b) at p g S (inr x) = let (l, u) = leaf-within b (at + 1 + size_e a) p g S x in (omega arith, omega arith)
leaf-within (star a) at p g S x = let (l, u) = leaf-within a (at + 1) p g S x in (omega arith, omega arith)
leaf-within (over f a) at p g S (e, x, y) = (omega arith, omega arith)

-- ---- terms put down, one after another

-- from the numbers c to the numbers x
abbrev Adds : Fit → Complete → Counts → Counts → Type 0
Adds F nil c x = Like c x
Adds F (tree f d r) c x = (p : ℕ) × F f d p × Adds F r (bump c p) x

adds-like : (F : Fit) (e : Complete) (c d x : Counts) → Like c d → Adds F e c x → Adds F e d x
adds-like F nil c d x h a = λ q. sym (h q) ∙ a q
adds-like F (tree f b r) c d x h (p, y, a) = (p, y, adds-like F r (bump c p) (bump d p) x (bump-like c d p h) a)

adds-· : (F : Fit) (u v : Complete) (c x y : Counts) → Adds F u c x → Adds F v x y → Adds F (u · v) c y
adds-· F nil v c x y a b = adds-like F v x c y (λ q. sym (a q)) b
adds-· F (tree f d u) v c x y (p, z, a) b = (p, z, adds-· F u v (bump c p) x y a b)

adds-imp : (F H : Fit) → ((f : Sym) (d : Complete) (p : ℕ) → F f d p → H f d p) → (e : Complete) (c x : Counts) → Adds F e c x → Adds H e c x
adds-imp F H h nil c x a = a
adds-imp F H h (tree f d r) c x (p, y, a) = (p, h f d p y, adds-imp F H h r (bump c p) x a)

-- other places keep their numbers
adds-outside : (F : Fit) (lo hi : ℕ) → ((f : Sym) (d : Complete) (p : ℕ) → F f d p → (lo ≤ p) × (p < hi)) → (e : Complete) (c x : Counts) → Adds F e c x
    → (q : ℕ) → (q < lo) ⊎ (hi ≤ q) → c q ≡ x q
adds-outside F lo hi h nil c x a q o = a q
adds-outside F lo hi h (tree f d r) c x (p, y, a) q o =
    let (l, u) = h f d p y in
    sym (bump-other c p q (λ e. elim o [ inl z ↦ omega arith | inr z ↦ omega arith ])) ∙ adds-outside F lo hi h r (bump c p) x a q o

terms-of : (F : Fit) (G : Counts → Type 0) → Respects G → (e : Complete) (c x : Counts) → Adds F e c x → G x → Terms F G e c
terms-of F G g nil c x a y = g x c (λ q. sym (a q)) y
terms-of F G g (tree f d r) c x (p, z, a) y = (p, z, terms-of F G g r (bump c p) x a y)

pub terms-like : (F : Fit) (G : Counts → Type 0) → Respects G → (e : Complete) → Respects (Terms F G e)
terms-like F G g nil c d h y = g c d h y
terms-like F G g (tree f b r) c d h (p, z, y) = (p, z, terms-like F G g r (bump c p) (bump d p) (bump-like c d p h) y)

-- the order in which they are put down does not matter
terms-draw : (F : Fit) (G : Counts → Type 0) → Respects G → (f : Sym) (d : Complete) (p : ℕ) → F f d p → (g r : Complete) → Draws f d g r → (c : Counts) → Terms F G r (bump c p) → Terms F G g c
terms-draw F G g f d p y nil r w c t = absurd w
terms-draw F G g f d p y (tree a b k) r (inl e) c t =
    let e₁ : a ≡ f = cc in let e₂ : b ≡ d = cc in let e₃ : k ≡ r = cc in
    (p, rw (e₁, e₂) y, rw e₃ t)
terms-draw F G g f d p y (tree a b k) r (inr (s, e, w)) c t = go (λ q. terms-draw F G g f d p y k s w (bump c q)) (rw e at t)
  where
    go : ((q : ℕ) → Terms F G s (bump (bump c q) p) → Terms F G k (bump c q)) → Terms F G (tree a b s) (bump c p) → Terms F G (tree a b k) c
    go on (q, z, u) = (q, z, on q (terms-like F G g s (bump (bump c p) q) (bump (bump c q) p) (bump-swap c p q) u))

terms-shuffled : (F : Fit) (G : Counts → Type 0) → Respects G → (g e : Complete) → Shuffled g e → (c : Counts) → Terms F G e c → Terms F G g c
terms-shuffled F G y g nil s c t = rw s t
terms-shuffled F G y g (tree f d k) (r, w, s) c (p, z, t) = terms-draw F G y f d p z g r w c (terms-shuffled F G y r k s (bump c p) t)

-- ---- n members in a row

abbrev Times : (Complete → Type 0) → ℕ → Complete → Type 0
Times P zero e = e ≡ nil
Times P (suc n) e = (u : Complete) × (v : Complete) × (e ≡ u · v) × P u × Times P n v

times-moved : (P : Complete → Type 0) (n m : ℕ) (e : Complete) → n ≡ m → Times P n e → Times P m e
times-moved P n m e z t = rw z at t

times-one : (P : Complete → Type 0) (e : Complete) → Times P 1 e → P e
times-one P e (u, v, d, m, z) = let k : e ≡ u = d ∙ rw z (·-nil u) in rw k m

many-of : (P : Complete → Type 0) (n : ℕ) (e : Complete) → Times P n e → Many P e
many-of P zero e t = stop t
many-of P (suc n) e (u, v, d, m, t) = more {u = u} {v = v} d m (many-of P n v t)

nils : (P : Complete → Type 0) (n : ℕ) → Times (Many P) n nil
nils P zero = refl
nils P (suc n) = (nil, nil, refl, stop refl, nils P n)

star-times : (P : Complete → Type 0) (i n : ℕ) (e : Complete) → (0 < i → 0 < n) → Times P i e → Times (Many P) n e
star-times P zero zero e z t = t
star-times P (suc i) zero e z t = absurd (omega (arith, z (omega arith)))
star-times P i (suc n) e z t = (e, nil, sym (·-nil e), many-of P i e t, nils P n)

-- ---- placed terms

record Put : Type 0 where
  pub f : Sym
  pub d : Complete
  pub p : ℕ

abbrev hedge_of : List Put → Complete
hedge_of [] = nil
hedge_of (x ∷ L) = tree x.f x.d (hedge_of L)

abbrev count : List Put → Counts
count [] = none
count (x ∷ L) = bump (count L) x.p

record Listed (F : Fit) (G : Counts → Type 0) (g : Complete) (c : Counts) : Type 0 where
  pub L : List Put
  pub hedge : hedge_of L ≡ g
  pub fits : Each (λ (t : Put). F t.f t.d t.p) L
  pub x : Counts
  pub good : G x
  pub sum : (q : ℕ) → x q ≡ c q + count L q

list_of : (F : Fit) (G : Counts → Type 0) (g : Complete) (c : Counts) → Terms F G g c → Listed F G g c
list_of F G nil c t = record { L = []; hedge = refl; fits = tt; x = c; good = t; sum = λ q. omega arith }
list_of F G (tree f d r) c (p, y, t) = go (list_of F G r (bump c p) t)
  where
    go : Listed F G r (bump c p) → Listed F G (tree f d r) c
    go s = record {
      L = record { f = f; d = d; p = p } ∷ s.L;
      hedge = ap (tree f d) s.hedge;
      fits = (y, s.fits);
      x = s.x;
      good = s.good;
      sum = λ q. by q (ℕ_discrete q p);
    }
      where
        by : (q : ℕ) → Dec (q ≡ p) → s.x q ≡ c q + bump (count s.L) p q
        by q (yes e) =
            let a : bump c p q ≡ suc (c q) = rw e (bump-same c p) in
            let b : bump (count s.L) p q ≡ suc (count s.L q) = rw e (bump-same (count s.L) p) in
            omega (arith, s.sum q)
        by q (no n) = omega (arith, s.sum q, bump-other c p q n, bump-other (count s.L) p q n)

module _ (σ : Signature) where
  -- ---- a member's terms, put down

  record Added (R : Expr) (at : ℕ) (e : Complete) (c : Counts) (n : ℕ) : Type 0 where
    pub x : Counts
    pub adds : Adds (Fits σ R at) e c x
    pub sums : Sums R at x n

  fits-within : (R : Expr) (at : ℕ) (f : Sym) (d : Complete) (p : ℕ) → Fits σ R at f d p → (at ≤ p) × (p < at + size_e R)
  fits-within R at f d p (g, S, x, m) = leaf-within R at p g S x

  many-added : (a : Expr) (at : ℕ) → ((e : Complete) → Member σ a e → (c : Counts) (n : ℕ) → Sums a at c n → Added a at e c (suc n))
      → {e : Complete} → Many (Member σ a) e → (c : Counts) (n : ℕ) → Sums a at c n → (m : ℕ) × Added a at e c m
  many-added a at on (stop d) c n s = (n, record { x = c; adds = rw d (λ q. refl); sums = s })
  many-added a at on (more {u = u} {v = v} d m k) c n s =
      let r = on u m c n s in
      let (i, t) = many-added a at on k r.x (suc n) r.sums in
      (i, record { x = t.x; adds = rw d (adds-· (Fits σ a at) u v c r.x t.x r.adds t.adds); sums = t.sums })

  added : (R : Expr) (at : ℕ) (e : Complete) → Member σ R e → (c : Counts) (n : ℕ) → Sums R at c n → Added R at e c (suc n)
  added eps at e m c n s = record { x = c; adds = rw m (λ q. refl); sums = tt }
  added (cat a b) at e (u, v, d, m, k) c n (s, t) =
      let r = added a (at + 1) u m c n s in
      let t' = sums-within b (at + 1 + size_e a) c r.x n (λ q l h. adds-outside (Fits σ a (at + 1)) (at + 1) (at + 1 + size_e a) (fits-within a (at + 1)) u c r.x r.adds q (inr l)) t in
      let w = added b (at + 1 + size_e a) v k r.x n t' in
      let s' = sums-within a (at + 1) r.x w.x (suc n)
      (λ q l h. adds-outside (Fits σ b (at + 1 + size_e a)) (at + 1 + size_e a) (at + 1 + size_e a + size_e b) (fits-within b (at + 1 + size_e a)) v r.x w.x w.adds q (inl h)) r.sums in
      record {
        x = w.x;
        adds = rw d (adds-· (Fits σ (cat a b) at) u v c r.x w.x
            (adds-imp (Fits σ a (at + 1)) (Fits σ (cat a b) at) (λ f d p (g, S, x, y). (g, S, inl x, y)) u c r.x r.adds)
            (adds-imp (Fits σ b (at + 1 + size_e a)) (Fits σ (cat a b) at) (λ f d p (g, S, x, y). (g, S, inr x, y)) v r.x w.x w.adds));
        sums = (s', w.sums);
      }
  added (alt a b) at e (inl m) c n (i, j, z, s, t) =
      let r = added a (at + 1) e m c i s in
      let t' = sums-within b (at + 1 + size_e a) c r.x j (λ q l h. adds-outside (Fits σ a (at + 1)) (at + 1) (at + 1 + size_e a) (fits-within a (at + 1)) e c r.x r.adds q (inr l)) t in
      record {
        x = r.x;
        adds = adds-imp (Fits σ a (at + 1)) (Fits σ (alt a b) at) (λ f d p (g, S, x, y). (g, S, inl x, y)) e c r.x r.adds;
        sums = (suc i, j, omega arith, r.sums, t');
      }
  added (alt a b) at e (inr m) c n (i, j, z, s, t) =
      let r = added b (at + 1 + size_e a) e m c j t in
      let s' = sums-within a (at + 1) c r.x i
      (λ q l h. adds-outside (Fits σ b (at + 1 + size_e a)) (at + 1 + size_e a) (at + 1 + size_e a + size_e b) (fits-within b (at + 1 + size_e a)) e c r.x r.adds q (inl h)) s in
      record {
        x = r.x;
        adds = adds-imp (Fits σ b (at + 1 + size_e a)) (Fits σ (alt a b) at) (λ f d p (g, S, x, y). (g, S, inr x, y)) e c r.x r.adds;
        sums = (i, suc j, omega arith, s', r.sums);
      }
  added (star a) at e m c n (i, z, s) =
      let (j, r) = many-added a (at + 1) (added a (at + 1)) m c i s in
      record { x = r.x; adds = r.adds; sums = (j, (λ _. omega arith), r.sums) }
  added (over g S) at nil (b, y, m) c n s = absurd (nil-no-tree σ g b nil y)
  added (over g S) at (tree f d k) (b, y, m) c n s =
      let (first, rest) = (same_first σ f g d b k nil).0 y in
      let z = same-nil σ k rest in
      record {
        x = bump c at;
        adds = (at, (g, S, (refl, refl, refl), (b, first, m)), rw z (λ q. refl));
        sums = bump-same c at ∙ ap suc s;
      }

  zero-sums : (R : Expr) (at : ℕ) → Sums R at none 0
  zero-sums eps at = tt
  zero-sums (cat a b) at = (zero-sums a (at + 1), zero-sums b (at + 1 + size_e a))
  zero-sums (alt a b) at = (0, 0, refl, zero-sums a (at + 1), zero-sums b (at + 1 + size_e a))
  zero-sums (star a) at = (0, (λ z. z), zero-sums a (at + 1))
  zero-sums (over g S) at = refl

  -- ---- placed terms in two parts

  abbrev Either : Expr → Expr → ℕ → Put → Type 0
  Either a b at t = (g : Sym) × (S : Expr) × (Leaf a (at + 1) t.p g S ⊎ Leaf b (at + 1 + size_e a) t.p g S) × Member σ (over g S) (tree t.f t.d nil)

  abbrev All : Expr → ℕ → List Put → Type 0
  All R at L = Each (λ (t : Put). Fits σ R at t.f t.d t.p) L

  record Parts (a b : Expr) (at : ℕ) (L : List Put) : Type 0 where
    pub A : List Put
    pub B : List Put
    pub order : Shuffled (hedge_of L) (hedge_of A · hedge_of B)
    pub left : All a (at + 1) A
    pub right : All b (at + 1 + size_e a) B
    pub low : (q : ℕ) → q < at + 1 + size_e a → count A q ≡ count L q
    pub high : (q : ℕ) → at + 1 + size_e a ≤ q → count B q ≡ count L q

  parts : (a b : Expr) (at : ℕ) (L : List Put) → Each (Either a b at) L → Parts a b at L
  parts a b at [] t = record { A = []; B = []; order = refl; left = tt; right = tt; low = λ q u. refl; high = λ q u. refl }
  parts a b at (x ∷ L) ((g, S, w, m), t) = go w (parts a b at L t)
    where
      go : Leaf a (at + 1) x.p g S ⊎ Leaf b (at + 1 + size_e a) x.p g S → Parts a b at L → Parts a b at (x ∷ L)
      go (inl y) r =
          let (l, u) = leaf-within a (at + 1) x.p g S y in
          record {
            A = x ∷ r.A;
            B = r.B;
            order = shuffled-tree x.f x.d (hedge_of L) (hedge_of r.A · hedge_of r.B) r.order;
            left = ((g, S, y, m), r.left);
            right = r.right;
            low = λ q z. rw (r.low q z) refl;
            high = λ q z. r.high q z ∙ sym (bump-other (count L) x.p q (λ e. omega arith));
          }
      go (inr y) r =
          let (l, u) = leaf-within b (at + 1 + size_e a) x.p g S y in
          record {
            A = r.A;
            B = x ∷ r.B;
            order = shuffled-trans (hedge_of (x ∷ L)) (tree x.f x.d (hedge_of r.A · hedge_of r.B)) (hedge_of r.A · tree x.f x.d (hedge_of r.B))
                (shuffled-tree x.f x.d (hedge_of L) (hedge_of r.A · hedge_of r.B) r.order)
                (shuffled-sym (hedge_of r.A · tree x.f x.d (hedge_of r.B)) (tree x.f x.d (hedge_of r.A · hedge_of r.B))
                (shuffled-front (hedge_of r.A) (tree x.f x.d nil) (hedge_of r.B)));
            left = r.left;
            right = ((g, S, y, m), r.right);
            low = λ q z. r.low q z ∙ sym (bump-other (count L) x.p q (λ e. omega arith));
            high = λ q z. rw (r.high q z) refl;
          }

  -- ---- and n members of them

  abbrev Row : Expr → ℕ → Complete → Type 0
  Row R n g = (e : Complete) × Shuffled g e × Times (Member σ R) n e

  zipped : (a b : Expr) (n : ℕ) (x y : Complete) → Times (Member σ a) n x → Times (Member σ b) n y → Row (cat a b) n (x · y)
  zipped a b zero x y s t = (nil, rw (s, t) refl, refl)
  zipped a b (suc n) x y (u, x', d, m, s) (v, y', h, k, t) = go (zipped a b n x' y' s t)
    where
      go : Row (cat a b) n (x' · y') → Row (cat a b) (suc n) (x · y)
      go (e, o, w) = (
        (u · v) · e,
        rw (d, h, ·-assoc u x' (v · y'), ·-assoc u v e)
            (shuffled-behind u (x' · (v · y')) (v · e) (shuffled-trans (x' · (v · y')) (v · (x' · y')) (v · e) (shuffled-front x' v y') (shuffled-behind v (x' · y') e o))),
        (u · v, e, refl, (u, v, refl, m, k), w),
      )

  right-times : (a b : Expr) (n : ℕ) (e : Complete) → Times (Member σ b) n e → Times (Member σ (alt a b)) n e
  right-times a b zero e t = t
  right-times a b (suc n) e (u, v, d, m, t) = (u, v, d, inr m, right-times a b n v t)

  alt-times : (a b : Expr) (i j : ℕ) (x y : Complete) → Times (Member σ a) i x → Times (Member σ b) j y → Times (Member σ (alt a b)) (i + j) (x · y)
  alt-times a b zero j x y s t = times-moved (Member σ (alt a b)) j (zero + j) (x · y) (omega arith) (rw s (right-times a b j y t))
  alt-times a b (suc i) j x y (u, v, d, m, s) t =
      times-moved (Member σ (alt a b)) (suc (i + j)) (suc i + j) (x · y) (omega arith) (u, v · y, ap (λ z. z · y) d ∙ ·-assoc u v y, inl m, alt-times a b i j v y s t)

  over-times : (g : Sym) (S : Expr) (at : ℕ) (L : List Put) → All (over g S) at L → Times (Member σ (over g S)) (count L at) (hedge_of L)
  over-times g S at [] t = refl
  over-times g S at (x ∷ L) ((g', S', (e₁, e₂, e₃), m), t) =
      let z : suc (count L at) ≡ bump (count L) x.p at = rw e₁ (sym (bump-same (count L) at)) in
      times-moved (Member σ (over g S)) (suc (count L at)) (count (x ∷ L) at) (hedge_of (x ∷ L)) z (tree x.f x.d nil, hedge_of L, refl, rw (e₂, e₃) m, over-times g S at L t)

  rows : (R : Expr) (at : ℕ) (L : List Put) (c : Counts) (n : ℕ) → All R at L → ((q : ℕ) → at ≤ q → q < at + size_e R → c q ≡ count L q) → Sums R at c n → Row R n (hedge_of L)
  rows eps at [] c n t h s = (nil, refl, empties n)
    where
      empties : (n : ℕ) → Times (Member σ eps) n nil
      empties zero = refl
      empties (suc n) = (nil, nil, refl, refl, empties n)
  rows eps at (x ∷ L) c n ((g, S, w, m), t) h s = absurd w
  rows (cat a b) at L c n t h (s, u) =
      let r = parts a b at L t in
      let (x, o, v) = rows a (at + 1) r.A c n r.left (λ q l z. h q (omega arith) (omega arith) ∙ sym (r.low q z)) s in
      let (y, p, w) = rows b (at + 1 + size_e a) r.B c n r.right (λ q l z. h q (omega arith) (omega arith) ∙ sym (r.high q l)) u in
      let (e, k, d) = zipped a b n x y v w in (
        e,
        shuffled-trans (hedge_of L) (hedge_of r.A · hedge_of r.B) e r.order
            (shuffled-trans (hedge_of r.A · hedge_of r.B) (x · hedge_of r.B) e (shuffled-beside (hedge_of r.A) x (hedge_of r.B) o)
            (shuffled-trans (x · hedge_of r.B) (x · y) e (shuffled-behind x (hedge_of r.B) y p) k)),
        d,
      )
  rows (alt a b) at L c n t h (i, j, z, s, u) =
      let r = parts a b at L t in
      let (x, o, v) = rows a (at + 1) r.A c i r.left (λ q l z. h q (omega arith) (omega arith) ∙ sym (r.low q z)) s in
      let (y, p, w) = rows b (at + 1 + size_e a) r.B c j r.right (λ q l z. h q (omega arith) (omega arith) ∙ sym (r.high q l)) u in (
        x · y,
        shuffled-trans (hedge_of L) (hedge_of r.A · hedge_of r.B) (x · y) r.order
            (shuffled-trans (hedge_of r.A · hedge_of r.B) (x · hedge_of r.B) (x · y) (shuffled-beside (hedge_of r.A) x (hedge_of r.B) o) (shuffled-behind x (hedge_of r.B) y p)),
        times-moved (Member σ (alt a b)) (i + j) n (x · y) (sym z) (alt-times a b i j x y v w),
      )
  rows (star a) at L c n t h (i, z, s) =
      let (e, o, v) = rows a (at + 1) L c i t (λ q l u. h q (omega arith) (omega arith)) s in
      (e, o, star-times (Member σ a) i n e z v)
  rows (over g S) at L c n t h s =
      let z : count L at ≡ n = sym (h at (omega arith) (omega arith)) ∙ s in
      (hedge_of L, shuffled-refl (hedge_of L), times-moved (Member σ (over g S)) (count L at) n (hedge_of L) z (over-times g S at L t))

  -- ---- both ways

  pub shares : (R : Expr) (at : ℕ) (g : Complete) → ((e : Complete) × Shuffled g e × Member σ R e) ↔ Terms (Fits σ R at) (Good R at) g none
  shares R at g = (λ (e, s, m). there e s (added R at e m none 0 (zero-sums R at)), λ t. back (list_of (Fits σ R at) (Good R at) g none t))
    where
      there : (e : Complete) → Shuffled g e → Added R at e none 1 → Terms (Fits σ R at) (Good R at) g none
      there e s r = terms-shuffled (Fits σ R at) (Good R at) (good-like R at) g e s none (terms-of (Fits σ R at) (Good R at) (good-like R at) e none r.x r.adds r.sums)

      back : Listed (Fits σ R at) (Good R at) g none → (e : Complete) × Shuffled g e × Member σ R e
      back l =
          let (e, o, t) = rows R at l.L l.x 1 l.fits (λ q a b. l.sum q ∙ (let z : 0 + count l.L q ≡ count l.L q = omega arith in z)) l.good in
          (e, rw l.hedge at o, times-one (Member σ R) e t)
