-- Laws of "same". No other file but Alike looks into it: what is shown of the rules, of trying and of examples rests on these laws.
-- It is an equivalence; it says of a first term and of what follows, of two in a row and of how many trees there are what equality does; members are
-- closed under it; and where no symbol is unordered it is equality. What it says of children is in Alike.
use Prim.Native.Nat.{ℕ, ◌+◌, ◌<◌, ◌≤◌}
use mathlib.Core.Path.{◌≡◌, refl, sym, ◌∙◌, ap}
use mathlib.Core.Logic.Iff
use mathlib.Core.Logic.{◌⊎◌, inl, inr, ◌↔◌}
use mathlib.Core.Bool.{Bool, true, false, ◌&&◌}
use native.Mathlib.Omega.{arith}
use lib.Dec.{T, leb, ltb, leb→le, ltb→lt}
use borrow.Author.Tests.{ltb-false}
use Rattle.language.specs.declared.Sym.{Sym}
use Rattle.language.specs.declared.Signature.{Signature}
use Rattle.language.specs.Trees.{is_unordered, any_unordered, Expr, eps, cat, alt, star, over}
use Rattle.meaning.specs.Complete.{Complete, nil, tree, ◌·◌, Draws, Shuffled, Arranged, Same, complete_words}
use Rattle.meaning.specs.Meaning.{Filling, Named, Many, stop, more, Member}
use Rattle.meaning.proofs.Complete.{nil≢tree, nil-parts, trees, trees-·, trees-none, words-apart}
use Rattle.meaning.proofs.Shuffles.{shuffled-before, arranged-refl, arranged-trans, arranged-trees}

module _ (σ : Signature) where
  -- the children c and d under f: those of the second, in any order where f is unordered, are the same as those of the first
  abbrev pub Under : Sym → Complete → Complete → Type 0
  Under f c d = (e : Complete) × Arranged (is_unordered σ f) d e × Same σ c e

  -- ---- reflexive

  pub same_refl : (g : Complete) → Same σ g g
  unfolding Same
  same_refl nil = tt
  same_refl (tree f c r) = (refl, (c, arranged-refl (is_unordered σ f) c, same_refl c), same_refl r)

  -- what is equal is the same
  pub same-≡ : (g h : Complete) → g ≡ h → Same σ g h
  same-≡ g h e = rw e (same_refl h)

  -- ---- symmetric

  -- the tree f over x that is drawn from d is put back as f over y
  put_back : (f : Sym) (x y d r k : Complete) → Draws f x d r → Same σ r k → Under f x y → (g : Complete) × Draws f y g k × Same σ d g
  unfolding Same
  put_back f x y nil r k p m u = absurd p
  put_back f x y (tree a b d) r k (inl e) m u =
      let e₁ : a ≡ f = cc in let e₂ : b ≡ x = cc in let e₃ : d ≡ r = cc in
      (tree f y k, inl refl, rw (e₁, e₂, e₃) (refl, u, m))
  put_back f x y (tree a b d) r nil (inr (s, e, p)) m u = absurd (rw e at m)
  put_back f x y (tree a b d) r (tree a' b' k) (inr (s, e, p)) m u =
      let m₁ : Same σ (tree a b s) (tree a' b' k) = rw e at m in
      let (g, q, n) = put_back f x y d s k p m₁.2 u in
      (tree a' b' g, inr (k, refl, q), (m₁.0, m₁.1, n))

  -- c is the same as e, which is d arranged: then d is the same as c arranged
  pub turned : (b : Bool) (c e d : Complete) → Same σ c e → Arranged b d e → (k : Complete) × Arranged b c k × Same σ d k
  unfolding Same
  turned true nil nil d m a = (nil, refl, rw a tt)
  turned false nil nil d m a = (nil, refl, rw a tt)
  turned true nil (tree g x e) d m a = absurd m
  turned false nil (tree g x e) d m a = absurd m
  turned true (tree f y c) nil d m a = absurd m
  turned false (tree f y c) nil d m a = absurd m
  turned true (tree f y c) (tree g x e) d (q, (z, s, p), n) (r, w, t) =
      let (k, t', n') = turned true c e r n t in
      let u = turned (is_unordered σ f) y z x p s in
      let w' : Draws f x d r = rw q w in
      let (h, o, i) = put_back f x y d r k w' n' u in
      (h, shuffled-before f y c h k o t', i)
  turned false (tree f y c) (tree g x e) d (q, (z, s, p), n) a =
      let (k, t', n') = turned false c e e n refl in
      let u = turned (is_unordered σ f) y z x p s in
      (tree f y c, refl, rw (a, ← q, t') (refl, u, n'))

  pub same-sym : (g h : Complete) → Same σ g h → Same σ h g
  same-sym g h m = let (k, e, n) = turned false g h h m refl in rw e n

  -- ---- transitive

  -- what is drawn from one is drawn from the other
  same-draws : (f : Sym) (c g h r : Complete) → Same σ g h → Draws f c g r → (d : Complete) × (s : Complete) × Draws f d h s × Under f c d × Same σ r s
  unfolding Same
  same-draws f c nil h r m p = absurd p
  same-draws f c (tree a b g) nil r m p = absurd m
  same-draws f c (tree a b g) (tree a' b' h) r m (inl e) =
      let e₁ : f ≡ a = cc in let e₂ : c ≡ b = cc in let e₃ : r ≡ g = cc in let e₄ = m.0 in
      (b', h, inl cc, rw (e₁, e₂) m.1, rw e₃ m.2)
  same-draws f c (tree a b g) (tree a' b' h) r m (inr (s, e, p)) =
      let (d, k, q, u, n) = same-draws f c g h s m.2 p in
      (d, tree a' b' k, inr (k, refl, q), u, rw e (m.0, m.1, n))

  -- d is the same as y, and x is d in some order: then x is the same as y in some order
  pub same-shuffled : (d y x : Complete) → Same σ d y → Shuffled d x → (z : Complete) × Shuffled y z × Same σ x z
  unfolding Same
  same-shuffled d nil nil m s = (nil, refl, tt)
  same-shuffled d (tree f c y) nil m s = absurd (rw s at m)
  same-shuffled d y (tree f a x) m (r, p, s) =
      let (b, y₁, q, u, n) = same-draws f a d y r m p in
      let (z, t, o) = same-shuffled r y₁ x n s in
      (tree f b z, (y₁, q, t), (refl, u, o))

  same-arranged : (b : Bool) (d y x : Complete) → Same σ d y → Arranged b d x → (z : Complete) × Arranged b y z × Same σ x z
  same-arranged true d y x m a = same-shuffled d y x m a
  same-arranged false d y x m a = (y, refl, rw a at m)

  pub same-trans : (g h k : Complete) → Same σ g h → Same σ h k → Same σ g k
  unfolding Same
  same-trans nil nil k m n = n
  same-trans nil (tree f d h) k m n = absurd m
  same-trans (tree f c g) nil k m n = absurd m
  same-trans (tree f c g) (tree f' d h) nil m n = absurd n
  same-trans (tree f c g) (tree f' d h) (tree f'' e k) (p, (x, a, q), m) (p', (y, a', q'), n) =
      let b : Arranged (is_unordered σ f) e y = rw p a' in
      let (z, o, i) = same-arranged (is_unordered σ f) d y x q' a in
      (p ∙ p', (z, arranged-trans (is_unordered σ f) e y z b o, same-trans c x z q i), same-trans g h k m n)

  -- ---- nothing, and a first term

  pub same-nil : (g : Complete) → Same σ g nil → g ≡ nil
  unfolding Same
  same-nil nil m = refl
  same-nil (tree f c r) m = absurd m

  pub nil-no-tree : (f : Sym) (c r : Complete) → Same σ nil (tree f c r) → ⊥
  nil-no-tree f c r m = nil≢tree (sym (same-nil (tree f c r) (same-sym nil (tree f c r) m)))

  module _ (f g : Sym) (c d r s : Complete) where
    -- the first symbols are equal
    pub same-symbol : Same σ (tree f c r) (tree g d s) → f ≡ g
    unfolding Same
    same-symbol m = m.0

    -- the first terms are the same, and what follows them
    pub same_first : Same σ (tree f c r) (tree g d s) ↔ (Same σ (tree f c nil) (tree g d nil) × Same σ r s)
    unfolding Same
    same_first = (λ m. ((m.0, m.1, tt), m.2), λ m. (m.0.0, m.0.1, m.1))

  -- two terms: the symbols are equal, and so are the children, as far as the symbol says
  pub same-term : (f : Sym) (c d : Complete) → Same σ (tree f c nil) (tree f d nil) ↔ Under f c d
  unfolding Same
  same-term f c d = (λ m. m.1, λ u. (refl, u, tt))

  -- the same children under one symbol, and the same behind
  pub same-tree : (f : Sym) (c d r s : Complete) → Same σ c d → Same σ r s → Same σ (tree f c r) (tree f d s)
  unfolding Same
  same-tree f c d r s m n = (refl, (d, arranged-refl (is_unordered σ f) d, m), n)

  -- ---- in a row

  pub same-· : (u u' v v' : Complete) → Same σ u u' → Same σ v v' → Same σ (u · v) (u' · v')
  same-· nil nil v v' m n = n
  same-· nil (tree f c u') v v' m n = absurd (nil-no-tree f c u' m)
  same-· (tree f c u) nil v v' m n = absurd (nil-no-tree f c u (same-sym _ _ m))
  same-· (tree f c u) (tree f' c' u') v v' m n =
      let (p, q) = (same_first f f' c c' u u').0 m in
      (same_first f f' c c' (u · v) (u' · v')).1 (p, same-· u u' v v' q n)

  -- what stands first in both is struck
  pub same-cancel : (u v w : Complete) → Same σ (u · v) (u · w) → Same σ v w
  same-cancel nil v w m = m
  same-cancel (tree f c u) v w m = same-cancel u v w ((same_first f f c c (u · v) (u · w)).0 m).1

  -- what is the same as two in a row is two in a row
  pub same-cut : (g u v : Complete) → Same σ g (u · v) → (u' : Complete) × (v' : Complete) × (g ≡ u' · v') × Same σ u u' × Same σ v v'
  same-cut g nil v m = (nil, g, refl, same_refl nil, same-sym g v m)
  same-cut nil (tree f c u) v m = absurd (nil-no-tree f c (u · v) m)
  same-cut (tree f' c' g) (tree f c u) v m =
      let (t, n) = (same_first f' f c' c g (u · v)).0 m in
      let (u', v', e, p, q) = same-cut g u v n in
      (tree f' c' u', v', ap (tree f' c') e, (same_first f f' c c' u u').1 (same-sym _ _ t, p), q)

  -- two in a row are the same as one tree: one of them is, and the other is empty
  pub same-one : (u v : Complete) (f : Sym) (c : Complete) → Same σ (u · v) (tree f c nil)
      → (Same σ u (tree f c nil) × (v ≡ nil)) ⊎ ((u ≡ nil) × Same σ v (tree f c nil))
  same-one nil v f c m = inr (refl, m)
  same-one (tree g d u) v f c m =
      let (t, n) = (same_first g f d c (u · v) nil).0 m in
      let (p, q) = nil-parts u v (sym (same-nil (u · v) n)) in
      inl (rw p t, q)

  -- ---- how many trees

  -- what is the same has as many
  pub same-trees : (g h : Complete) → Same σ g h → trees g ≡ trees h
  unfolding Same
  same-trees nil nil m = refl
  same-trees nil (tree f c h) m = absurd m
  same-trees (tree f c g) nil m = absurd m
  same-trees (tree f c g) (tree f' d h) (e, (x, a, p), m) = omega (arith, arranged-trees (is_unordered σ f) d x a, same-trees c x p, same-trees g h m)

  -- u is the same as v, u, w in a row: v and w are empty
  pub same-around : (u v w : Complete) → Same σ (u · nil) (v · (u · w)) → (v ≡ nil) × (w ≡ nil)
  same-around u v w m =
      let sum : trees u + trees nil ≡ trees v + (trees u + trees w) = omega (arith, same-trees (u · nil) (v · (u · w)) m, trees-· u nil, trees-· v (u · w), trees-· u w) in
      (trees-none v (omega arith), trees-none w (omega arith))

  -- ---- members

  many-same : (P : Complete → Type 0) → ((g h : Complete) → Same σ g h → P g → P h) → {g : Complete} (h : Complete) → Same σ g h → Many P g → Many P h
  many-same P closed {g} h m (stop e) = stop (same-nil h (rw e at (same-sym g h m)))
  many-same P closed {g} h m (more {u = u} {v = v} e p k) =
      let (u', v', d, a, b) = same-cut h u v (rw e at (same-sym g h m)) in
      more d (closed u u' a p) (many-same P closed v' b k)

  -- what is the same as a member is a member
  pub member-same : (R : Expr) (g h : Complete) → Same σ g h → Member σ R g → Member σ R h
  member-same eps g h m e = same-nil h (rw e at (same-sym g h m))
  member-same (cat a b) g h m (u, v, e, p, q) =
      let (u', v', d, x, y) = same-cut h u v (rw e at (same-sym g h m)) in
      (u', v', d, member-same a u u' x p, member-same b v v' y q)
  member-same (alt a b) g h m (inl p) = inl (member-same a g h m p)
  member-same (alt a b) g h m (inr p) = inr (member-same b g h m p)
  member-same (star a) g h m p = many-same (Member σ a) (member-same a) h m p
  member-same (over f a) g h m (c, n, p) = (c, same-trans h g (tree f c nil) (same-sym g h m) n, p)

  -- ---- where no symbol is unordered

  -- the test says so
  pub none_any : any_unordered σ ≡ false → σ.unordered ≡ 0
  unfolding any_unordered
  none_any e = omega (arith, ltb-false 0 σ.unordered e)

  module _ (none : σ.unordered ≡ 0) where
    pub none-unordered : (f : Sym) → is_unordered σ f ≡ false
    unfolding is_unordered
    none-unordered f = at_both (ltb f.0 σ.symbols) (leb σ.symbols (f.0 + σ.unordered)) (ltb→lt f.0 σ.symbols) (leb→le σ.symbols (f.0 + σ.unordered))
      where
        at_both : (a b : Bool) → (T a → f.0 < σ.symbols) → (T b → σ.symbols ≤ f.0 + σ.unordered) → (a && b) ≡ false
        at_both true true p q = absurd (omega (arith, p tt, q tt, none))
        at_both true false p q = refl
        at_both false b p q = refl

    pub any-unordered-none : any_unordered σ ≡ false
    unfolding any_unordered
    any-unordered-none = rw none

    -- then every filling is one of these symbols
    pub all_named : (ρ : Filling) → Named σ ρ
    all_named ρ t X = absurd (rw any-unordered-none at t)

    as-it-stands : (b : Bool) → b ≡ false → (d e : Complete) → Arranged b d e → d ≡ e
    as-it-stands true z d e a = absurd (let w : ◌≡◌ {A = ℕ} 0 1 = cc in omega arith)
    as-it-stands false z d e a = a

    equal : (g h : Complete) → Same σ g h → g ≡ h
    unfolding Same
    equal nil nil m = refl
    equal nil (tree f d h) m = absurd m
    equal (tree f c g) nil m = absurd m
    equal (tree f c g) (tree f' d h) (e, (x, a, p), m) =
        let e₁ = equal c x p in let e₂ = equal g h m in let e₃ = as-it-stands (is_unordered σ f) (none-unordered f) d x a in cc

    -- the same is equal
    pub same-is-equal : (g h : Complete) → Same σ g h ↔ (g ≡ h)
    same-is-equal g h = (equal g h, same-≡ g h)

    -- so it is the same words
    pub same-words : (g h : Complete) → Same σ g h ↔ (complete_words g ≡ complete_words h)
    same-words g h = Iff.trans (same-is-equal g h) (λ m. ap complete_words m, words-apart g h)
