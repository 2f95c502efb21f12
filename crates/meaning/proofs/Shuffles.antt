-- Laws of drawing one tree and of trees in some order.
use Prim.Native.Nat.{◌+◌, suc}
use mathlib.Core.Path.{◌≡◌, refl, sym, ◌∙◌, ap}
use mathlib.Core.Logic.{inl, inr}
use mathlib.Core.Bool.{Bool, true, false}
use native.Mathlib.Omega.{arith}
use Rattle.language.specs.declared.Sym.{Sym}
use Rattle.meaning.specs.Complete.{Complete, nil, tree, ◌·◌, Draws, Shuffled, Arranged}
use Rattle.meaning.proofs.Complete.{trees}

-- ---- one tree

-- one tree and then another, or the other first
pub draws-exchange : (f : Sym) (c : Complete) (h : Sym) (d g r s : Complete) → Draws f c g r → Draws h d r s → (k : Complete) × Draws h d g k × Draws f c k s
draws-exchange f c h d nil r s p q = absurd p
draws-exchange f c h d (tree a b g) r s (inl e) q = let e₁ : r ≡ g = cc in (tree a b s, inr (s, refl, rw e₁ at q), inl cc)
draws-exchange f c h d (tree a b g) r s (inr (r', e, p)) q = go (rw e at q) (draws-exchange f c h d g r')
  where
    go : Draws h d (tree a b r') s → ((s : Complete) → Draws f c g r' → Draws h d r' s → (k : Complete) × Draws h d g k × Draws f c k s)
        → (k : Complete) × Draws h d (tree a b g) k × Draws f c k s
    go (inl x) on = let e₁ : s ≡ r' = cc in (g, inl cc, rw e₁ p)
    go (inr (s', x, q')) on = let (k, m, n) = on s' p q' in (tree a b k, inr (k, refl, m), inr (s', x, n))

-- the tree that stands between two
pub draws-middle : (f : Sym) (c u v : Complete) → Draws f c (u · tree f c v) (u · v)
draws-middle f c nil v = inl refl
draws-middle f c (tree g d u) v = inr (u · v, refl, draws-middle f c u v)

pub draws-trees : (f : Sym) (c g r : Complete) → Draws f c g r → trees g ≡ suc (trees c + trees r)
draws-trees f c nil r p = absurd p
draws-trees f c (tree a b g) r (inl e) = ap trees (sym e)
draws-trees f c (tree a b g) r (inr (s, e, p)) = omega (arith, draws-trees f c g s p, ap trees e)

-- ---- in some order

pub shuffled-refl : (g : Complete) → Shuffled g g
shuffled-refl nil = refl
shuffled-refl (tree f c r) = (r, inl refl, shuffled-refl r)

-- what is drawn from the second is drawn from the first
pub shuffled-draws : (g h : Complete) (f : Sym) (c s : Complete) → Shuffled g h → Draws f c h s → (r : Complete) × Draws f c g r × Shuffled r s
shuffled-draws g nil f c s p q = absurd q
shuffled-draws g (tree a b h) f c s (r, p, m) (inl e) = let e₁ : f ≡ a = cc in let e₂ : c ≡ b = cc in let e₃ : s ≡ h = cc in (r, rw (e₁, e₂) p, rw e₃ m)
shuffled-draws g (tree a b h) f c s (r, p, m) (inr (s', e, q)) =
    let (r₁, p₁, m₁) = shuffled-draws r h f c s' m q in
    let (k, x, y) = draws-exchange a b f c g r r₁ p p₁ in
    (k, x, rw e (r₁, y, m₁))

pub shuffled-trans : (g h k : Complete) → Shuffled g h → Shuffled h k → Shuffled g k
shuffled-trans g h nil p q = rw q at p
shuffled-trans g h (tree f c k) p (r, q, m) = let (r₁, x, y) = shuffled-draws g h f c r p q in (r₁, x, shuffled-trans r₁ r k y m)

-- a tree put before the first, which stands somewhere in the second
pub shuffled-before : (f : Sym) (c h g r : Complete) → Draws f c g r → Shuffled h r → Shuffled (tree f c h) g
shuffled-before f c h nil r p m = absurd p
shuffled-before f c h (tree a b g) r (inl e) m = let e₁ : tree a b h ≡ tree f c h = cc in let e₂ : g ≡ r = cc in (h, inl e₁, rw e₂ m)
shuffled-before f c h (tree a b g) r (inr (r', e, p)) m =
    let m₁ : Shuffled h (tree a b r') = rw e at m in
    (tree f c m₁.0, inr (m₁.0, refl, m₁.1), shuffled-before f c m₁.0 g r' p m₁.2)

pub shuffled-sym : (g h : Complete) → Shuffled g h → Shuffled h g
shuffled-sym g nil p = rw p
shuffled-sym g (tree f c h) (r, p, m) = shuffled-before f c h g r p (shuffled-sym r h m)

-- t taken to the front
pub shuffled-front : (u t v : Complete) → Shuffled (u · (t · v)) (t · (u · v))
shuffled-front u nil v = shuffled-refl (u · v)
shuffled-front u (tree f c t) v = (u · (t · v), draws-middle f c u (t · v), shuffled-front u t v)

pub shuffled-trees : (g h : Complete) → Shuffled g h → trees g ≡ trees h
shuffled-trees g nil p = ap trees p
shuffled-trees g (tree f c h) (r, p, m) = omega (arith, draws-trees f c g r p, shuffled-trees r h m)

-- ---- in any order, or as they stand

pub arranged-refl : (b : Bool) (g : Complete) → Arranged b g g
arranged-refl true g = shuffled-refl g
arranged-refl false g = refl

pub arranged-trans : (b : Bool) (g h k : Complete) → Arranged b g h → Arranged b h k → Arranged b g k
arranged-trans true g h k p q = shuffled-trans g h k p q
arranged-trans false g h k p q = p ∙ q

pub arranged-trees : (b : Bool) (g h : Complete) → Arranged b g h → trees g ≡ trees h
arranged-trees true g h p = shuffled-trees g h p
arranged-trees false g h p = ap trees p
