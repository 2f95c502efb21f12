-- A hedge is a member exactly where one that is the same is a member in the plain sense; so where all symbols are ordered the two are one.
use mathlib.Core.Path.{◌≡◌, refl}
use mathlib.Core.Logic.{inl, inr, ◌↔◌}
use Rattle.language.specs.declared.Signature.{Signature}
use Rattle.language.specs.Trees.{Expr, eps, cat, alt, star, over}
use Rattle.meaning.specs.Complete.{Complete, nil, tree, ◌·◌, Same}
use Rattle.meaning.specs.Meaning.{Many, stop, more, Member}
use Rattle.meaning.specs.Plain.{PlainMember}
use Rattle.meaning.proofs.Same.{same_refl, same-≡, same-sym, same-trans, same-tree, same-·, member-same, same-is-equal}

module _ (σ : Signature) where
  -- the same as one that P takes
  abbrev SameAs : (Complete → Type 0) → Complete → Type 0
  SameAs P g = (h : Complete) × Same σ g h × P h

  many-plain : (P Q : Complete → Type 0) → ((g : Complete) → P g → SameAs Q g) → {g : Complete} → Many P g → SameAs (Many Q) g
  many-plain P Q one {g} (stop e) = (nil, same-≡ σ g nil e, stop refl)
  many-plain P Q one {g} (more {u = u} {v = v} e p k) =
      let (x, s, a) = one u p in
      let (y, t, b) = many-plain P Q one k in
      (x · y, rw e (same-· σ u x v y s t), more refl a b)

  to-plain : (R : Expr) (g : Complete) → Member σ R g → SameAs (PlainMember R) g
  to-plain eps g e = (nil, same-≡ σ g nil e, refl)
  to-plain (cat a b) g (u, v, e, p, q) =
      let (x, s, m) = to-plain a u p in
      let (y, t, n) = to-plain b v q in
      (x · y, rw e (same-· σ u x v y s t), (x, y, refl, m, n))
  to-plain (alt a b) g (inl p) = let (x, s, m) = to-plain a g p in (x, s, inl m)
  to-plain (alt a b) g (inr p) = let (x, s, m) = to-plain b g p in (x, s, inr m)
  to-plain (star a) g p = many-plain (Member σ a) (PlainMember a) (to-plain a) p
  to-plain (over f a) g (c, s, p) =
      let (x, t, m) = to-plain a c p in
      (tree f x nil, same-trans σ g (tree f c nil) (tree f x nil) s (same-tree σ f c x nil nil t (same_refl σ nil)), (x, refl, m))

  many-from : (P Q : Complete → Type 0) → ((g : Complete) → P g → Q g) → {g : Complete} → Many P g → Many Q g
  many-from P Q one (stop e) = stop e
  many-from P Q one (more {u = u} e p k) = more e (one u p) (many-from P Q one k)

  from-plain : (R : Expr) (g : Complete) → PlainMember R g → Member σ R g
  from-plain eps g e = e
  from-plain (cat a b) g (u, v, e, p, q) = (u, v, e, from-plain a u p, from-plain b v q)
  from-plain (alt a b) g (inl p) = inl (from-plain a g p)
  from-plain (alt a b) g (inr p) = inr (from-plain b g p)
  from-plain (star a) g p = many-from (PlainMember a) (Member σ a) (from-plain a) p
  from-plain (over f a) g (c, e, p) = (c, same-≡ σ g (tree f c nil) e, from-plain a c p)

  -- "the meaning .. reads "same" and membership so": a hedge is a member exactly where some hedge that is the same is one in the plain sense.
  pub member_is : (R : Expr) (g : Complete) → Member σ R g ↔ ((h : Complete) × Same σ g h × PlainMember R h)
  member_is R g = (to-plain R g, λ m. member-same σ R m.0 g (same-sym σ g m.0 m.1) (from-plain R m.0 m.2))

  -- where u is 0 it is a member in the plain sense itself
  pub member-before : σ.unordered ≡ 0 → (R : Expr) (g : Complete) → Member σ R g ↔ PlainMember R g
  member-before none R g = (λ m. let (h, s, p) = to-plain R g m in rw ((same-is-equal σ none g h).0 s) p, from-plain R g)
