-- What "same" says of children: under an ordered symbol they are the same, under an unordered one they are the same in some order. And what follows
-- for what an unordered symbol holds: it may be taken in any order, and what stands on both sides struck.
use mathlib.Core.Path.{◌≡◌, refl}
use mathlib.Core.Logic.Iff
use mathlib.Core.Logic.{inl, inr, ◌↔◌}
use mathlib.Core.Bool.{Bool, true, false, not}
use lib.Dec.{T}
use Rattle.language.specs.declared.Sym.{Sym}
use Rattle.language.specs.declared.Signature.{Signature}
use Rattle.language.specs.Trees.{is_unordered, Expr, over}
use Rattle.meaning.specs.Complete.{Complete, nil, tree, ◌·◌, Draws, Shuffled, Arranged, Same}
use Rattle.meaning.specs.Meaning.{Member}
use Rattle.meaning.proofs.Shuffles.{shuffled-refl, shuffled-trans, shuffled-sym, shuffled-front, arranged-refl}
use Rattle.meaning.proofs.Same.{Under, same_refl, turned, same-sym, same-shuffled, same-trans, same-term, same-tree, member-same}

module _ (σ : Signature) where
  -- ---- under an ordered symbol

  under-ordered : (f : Sym) (c d : Complete) → T (not (is_unordered σ f)) → Under σ f c d ↔ Same σ c d
  under-ordered f c d t = (λ u. go (is_unordered σ f) t u.0 u.1 u.2, λ m. (d, arranged-refl (is_unordered σ f) d, m))
    where
      go : (b : Bool) → T (not b) → (e : Complete) → Arranged b d e → Same σ c e → Same σ c d
      go true t e a m = absurd t
      go false t e a m = rw a m

  -- terms that are the same have the same children
  pub same-children : (f : Sym) (c d : Complete) → T (not (is_unordered σ f)) → Same σ (tree f c nil) (tree f d nil) ↔ Same σ c d
  same-children f c d t = Iff.trans (same-term σ f c d) (under-ordered f c d t)

  -- f over c is in f(R) exactly where c is in R
  pub member-over : (f : Sym) (c : Complete) (R : Expr) → T (not (is_unordered σ f)) → Member σ (over f R) (tree f c nil) ↔ Member σ R c
  member-over f c R t = (
    λ m. member-same σ R m.0 c (same-sym σ c m.0 ((same-children f c m.0 t).0 m.1)) m.2,
    λ m. (c, same_refl σ (tree f c nil), m),
  )

  -- ---- under an unordered symbol

  -- the same up to the order at the top too
  abbrev pub Alike : Complete → Complete → Type 0
  Alike c d = (e : Complete) × Shuffled d e × Same σ c e

  under-unordered : (f : Sym) (c d : Complete) → T (is_unordered σ f) → Under σ f c d ↔ Alike c d
  under-unordered f c d t = go (is_unordered σ f) t
    where
      go : (b : Bool) → T b → ((e : Complete) × Arranged b d e × Same σ c e) ↔ Alike c d
      go true t = (λ u. u, λ u. u)
      go false t = absurd t

  -- terms that are the same have children that are alike
  pub alike-children : (f : Sym) (c d : Complete) → T (is_unordered σ f) → Same σ (tree f c nil) (tree f d nil) ↔ Alike c d
  alike-children f c d t = Iff.trans (same-term σ f c d) (under-unordered f c d t)

  pub alike-sym : (c d : Complete) → Alike c d → Alike d c
  alike-sym c d (e, s, m) = turned σ true c e d m s

  pub alike-trans : (c d e : Complete) → Alike c d → Alike d e → Alike c e
  alike-trans c d e (x, s, m) (y, t, n) = let (z, o, i) = same-shuffled σ d y x n s in (z, shuffled-trans e y z t o, same-trans σ c x z m i)

  -- the first of both is struck
  pub alike-tail : (f : Sym) (c u v : Complete) → Alike (tree f c u) (tree f c v) → Alike u v
  unfolding Same
  alike-tail f c u v (nil, s, m) = absurd m
  alike-tail f c u v (tree g x e, (r, inl p, s), m) = let q : r ≡ v = cc in (e, rw q at s, m.2)
  alike-tail f c u v (tree g x e, (r, inr (w, p, d), s), m) =
      let d' : Draws f x v w = rw m.0 d in
      alike-trans u (tree f c w) v (e, rw p at s, m.2) (tree f x w, (w, d', shuffled-refl w), (refl, m.1, same_refl σ w))

  alike-behind : (t u v : Complete) → Alike (t · u) (t · v) ↔ Alike u v
  alike-behind nil u v = (λ a. a, λ a. a)
  alike-behind (tree f c t) u v = (
    λ a. (alike-behind t u v).0 (alike-tail f c (t · u) (t · v) a),
    λ a. let (e, s, m) = (alike-behind t u v).1 a in (tree f c e, (t · v, inl refl, s), same-tree σ f c c (t · u) e (same_refl σ c) m),
  )

  alike-front : (u t v : Complete) → Alike (t · (u · v)) (u · (t · v))
  alike-front u t v = (t · (u · v), shuffled-front u t v, same_refl σ (t · (u · v)))

  -- what stands somewhere in both is struck
  pub alike-strike : (t u v w x : Complete) → Alike (u · (t · v)) (w · (t · x)) ↔ Alike (u · v) (w · x)
  alike-strike t u v w x =
      let p = u · (t · v) in let q = w · (t · x) in let p' = t · (u · v) in let q' = t · (w · x) in (
        λ a. (alike-behind t (u · v) (w · x)).0 (alike-trans p' p q' (alike-front u t v) (alike-trans p q q' a (alike-sym q' q (alike-front w t x)))),
        λ a. alike-trans p p' q (alike-sym p' p (alike-front u t v)) (alike-trans p' q' q ((alike-behind t (u · v) (w · x)).1 a) (alike-front w t x)),
      )

  -- f over c is in f(R) exactly where c in some order is in R
  pub member_alike : (f : Sym) (c : Complete) (R : Expr) → T (is_unordered σ f) → Member σ (over f R) (tree f c nil) ↔ ((e : Complete) × Shuffled c e × Member σ R e)
  member_alike f c R t = (
    λ m. let (e, s, n) = alike-sym c m.0 ((alike-children f c m.0 t).0 m.1) in (e, s, member-same σ R m.0 e n m.2),
    λ m. (m.0, (alike-children f c m.0 t).1 (c, shuffled-sym c m.0 m.1, same_refl σ c), m.2),
  )
