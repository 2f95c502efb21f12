-- The orders of a hedge of terms: filled, they are the orders of the filled hedge.
use Prim.Native.Nat.{ℕ, zero, suc}
use mathlib.Core.Path.{◌≡◌, refl, sym, ◌∙◌, ap}
use mathlib.Core.Logic.{inl, inr}
use mathlib.Core.List.{List, [], ◌∷◌, map}
use native.Mathlib.Omega.{arith}
use lib.Dec.{T}
use Rattle.language.specs.declared.Sym.{Sym}
use Rattle.language.specs.Trees.{Hedge, ε, tvar, hvar, node, ◌⧺◌}
use Rattle.meaning.specs.Complete.{Complete, nil, tree, Draws, Shuffled}
use Rattle.meaning.specs.Meaning.{Filling, fill_f, fill}
use Rattle.meaning.proofs.Complete.{nil≢tree}
use Rattle.meaning.proofs.Shuffles.{draws-middle}
use Rattle.rules.specs.Each.{Each, Some}
use Rattle.rules.specs.Looks.{all_terms}
use Rattle.rules.specs.Elements.{drawn, width, orders_of, orders}
use Rattle.rules.proofs.Each.{each-imp, some-map, some-imp}
use Rattle.rules.proofs.Elements.{Drawn, drawn-is, no-width, some-spread, orders-by}
use Rattle.exact.proofs.Fillings.{fill-⧺}

-- ---- terms

terms-join : (h k : Hedge) → T (all_terms h) → T (all_terms k) → T (all_terms (h ⧺ k))
terms-join ε k s t = t
terms-join (tvar x r) k s t = terms-join r k s t
terms-join (hvar p r) k s t = absurd s
terms-join (node f c r) k s t = terms-join r k s t

terms-both : (h k : Hedge) → T (all_terms (h ⧺ k)) → T (all_terms h) × T (all_terms k)
terms-both ε k t = (tt, t)
terms-both (tvar x r) k t = terms-both r k t
terms-both (hvar p r) k t = absurd t
terms-both (node f c r) k t = terms-both r k t

-- an element that is a term, and what is left
pub drawn-terms : (h : Hedge) (a : Hedge × Hedge) → Drawn h a → T (all_terms h) → T (all_terms a.0) × T (all_terms a.1)
drawn-terms h a d t =
    let w = d.out in
    let (x, y) = terms-both w.before (a.0 ⧺ w.behind) (rw w.whole at t) in
    let (u, v) = terms-both a.0 w.behind y in
    (u, rw w.left (terms-join w.before w.behind x v))

module _ (ρ : Filling) where
  -- filled, one term is one tree
  abbrev Tree : Hedge → Type 0
  Tree h = (f : Sym) × (c : Complete) × (fill ρ h ≡ tree f c nil)

  one-tree : (h : Hedge) → T (all_terms h) → width h ≡ 1 → Tree h
  one-tree ε t e = absurd (omega arith)
  one-tree (tvar x r) t e = (ρ.root x, ρ.children x, ap (λ k. fill ρ (tvar x k)) (no-width r (omega arith)))
  one-tree (hvar p r) t e = absurd t
  one-tree (node f c r) t e = (fill_f ρ f, fill ρ c, ap (λ k. fill ρ (node f c k)) (no-width r (omega arith)))

  -- ---- each order is an order of the filled hedge

  -- an element that is drawn
  drawn-draws : (h : Hedge) (a : Hedge × Hedge) → Drawn h a → (f : Sym) (c : Complete) → fill ρ a.0 ≡ tree f c nil → Draws f c (fill ρ h) (fill ρ a.1)
  drawn-draws h a d f c e =
      let w = d.out in
      rw (w.whole, w.left, fill-⧺ ρ w.before (a.0 ⧺ w.behind), fill-⧺ ρ a.0 w.behind, e, fill-⧺ ρ w.before w.behind)
      (draws-middle f c (fill ρ w.before) (fill ρ w.behind))

  pub orders-shuffle : (h : Hedge) → T (all_terms h) → Each (λ k. Shuffled (fill ρ h) (fill ρ k)) (orders h)
  orders-shuffle h t = each-imp (λ k. T (all_terms h) → Shuffled (fill ρ h) (fill ρ k)) _ (λ k f. f t) (orders h) (orders-by Order (λ _. refl) next h)
    where
      Order : Hedge → Hedge → Type 0
      Order h k = T (all_terms h) → Shuffled (fill ρ h) (fill ρ k)

      next : (h : Hedge) (a : Hedge × Hedge) (k : Hedge) → Drawn h a → Order a.1 k → Order h (a.0 ⧺ k)
      next h a k d o t =
          let (x, y) = drawn-terms h a d t in
          let (f, c, e) = one-tree a.0 x d.one in
          rw (fill-⧺ ρ a.0 k, e) (fill ρ a.1, drawn-draws h a d f c e, o y)

  -- ---- and each order of the filled hedge is one of them

  -- what is drawn is one of the elements
  abbrev Is : Sym → Complete → Complete → Hedge × Hedge → Type 0
  Is f c r a = (fill ρ a.0 ≡ tree f c nil) × (fill ρ a.1 ≡ r)

  draws-under : (q : Hedge → Hedge) (g : Sym) (d : Complete) → ((h : Hedge) → fill ρ (q h) ≡ tree g d (fill ρ h)) → (f : Sym) (c r s : Complete) → r ≡ tree g d s
      → (xs : List (Hedge × Hedge)) → Some (Is f c s) xs → Some (Is f c r) (map (λ (a : Hedge × Hedge). (a.0, q a.1)) xs)
  draws-under q g d is f c r s e xs m =
      (some-map (Is f c r) (λ (a : Hedge × Hedge). (a.0, q a.1)) xs).1
      (some-imp (Is f c s) (λ a. Is f c r (a.0, q a.1)) (λ a x. (x.0, is a.1 ∙ ap (tree g d) x.1 ∙ sym e)) xs m)

  draws-drawn : (h : Hedge) → T (all_terms h) → (f : Sym) (c r : Complete) → Draws f c (fill ρ h) r → Some (Is f c r) (drawn h)
  draws-drawn ε t f c r p = absurd p
  draws-drawn (tvar x h) t f c r (inl e) = inl (cc, cc)
  draws-drawn (tvar x h) t f c r (inr (s, e, p)) = inr (draws-under (tvar x) _ _ (λ k. refl) f c r s e (drawn h) (draws-drawn h t f c s p))
  draws-drawn (hvar q h) t f c r p = absurd t
  draws-drawn (node g d h) t f c r (inl e) = inl (cc, cc)
  draws-drawn (node g d h) t f c r (inr (s, e, p)) = inr (draws-under (node g d) _ _ (λ k. refl) f c r s e (drawn h) (draws-drawn h t f c s p))

  some-width : (h : Hedge) (n : ℕ) → T (all_terms h) → width h ≡ suc n → fill ρ h ≡ nil → ⊥
  some-width ε n t w s = omega arith
  some-width (tvar x r) n t w s = nil≢tree (sym s)
  some-width (hvar p r) n t w s = absurd t
  some-width (node f c r) n t w s = nil≢tree (sym s)

  shuffle-orders_of : (n : ℕ) (h : Hedge) → T (all_terms h) → width h ≡ n → (e : Complete) → Shuffled (fill ρ h) e → Some (λ k. fill ρ k ≡ e) (orders_of n h)
  shuffle-orders_of zero h t w nil s = inl refl
  shuffle-orders_of zero h t w (tree f c e) (r, p, s) = absurd (rw (no-width h w) at p)
  shuffle-orders_of (suc n) h t w nil s = absurd (some-width h n t w s)
  shuffle-orders_of (suc n) h t w (tree f c e) (r, p, s) =
      some-spread (λ (a : Hedge × Hedge). map (◌⧺◌ a.0) (orders_of n a.1)) (λ k. fill ρ k ≡ tree f c e) (drawn h)
      (with-drawn (λ a i d. one a i (shuffle-orders_of n a.1 (drawn-terms h a d t).1 (omega (arith, d.fewer, w)) e (rw i.1 s))) (drawn h) (draws-drawn h t f c r p) (drawn-is h))
    where
      one : (a : Hedge × Hedge) → Is f c r a → Some (λ k. fill ρ k ≡ e) (orders_of n a.1) → Some (λ k. fill ρ k ≡ tree f c e) (map (◌⧺◌ a.0) (orders_of n a.1))
      one a i m =
          (some-map (λ k. fill ρ k ≡ tree f c e) (◌⧺◌ a.0) (orders_of n a.1)).1
          (some-imp (λ k. fill ρ k ≡ e) (λ k. fill ρ (a.0 ⧺ k) ≡ tree f c e) (λ k d. rw (fill-⧺ ρ a.0 k, i.0, d)) (orders_of n a.1) m)

      Goal : Hedge × Hedge → Type 0
      Goal a = Some (λ k. fill ρ k ≡ tree f c e) (map (◌⧺◌ a.0) (orders_of n a.1))

      with-drawn : ((a : Hedge × Hedge) → Is f c r a → Drawn h a → Goal a) → (xs : List (Hedge × Hedge)) → Some (Is f c r) xs → Each (Drawn h) xs → Some Goal xs
      with-drawn f [] s d = absurd s
      with-drawn f (x ∷ xs) (inl i) d = inl (f x i d.0)
      with-drawn f (x ∷ xs) (inr s) d = inr (with-drawn f xs s d.1)

  pub shuffle-orders : (h : Hedge) → T (all_terms h) → (e : Complete) → Shuffled (fill ρ h) e → Some (λ k. fill ρ k ≡ e) (orders h)
  unfolding orders
  shuffle-orders h t e s = shuffle-orders_of (width h) h t refl e s
