-- A report may have symbols that no sheet declares. Where each of these becomes symbol 0, what was the same stays the same, and a filling becomes one of
-- the declared symbols: a pattern has no others.
use Prim.Native.Nat.{◌≤◌}
use mathlib.Core.Path.{◌≡◌, refl, sym, ap, subst, ◌∙◌}
use mathlib.Core.Logic.{inl, inr}
use mathlib.Core.Bool.{Bool, true, false, ◌&&◌}
use lib.Dec.{T, ltb, lt→ltb}
use Rattle.language.specs.declared.Sym.{Sym}
use Rattle.language.specs.declared.Signature.{Signature}
use Rattle.language.specs.Kinds.{pick}
use Rattle.language.specs.Trees.{is_unordered, Functor, symbol, fvar, Hedge, ε, tvar, hvar, node, Counts, signature}
use Rattle.language.specs.Question.{declared_t, declared_h, declared_f, declared}
use Rattle.language.proofs.Bools.{both_true}
use Rattle.meaning.specs.Complete.{Complete, nil, tree, ◌·◌, Draws, Shuffled, Arranged, Same}
use Rattle.meaning.specs.Meaning.{Filling, fill_f, fill, Named}
use Rattle.meaning.proofs.Shuffles.{arranged-refl}
use Rattle.meaning.proofs.Same.{same_refl, same-sym, nil-no-tree, same-symbol, same_first, same-term}

module _ (σ : Signature) where
  abbrev tame_s : Sym → Sym
  tame_s f = pick (ltb f.0 σ.symbols) f (record { 0 = 0 })

  abbrev pub tame : Complete → Complete
  tame nil = nil
  tame (tree f c r) = tree (tame_s f) (tame c) (tame r)

  tame-· : (g h : Complete) → tame (g · h) ≡ tame g · tame h
  tame-· nil h = refl
  tame-· (tree f c r) h = ap (tree (tame_s f) (tame c)) (tame-· r h)

  -- ---- the same stays the same

  tame-draws : (f : Sym) (c g r : Complete) → Draws f c g r → Draws (tame_s f) (tame c) (tame g) (tame r)
  tame-draws f c nil r p = absurd p
  tame-draws f c (tree g d k) r (inl e) = inl (ap tame e)
  tame-draws f c (tree g d k) r (inr (s, e, p)) = inr (tame s, ap tame e, tame-draws f c k s p)

  tame-shuffled : (g h : Complete) → Shuffled g h → Shuffled (tame g) (tame h)
  tame-shuffled g nil e = ap tame e
  tame-shuffled g (tree f c k) (r, p, s) = (tame r, tame-draws f c g r p, tame-shuffled r k s)

  tame-arranged : (b : Bool) (g h : Complete) → Arranged b g h → Arranged b (tame g) (tame h)
  tame-arranged true g h a = tame-shuffled g h a
  tame-arranged false g h a = ap tame a

  -- a symbol that is not declared is ordered
  undeclared-ordered : (f : Sym) → ltb f.0 σ.symbols ≡ false → is_unordered σ f ≡ false
  unfolding is_unordered
  undeclared-ordered f q = rw q refl

  tame-under : (f : Sym) (d e : Complete) → Arranged (is_unordered σ f) d e → Arranged (is_unordered σ (tame_s f)) (tame d) (tame e)
  tame-under f d e a = on (ltb f.0 σ.symbols) refl
    where
      on : (b : Bool) → ltb f.0 σ.symbols ≡ b → Arranged (is_unordered σ (tame_s f)) (tame d) (tame e)
      on true q = let z : tame_s f ≡ f = rw q refl in rw z (tame-arranged (is_unordered σ f) d e a)
      on false q = let z : d ≡ e = rw (undeclared-ordered f q) at a in rw z (arranged-refl (is_unordered σ (tame_s f)) (tame e))

  pub tame-same : (g h : Complete) → Same σ g h → Same σ (tame g) (tame h)
  tame-same nil nil m = same_refl σ nil
  tame-same nil (tree g d s) m = absurd (nil-no-tree σ g d s m)
  tame-same (tree f c r) nil m = absurd (nil-no-tree σ f c r (same-sym σ (tree f c r) nil m))
  tame-same (tree f c r) (tree g d s) m =
      let e = same-symbol σ f g c d r s m in
      let (t, n) = (same_first σ f g c d r s).0 m in
      let t₁ : Same σ (tree f c nil) (tree f d nil) = subst (λ k. Same σ (tree f c nil) (tree k d nil)) (sym e) t in
      let (k, a, p) = (same-term σ f c d).0 t₁ in
      rw (← e) ((same_first σ (tame_s f) (tame_s f) (tame c) (tame d) (tame r) (tame s)).1
      ((same-term σ (tame_s f) (tame c) (tame d)).1 (tame k, tame-under f d k a, tame-same c k p), tame-same r s n))

  -- ---- a filling

  abbrev pub tamed : Filling → Filling
  tamed ρ = record { root = λ x. tame_s (ρ.root x); children = λ x. tame (ρ.children x); run = λ p. tame (ρ.run p); name = λ X. tame_s (ρ.name X) }

  pub tamed-named : (ρ : Filling) → 1 ≤ σ.symbols → Named σ (tamed ρ)
  tamed-named ρ one t X = on (ltb (ρ.name X).0 σ.symbols) refl
    where
      on : (b : Bool) → ltb (ρ.name X).0 σ.symbols ≡ b → T (ltb (pick b (ρ.name X) (record { 0 = 0 })).0 σ.symbols)
      on true q = rw q tt
      on false q = lt→ltb 0 σ.symbols one

module _ (n : Counts) (ρ : Filling) where
  abbrev σ : Signature
  σ = signature n

  tamed-functor : (f : Functor) → declared_f n f ≡ true → fill_f (tamed σ ρ) f ≡ tame_s σ (fill_f ρ f)
  tamed-functor (symbol f) d = rw d refl
  tamed-functor (fvar X) d = refl

  -- of a hedge of declared symbols
  pub tamed-fills : (h : Hedge) → declared n h ≡ true → fill (tamed σ ρ) h ≡ tame σ (fill ρ h)
  tamed-fills ε d = refl
  tamed-fills (tvar x r) d = ap (tree (tame_s σ (ρ.root x)) (tame σ (ρ.children x))) (tamed-fills r (both_true (declared_t n x) (declared n r) d).1)
  tamed-fills (hvar p r) d = ap (λ k. tame σ (ρ.run p) · k) (tamed-fills r (both_true (declared_h n p) (declared n r) d).1) ∙ sym (tame-· σ (ρ.run p) (fill ρ r))
  tamed-fills (node f c r) d =
      let (e, g) = both_true (declared_f n f && declared n c) (declared n r) d in
      let (a, b) = both_true (declared_f n f) (declared n c) e in
      rw (tamed-functor f a, tamed-fills c b, tamed-fills r g)
