-- The test decides "same". It need not come back to a tree that it took out: since "same" is an equivalence, whichever of the trees that are the same
-- is taken out, what is left is alike.
use Prim.Native.Nat.{ℕ}
use mathlib.Core.Path.{◌≡◌, refl, ap}
use mathlib.Core.Logic.{inl, inr, ◌↔◌}
use mathlib.Core.Bool.{Bool, true, false, ◌&&◌}
use mathlib.Core.Option.{Option, none, some, map}
use native.Mathlib.Omega.{arith}
use lib.Dec.{T, eqb→eq, eqb_refl}
use Rattle.language.specs.declared.Sym.{Sym}
use Rattle.language.specs.Kinds.{pick}
use Rattle.language.specs.declared.Signature.{Signature}
use Rattle.language.specs.Trees.{is_unordered, eq_s}
use Rattle.meaning.specs.Complete.{Complete, nil, tree, Draws, Shuffled, Arranged, Same}
use Rattle.meaning.specs.Deciding.{is_nil, take_out, same_up_to, same_test}
use Rattle.meaning.proofs.Shuffles.{shuffled-refl}
use Rattle.meaning.proofs.Same.{Under, same_refl}
use Rattle.meaning.proofs.Alike.{Alike, alike-sym, alike-trans, alike-tail}

-- what is taken out fits and is drawn; nothing is taken out only where nothing drawn fits
data Taken (P : Sym → Complete → Type 0) (h : Complete) : Option Complete → Type 0 where
  out : {k : Complete} (f : Sym) (c : Complete) → P f c → Draws f c h k → Taken P h (some k)
  nowhere : ((f : Sym) (c k : Complete) → Draws f c h k → ¬ P f c) → Taken P h none

module _ (P : Sym → Complete → Type 0) (fits : Sym → Complete → Bool) (says : (f : Sym) (c : Complete) → T (fits f c) ↔ P f c) where
  taken : (h : Complete) → Taken P h (take_out true fits h)
  taken nil = nowhere (λ f c k d. absurd d)
  taken (tree f c r) = here (fits f c) (says f c) (take_out true fits r) (taken r)
    where
      under : (m : Option Complete) → Taken P r m → ¬ P f c → Taken P (tree f c r) (map (tree f c) m)
      under none (nowhere n) z = nowhere λ g d k w. elim w [ inl e ↦ (let e₁ : g ≡ f = cc in let e₂ : d ≡ c = cc in rw (e₁, e₂) z) | inr x ↦ n g d x.0 x.2 ]
      under (some k) (out g d p w) z = out g d p (inr (k, refl, w))

      here : (b : Bool) → T b ↔ P f c → (m : Option Complete) → Taken P r m → Taken P (tree f c r) (pick b (some r) (map (tree f c) m))
      here true s m t = out f c (s.0 tt) (inl refl)
      here false s m t = under m t (λ p. s.1 p)

-- two tests that stand for two facts
both : {P Q : Type 0} (a b : Bool) → T a ↔ P → T b ↔ Q → T (a && b) ↔ (P × Q)
both true b p q = (λ t. (p.0 tt, q.0 t), λ m. q.1 m.1)
both false b p q = (λ t. absurd t, λ m. p.1 m.0)

symbols : (f g : Sym) → T (eq_s f g) ↔ (f ≡ g)
symbols f g = (λ t. ap (λ n. record { 0 = n }) (eqb→eq f.0 g.0 t), λ e. rw e (eqb_refl g.0))

module _ (σ : Signature) where
  -- the same, where the right may be in any order or not
  abbrev Upto : Bool → Complete → Complete → Type 0
  Upto b c h = (e : Complete) × Arranged b h e × Same σ c e

  -- the tree f over c takes out one that is the same as it
  alike-out : (f : Sym) (c r : Complete) (g : Sym) (d h k : Complete) → (f ≡ g) × Under σ f c d → Draws g d h k → Alike σ r k ↔ Alike σ (tree f c r) h
  unfolding Same
  alike-out f c r g d h k p w = (
    λ (e, s, m). (tree g d e, (k, w, s), (p.0, p.1, m)),
    λ a. alike-tail σ f c r k (alike-trans σ (tree f c r) h (tree f c k) a (alike-sym σ (tree f c k) h (tree g d k, (k, w, shuffled-refl k), (p.0, p.1, same_refl σ k)))),
  )

  -- as they stand
  same-as : (x y : Complete) → Upto false x y ↔ Same σ x y
  same-as x y = (λ (e, a, m). rw a m, λ m. (y, refl, m))

  -- the first tree of all
  first : (f : Sym) (c r h : Complete) (t : Complete → Bool) → ((d : Complete) → T (same_up_to σ c (is_unordered σ f) d) ↔ Under σ f c d) → ((k : Complete) → T (t k) ↔ Upto false r k)
      → T (elim (take_out false (λ g d. eq_s f g && same_up_to σ c (is_unordered σ f) d) h) [ none ↦ false | some k ↦ t k ]) ↔ Upto false (tree f c r) h
  unfolding Same
  first f c r nil t u n = (λ z. absurd z, λ (e, a, m). absurd (rw (← a) at m))
  first f c r (tree g d s) t u n = go (eq_s f g && same_up_to σ c (is_unordered σ f) d) (both (eq_s f g) (same_up_to σ c (is_unordered σ f) d) (symbols f g) (u d))
    where
      go : (b : Bool) → T b ↔ ((f ≡ g) × Under σ f c d) → T (elim (pick b (some s) none) [ none ↦ false | some k ↦ t k ]) ↔ Upto false (tree f c r) (tree g d s)
      go true b = (
        λ z. (tree g d s, refl, ((b.0 tt).0, (b.0 tt).1, (same-as r s).0 ((n s).0 z))),
        λ m. (n s).1 ((same-as r s).1 ((same-as (tree f c r) (tree g d s)).0 m).2),
      )
      go false b = (λ z. absurd z, λ m. let k = (same-as (tree f c r) (tree g d s)).0 m in b.1 (k.0, k.1))

  -- one of them
  any : (f : Sym) (c r h : Complete) (t : Complete → Bool) → ((k : Complete) → T (t k) ↔ Alike σ r k)
      → (m : Option Complete) → Taken (λ g d. (f ≡ g) × Under σ f c d) h m → T (elim m [ none ↦ false | some k ↦ t k ]) ↔ Alike σ (tree f c r) h
  unfolding Same
  any f c r h t n (some k) (out g d p w) = let e = alike-out f c r g d h k p w in (λ z. e.0 ((n k).0 z), λ a. (n k).1 (e.1 a))
  any f c r h t n none (nowhere z) = (λ x. absurd x, none-fits)
    where
      none-fits : Alike σ (tree f c r) h → ⊥
      none-fits (nil, s, m) = m
      none-fits (tree g d e, (k, w, s), m) = z g d k w (m.0, m.1)

  nothing : (b : Bool) (h : Complete) → T (is_nil h) ↔ Upto b nil h
  unfolding Same
  nothing true nil = (λ t. (nil, refl, tt), λ m. tt)
  nothing false nil = (λ t. (nil, refl, tt), λ m. tt)
  nothing true (tree f c r) = (λ z. absurd z, λ (e, a, m). none_left e a m)
    where
      none_left : (e : Complete) → Shuffled (tree f c r) e → Same σ nil e → ⊥
      none_left nil a m = let z : ◌≡◌ {A = ℕ} 0 1 = cc in omega arith
      none_left (tree g d e) a m = m
  nothing false (tree f c r) = (λ z. absurd z, λ (e, a, m). absurd (rw (← a) at m))

  decides : (c : Complete) (b : Bool) (h : Complete) → T (same_up_to σ c b h) ↔ Upto b c h
  decides nil b h = nothing b h
  decides (tree f c r) true h =
      any f c r h (same_up_to σ r true) (decides r true) (take_out true (λ g d. eq_s f g && same_up_to σ c (is_unordered σ f) d) h)
      (taken (λ g d. (f ≡ g) × Under σ f c d) (λ g d. eq_s f g && same_up_to σ c (is_unordered σ f) d)
      (λ g d. both (eq_s f g) (same_up_to σ c (is_unordered σ f) d) (symbols f g) (decides c (is_unordered σ f) d)) h)
  decides (tree f c r) false h = first f c r h (same_up_to σ r false) (decides c (is_unordered σ f)) (decides r false)

  -- The test says that two complete hedges are the same exactly where they are.
  pub same-decided : (g h : Complete) → T (same_test σ g h) ↔ Same σ g h
  unfolding same_test
  same-decided g h = let d = decides g false h in (λ t. let (e, a, m) = d.0 t in rw a m, λ m. d.1 (h, refl, m))
