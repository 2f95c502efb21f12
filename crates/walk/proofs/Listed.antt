-- Whoever lists pairs from the first one on, each once, until nothing new is met, has as many as the walk reaches; and whoever marks among them what is
-- shared, until nothing more is to be marked, has marked all of it.
use Prim.Native.Nat.{ℕ, ◌<◌}
use mathlib.Core.Path.{◌≡◌, refl, sym, ap}
use mathlib.Core.Logic.{inl, inr, ◌↔◌}
use mathlib.Core.Bool.{true}
use mathlib.Core.List.{List, Memᴰ}
use native.Mathlib.Omega.{arith}
use lib.Dec.{T, ltb}
use lib.ListN.{length}
use Rattle.language.specs.Trees.{Expr}
use Rattle.rules.specs.Expressions.{nullable, Monomial}
use Rattle.rules.specs.Walk.{Pair, onward, reached, long_walk}
use Rattle.rules.proofs.Tests.{test-true}
use Rattle.walk.specs.Reach.{Twins, Reach, Once, Shares, empty, more}
use Rattle.walk.proofs.Members.{no_more}
use Rattle.walk.proofs.Onward.{in-onward}
use Rattle.walk.proofs.Reached.{all-met, reached-exact, reached-once, long-exact}

module _ (R S : Expr) where
  -- pairs that are reached, each once
  pub record Listed (ps : List Pair) : Type 0 where
    pub once : Once ps
    pub met : (q : Pair) → Memᴰ q ps → Reach R S q

  -- the first is there, and where each goes on to
  pub record Whole (ps : List Pair) : Type 0 where
    pub first : Memᴰ (R, S) ps
    pub on : (p q : Pair) → Memᴰ p ps → Memᴰ q (onward p) → Memᴰ q ps

  -- more than so many: 21
  pub too_long : (limit : ℕ) (ps : List Pair) → Listed ps → limit < length ps → long_walk limit R S ≡ true
  too_long limit ps l h = (test-true (long_walk limit R S)).0 ((long-exact R S limit).1 (record { pairs = ps; many = h; different = l.once; met = l.met }))

  -- all of them: their number decides
  pub as_many : (ps : List Pair) → Listed ps → Whole ps → length ps ≡ length (reached R S)
  as_many ps l w =
      let x = no_more ps (reached R S) l.once (λ q m. (reached-exact R S q).1 (l.met q m)) in
      let y = no_more (reached R S) ps (reached-once R S) (λ q m. all-met R S ps w.first w.on q ((reached-exact R S q).0 m)) in
      omega arith

  pub long-by-number : (limit : ℕ) (ps : List Pair) → Listed ps → Whole ps → long_walk limit R S ≡ ltb limit (length ps)
  unfolding long_walk
  long-by-number limit ps l w = ap (ltb limit) (sym (as_many ps l w))

-- marks among the pairs of a list that goes on from each: what is marked is shared, and what can be marked is
pub record Marked (ps : List Pair) (F : Pair → Type 0) : Type 0 where
  pub sound : (p : Pair) → F p → Shares p
  pub both-empty : (p : Pair) → Memᴰ p ps → T (nullable p.0) → T (nullable p.1) → F p
  pub by-twins : (p : Pair) → Memᴰ p ps → (m k : Monomial) → Twins p m k → F (m.inner, k.inner) → F (m.rest, k.rest) → F p

pub all-marked : (ps : List Pair) (F : Pair → Type 0) → Marked ps F → ((p q : Pair) → Memᴰ p ps → Memᴰ q (onward p) → Memᴰ q ps)
    → (p : Pair) → Memᴰ p ps → Shares p ↔ F p
all-marked ps F d on p i = (to p i, d.sound p)
  where
    to : (p : Pair) → Memᴰ p ps → Shares p → F p
    to p i (empty x y) = d.both-empty p i x y
    to p i (more {m = m} {k = k} t x y) =
        d.by-twins p i m k t (to (m.inner, k.inner) (on p (m.inner, k.inner) i (in-onward p (m, k, t, inl refl))) x)
        (to (m.rest, k.rest) (on p (m.rest, k.rest) i (in-onward p (m, k, t, inr refl))) y)
