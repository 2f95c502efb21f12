-- The walk ends: it reaches each pair that it should, no other, and none twice. So 21 is given exactly where more different pairs are reached.
use Prim.Native.Nat.{ℕ, suc, ◌≤◌}
use mathlib.Core.Path.{refl, sym, subst}
use mathlib.Core.Logic.{inl, inr, ◌↔◌}
use mathlib.Core.List.{List, [], ◌∷◌, Memᴰ}
use native.Mathlib.Nat.{le_trans}
use native.Mathlib.Omega.{arith}
use lib.Dec.{T, leb→le, le→leb}
use lib.ListN.{length}
use Rattle.language.specs.Trees.{Expr}
use Rattle.rules.specs.Walk.{Pair, onward, onwards, most, reached, long_walk}
use Rattle.walk.specs.Reach.{Reach, start, inner, rest, Once, ReachesMore}
use Rattle.walk.proofs.Members.{pairs, in_pairs, of-pairs, pairs-length, no_more}
use Rattle.walk.proofs.Closures.{Closed, closes}
use Rattle.walk.specs.Spots.{states}
use Rattle.walk.proofs.States.{closed}
use Rattle.walk.proofs.Few.{pairs-few}
use Rattle.walk.proofs.Onward.{On, of-onward, in-onward, of-onwards, in-onwards}

module _ (R S : Expr) where
  -- whoever starts from the pair and goes on from every pair that is listed has listed all
  pub all-met : (ps : List Pair) → Memᴰ (R, S) ps → ((p q : Pair) → Memᴰ p ps → Memᴰ q (onward p) → Memᴰ q ps) → (q : Pair) → Reach R S q → Memᴰ q ps
  all-met ps s c q (start e) = rw e s
  all-met ps s c q (inner {p = p} {m = m} {k = k} r t e) = c p q (all-met ps s c p r) (in-onward p (m, k, t, inl e))
  all-met ps s c q (rest {p = p} {m = m} {k = k} r t e) = c p q (all-met ps s c p r) (in-onward p (m, k, t, inr e))

  -- what a pair leads to is reached
  pub reach-on : (p q : Pair) → Reach R S p → Memᴰ q (onward p) → Reach R S q
  reach-on p q r m = go (of-onward p m)
    where
      go : On p q → Reach R S q
      go (m, k, t, inl e) = inner r t e
      go (m, k, t, inr e) = rest r t e

  -- a walk stays among the pairs of states
  stays : (q : Pair) → Reach R S q → Memᴰ q (pairs (states R) (states S))
  stays q (start e) = rw e (in_pairs (states R) {ys = states S} (Memᴰ.head refl) (Memᴰ.head refl))
  stays q (inner {p = p} r t e) =
      let (a, b) = of-pairs (states R) (stays p r) in
      rw e (in_pairs (states R) (closed R a t.one).0 (closed S b t.other).0)
  stays q (rest {p = p} r t e) =
      let (a, b) = of-pairs (states R) (stays p r) in
      rw e (in_pairs (states R) (closed R a t.one).1 (closed S b t.other).1)

  few : (s : List Pair) → Once s → ((q : Pair) → Memᴰ q s → Reach R S q) → length s ≤ most R S
  few s o a =
      le_trans (no_more s (pairs (states R) (states S)) o (λ q m. stays q (a q m)))
      (subst (λ n. n ≤ most R S) (sym (pairs-length (states R) (states S))) (pairs-few R S))

  follows : (s : List Pair) → ((q : Pair) → Memᴰ q s → Reach R S q) → (q : Pair) → Memᴰ q (onwards s) → Reach R S q
  follows s a q m = let (p, i, j) = of-onwards s m in reach-on p q (a p i) j

  walk-closed : Closed onwards (Reach R S) ((R, S) ∷ []) (reached R S)
  unfolding reached
  walk-closed = closes onwards (Reach R S) follows (most R S) few (most R S) ((R, S) ∷ []) (λ m. elim m [ ], tt) first (omega arith)
    where
      first : (q : Pair) → Memᴰ q ((R, S) ∷ []) → Reach R S q
      first q (Memᴰ.head e) = start e
      first q (Memᴰ.tail m) = elim m [ ]

  -- The list of the walk has exactly the pairs that are reached,
  pub reached-exact : (q : Pair) → Memᴰ q (reached R S) ↔ Reach R S q
  reached-exact q = (
    λ m. walk-closed.all q m,
    λ r. all-met (reached R S) (walk-closed.keeps (R, S) (Memᴰ.head refl)) (λ p q i j. walk-closed.closed q (in-onwards (reached R S) i j)) q r,
  )

  -- each of them once.
  pub reached-once : Once (reached R S)
  reached-once = walk-closed.once

  -- "21 when a walk reaches more than" so many "different pairs, different by their words"
  pub long-exact : (limit : ℕ) → T (long_walk limit R S) ↔ ReachesMore limit R S
  unfolding long_walk
  long-exact limit = (
    λ t. record { pairs = reached R S; many = leb→le (suc limit) (length (reached R S)) t; different = reached-once; met = λ q m. (reached-exact q).0 m },
    λ d. le→leb (suc limit) (length (reached R S)) (le_trans d.many (no_more d.pairs (reached R S) d.different (λ q m. (reached-exact q).1 (d.met q m)))),
  )
