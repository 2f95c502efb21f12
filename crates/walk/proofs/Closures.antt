-- What is added to a list of pairs, and that adding what follows comes to an end: where no list of such pairs is longer than the times it is done,
-- whatever follows from the list that is left stands in it.
use Prim.Native.Nat.{ℕ, zero, suc, ◌+◌, ◌≤◌}
use mathlib.Core.Path.{◌≡◌, refl, ap, subst, ◌∙◌}
use mathlib.Core.Logic.{◌⊎◌, inl, inr, ◌↔◌}
use mathlib.Core.Bool.{Bool, true, false}
use mathlib.Core.List.{List, [], ◌∷◌, Memᴰ}
use native.Mathlib.Omega.{arith}
use borrow.Author.Tests.{ltb-true, ltb-false}
use lib.Dec.{T, ltb}
use lib.ListN.{length}
use Rattle.language.specs.Kinds.{pick}
use Rattle.language.specs.Trees.{same_expr}
use Rattle.rules.specs.Walk.{Pair, same_pair, among, added, closure}
use Rattle.rules.proofs.Tests.{or_cases, or_left, or_right, and_parts, and_both, true-test}
use Rattle.rules.proofs.Names.{same_expr-is, same_expr-self}
use Rattle.walk.specs.Reach.{Once}

-- ---- "different by their words"

same-is : (p q : Pair) → T (same_pair p q) → p ≡ q
same-is p q t =
    let (u, v) = and_parts (same_expr p.0 q.0) (same_expr p.1 q.1) t in
    ap (λ x. (x, p.1)) (same_expr-is p.0 q.0 u) ∙ ap (λ y. (q.0, y)) (same_expr-is p.1 q.1 v)

pub among_in : (p : Pair) (s : List Pair) → T (among p s) → Memᴰ p s
among_in p [] t = absurd t
among_in p (q ∷ s) t = elim (or_cases (same_pair p q) (among p s) t) [ inl u ↦ Memᴰ.head (same-is p q u) | inr u ↦ Memᴰ.tail (among_in p s u) ]

pub in-among : (p : Pair) (s : List Pair) → Memᴰ p s → T (among p s)
in-among p (q ∷ s) (Memᴰ.head e) =
    or_left (same_pair p q) (among p s)
    (subst (λ q. T (same_pair p q)) e (and_both (same_expr p.0 p.0) (same_expr p.1 p.1) (same_expr-self p.0) (same_expr-self p.1)))
in-among p (q ∷ s) (Memᴰ.tail m) = or_right (same_pair p q) (among p s) (in-among p s m)
in-among p [] x' = elim x' [ ]

-- ---- what is added

-- one pair, if it is new
one-added : (p : Pair) (s : List Pair) {q : Pair} → Memᴰ q (pick (among p s) s (p ∷ s)) ↔ ((q ≡ p) ⊎ Memᴰ q s)
one-added p s {q} = go (among p s) refl
  where
    to : Memᴰ q (p ∷ s) → (q ≡ p) ⊎ Memᴰ q s
    to (Memᴰ.head e) = inl e
    to (Memᴰ.tail m) = inr m

    go : (b : Bool) → among p s ≡ b → Memᴰ q (pick b s (p ∷ s)) ↔ ((q ≡ p) ⊎ Memᴰ q s)
    go true e = (λ m. inr m, λ o. elim o [ inl d ↦ rw d (among_in p s (true-test (among p s) e)) | inr m ↦ m ])
    go false e = (to, λ o. elim o [ inl d ↦ Memᴰ.head d | inr m ↦ Memᴰ.tail m ])

of-added : (ps s : List Pair) {q : Pair} → Memᴰ q (added ps s) → Memᴰ q ps ⊎ Memᴰ q s
of-added [] s m = inr m
of-added (p ∷ ps) s m = elim (of-added ps (pick (among p s) s (p ∷ s)) m) [
  | inl k ↦ inl (Memᴰ.tail k)
  | inr k ↦ elim ((one-added p s).0 k) [ inl e ↦ inl (Memᴰ.head e) | inr n ↦ inr n ]
]

added-keeps : (ps s : List Pair) {q : Pair} → Memᴰ q s → Memᴰ q (added ps s)
added-keeps [] s m = m
added-keeps (p ∷ ps) s m = added-keeps ps (pick (among p s) s (p ∷ s)) ((one-added p s).1 (inr m))

added-once : (ps s : List Pair) → Once s → Once (added ps s)
added-once [] s o = o
added-once (p ∷ ps) s o = added-once ps (pick (among p s) s (p ∷ s)) (go (among p s) refl)
  where
    go : (b : Bool) → among p s ≡ b → Once (pick b s (p ∷ s))
    go true e = o
    go false e = (λ m. rw e at (in-among p s m), o)

added-longer : (ps s : List Pair) → length s ≤ length (added ps s)
added-longer [] s = omega arith
added-longer (p ∷ ps) s = go (among p s) (added-longer ps (pick (among p s) s (p ∷ s)))
  where
    go : (b : Bool) → length (pick b s (p ∷ s)) ≤ length (added ps (pick b s (p ∷ s))) → length s ≤ length (added ps (pick b s (p ∷ s)))
    go true h = h
    go false h = omega arith

-- where the list is no longer for it, nothing was new
nothing-new : (ps s : List Pair) {q : Pair} → length (added ps s) ≤ length s → Memᴰ q ps → Memᴰ q s
nothing-new (p ∷ ps) s {q = q} h m = go (among p s) refl (nothing-new ps s) (added-longer ps (p ∷ s)) h m
  where
    go : (b : Bool) → among p s ≡ b → (length (added ps s) ≤ length s → Memᴰ q ps → Memᴰ q s)
        → suc (length s) ≤ length (added ps (p ∷ s)) → length (added ps (pick b s (p ∷ s))) ≤ length s → Memᴰ q (p ∷ ps) → Memᴰ q s
    go true e on l h (Memᴰ.head d) = rw d (among_in p s (true-test (among p s) e))
    go true e on l h (Memᴰ.tail m) = on h m
    go false e on l h m = absurd (omega arith)
nothing-new [] s {q = q} h m = elim m [ ]

-- ---- what follows, again and again

module _ (next : List Pair → List Pair) (P : Pair → Type 0) where
  -- each of s is as P says
  abbrev pub All : List Pair → Type 0
  All s = (q : Pair) → Memᴰ q s → P q

  -- the list that is left: from s on, of pairs as P says, none twice, and closed
  pub record Closed (s t : List Pair) : Type 0 where
    pub once : Once t
    pub all : All t
    pub keeps : (q : Pair) → Memᴰ q s → Memᴰ q t
    pub closed : (q : Pair) → Memᴰ q (next t) → Memᴰ q t

  module _ (follows : (s : List Pair) → All s → All (next s)) (N : ℕ) (few : (s : List Pair) → Once s → All s → length s ≤ N) where
    added-all : (s : List Pair) → All s → All (added (next s) s)
    added-all s a q m = elim (of-added (next s) s m) [ inl n ↦ follows s a q n | inr n ↦ a q n ]

    pub closes : (n : ℕ) (s : List Pair) → Once s → All s → N ≤ n + length s → Closed s (closure next n s)
    closes zero s o a h =
        let l = few (added (next s) s) (added-once (next s) s o) (added-all s a) in
        record { once = o; all = a; keeps = λ q m. m; closed = λ q m. nothing-new (next s) s (omega arith) m }
    closes (suc n) s o a h = go (ltb (length s) (length (added (next s) s))) refl (closes n (added (next s) s) (added-once (next s) s o) (added-all s a))
      where
        t : List Pair
        t = added (next s) s

        go : (b : Bool) → ltb (length s) (length t) ≡ b → (N ≤ n + length t → Closed t (closure next n t)) → Closed s (elim b [ true ↦ closure next n t | false ↦ s ])
        go true e on =
            let l = ltb-true (length s) (length t) e in
            let r = on (omega arith) in
            record { once = r.once; all = r.all; keeps = λ q m. r.keeps q (added-keeps (next s) s m); closed = r.closed }
        go false e on = let l = ltb-false (length s) (length t) e in record { once = o; all = a; keeps = λ q m. m; closed = λ q m. nothing-new (next s) s l m }
