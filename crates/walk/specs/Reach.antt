-- The pairs that a walk from two expressions reaches, and the pairs that share a hedge, said without a program.
use Rattle.std.specs.Prelude.{ℕ, ◌<◌, ◌≡◌, T, length}
use mathlib.Core.List.{List, [], ◌∷◌, Memᴰ}
use Rattle.language.specs.Trees.{Expr}
use Rattle.rules.specs.Expressions.{nullable, Monomial, linear}
use Rattle.rules.specs.Walk.{Pair}

-- a "monomial of the one and of the other's linear form with the same symbol"
pub record Twins (p : Pair) (m k : Monomial) : Type 0 where
  pub one : Memᴰ m (linear p.0)
  pub other : Memᴰ k (linear p.1)
  pub name : m.name ≡ k.name

-- "The walk for two expressions starts from that pair; from each pair it goes on .. to the pair of their inner expressions and the pair of their rests."
pub data Reach (R S : Expr) : Pair → Type 0 where
  start : {q : Pair} → q ≡ (R, S) → Reach R S q
  inner : {p q : Pair} {m k : Monomial} → Reach R S p → Twins p m k → q ≡ (m.inner, k.inner) → Reach R S q
  rest : {p q : Pair} {m k : Monomial} → Reach R S p → Twins p m k → q ≡ (m.rest, k.rest) → Reach R S q

-- ---- more than so many

-- nothing stands twice
abbrev pub Once : {A : Type 0} → List A → Type 0
Once [] = Unit {0}
Once (x ∷ xs) = (Memᴰ x xs → ⊥) × Once xs

-- "a walk reaches more than" so many "different pairs"
pub record ReachesMore (limit : ℕ) (R S : Expr) : Type 0 where
  pub pairs : List Pair
  pub many : limit < length pairs
  pub different : Once pairs
  pub met : (q : Pair) → Memᴰ q pairs → Reach R S q

-- ---- what is shared

-- A pair shares the empty hedge, or one whose first term twins take, what is inside it and what follows it being shared in turn.
pub data Shares : Pair → Type 0 where
  empty : {p : Pair} → T (nullable p.0) → T (nullable p.1) → Shares p
  more : {p : Pair} {m k : Monomial} → Twins p m k → Shares (m.inner, k.inner) → Shares (m.rest, k.rest) → Shares p

-- or a term, as a hedge of that term alone
pub record SharesTerm (p : Pair) : Type 0 where
  pub monomial : Monomial
  pub twin : Monomial
  pub twins : Twins p monomial twin
  pub inside : Shares (monomial.inner, twin.inner)
  pub ends : T (nullable monomial.rest)
  pub twin-ends : T (nullable twin.rest)
