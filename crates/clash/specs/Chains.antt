-- The pairs met so far, in the order they were met, chained by a sum of their two numbers. Heads and links hold a place plus one; 0 ends a chain.
use Rattle.std.specs.Prelude.{ℕ, suc, ◌+◌, ◌*◌, ◌%◌, ◌<◌, ◌≤◌, ◌≡◌, Bool, true, false, List, length, get_or}
use Rattle.language.specs.Limits.{walked_pairs}

-- room for as many pairs as a walk may reach, and for the one that is too many
abbrev pub stops : ℕ
stops = walked_pairs + 1

-- which chain
unfoldable pub chain_of : ℕ → ℕ → ℕ
chain_of a b = (a * 769 + b) % 4093

abbrev pub chain_at : List ℕ → List ℕ → ℕ → ℕ
chain_at left right i = chain_of (get_or left i 0) (get_or right i 0)

pub record IsPair (left right : List ℕ) (a b i : ℕ) : Type 0 where
  pub one : get_or left i 0 ≡ a
  pub other : get_or right i 0 ≡ b

-- none of the first n stands there twice
abbrev pub Apart : List ℕ → List ℕ → ℕ → Type 0
Apart left right n = (i j : ℕ) → i < j → j < n → IsPair left right (get_or left i 0) (get_or right i 0) j → ⊥

-- No pair is there twice. Every pair of a chain is below its head, and every earlier one of the same chain is below its link.
pub record Chained (left right links heads : List ℕ) (n : ℕ) : Type 0 where
  pub few : n ≤ stops
  pub lefts : length left ≡ stops
  pub rights : length right ≡ stops
  pub linked : length links ≡ stops
  pub room : length heads ≡ 4093
  pub apart : Apart left right n
  pub head-past : (j : ℕ) → j < n → j < get_or heads (chain_at left right j) 0
  pub head_in : (h : ℕ) → get_or heads h 0 ≤ n
  pub head-chain : (h i : ℕ) → get_or heads h 0 ≡ suc i → chain_at left right i ≡ h
  pub link-past : (i j : ℕ) → i < n → j < i → chain_at left right j ≡ chain_at left right i → j < get_or links i 0
  pub link-in : (i : ℕ) → i < n → get_or links i 0 ≤ i
  pub link-chain : (i j : ℕ) → i < n → get_or links i 0 ≡ suc j → chain_at left right j ≡ chain_at left right i

-- whether it is
pub record Tested (left right : List ℕ) (a b i : ℕ) (r : Bool) : Type 0 where
  pub yes : r ≡ true → IsPair left right a b i
  pub not : r ≡ false → IsPair left right a b i → ⊥

-- the place of the pair plus one, or 0 where it is not among the first n
pub record Found (left right : List ℕ) (n a b r : ℕ) : Type 0 where
  pub here : (i : ℕ) → r ≡ suc i → (i < n) × IsPair left right a b i
  pub nowhere : r ≡ 0 → (i : ℕ) → i < n → IsPair left right a b i → ⊥

-- ---- pairs added behind the first n

-- the pair is one of the first n
abbrev pub Among : List ℕ → List ℕ → ℕ → ℕ → ℕ → Type 0
Among left right n a b = (i : ℕ) × (i < n) × IsPair left right a b i

-- the first n are the same
pub record Kept (left right : List ℕ) (n : ℕ) (left' right' : List ℕ) : Type 0 where
  pub lefts : (i : ℕ) → i < n → get_or left' i 0 ≡ get_or left i 0
  pub rights : (i : ℕ) → i < n → get_or right' i 0 ≡ get_or right i 0

-- From n pairs to m: those that are new are as T says. Where they are not too many, all that are as T says are there.
pub record Grown (T : ℕ → ℕ → Type 0) (left right : List ℕ) (n : ℕ) (left' right' : List ℕ) (m : ℕ) : Type 0 where
  pub more : n ≤ m
  pub kept : Kept left right n left' right'
  pub new : (i : ℕ) → n ≤ i → i < m → T (get_or left' i 0) (get_or right' i 0)
  pub there : m ≤ walked_pairs → (a b : ℕ) → T a b → Among left' right' m a b

-- just that pair
abbrev pub Just : ℕ → ℕ → ℕ → ℕ → Type 0
Just a b x y = (x ≡ a) × (y ≡ b)

abbrev pub Met : List ℕ → List ℕ → ℕ → ℕ → ℕ → List ℕ → List ℕ → ℕ → Type 0
Met left right n a b left' right' m = Grown (Just a b) left right n left' right' m
