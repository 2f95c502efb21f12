-- Marks on the pairs of a walk.
use Rattle.std.specs.Prelude.{ℕ, zero, suc, ◌+◌, ◌*◌, ◌<◌, ◌≤◌, ◌≡◌, Bool, true, false, List, length, get_or}
use Rattle.language.specs.Kinds.{pick}
use Rattle.language.specs.Trees.{Expr}
use Rattle.rules.specs.Expressions.{Monomial}
use Rattle.rules.specs.Walk.{Pair}
use Rattle.walk.specs.Reach.{Twins, Shares}
use Rattle.clash.specs.declared.walking.Places.{Places}
use Rattle.clash.specs.Chains.{IsPair}
use Rattle.clash.specs.Walking.{Stand, Stop}

-- r says whether P holds
pub record Says (P : Type 0) (r : Bool) : Type 0 where
  pub yes : r ≡ true → P
  pub not : r ≡ false → P → ⊥

-- the pair is one of the first n, and is marked
pub record Marked (left right : List ℕ) (n : ℕ) (marks : List Bool) (a b : ℕ) : Type 0 where
  pub place : ℕ
  pub low : place < n
  pub pair : IsPair left right a b place
  pub mark : get_or marks place false ≡ true

abbrev pub Known : List ℕ → List ℕ → ℕ → List Bool → ℕ → ℕ → Bool → Type 0
Known left right n marks a b r = Says (Marked left right n marks a b) r

-- the symbols at p and q are one and lead to marked pairs
pub record Leading (k classes left right : List ℕ) (n : ℕ) (inner rest : List Bool) (p q : ℕ) : Type 0 where
  pub same : get_or k p 0 ≡ get_or k q 0
  pub inside : Marked left right n inner (get_or classes (2 * p + 2) 0) (get_or classes (2 * q + 2) 0)
  pub after : Marked left right n rest (get_or classes (2 * p + 1) 0) (get_or classes (2 * q + 1) 0)

abbrev pub Leads : List ℕ → List ℕ → List ℕ → List ℕ → ℕ → List Bool → List Bool → ℕ → ℕ → Bool → Type 0
Leads k classes left right n inner rest p q r = Says (Leading k classes left right n inner rest p q) r

-- the symbol at p and one of a list
pub record SomeWith (k classes left right : List ℕ) (n : ℕ) (inner rest : List Bool) (p : ℕ) (qs : List ℕ) (count : ℕ) : Type 0 where
  pub place : ℕ
  pub low : place < count
  pub leads : Leading k classes left right n inner rest p (get_or qs place 0)

abbrev pub LeadsWith : List ℕ → List ℕ → List ℕ → List ℕ → ℕ → List Bool → List Bool → ℕ → List ℕ → ℕ → Bool → Type 0
LeadsWith k classes left right n inner rest p qs count r = Says (SomeWith k classes left right n inner rest p qs count) r

-- one of a list and one of another
pub record SomeOf (k classes left right : List ℕ) (n : ℕ) (inner rest : List Bool) (ps : List ℕ) (ones : ℕ) (qs : List ℕ) (others : ℕ) : Type 0 where
  pub place : ℕ
  pub low : place < ones
  pub leads : SomeWith k classes left right n inner rest (get_or ps place 0) qs others

abbrev pub LeadsOf : List ℕ → List ℕ → List ℕ → List ℕ → ℕ → List Bool → List Bool → List ℕ → ℕ → List ℕ → ℕ → Bool → Type 0
LeadsOf k classes left right n inner rest ps ones qs others r = Says (SomeOf k classes left right n inner rest ps ones qs others) r

-- ---- of expressions

-- the pair p is one of the first n, and is marked
pub record Flagged (at : Places) (R S : Expr) (left right : List ℕ) (n : ℕ) (marks : List Bool) (p : Pair) : Type 0 where
  pub place : ℕ
  pub low : place < n
  pub stop : Stop at R S (get_or left place 0) (get_or right place 0) p
  pub mark : get_or marks place false ≡ true

-- twins of p lead to marked pairs
pub record TwinsFlagged (at : Places) (R S : Expr) (left right : List ℕ) (n : ℕ) (inner rest : List Bool) (p : Pair) : Type 0 where
  pub one : Monomial
  pub other : Monomial
  pub twins : Twins p one other
  pub inside : Flagged at R S left right n inner (one.inner, other.inner)
  pub after : Flagged at R S left right n rest (one.rest, other.rest)

pub record LeadsFrom (k classes : List ℕ) (at : Places) (left right : List ℕ) (n : ℕ) (inner rest : List Bool) (i : ℕ) (r : Bool) : Type 0 where
  pub each : (R S : Expr) → Stand k classes at R S → (p : Pair) → Stop at R S (get_or left i 0) (get_or right i 0) p → Says (TwinsFlagged at R S left right n inner rest p) r

-- ---- sweeps

-- whatever is marked shares a hedge
abbrev pub Sound : Places → Expr → Expr → List ℕ → List ℕ → ℕ → List Bool → Type 0
Sound at R S left right n marks = (i : ℕ) → i < n → (p : Pair) → Stop at R S (get_or left i 0) (get_or right i 0) p → get_or marks i false ≡ true → Shares p

-- of the pairs from `from` on each is marked whose twins lead to marked pairs
abbrev pub ClosedFrom : ℕ → Places → Expr → Expr → List ℕ → List ℕ → ℕ → List Bool → Type 0
ClosedFrom from at R S left right n marks =
    (i : ℕ) → from ≤ i → i < n → (p : Pair) → Stop at R S (get_or left i 0) (get_or right i 0) p → TwinsFlagged at R S left right n marks marks p → get_or marks i false ≡ true

-- how many of the first n are not marked
abbrev pub unmarked : ℕ → List Bool → ℕ
unmarked zero marks = 0
unmarked (suc n) marks = pick (get_or marks n false) 0 1 + unmarked n marks

-- what was marked still is, and whatever is marked shares a hedge if that was so before
pub record Swelled (k classes : List ℕ) (at : Places) (left right : List ℕ) (n : ℕ) (old new : List Bool) : Type 0 where
  pub long : length new ≡ length old
  pub keeps : (i : ℕ) → get_or old i false ≡ true → get_or new i false ≡ true
  pub sound : (R S : Expr) → Stand k classes at R S → Sound at R S left right n old → Sound at R S left right n new

-- the same by one step, at the pair i: r says whether it was marked
pub record SweptAt (k classes : List ℕ) (at : Places) (left right : List ℕ) (n i : ℕ) (old new : List Bool) (r : Bool) : Type 0 where
  pub swelled : Swelled k classes at left right n old new
  pub fewer : r ≡ true → unmarked n new < unmarked n old
  pub quiet : r ≡ false → new ≡ old
  pub closed : r ≡ false → (R S : Expr) → Stand k classes at R S → (p : Pair) → Stop at R S (get_or left i 0) (get_or right i 0) p
      → TwinsFlagged at R S left right n new new p → get_or new i false ≡ true

-- the same by one sweep from the last pair to the one at `from`: r says whether something was marked
pub record SweptTo (from : ℕ) (k classes : List ℕ) (at : Places) (left right : List ℕ) (n : ℕ) (old new : List Bool) (r : Bool) : Type 0 where
  pub swelled : Swelled k classes at left right n old new
  pub less : unmarked n new ≤ unmarked n old
  pub fewer : r ≡ true → unmarked n new < unmarked n old
  pub quiet : r ≡ false → new ≡ old
  pub closed : r ≡ false → (R S : Expr) → Stand k classes at R S → ClosedFrom from at R S left right n new

abbrev pub Swept : List ℕ → List ℕ → Places → List ℕ → List ℕ → ℕ → List Bool → List Bool → Bool → Type 0
Swept k classes at left right n old new r = SweptTo 0 k classes at left right n old new r

-- until nothing more is to be marked
pub record Settled (k classes : List ℕ) (at : Places) (left right : List ℕ) (n : ℕ) (old new : List Bool) : Type 0 where
  pub swelled : Swelled k classes at left right n old new
  pub closed : (R S : Expr) → Stand k classes at R S → ClosedFrom 0 at R S left right n new

-- ---- the first pair

pub record FirstShares (k classes : List ℕ) (at : Places) (left right : List ℕ) (n : ℕ) (marks empty : List Bool) (term r : Bool) : Type 0 where
  pub by-term : term ≡ true → LeadsFrom k classes at left right n marks empty 0 r
  pub by-hedge : term ≡ false → r ≡ get_or marks 0 false
