-- What the functions ask and promise.
use Rattle.std.specs.Prelude.{ℕ, ◌+◌, ◌-◌, ◌<◌, ◌≤◌, ◌*◌, ◌≡◌, ◌⊎◌, ◌↔◌, Bool, true, false, List, [], ◌∷◌, length, get_or}
use Rattle.language.specs.Trees.{Expr}
use Rattle.rules.specs.Each.{Each}
use Rattle.any_order.specs.declared.Range.{Range}
use Rattle.any_order.specs.declared.Span.{Span}
use Rattle.any_order.specs.declared.Next.{Next}
use Rattle.any_order.specs.Places.{size_e, At, Expression}
use Rattle.any_order.specs.Sharing.{Counts, bump, Sums, Kind, Ways, Rest, Going, Good, none, Records, total}

-- the place after whatever expression stands there
pub record Past (e : List ℕ) (at r : ℕ) : Type 0 where
  pub each : (R : Expr) → At e at R → r ≡ at + size_e R

-- ---- ranges of numbers

-- n is in the range: at least the one, at most the other unless it is open
pub record Lies (n : ℕ) (r : Range) : Type 0 where
  pub low : r.least ≤ n
  pub high : (r.endless ≡ true) ⊎ (n ≤ r.most)

abbrev pub Small : ℕ → Range → Type 0
Small N r = (r.least ≤ N) × (r.most ≤ N)

-- nothing lies in it, or the least does
pub record Emptied (r : Range) (b : Bool) : Type 0 where
  pub empty : b ≡ true → (n : ℕ) → Lies n r → ⊥
  pub some : b ≡ false → Lies r.least r

pub record Met (a b r : Range) : Type 0 where
  pub small : (N : ℕ) → Small N a → Small N b → Small N r
  pub lies : (n : ℕ) → Lies n r ↔ (Lies n a × Lies n b)

pub record Added (a b r : Range) : Type 0 where
  pub small : (N M : ℕ) → Small N a → Small M b → Small (N + M) r
  pub lies : (n : ℕ) → Lies n r ↔ ((i : ℕ) × (j : ℕ) × (n ≡ i + j) × Lies i a × Lies j b)

pub record Repeated (a r : Range) : Type 0 where
  pub small : (N : ℕ) → Small N a → Small (N + 1) r
  pub lies : (n : ℕ) → Lies n r ↔ ((i : ℕ) × (0 < i → 0 < n) × Lies i a)

-- ---- what may still come

-- numbers that fit in a word
pub record Few (c : List ℕ) : Type 0 where
  pub all : (p : ℕ) → get_or c p 0 < 65536

abbrev pub counts : List ℕ → Counts
counts c q = get_or c q 0

-- the symbol at p may get more: some later kind may be put there, or this one, from f on
abbrev pub Open : List ℕ → ℕ → ℕ → ℕ → Type 0
Open l kind f p = (kind + 1 < get_or l p 0) ⊎ ((get_or l p 0 ≡ kind + 1) × (f ≤ p))

pub record Grows (l : List ℕ) (p kind f : ℕ) (b : Bool) : Type 0 where
  pub yes : b ≡ true → Open l kind f p
  pub no : Open l kind f p → b ≡ true

-- d is what may come of c
pub record Grown (c l : List ℕ) (kind f : ℕ) (d : Counts) : Type 0 where
  pub least : (p : ℕ) → get_or c p 0 ≤ d p
  pub rest : (p : ℕ) → Open l kind f p ⊎ (d p ≡ get_or c p 0)

-- the numbers of members that the counts may become
pub record Spanned (e : List ℕ) (at : ℕ) (c l : List ℕ) (kind f : ℕ) (r : Span) : Type 0 where
  pub end : (R : Expr) → At e at R → r.end ≡ at + size_e R
  pub small : (R : Expr) → At e at R → Small (65536 * size_e R) r.range
  pub sound : (R : Expr) → At e at R → (d : Counts) → Grown c l kind f d → (n : ℕ) → Sums R at d n → Lies n r.range
  pub exact : (R : Expr) → At e at R → ((p : ℕ) → Open l kind f p → ⊥) → (n : ℕ) → Lies n r.range → Sums R at (counts c) n

pub record Possible (e : List ℕ) (at : ℕ) (c l : List ℕ) (kind f : ℕ) (r : Bool) : Type 0 where
  pub sound : (R : Expr) → At e at R → (d : Counts) → Grown c l kind f d → Good R at d → r ≡ true
  pub exact : (R : Expr) → At e at R → ((p : ℕ) → Open l kind f p → ⊥) → r ≡ true → Good R at (counts c)

-- ---- the search

-- how many terms are left: n of the first kind, and all of the others
abbrev pub left : ℕ → List Kind → ℕ
left n [] = 0
left n (k ∷ ks) = n + total ks

-- the kinds that stand from `kind` to `top`, with room for what is left of them
pub record Ready (w : List ℕ) (kind top : ℕ) (c l : List ℕ) (times : ℕ) : Type 0 where
  pub ks : List Kind
  pub records : Records w kind ks top
  pub fits : top ≤ length w
  pub bounded : top < 65536
  pub within : Each (λ (k : Kind). Each (λ p. (p < length c) × (p < length l)) k.places) ks
  pub room : (p : ℕ) → get_or c p 0 + left times ks < 65536
  pub some : kind < top → 0 < times

-- a kind stands there
pub record Some (w : List ℕ) (kind top : ℕ) : Type 0 where
  pub k : Kind
  pub ks : List Kind
  pub records : Records w kind (k ∷ ks) top
  pub fits : top ≤ length w

-- l has, for each place, the last kind that may be put there, as the place after its first word
abbrev pub Noted : List ℕ → ℕ → List Kind → Type 0
Noted l kind [] = Unit {0}
Noted l kind (k ∷ ks) = Each (λ p. kind + 1 ≤ get_or l p 0) k.places × Noted l (kind + 2 + length k.places) ks

-- the number of terms of the first kind, 0 where there is none
abbrev pub Heads : ℕ → List Kind → Type 0
Heads n [] = n ≡ 0
Heads n (k ∷ ks) = n ≡ k.times

-- one more of the first kind was put down at p: where to go on
pub record Onward (w : List ℕ) (kind times f top : ℕ) (r : Next) : Type 0 where
  pub more : 0 < times → (r.kind ≡ kind) × (r.times ≡ times) × (r.floor ≡ f)
  pub next : times ≡ 0 → (k : Kind) (ks : List Kind) → Records w kind (k ∷ ks) top → (r.kind ≡ kind + 2 + length k.places) × (r.floor ≡ 0) × Heads r.times ks

-- the search up to i: nothing that was tried will do
pub record Trying (e : List ℕ) (at : ℕ) (w c l : List ℕ) (kind times f top i : ℕ) : Type 0 where
  pub from : kind + 2 ≤ i
  pub none : (R : Expr) → At e at R → (k : Kind) (ks : List Kind) → Records w kind (k ∷ ks) top → Noted l kind (k ∷ ks) → ((p : ℕ) → get_or l p 0 ≤ top)
      → (j : ℕ) → kind + 2 + j < i → j < length k.places → f ≤ get_or k.places j 0 → Ways (Rest (Good R at) ks) (bump (counts c) (get_or k.places j 0)) (times - 1) (get_or k.places j 0) k.places → ⊥

pub record Placed (e : List ℕ) (at : ℕ) (w c l : List ℕ) (kind times f top : ℕ) (r : Bool) : Type 0 where
  pub means : (R : Expr) → At e at R → (ks : List Kind) → Records w kind ks top → Noted l kind ks → ((p : ℕ) → get_or l p 0 ≤ top)
      → (r ≡ true) ↔ Going (Good R at) ks times f (counts c)

-- the first kind's next term is put on p
pub record Attempted (e : List ℕ) (at : ℕ) (w c l : List ℕ) (kind times p top : ℕ) (r : Bool) : Type 0 where
  pub means : (R : Expr) → At e at R → (k : Kind) (ks : List Kind) → Records w kind (k ∷ ks) top → Noted l kind (k ∷ ks) → ((q : ℕ) → get_or l q 0 ≤ top)
      → (r ≡ true) ↔ Ways (Rest (Good R at) ks) (bump (counts c) p) times p k.places

-- ---- which kind is the last for a place

-- the places of the kind at `kind`, which ends at `end`, can be noted in l
pub record Markable (w : List ℕ) (kind end : ℕ) (l : List ℕ) : Type 0 where
  pub fits : end ≤ length w
  pub bounded : kind + 1 < 65536
  pub inside : (j : ℕ) → kind + 2 ≤ j → j < end → get_or w j 0 < length l
  pub most : (q : ℕ) → get_or l q 0 ≤ kind + 1

pub record Marked (w : List ℕ) (kind i : ℕ) (l l' : List ℕ) : Type 0 where
  pub len : length l' ≡ length l
  pub grows : (q : ℕ) → get_or l q 0 ≤ get_or l' q 0
  pub most : (q : ℕ) → get_or l' q 0 ≤ kind + 1
  pub hits : (j : ℕ) → kind + 2 ≤ j → j < i → kind + 1 ≤ get_or l' (get_or w j 0) 0

pub record Listed (w : List ℕ) (kind top : ℕ) (l : List ℕ) : Type 0 where
  pub ks : List Kind
  pub records : Records w kind ks top
  pub fits : top ≤ length w
  pub bounded : top < 65536
  pub within : Each (λ (k : Kind). Each (λ p. p < length l) k.places) ks
  pub most : (q : ℕ) → get_or l q 0 ≤ kind

pub record NotedFrom (w : List ℕ) (kind top : ℕ) (l l' : List ℕ) : Type 0 where
  pub len : length l' ≡ length l
  pub grows : (q : ℕ) → get_or l q 0 ≤ get_or l' q 0
  pub most : (q : ℕ) → get_or l' q 0 ≤ top
  pub noted : (ks : List Kind) → Records w kind ks top → Noted l' kind ks

-- how many terms the first kind has
pub record Headed (w : List ℕ) (kind top r : ℕ) : Type 0 where
  pub each : (ks : List Kind) → Records w kind ks top → Heads r ks

-- ---- the call

-- an expression, and kinds of terms with places among its words
pub record Asked (e : List ℕ) (at : ℕ) (w : List ℕ) (base top : ℕ) : Type 0 where
  pub expression : Expression e at
  pub ks : List Kind
  pub records : Records w base ks top
  pub fits : top ≤ length w
  pub bounded : top < 65536
  pub within : Each (λ (k : Kind). Each (λ p. p < length e) k.places) ks
  pub room : total ks < 65536

pub record Shared (e : List ℕ) (at : ℕ) (w : List ℕ) (base top : ℕ) (r : Bool) : Type 0 where
  pub means : (R : Expr) → At e at R → (ks : List Kind) → Records w base ks top → (r ≡ true) ↔ Rest (Good R at) ks none
