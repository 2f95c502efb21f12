-- What is left after a symbol, laid open.
use Rattle.std.specs.Prelude.{Option, None, Some, Result, Ok, Err, ℕ, ◌<◌, ◌≤◌, ◌≡◌, Bool, true, false, List, length}
use Rattle.language.specs.Trees.{Expr, eps, cat}
use Rattle.rules.specs.Looks.{is_eps}
use Rattle.expressions.specs.Standing.{Here}
use Rattle.walk.specs.Spots.{Spot, whole, behind, rest_at}
use Rattle.state_classes.specs.declared.tails.Cut.{Cut}
use Rattle.state_classes.specs.declared.tails.Tail.{Tail}
use Rattle.state_classes.specs.declared.tails.Laid.{Laid}
use Rattle.state_classes.specs.declared.tails.Laid.TheVariants.{One, Two}
use Rattle.state_classes.specs.declared.tails.Split.{Split}
use Rattle.charts.specs.Levels.{place_of}
use Rattle.state_classes.specs.States.{Means}

-- X is what is left after the symbol at p of what stands at x
pub record Left (k : List ℕ) (x p : ℕ) (X : Expr) : Type 0 where
  pub spot : Spot
  pub beyond : List ℕ
  pub stands : Here k x (whole spot) beyond
  pub place : place_of x spot ≡ p
  pub is : X ≡ rest_at spot

-- its last part, which stands at `part`, and what is left before it
pub record Parts (k : List ℕ) (p : ℕ) (X : Expr) (part next : ℕ) : Type 0 where
  pub last : Expr
  pub beyond : List ℕ
  pub stands : Here k part last beyond
  pub full : is_eps last ≡ false
  pub before : Expr
  pub left : Left k next p before
  pub is : X ≡ behind last before

-- nothing is left
pub record Spent (k : List ℕ) (at p : ℕ) : Type 0 where
  pub none : (X : Expr) → Left k at p X → X ≡ eps

-- something is
pub record Rested (k : List ℕ) (at p : ℕ) (c : Cut) : Type 0 where
  pub further : (at < c.next) × (at < length k) × (at ≤ c.part)
  pub some : (X : Expr) → Left k at p X → Parts k p X c.part c.next

abbrev pub Peeled : List ℕ → ℕ → ℕ → Option Cut → Type 0
Peeled k at p None = Spent k at p
Peeled k at p (Some c) = Rested k at p c

-- ---- compared

-- r says whether the two are one expression
pub record Compared (r : Bool) (X Y : Expr) : Type 0 where
  pub yes : r ≡ true → X ≡ Y
  pub not : r ≡ false → X ≡ Y → ⊥

-- of what stands at two places
pub record Alike (k : List ℕ) (a b : ℕ) (r : Bool) : Type 0 where
  pub each : (A B : Expr) (w v : List ℕ) → Here k a A w → Here k b B v → Compared r A B

-- a tail is an expression in the words, or what is left of it after a symbol
abbrev pub Is : List ℕ → Tail → Expr → Type 0
Is k t X = elim t.rest [ true ↦ Left k t.at t.symbol X | false ↦ (w : List ℕ) × Here k t.at X w ]

-- a concatenation: its first part as a tail, and its second in the words
pub record Joined (k : List ℕ) (X : Expr) (t : Tail) (part : ℕ) : Type 0 where
  pub first : Expr
  pub second : Expr
  pub beyond : List ℕ
  pub is : X ≡ cat first second
  pub tail : Is k t first
  pub stands : Here k part second beyond

-- laid open: nothing
pub record OpenedNone (k : List ℕ) (t : Tail) : Type 0 where
  pub none : (X : Expr) → Is k t X → X ≡ eps

-- one expression that stands in the words
pub record OpenedOne (k : List ℕ) (t : Tail) (p : ℕ) : Type 0 where
  pub low : t.at ≤ p
  pub one : (X : Expr) → Is k t X → (w : List ℕ) × Here k p X w

-- or a concatenation
pub record OpenedTwo (k : List ℕ) (t : Tail) (c : Cut) : Type 0 where
  pub further : (t.at ≤ c.part) × (t.at < c.next) × (t.at < length k)
  pub two : (X : Expr) → Is k t X → Joined k X (record { at = c.next; symbol = t.symbol; rest = true }) c.part

abbrev pub Opened : List ℕ → Tail → Option Laid → Type 0
Opened k t None = OpenedNone k t
Opened k t (Some (One p)) = OpenedOne k t p
Opened k t (Some (Two c)) = OpenedTwo k t c

-- both are in the words
abbrev pub both_one : Laid → Laid → Option (ℕ × ℕ)
both_one (One p) (One q) = Some (p, q)
both_one (One p) (Two d) = None
both_one (Two c) (One q) = None
both_one (Two c) (Two d) = None

-- a concatenation, split
pub record Apart (k : List ℕ) (t : Tail) (s : Split) : Type 0 where
  pub further : (t.at < s.rest.at) × (t.at < length k)
  pub yes : (X : Expr) → Is k t X → Joined k X s.rest s.part

-- one expression, which is no concatenation
pub record Whole (k : List ℕ) (t : Tail) (p : ℕ) : Type 0 where
  pub one : (X : Expr) → Is k t X → (w : List ℕ) × Here k p X w
  pub not : (X : Expr) → Is k t X → (A B : Expr) → X ≡ cat A B → ⊥

abbrev pub SplitOf : List ℕ → Tail → Result Split ℕ → Type 0
SplitOf k t (Ok s) = Apart k t s
SplitOf k t (Err p) = Whole k t p

-- r says whether what was laid open is eps
pub record Nothing (k : List ℕ) (o : Option Laid) (r : Bool) : Type 0 where
  pub each : (t : Tail) → Opened k t o → (X : Expr) → Is k t X → Compared r X eps

-- of two tails
pub record Same (k : List ℕ) (s t : Tail) (r : Bool) : Type 0 where
  pub each : (X Y : Expr) → Is k s X → Is k t Y → Compared r X Y

-- ---- states

-- the tail is what the state means
pub record TailOf (k : List ℕ) (at s : ℕ) (t : Tail) : Type 0 where
  pub each : (R : Expr) (w : List ℕ) → Here k at R w → (X : Expr) → Means at R s X → Is k t X

-- of two states
pub record SameState (k : List ℕ) (at s t : ℕ) (r : Bool) : Type 0 where
  pub each : (R : Expr) (w : List ℕ) → Here k at R w → (X Y : Expr) → Means at R s X → Means at R t Y → Compared r X Y
