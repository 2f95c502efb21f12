-- Under an unordered symbol: the terms are gathered by the symbols that they can be, and then shared out.
use Rattle.std.specs.Prelude.{ℕ, ◌+◌, ◌-◌, ◌*◌, ◌<◌, ◌≤◌, ◌≡◌, ◌⊎◌, ◌↔◌, Bool, true, false, List, [], ◌∷◌, ◌++◌, T, length, get_or, set}
use Rattle.language.specs.declared.Sym.{Sym}
use Rattle.language.specs.declared.Signature.{Signature}
use Rattle.language.specs.Limits.{desk}
use Rattle.language.specs.Kinds.{pick}
use Rattle.language.specs.Trees.{Expr, eps, cat, alt, star, over, any_unordered}
use Rattle.meaning.specs.Complete.{Complete, tree}
use Rattle.rules.specs.Each.{Each}
use Rattle.any_order.specs.Places.{size_e, At}
use Rattle.any_order.specs.Sharing.{bump, Kind, Rest, Good, none, Records, total}
use Rattle.member.specs.declared.Fitted.{Fitted}
use Rattle.member.specs.declared.Joined.{Joined}
use Rattle.member.specs.declared.Tried.{Tried}
use Rattle.member.specs.Marks.{tests, of_term}
use Rattle.member.specs.Leaves.{Fits, Terms}
use Rattle.passing.specs.Places.{size_c, Holds, Beside, Skipped}

-- the places of the symbols that a term can be, of which p says whether it is of g(S)
abbrev pub row_of : (Sym → Expr → Bool) → Expr → ℕ → List ℕ
row_of p eps at = []
row_of p (cat a b) at = row_of p a (at + 1) ++ row_of p b (at + 1 + size_e a)
row_of p (alt a b) at = row_of p a (at + 1) ++ row_of p b (at + 1 + size_e a)
row_of p (star a) at = row_of p a (at + 1)
row_of p (over g S) at = pick (p g S) (at ∷ []) []

-- L stands in w from t to t'
pub record Lists (w : List ℕ) (t : ℕ) (L : List ℕ) (t' : ℕ) : Type 0 where
  pub end : t' ≡ t + length L
  pub each : (i : ℕ) → i < length L → get_or w (t + i) 0 ≡ get_or L i 0

-- w' is w before `top`
pub record Spared (w w' : List ℕ) (top : ℕ) : Type 0 where
  pub len : length w' ≡ length w
  pub low : (q : ℕ) → q < top → get_or w' q 0 ≡ get_or w q 0

-- ---- what the functions ask

-- a symbol, with an expression under it
pub record Symbol (e : List ℕ) (p : ℕ) : Type 0 where
  pub g : Sym
  pub S : Expr
  pub here : At e p (over g S)

-- the expression at q stands in the one at `at`
pub record Inner (e : List ℕ) (at q : ℕ) : Type 0 where
  pub R : Expr
  pub here : At e at R
  pub S : Expr
  pub there : At e q S
  pub low : at ≤ q
  pub high : q + size_e S ≤ at + size_e R

pub record Kinds (w : List ℕ) (at top : ℕ) : Type 0 where
  pub ks : List Kind
  pub records : Records w at ks top
  pub fits : top ≤ length w

-- the words are as many as the desk allows, and k has a place for each of the expression's
pub record Scene (e h : List ℕ) (k : List Bool) : Type 0 where
  pub long : length e ≤ length k
  pub short : length e ≤ desk.question
  pub hedge : length h ≤ desk.literal

-- room behind `top` for the terms of the hedge at j
pub record Spacious (h : List ℕ) (j : ℕ) (w : List ℕ) (top : ℕ) : Type 0 where
  pub g : Complete
  pub here : Holds h j g
  pub room : top + 2 * size_c g ≤ length w
  pub bounded : length w < 65536

-- which is needed where some symbol is unordered
pub record Lent (σ : Signature) (h : List ℕ) (j : ℕ) (w : List ℕ) (top : ℕ) : Type 0 where
  pub room : T (any_unordered σ) → Spacious h j w top

-- kinds stand in w from `base` to `top`, and the hedge at j is still to be gathered
pub record Gathered (e : List ℕ) (h : List ℕ) (j : ℕ) (w : List ℕ) (base top : ℕ) : Type 0 where
  pub g : Complete
  pub here : Holds h j g
  pub ks : List Kind
  pub records : Records w base ks top
  pub within : Each (λ (k : Kind). Each (λ p. p < length e) k.places) ks
  pub few : total ks + size_c g < 65536
  pub room : top + 2 * size_c g ≤ length w
  pub bounded : length w < 65536

-- ---- and what they promise

-- whether the term at j is of the symbol at p
pub record Answered (σ : Signature) (e : List ℕ) (p : ℕ) (h : List ℕ) (j : ℕ) (k k' : List Bool) (w w' : List ℕ) (top : ℕ) (r : Bool) : Type 0 where
  pub spared : Spared w w' top
  pub len : length k' ≡ length k
  pub beside : (g : Sym) (S : Expr) → At e p (over g S) → Beside k k' (p + 1) (p + 1 + size_e S)
  pub each : (g : Sym) (S : Expr) (f : Sym) (c rest : Complete) → At e p (over g S) → Holds h j (tree f c rest) → r ≡ of_term σ f (tests σ c) g S

-- the places of the symbols that the term at j can be, written from t on, unless there was no room
pub record FittedAll (σ : Signature) (e : List ℕ) (at : ℕ) (h : List ℕ) (j : ℕ) (k k' : List Bool) (w w' : List ℕ) (t cap : ℕ) (r : Fitted) : Type 0 where
  pub spared : Spared w w' t
  pub beside : Beside k k' at r.end
  pub sized : (R : Expr) → At e at R → r.end ≡ at + size_e R
  pub within : (t ≤ r.top) × (r.top ≤ cap)
  pub each : (R : Expr) (f : Sym) (c rest : Complete) → At e at R → Holds h j (tree f c rest) → r.full ≡ false → Lists w' t (row_of (of_term σ f (tests σ c)) R at) r.top

-- whether the hedge at j, with the terms of the kinds, is in some order a member
pub record Shuffles (σ : Signature) (e : List ℕ) (at : ℕ) (h : List ℕ) (j : ℕ) (k k' : List Bool) (w w' : List ℕ) (base top : ℕ) (r : Bool) : Type 0 where
  pub spared : Spared w w' top
  pub len : length k' ≡ length k
  pub beside : (R : Expr) → At e at R → Beside k k' at (at + size_e R)
  pub each : (R : Expr) (g : Complete) (ks : List Kind) → At e at R → Holds h j g → Records w base ks top → (r ≡ true) ↔ Rest (Terms (Fits σ R at) (Good R at) g) ks none

-- the same where the term at j is put on one of the symbols of the part at q
pub record ShufflesBy (σ : Signature) (e : List ℕ) (at q : ℕ) (h : List ℕ) (j : ℕ) (k k' : List Bool) (w w' : List ℕ) (base top : ℕ) (r : Tried) : Type 0 where
  pub spared : Spared w w' top
  pub len : length k' ≡ length k
  pub beside : (R : Expr) → At e at R → Beside k k' at (at + size_e R)
  pub sized : r.yes ≡ false → (S : Expr) → At e q S → r.end ≡ q + size_e S
  pub each : (R S : Expr) (f : Sym) (c g : Complete) (ks : List Kind) → At e at R → At e q S → Holds h j (tree f c g) → Records w base ks top
      → (r.yes ≡ true) ↔ ((p : ℕ) × Fits σ S q f c p × Rest (λ d. Terms (Fits σ R at) (Good R at) g (bump d p)) ks none)

-- ---- which kind has these places

-- the kind at o, which has the places L, has one term more
abbrev pub Raised : List Kind → ℕ → ℕ → List ℕ → List Kind → Type 0
Raised [] at o L ks' = ⊥
Raised (k ∷ ks) at o L ks' =
    ((o ≡ at) × (k.places ≡ L) × (ks' ≡ record { times = k.times + 1; places = k.places } ∷ ks))
    ⊎ ((rest : List Kind) × (ks' ≡ k ∷ rest) × Raised ks (at + 2 + length k.places) o L rest)

-- the kind from `at` on that has the places which stand in w from top + 2 to t, or `top`
pub record Found (w : List ℕ) (at top t o : ℕ) : Type 0 where
  pub within : (at ≤ o) × (o ≤ top)
  pub each : (ks : List Kind) (L : List ℕ) → Records w at ks top → Lists w (top + 2) L t → (o ≡ top) ⊎ ((ks' : List Kind) × Raised ks at o L ks')

-- each kind may have one term more
pub record Countable (w : List ℕ) (base top t : ℕ) : Type 0 where
  pub few : (o : ℕ) → Found w base top t o → (o ≡ top → ⊥) → get_or w o 0 + 1 < 65536

-- the kind that was found has one term more, or it is new
pub record Joins (w : List ℕ) (base top t : ℕ) (w' : List ℕ) (r : Joined) : Type 0 where
  pub found : Found w base top t r.at
  pub new : r.at ≡ top → (r.top ≡ t) × (w' ≡ set (set w top 1) (top + 1) (t - top - 2))
  pub old : (r.at ≡ top → ⊥) → (r.top ≡ top) × (w' ≡ set w r.at (get_or w r.at 0 + 1))

pub record Undoable (w : List ℕ) (o top : ℕ) : Type 0 where
  pub some : (o ≡ top → ⊥) → (o < length w) × (length w < 65536) × (1 ≤ get_or w o 0)

-- the kind at o has one term less, or it is behind the others
pub record Undone (w : List ℕ) (o top : ℕ) (w' : List ℕ) : Type 0 where
  pub new : o ≡ top → w' ≡ w
  pub old : (o ≡ top → ⊥) → w' ≡ set w o (get_or w o 0 - 1)

-- ---- how far the places of a term may go

pub record Roomy (h : List ℕ) (j n : ℕ) : Type 0 where
  pub bounded : n < 65536
  pub enough : (stop : ℕ) → Skipped h j stop → (2 * (stop - j) ≤ n + 4) × (j ≤ stop)

pub record Capped (h : List ℕ) (j n r : ℕ) : Type 0 where
  pub stop : ℕ
  pub skipped : Skipped h j stop
  pub is : r ≡ n + 4 - 2 * (stop - j)

-- the place of a symbol is written, where the term is of it and there is room
pub record Noted (w : List ℕ) (t cap at : ℕ) (yes : Bool) (end : ℕ) (w' : List ℕ) (r : Fitted) : Type 0 where
  pub not : yes ≡ false → (w' ≡ w) × (r ≡ record { end = end; top = t; full = false })
  pub one : yes ≡ true → t < cap → (w' ≡ set w t at) × (r ≡ record { end = end; top = t + 1; full = false })
  pub more : yes ≡ true → cap ≤ t → (w' ≡ w) × (r ≡ record { end = end; top = t; full = true })
