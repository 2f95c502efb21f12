-- Where an expression and a complete hedge stand in words, what the marks leave among bools, and what the functions promise of them.
use Rattle.std.specs.Prelude.{ℕ, ◌+◌, ◌≡◌, ◌↔◌, Bool, true, false, ◌&&◌, ◌||◌, List, ◌++◌, length, get_or, drop, set}
use Rattle.language.specs.declared.Sym.{Sym}
use Rattle.language.specs.declared.Signature.{Signature}
use Rattle.language.specs.Limits.{desk}
use Rattle.language.specs.Trees.{Expr, cat, alt, star}
use Rattle.language.specs.Writing.{expr_words}
use Rattle.language.specs.Fine.{fine_expr}
use Rattle.meaning.specs.Complete.{Complete, tree}
use Rattle.meaning.specs.Meaning.{Member}
use Rattle.rules.specs.Expressions.{nullable}
use Rattle.passing.specs.Places.{Holds, StandsC, Beside}
use Rattle.any_order.specs.Places.{size_e, At}
use Rattle.member.specs.declared.Seen.{Seen}
use Rattle.member.specs.declared.Step.{Step}
use Rattle.member.specs.Marks.{Marked, meps, mcat, malt, mstar, mover, bare, final, shift, accepts, tests, of_term}

-- k has, at each concatenation and star of m, whether its first part may end here
pub data Kept (k : List Bool) : ℕ → Marked → Type 0 where
  kept-eps : {at : ℕ} → Kept k at meps
  kept-cat : {at : ℕ} {a b : Marked} → get_or k at false ≡ final a → Kept k (at + 1) a → Kept k (at + 1 + size_e (bare a)) b → Kept k at (mcat a b)
  kept-alt : {at : ℕ} {a b : Marked} → Kept k (at + 1) a → Kept k (at + 1 + size_e (bare a)) b → Kept k at (malt a b)
  kept-star : {at : ℕ} {a : Marked} → get_or k at false ≡ final a → Kept k (at + 1) a → Kept k at (mstar a)
  kept-over : {at : ℕ} {f : Sym} {m : Bool} {R : Expr} → Kept k at (mover m f R)

-- ---- what the functions promise

-- the place after whatever expression stands there, and whether ε is in its language
pub record Looked (e : List ℕ) (at : ℕ) (r : Seen) : Type 0 where
  pub each : (R : Expr) → At e at R → (r.end ≡ at + size_e R) × (r.null ≡ nullable R)

pub record Shifted (σ : Signature) (e : List ℕ) (at : ℕ) (h : List ℕ) (j : ℕ) (k : List Bool) (m : Bool) (k' : List Bool) (r : Step) : Type 0 where
  pub beside : Beside k k' at r.end
  pub sized : (R : Expr) → At e at R → (r.end ≡ at + size_e R) × (r.null ≡ nullable R)
  pub each : (M : Marked) (f : Sym) (c rest : Complete) → At e at (bare M) → Kept k at M → Holds h j (tree f c rest)
      → (r.fin ≡ final (shift m (of_term σ f (tests σ c)) M)) × Kept k' at (shift m (of_term σ f (tests σ c)) M)

-- what the two parts of a concatenation, a choice or a star are read with, and what is kept and returned of them, by the word that stands there
pub record Enters (x : ℕ) (m old r : Bool) : Type 0 where
  pub star : x ≡ 7003 → r ≡ (m || old)
  pub other : (x ≡ 7003 → ⊥) → r ≡ m

pub record Follows (x : ℕ) (m old null r : Bool) : Type 0 where
  pub cat : x ≡ 7001 → r ≡ (old || (m && null))
  pub other : (x ≡ 7001 → ⊥) → r ≡ m

pub record Keeps (k : List Bool) (at x : ℕ) (fin : Bool) (k' : List Bool) : Type 0 where
  pub alt : x ≡ 7002 → k' ≡ k
  pub other : (x ≡ 7002 → ⊥) → k' ≡ set k at fin

pub record Together (x : ℕ) (a b r : Step) : Type 0 where
  pub cat : x ≡ 7001 → r ≡ record { end = b.end; null = a.null && b.null; fin = (a.fin && b.null) || b.fin }
  pub other : (x ≡ 7001 → ⊥) → r ≡ record { end = b.end; null = a.null || b.null; fin = a.fin || b.fin }

pub record Accepted (σ : Signature) (e : List ℕ) (at : ℕ) (h : List ℕ) (j : ℕ) (k k' : List Bool) (r : Bool) : Type 0 where
  pub len : length k' ≡ length k
  pub beside : (R : Expr) → At e at R → Beside k k' at (at + size_e R)
  pub each : (R : Expr) (g : Complete) → At e at R → Holds h j g → r ≡ accepts σ R g

-- ---- the same in words

-- These words are those of R, whose symbols have words of their own, and then others.
pub record Stands (e : List ℕ) (at : ℕ) (R : Expr) : Type 0 where
  pub others : List ℕ
  pub fine : fine_expr desk R
  pub words : drop at e ≡ expr_words R ++ others

-- an expression and a complete hedge stand there
pub record Both (e : List ℕ) (at : ℕ) (h : List ℕ) (j : ℕ) : Type 0 where
  pub R : Expr
  pub g : Complete
  pub expression : Stands e at R
  pub hedge : StandsC h j g

-- true exactly when the one is a member of the other
pub record Decided (σ : Signature) (e : List ℕ) (at : ℕ) (h : List ℕ) (j : ℕ) (r : Bool) : Type 0 where
  pub means : (R : Expr) (g : Complete) → Stands e at R → StandsC h j g → (r ≡ true) ↔ Member σ R g
