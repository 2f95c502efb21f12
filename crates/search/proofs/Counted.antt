-- An equation in its words, and the table that has the counts of its conjunction.
use Prim.Native.Nat.{ℕ}
use mathlib.Core.Path.{◌≡◌}
use mathlib.Core.List.{List}
use lib.ListN.{get_or}
use Rattle.language.specs.Trees.{Hedge, eqn, Conj}
use Rattle.views.specs.declared.View.{View}
use Rattle.views.specs.Views.{Sees}
use Rattle.views.specs.Standing.{LiteralAt, SomeLiteral}
use Rattle.views.proofs.LiteralWalks.{at-equation}
use Rattle.counts.specs.Tables.{afresh, EquationCounted}
use Rattle.counts.proofs.Own.{beside-here, beside-turned}

pub counted-at : (k : List ℕ) (at : ℕ) → SomeLiteral k at → (v : View) → get_or k at 0 ≡ 5000
    → ((before : Conj) (l r : Hedge) (behind : Conj) → LiteralAt k at before (eqn l r) behind → Sees k v before l r behind) → {table : List ℕ} → table ≡ afresh k → EquationCounted k table v
counted-at k at m v e f {table} d =
    at-equation k at (λ before l behind. EquationCounted k table v) e
    (λ before l r behind p. record { before = before; l = l; r = r; behind = behind; sees = f before l r behind p; counts = beside-here p d }) m.before m.l m.behind m.stands

pub counted-turned : (k : List ℕ) {table : List ℕ} (v u : View) → ((k : List ℕ) (before behind : Conj) (l r : Hedge) → Sees k v before l r behind → Sees k u before r l behind)
    → EquationCounted k table v → EquationCounted k table u
counted-turned k v u f m = record { before = m.before; l = m.r; r = m.l; behind = m.behind; sees = f k m.before m.behind m.l m.r m.sees; counts = beside-turned m.counts }
