-- `passing::deeper` meets its contract: each arm rewrites `pick` by its test.
use mathlib.Core.Path.{◌≡◌}
use Prim.Native.Nat.{ℕ}
use lib.Dec.{eqb}
use borrow.Author.Tests.{eq-eqb, ne_eqb}
use Rattle.language.specs.Kinds.{pick}
use Rattle.passing.proofs.deeper.Goals as goal

at-end : (w a b : ℕ) → w ≡ 0 → a ≡ pick (eqb w 0) a b
at-end w a b e = rw (eq-eqb w 0 e)

at_symbol : (w a b : ℕ) → (w ≡ 0 → ⊥) → b ≡ pick (eqb w 0) a b
at_symbol w a b n = rw (ne_eqb w 0 n)

pub returns-then-word-eq0 : goal.returns-then-word-eq0
returns-then-word-eq0 c = search (at-end)

pub returns-else-word-eq0 : goal.returns-else-word-eq0
returns-else-word-eq0 c = search (at_symbol)
