-- `handing::keeps_bytes` meets its contract.
use mathlib.Core.Path.{◌≡◌, sym}
use lib.Dec.{leb}
use borrow.Author.Tests.{ne_eqb}
use Prim.Native.Nat.{ℕ}
use Rattle.handing.specs.Handed.{keeps_bytes}
use Rattle.handing.proofs.Handed.{keeps-none}
use Rattle.handing.proofs.keeps_bytes.Goals as goal

not_none : (number : ℕ) → (number ≡ 0 → ⊥) → leb number 6 ≡ keeps_bytes number
unfolding keeps_bytes
not_none number h = simp (ne_eqb _ _ h)

pub returns-then-number-eq0 : goal.returns-then-number-eq0
returns-then-number-eq0 c = sym (keeps-none _ c.if-number-eq0.true)

pub returns : goal.returns
returns c = not_none _ c.if-number-eq0.false
