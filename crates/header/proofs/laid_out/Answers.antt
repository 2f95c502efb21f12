-- `header::laid_out` meets its contract: each return is a law of the table of offsets, at the widened numbers.
-- Assumes nothing.
use Prim.Native.Nat.{ℕ, ◌+◌, ◌<◌, ◌≤◌}
use mathlib.Core.Path.{◌≡◌, sym, ◌∙◌}
use mathlib.Core.Bool.{false}
use mathlib.Core.List.{List}
use lib.ListN.{length, get_or}
use Rattle.language.specs.Question.{rising, laid_out}
use Rattle.language.specs.Between.{between}
use Rattle.language.proofs.Offsets.{laid-short, laid-first, laid-rest}
use Rattle.header.proofs.laid_out.Goals as goal

module _ (w : List ℕ) (head n h m : ℕ) (eh : h ≡ head) (em : m ≡ n) where
  same : laid_out h m w ≡ laid_out head n w
  same = cc

  short : length w < h + m + 1 → false ≡ laid_out head n w
  short p = sym (laid-short h m w p) ∙ same

  module _ (p : h + m + 1 ≤ length w) (o : ℕ) (e : o ≡ get_or w h 0) where
    elsewhere : (o ≡ h + m + 1 → ⊥) → false ≡ laid_out head n w
    elsewhere q = sym (laid-first h m w p (λ z. q (e ∙ z))) ∙ same

    rest : o ≡ h + m + 1 → rising (h + m + 1) (between (h + 1) (h + m + 1) w) (length w) ≡ laid_out head n w
    rest z = sym (laid-rest h m w p (sym e ∙ z)) ∙ same

pub returns-then-w-first : goal.returns-then-w-first
returns-then-w-first c = short _ _ _ _ _ c.from-at.ensures c.from.ensures c.if-w-first.true

pub returns-then-from-first : goal.returns-then-from-first
returns-then-from-first c = elsewhere _ _ _ _ _ c.from-at.ensures c.from.ensures c.if-w-first.false _ c.from-2.ensures c.if-from-first.true

pub returns : goal.returns
returns c = c.rises.ensures ∙ rest _ _ _ _ _ c.from-at.ensures c.from.ensures c.if-w-first.false _ c.from-2.ensures c.if-from-first.false
