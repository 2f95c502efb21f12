-- `side_at`: the places and the look that the walk finds are the hedge's own.
use mathlib.Core.Path.{◌≡◌, refl, ap, ◌∙◌}
use Prim.Native.Nat.{ℕ, ◌+◌}
use mathlib.Core.List.{List}
use lib.ListN.{drop}
use Rattle.words.specs.Spans.{span, element_end}
use Rattle.views.proofs.Rests.{rest_end}
use Rattle.views.proofs.Spans.{stands-place}
use Rattle.views.proofs.Looks.{side-of, side-is}
use Rattle.views.proofs.side_at.Goals as goal

-- the rest after the first element ends where the hedge does
ends : (k : List ℕ) (i : ℕ) {r t : ℕ} → r ≡ element_end k i → t ≡ r + span 1 (drop r k) → t ≡ i + span 1 (drop i k)
ends k i e d = d ∙ ap (λ r. r + span 1 (drop r k)) e ∙ rest_end k i

pub returns : goal.returns
returns c = let e = ends _ _ c.element_end-rest.ensures c.hedge_end-to.ensures in
    (refl, (λ h beyond s. side-of s c.element_end-rest.ensures e (c.look_at-look.ensures.0 h beyond s (c.element_end-rest.ensures ∙ stands-place s))), side-is _ _ c.element_end-rest.ensures e c.look_at-look.ensures.1)
