-- `swapped`: the sides change places.
use mathlib.Core.Path.{refl}
use Rattle.views.specs.Places.{turned}
use Rattle.views.proofs.swapped.Goals as goal

pub returns : goal.returns
unfolding turned
returns c = (
  (λ k before behind l r w. record { start = w.start; left = w.right; right = w.left; finish = w.finish; len = w.len; fine_before = w.fine_before; fine_behind = w.fine_behind }),
  refl,
)
