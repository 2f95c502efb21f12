-- `any_unordered`: the test is the definition's.
use mathlib.Core.Path.{refl}
use Rattle.language.specs.Trees.{any_unordered}
use Rattle.language.proofs.any_unordered.Goals as goal

pub returns : goal.returns
unfolding any_unordered
returns c = refl
