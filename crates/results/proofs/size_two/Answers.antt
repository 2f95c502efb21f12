-- The second result is counted on from the first, if that is not too long.
use Rattle.plans.specs.Results.{made}
use Rattle.plans.specs.Sizes.{sized}
use Rattle.results.proofs.Results.{two-over, two-more}
use Rattle.results.proofs.size_two.Goals as goal

pub returns-in_err-n : goal.returns-in_err-n
unfolding sized
returns-in_err-n c = let a = c.args in rw c.from_residual.ensures (two-over (made a.k.now a.a 0) (made a.k.now a.b 0) _ c.size_one.ensures c.in_err-n.was)

pub returns : goal.returns
unfolding sized
returns c = let a = c.args in two-more (made a.k.now a.a 0) (made a.k.now a.b 0) _ c.size_one.ensures _ c.in_ok-n.was _ c.size_one-2.ensures
