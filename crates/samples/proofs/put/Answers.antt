-- One word more: it is stored where there is room, and nothing is where there is none.
use Rattle.samples.proofs.Laid.{laid_one, laid-full}
use Rattle.samples.proofs.put.Goals as goal

pub returns-then-at-out : goal.returns-then-at-out
returns-then-at-out c = search (laid_one)

pub returns : goal.returns
returns c = search (laid-full)
