use mathlib.Core.Path.{◌∙◌}
use Rattle.clash.proofs.Flagging.{sweeping-start, sweeping-more, sweeping-less, settled}
use Rattle.clash.proofs.sweeps.settle.Goals as goal

pub loop-more-init : goal.loop-more-init
loop-more-init c = sweeping-start

pub sweep-more-requires : goal.sweep-more-requires
sweep-more-requires c = (c.requires.0, c.loop-more.invariant.swelled.long ∙ c.requires.1)

pub loop-more-smaller : goal.loop-more-smaller
loop-more-smaller c = sweeping-less _ _ c.loop-more-test.true c.sweep-more.ensures

pub loop-more-preserved : goal.loop-more-preserved
loop-more-preserved c = sweeping-more c.loop-more.invariant c.sweep-more.ensures

pub returns : goal.returns
returns c = settled c.loop-more.invariant c.loop-more-test.false
