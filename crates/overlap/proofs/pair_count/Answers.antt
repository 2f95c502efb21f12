use mathlib.Core.Path.{◌≡◌, ap, ◌∙◌}
use Rattle.overlap.specs.Lengths.{pair_count}
use Rattle.overlap.proofs.Tabling.{no_pairs, one-rule-more}
use native.Mathlib.Omega.{arith}
use Rattle.overlap.proofs.pair_count.Goals as goal

pub loop-i-preserved : goal.loop-i-preserved
loop-i-preserved c = (one-rule-more _ _ c.loop-i.invariant.0, omega arith)

pub returns : goal.returns
returns c = (c.loop-i.invariant.0 ∙ ap pair_count (let z : c.loop-i.i ≡ c.args.n = omega arith in z), omega arith)

pub loop-i-init : goal.loop-i-init
loop-i-init c = (no_pairs, omega arith)
