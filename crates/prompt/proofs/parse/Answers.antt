use Prim.Native.Nat.{◌-◌}
use mathlib.Core.Path.{ap, ◌∙◌}
use native.Mathlib.Omega.{arith}
use Rattle.prompt.specs.Texts.{is_wrong}
use Rattle.prompt.proofs.Reading.{starts, stops, goes_on, ends}
use Rattle.prompt.proofs.parse.Goals as goal

pub loop-at-init : goal.loop-at-init
loop-at-init c = starts _ _

pub returns-then-is_wrong : goal.returns-then-is_wrong
returns-then-is_wrong c = stops _ _ c.loop-at.invariant (omega arith) (c.is_wrong.ensures ∙ ap is_wrong c.go_on-then.ensures) c.if-is_wrong.true c.beginning-from.ensures

pub keep-n-requires : goal.keep-n-requires
keep-n-requires c = let g = c.loop-at.invariant in omega (arith, g.fits, g.len)

pub past-here-requires : goal.past-here-requires
past-here-requires c = let g = c.loop-at.invariant in record {
  line_bound = omega (arith, g.lines);
  column_bound = omega (arith, g.columns);
}

pub loop-at-preserved : goal.loop-at-preserved
loop-at-preserved c = goes_on _ _ c.loop-at.invariant (omega arith) (c.is_wrong.ensures ∙ ap is_wrong c.go_on-then.ensures) c.if-is_wrong.false c.beginning-from.ensures c.keep-n.ensures c.past-here.ensures c.go_on-then.ensures

pub keep-requires : goal.keep-requires
keep-requires c = let g = c.loop-at.invariant in omega (arith, g.fits, g.len)

pub returns : goal.returns
returns c = ends _ _ c.loop-at.invariant (omega arith) c.keep.ensures
