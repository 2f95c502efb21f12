use native.Mathlib.Omega.{arith}
use Rattle.passing.proofs.Rows.{passing-starts, passing-depth, passing-on, passing-ends}
use Rattle.passing.proofs.skip.Goals as goal

pub loop-depth-init : goal.loop-depth-init
loop-depth-init c = search (passing-starts)

pub offset_bounds-h-i : goal.offset_bounds-h-i
offset_bounds-h-i c = omega (arith, passing-depth)

pub bounds-h-i : goal.bounds-h-i
bounds-h-i c = omega (arith, passing-depth)

pub deeper-depth-requires : goal.deeper-depth-requires
deeper-depth-requires c = record {
  depth_nonzero = omega arith;
  depth_bound = omega (arith, passing-depth);
}

pub overflow_add-i : goal.overflow_add-i
overflow_add-i c = omega (arith, passing-depth)

pub loop-depth-smaller : goal.loop-depth-smaller
loop-depth-smaller c = omega (arith, passing-depth)

pub loop-depth-preserved : goal.loop-depth-preserved
loop-depth-preserved c = search (passing-on)

pub returns : goal.returns
returns c = search (passing-ends)
