use native.Mathlib.Omega.{arith}
use Rattle.clash.proofs.Chaining.{starts, less, unmet, in-room, in_array, step, hit}
use Rattle.clash.proofs.pairs.Stops.find.Goals as goal

pub loop-x-init : goal.loop-x-init
loop-x-init c = search (starts)

pub overflow_sub-x : goal.overflow_sub-x
overflow_sub-x c = omega arith

pub stands-requires : goal.stands-requires
stands-requires c = search (in-room)

pub returns-then-stands : goal.returns-then-stands
returns-then-stands c = search (hit)

pub overflow_sub-x-in-loop-x : goal.overflow_sub-x-in-loop-x
overflow_sub-x-in-loop-x c = omega arith

pub bounds-self-x : goal.bounds-self-x
bounds-self-x c = search (in_array)

pub loop-x-smaller : goal.loop-x-smaller
loop-x-smaller c = search (less)

pub loop-x-preserved : goal.loop-x-preserved
loop-x-preserved c = search (step)

pub returns : goal.returns
returns c = search (unmet)
