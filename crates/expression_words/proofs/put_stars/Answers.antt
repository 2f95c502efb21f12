use native.Mathlib.Omega.{arith}
use Rattle.expression_words.proofs.Laying.{stars-start, stars-on, stars-end}
use Rattle.expression_words.proofs.put_stars.Goals as goal

pub loop-left-init : goal.loop-left-init
loop-left-init c = search (stars-start)

pub overflow_sub-left : goal.overflow_sub-left
overflow_sub-left c = omega arith

pub overflow_sub-to : goal.overflow_sub-to
overflow_sub-to c = omega arith

pub bounds-room-to : goal.bounds-room-to
bounds-room-to c = omega arith

pub loop-left-smaller : goal.loop-left-smaller
loop-left-smaller c = omega arith

pub loop-left-preserved : goal.loop-left-preserved
loop-left-preserved c = search (stars-on)

pub returns : goal.returns
returns c = search (stars-end)
