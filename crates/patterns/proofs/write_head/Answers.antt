-- `patterns::write_head` meets its contract.
use mathlib.Core.Path.{refl}
use lib.ListN.{length-set}
use native.Mathlib.Omega.{arith}
use Rattle.patterns.proofs.write_head.Goals as goal

pub returns : goal.returns
returns c = rw (c.short.ensures, c.short-2.ensures, c.short-3.ensures, c.short-4.ensures) refl

pub bounds-question-1 : goal.bounds-question-1
bounds-question-1 c = simp length-set (omega arith)

pub bounds-question-2 : goal.bounds-question-2
bounds-question-2 c = simp length-set (omega arith)

pub bounds-question-3 : goal.bounds-question-3
bounds-question-3 c = simp length-set (omega arith)

pub bounds-question-4 : goal.bounds-question-4
bounds-question-4 c = simp length-set (omega arith)

pub bounds-question-5 : goal.bounds-question-5
bounds-question-5 c = simp length-set (omega arith)

pub bounds-question-6 : goal.bounds-question-6
bounds-question-6 c = simp length-set (omega arith)

pub bounds-question-7 : goal.bounds-question-7
bounds-question-7 c = simp length-set (omega arith)
