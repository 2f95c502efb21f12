-- Each class by its count, in the order of the definition.
use mathlib.Core.Bool.{not}
use Rattle.write_text.proofs.Counting.{some-unordered, other-symbols, other-terms, other-hedges, other-functions}
use Rattle.write_text.proofs.Lining.{question-long, question-few}
use Rattle.language.proofs.Bools.{holds, fails}
use Prim.Native.Nat.{◌+◌}
use mathlib.Core.Path.{ap}
use native.Mathlib.Omega.{arith}
use Rattle.write_text.proofs.numbers.is_numbered.Goals as goal

pub bounds-w-4 : goal.bounds-w-4
bounds-w-4 c = let l = question-long c.requires in omega arith

pub overflow_add-from : goal.overflow_add-from
overflow_add-from c = let f = question-few c.requires in let e = c.wide-from.ensures in omega arith

pub bounds-w-0 : goal.bounds-w-0
bounds-w-0 c = let l = question-long c.requires in omega arith

pub returns-then-w-ne0 : goal.returns-then-w-ne0
returns-then-w-ne0 c = some-unordered _ _ (ap (λ n. n + 6) c.wide-from.ensures) c.if-w-ne0.true

pub bounds-w-0-2 : goal.bounds-w-0-2
bounds-w-0-2 c = let l = question-long c.requires in omega arith

pub returns-then-not-are_counted : goal.returns-then-not-are_counted
returns-then-not-are_counted c = other-symbols _ _ (ap (λ n. n + 6) c.wide-from.ensures) c.if-w-ne0.false (fails _ _ c.are_counted.ensures (ap not c.if-not-are_counted.true))

pub bounds-w-1 : goal.bounds-w-1
bounds-w-1 c = let l = question-long c.requires in omega arith

pub returns-then-not-are_counted-2 : goal.returns-then-not-are_counted-2
returns-then-not-are_counted-2 c = other-terms _ _ (ap (λ n. n + 6) c.wide-from.ensures) c.if-w-ne0.false (holds _ _ c.are_counted.ensures (ap not c.if-not-are_counted.false)) (fails _ _ c.are_counted-2.ensures (ap not c.if-not-are_counted-2.true))

pub bounds-w-2 : goal.bounds-w-2
bounds-w-2 c = let l = question-long c.requires in omega arith

pub returns-then-not-are_counted-3 : goal.returns-then-not-are_counted-3
returns-then-not-are_counted-3 c = other-hedges _ _ (ap (λ n. n + 6) c.wide-from.ensures) c.if-w-ne0.false (holds _ _ c.are_counted.ensures (ap not c.if-not-are_counted.false)) (holds _ _ c.are_counted-2.ensures (ap not c.if-not-are_counted-2.false)) (fails _ _ c.are_counted-3.ensures (ap not c.if-not-are_counted-3.true))

pub bounds-w-3 : goal.bounds-w-3
bounds-w-3 c = let l = question-long c.requires in omega arith

pub returns : goal.returns
returns c = other-functions _ _ (ap (λ n. n + 6) c.wide-from.ensures) c.if-w-ne0.false (holds _ _ c.are_counted.ensures (ap not c.if-not-are_counted.false)) (holds _ _ c.are_counted-2.ensures (ap not c.if-not-are_counted-2.false)) (holds _ _ c.are_counted-3.ensures (ap not c.if-not-are_counted-3.false)) c.are_counted-4.ensures
