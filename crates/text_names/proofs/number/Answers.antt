use native.Mathlib.Omega.{arith}
use borrow.Author.Rules.{rules}
use Rattle.text_names.proofs.Shelving.{looking-starts, looking-found, looking-on, looking-ends}
use Rattle.text_names.proofs.number.Goals as goal

pub overflow_add-first : goal.overflow_add-first
overflow_add-first c = omega arith

pub bounds-names-base : goal.bounds-names-base
bounds-names-base c = omega arith

pub overflow_add-end : goal.overflow_add-end
overflow_add-end c = omega arith

pub loop-i-init : goal.loop-i-init
loop-i-init c = looking-starts _ _ _ _ _ (search rules)

pub offset_bounds-names-i : goal.offset_bounds-names-i
offset_bounds-names-i c = omega arith

pub bounds-names-i : goal.bounds-names-i
bounds-names-i c = omega arith

pub overflow_sub-result : goal.overflow_sub-result
overflow_sub-result c = omega arith

pub returns-then-same_name : goal.returns-then-same_name
returns-then-same_name c = looking-found _ _ _ _ _ c.loop-i.invariant (omega arith) c.same_name.ensures c.if-same_name.true

pub loop-i-preserved : goal.loop-i-preserved
loop-i-preserved c = looking-on _ _ _ _ _ c.loop-i.invariant (omega arith) c.same_name.ensures c.if-same_name.false

pub overflow_sub-result-2 : goal.overflow_sub-result-2
overflow_sub-result-2 c = omega arith

pub returns : goal.returns
returns c = let e = looking-ends _ _ _ _ _ c.loop-i.invariant (omega arith) in let h = c.loop-i.invariant.high in let d = c.loop-i.invariant.end_is in omega arith
