use mathlib.Core.Bool.{not}
use mathlib.Core.Path.{ap}
use Rattle.language.specs.Limits.{desk}
use Rattle.expression_words.proofs.Steps.{going-starts, last_name, last-operand, all_laid, byte-within, name-byte, name-behind, mark-space, mark-byte}
use native.Mathlib.Omega.{arith}
use Rattle.expression_words.proofs.write_with.Goals as goal

pub loop-i-init : goal.loop-i-init
loop-i-init c = going-starts desk _ _ _ _ _ _ _ c.requires

pub bounds-text-i : goal.bounds-text-i
bounds-text-i c = byte-within desk _ _ _ _ _ _ _ c.loop-i.invariant (omega arith)

pub take_name-s-requires : goal.take_name-s-requires
take_name-s-requires c = name-behind desk _ _ _ _ _ _ _ c.loop-i.invariant (omega arith) c.is_name_byte.ensures (ap not c.if-not-is_name_byte.true)

pub on_mark-s-requires : goal.on_mark-s-requires
on_mark-s-requires c = mark-space desk _ _ _ _ _ _ _ c.loop-i.invariant (omega arith) c.is_name_byte.ensures (ap not c.if-not-is_name_byte.true) c.take_name-s.ensures c.mark_of.ensures

pub loop-i-smaller-then-not-is_name_byte : goal.loop-i-smaller-then-not-is_name_byte
loop-i-smaller-then-not-is_name_byte c = omega arith

pub loop-i-preserved-then-not-is_name_byte : goal.loop-i-preserved-then-not-is_name_byte
loop-i-preserved-then-not-is_name_byte c = mark-byte desk _ _ _ _ _ _ _ c.loop-i.invariant (omega arith) c.is_name_byte.ensures (ap not c.if-not-is_name_byte.true) c.take_name-s.ensures c.mark_of.ensures c.on_mark-s.ensures

pub loop-i-smaller : goal.loop-i-smaller
loop-i-smaller c = omega arith

pub loop-i-preserved : goal.loop-i-preserved
loop-i-preserved c = name-byte desk _ _ _ _ _ _ _ c.loop-i.invariant (omega arith) c.is_name_byte.ensures (ap not c.if-not-is_name_byte.false)

pub take_name-s-requires-2 : goal.take_name-s-requires-2
take_name-s-requires-2 c = last_name desk _ _ _ _ _ _ _ c.loop-i.invariant (omega arith)

pub put_operand-requires : goal.put_operand-requires
put_operand-requires c = last-operand desk _ _ _ _ _ _ _ c.loop-i.invariant (omega arith) c.take_name-s-2.ensures

pub returns : goal.returns
returns c = all_laid desk _ _ _ _ _ _ _ c.loop-i.invariant (omega arith) c.take_name-s-2.ensures c.put_operand.ensures
