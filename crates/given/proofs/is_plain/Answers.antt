use Prim.Native.Nat.{◌-◌}
use mathlib.Core.Path.{refl, ◌∙◌}
use native.Mathlib.Omega.{arith}
use Rattle.given.proofs.Plain.{plain-on, plain-fails, plain_done}
use Rattle.given.proofs.is_plain.Goals as goal

pub loop-i-init : goal.loop-i-init
loop-i-init c = refl

pub returns-then-not-is_plain_word : goal.returns-then-not-is_plain_word
returns-then-not-is_plain_word c = plain-fails _ c.args.words.now c.loop-i.i (omega arith) _ c.is_plain_word.ensures c.if-not-is_plain_word.true ∙ c.loop-i.invariant

pub loop-i-preserved : goal.loop-i-preserved
loop-i-preserved c = plain-on _ c.args.words.now c.loop-i.i (omega arith) _ c.is_plain_word.ensures c.if-not-is_plain_word.false ∙ c.loop-i.invariant

pub returns : goal.returns
returns c = plain_done _ c.args.words.now c.loop-i.i (omega arith) ∙ c.loop-i.invariant
