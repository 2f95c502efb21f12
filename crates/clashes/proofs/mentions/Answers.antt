use Prim.Native.Nat.{◌-◌}
use native.Mathlib.Omega.{arith}
use mathlib.Core.Path.{sym, ◌∙◌}
use Rattle.clashes.proofs.Unordered.{some-none, some-here, some_next}
use Rattle.clashes.proofs.mentions.Goals as goal

pub returns-then-unordered_word : goal.returns-then-unordered_word
returns-then-unordered_word c = let p = c.requires in
    some-here c.args.s c.args.k.now _ _ c.loop-i-test.true (let z = c.loop-i-test.true in omega arith) (sym c.if-unordered_word.true ∙ c.unordered_word.ensures) ∙ c.loop-i.invariant

pub loop-i-preserved : goal.loop-i-preserved
loop-i-preserved c = let p = c.requires in
    some_next c.args.s c.args.k.now _ _ c.loop-i-test.true (let z = c.loop-i-test.true in omega arith) (sym c.if-unordered_word.false ∙ c.unordered_word.ensures) ∙ c.loop-i.invariant

pub returns : goal.returns
returns c = some-none _ _ _ _ c.loop-i-test.false ∙ c.loop-i.invariant
