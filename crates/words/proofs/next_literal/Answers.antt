use mathlib.Core.Logic.{inl, inr}
use native.Mathlib.Omega.{arith}
use Rattle.words.proofs.Literals.{until_stop, until-on, until_end}
use Rattle.words.proofs.next_literal.Goals as goal

pub returns-then-k-i-eq5000 : goal.returns-then-k-i-eq5000
returns-then-k-i-eq5000 c = let y = c.loop-i.invariant in let z = until_stop c.args.k.now c.loop-i.i c.loop-i-test.true (inl c.if-k-i-eq5000.true) in omega arith

pub returns-then-k-i-eq6000 : goal.returns-then-k-i-eq6000
returns-then-k-i-eq6000 c = let y = c.loop-i.invariant in let z = until_stop c.args.k.now c.loop-i.i c.loop-i-test.true (inr c.if-k-i-eq6000.true) in omega arith

pub loop-i-preserved : goal.loop-i-preserved
loop-i-preserved c = let y = c.loop-i.invariant in let z = until-on c.args.k.now c.loop-i.i c.loop-i-test.true c.if-k-i-eq5000.false c.if-k-i-eq6000.false in omega arith

pub returns : goal.returns
returns c = let y = c.loop-i.invariant in let z = until_end c.args.k.now c.loop-i.i c.loop-i-test.false in omega arith
