use Prim.Native.Nat.{◌+◌, ◌-◌}
use native.Mathlib.Omega.{arith}
use mathlib.Core.Path.{refl, sym, ap, ◌∙◌}
use Rattle.plans.specs.Sizes.{sized_from, sized}
use Rattle.results.proofs.Results.{cuts_all, cuts-none, cuts-over, cuts-more}
use Rattle.results.proofs.size_cuts.Goals as goal

pub returns-then-one-gt-QUESTION : goal.returns-then-one-gt-QUESTION
unfolding sized
returns-then-one-gt-QUESTION c = let a = c.args in
    cuts-over a.k.now a.r (a.times - c.loop-done._done) c.loop-done.at (a.times - (c.loop-done._done + 1)) (let h = c.loop-done-test.true in omega arith) _ refl c.loop-done.n _ c.made_len-one.ensures c.if-one-gt-QUESTION.true ∙ c.loop-done.invariant

pub loop-done-preserved : goal.loop-done-preserved
loop-done-preserved c = let a = c.args in
    cuts-more a.k.now a.r (a.times - c.loop-done._done) c.loop-done.at (a.times - (c.loop-done._done + 1)) (let h = c.loop-done-test.true in omega arith) _ c.element_end-at.ensures c.loop-done.n _ c.made_len-one.ensures c.if-one-gt-QUESTION.false _ c.grow-n.ensures ∙ c.loop-done.invariant

pub returns : goal.returns
unfolding sized
returns c = let a = c.args in sym (ap (sized_from c.loop-done.n) (cuts-none a.k.now a.r (a.times - c.loop-done._done) c.loop-done.at (let h = c.loop-done-test.false in omega arith))) ∙ c.loop-done.invariant

pub loop-done-init : goal.loop-done-init
loop-done-init c = let a = c.args in sym (ap (sized_from 0) (cuts_all a.k.now a.r a.times a.cut))

pub made_len-one-requires : goal.made_len-one-requires
made_len-one-requires c = c.requires
