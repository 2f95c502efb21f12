use mathlib.Core.Path.{◌≡◌, refl, ap, ◌∙◌}
use mathlib.Core.List.{◌++◌}
use native.Mathlib.Omega.{arith}
use lib.ListN.{length, drop, set, replicate, length-set}
use borrow.Author.Fill.{fill_more}
use Rattle.around.proofs.Laws.{none-behind}
use Rattle.around.proofs.wipe.Goals as goal

pub loop-i-preserved : goal.loop-i-preserved
loop-i-preserved c = let l = c.loop-i in
    (omega arith, ap (λ x. set x l.i 0) l.invariant.1 ∙ fill_more l.i 0 c.args.s.now (omega arith), simp length-set l.invariant.2)

pub returns : goal.returns
returns c = let l = c.loop-i in
    let z : l.i ≡ length c.args.s.now = omega arith in
    l.invariant.1 ∙ ap (λ n. replicate n 0 ++ drop n c.args.s.now) z ∙ none-behind c.args.s.now

pub loop-i-init : goal.loop-i-init
loop-i-init c = (omega arith, refl, refl)

pub bounds-s-i : goal.bounds-s-i
bounds-s-i c = omega arith
