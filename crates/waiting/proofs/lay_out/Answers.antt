use Prim.Native.Nat.{◌+◌, ◌-◌}
use native.Mathlib.Omega.{arith}
use mathlib.Core.Path.{◌≡◌, ap, subst}
use lib.ListN.{drop, get_or}
use Rattle.language.specs.Question.{parts}
use Rattle.language.proofs.Offsets.{laid-length}
use Rattle.waiting.specs.Waiting.{in_order, Laid}
use Rattle.waiting.proofs.Blocks.{laid-size}
use Rattle.waiting.proofs.Pushing.{part-before, laid_none, laid_more}
use Rattle.waiting.proofs.lay_out.Goals as goal

pub bounds-question-4 : goal.bounds-question-4
bounds-question-4 c = let t = laid-length 5 _ _ c.requires.1 in omega arith

pub loop-i-init : goal.loop-i-init
loop-i-init c = let q = c.args.question.now in
    let e = c.from-n.ensures in
    let t = laid-length 5 _ _ c.requires.1 in
    (omega arith, omega arith, omega arith, rw e (laid_none q c.requires.1 c.args.work.now))

pub push-at-requires : goal.push-at-requires
push-at-requires c = let q = c.args.question.now in
    let l = c.loop-i in
    let d = part-before q c.requires.1 (l.i - 1) (omega arith) in
    let f = c.from-from.ensures in
    let t = c.from-to.ensures in
    let low = d.low in
    let high = d.high in
    let e : l.i - 1 + 6 ≡ l.i + 5 = omega arith in
    let g = ap (λ n. get_or q n 0) e in
    let size = laid-size l.invariant.3 in
    (omega arith, omega arith, omega arith, omega arith, omega arith)

pub loop-i-preserved : goal.loop-i-preserved
loop-i-preserved c = let q = c.args.question.now in
    let l = c.loop-i in
    let d = part-before q c.requires.1 (l.i - 1) (omega arith) in
    let f = c.from-from.ensures in
    let t = c.from-to.ensures in
    let low = d.low in
    let high = d.high in
    let e : l.i - 1 + 6 ≡ l.i + 5 = omega arith in
    let g = ap (λ n. get_or q n 0) e in
    let n = c.push-at.ensures.0 in
    (omega arith, omega arith, omega arith, laid_more q c.requires.1 c.args.work.now _ _ l.at _ l.i (omega arith) (omega arith) (rw (f, t) at n) (rw (f, t) at c.push-at.ensures.1) l.invariant.3)

pub returns : goal.returns
returns c = let l = c.loop-i in
    let q = c.args.question.now in
    subst (λ n. Laid c.args.work.now l.at (in_order n (drop n (parts 5 (get_or q 4 0) q))) l.work) (let z : l.i ≡ 0 = omega arith in z) l.invariant.3
