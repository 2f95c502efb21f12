-- `element_end`: what the first word opens is passed.
use mathlib.Core.Path.{sym, ap, ◌∙◌}
use Prim.Native.Nat.{◌+◌, ◌-◌}
use lib.ListN.{drop}
use native.Mathlib.Omega.{arith}
use Rattle.words.specs.Spans.{opens, span}
use Rattle.words.proofs.Parts.{below-of-word}
use Rattle.words.proofs.Spans.{opens-le, opens-pos, element-stop, element-on}
use Rattle.spans.proofs.element_end.Goals as goal

pub returns-then-x-eq0 : goal.returns-then-x-eq0
returns-then-x-eq0 c = element-stop c.args.k.now c.args.i (sym c.word-x.ensures ∙ c.if-x-eq0.true)

pub overflow_add-i : goal.overflow_add-i
overflow_add-i c = let b = below-of-word c.args.k.now c.args.i (λ z. c.if-x-eq0.false (c.word-x.ensures ∙ z)) in omega arith

pub overflow_sub-n : goal.overflow_sub-n
overflow_sub-n c = let y = c.opened-n.ensures in let b = opens-pos c.word-x.result c.if-x-eq0.false in omega arith

pub passed-requires : goal.passed-requires
passed-requires c = let y = c.opened-n.ensures in let b = opens-le c.word-x.result in omega arith

pub returns : goal.returns
returns c = let k = c.args.k.now in
    let i = c.args.i in
    c.passed.ensures
    ∙ ap (λ n. i + 1 + span (n - 1) (drop (i + 1) k)) (c.opened-n.ensures ∙ ap opens c.word-x.ensures)
    ∙ sym (element-on k i (λ z. c.if-x-eq0.false (c.word-x.ensures ∙ z)))
