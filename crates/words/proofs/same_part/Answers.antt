use mathlib.Core.Path.{◌∙◌}
use Rattle.words.proofs.Same.{same-short, same-differ, same_next, same_end}
use Rattle.words.proofs.same_part.Goals as goal
use Rattle.words.proofs.same_part.Goals.{then-n-j-via-then-n-j, then-n-j-via-else-n-j+then-k-i}

pub returns-then-n-j : goal.returns-then-n-j
returns-then-n-j c =
    elim c.then-n-j.branch [
      | then-n-j-via-then-n-j w ↦
          same-short c.args.k.now c.loop-i.i c.args.to c.loop-i.j c.args.end c.min-m.ensures c.min-n.ensures c.loop-i-test.true w.if-n-j.true ∙ c.loop-i.invariant
      | then-n-j-via-else-n-j+then-k-i w ↦
          same-differ c.args.k.now c.loop-i.i c.args.to c.loop-i.j c.args.end c.min-m.ensures c.min-n.ensures c.loop-i-test.true w.if-n-j.false w.if-k-i.true ∙ c.loop-i.invariant
    ]

pub loop-i-preserved : goal.loop-i-preserved
loop-i-preserved c = same_next c.args.k.now c.loop-i.i c.args.to c.loop-i.j c.args.end c.min-m.ensures c.min-n.ensures c.loop-i-test.true c.if-n-j.false c.if-k-i.false ∙ c.loop-i.invariant

pub returns : goal.returns
returns c = same_end c.args.k.now c.loop-i.i c.args.to c.loop-i.j c.args.end c.min-m.ensures c.min-n.ensures c.loop-i-test.false ∙ c.loop-i.invariant
