use Rattle.language.specs.Limits.{desk}
use Rattle.text_words.proofs.Lines.{body-starts, starts, body-bad, body-ends, body-on}
use native.Mathlib.Omega.{arith}
use Rattle.text_words.proofs.all_lines.Goals as goal

pub take-requires : goal.take-requires
take-requires c = starts desk _ _ _ _ c.loop-t.invariant c.line-l.ensures

pub returns-in_err-t : goal.returns-in_err-t
returns-in_err-t c = rw c.from_residual.ensures (body-bad desk _ _ _ _ c.loop-t.invariant c.line-l.ensures c.take.ensures c.in_err-t.was)

pub returns-then-text-to : goal.returns-then-text-to
returns-then-text-to c = body-ends desk _ _ _ _ c.loop-t.invariant c.line-l.ensures c.take.ensures c.in_ok-t.was c.if-text-to.true

pub loop-t-smaller : goal.loop-t-smaller
loop-t-smaller c = omega (arith, c.line-l.ensures.low)

pub loop-t-preserved : goal.loop-t-preserved
loop-t-preserved c = body-on desk _ _ _ _ c.loop-t.invariant c.line-l.ensures c.take.ensures c.in_ok-t.was (omega arith)

pub loop-t-init : goal.loop-t-init
loop-t-init c = body-starts desk _ _ _ _ c.requires

pub line-l-requires : goal.line-l-requires
line-l-requires c = c.loop-t.invariant.high
