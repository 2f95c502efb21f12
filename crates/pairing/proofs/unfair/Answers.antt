-- `pairing::unfair` meets its contract.
use Rattle.pairing.proofs.Reporting.{early-fine, early-so, early-late}
use native.Mathlib.Omega.{arith}
use Rattle.pairing.proofs.unfair.Goals as goal

pub returns-then-k-eq0 : goal.returns-then-k-eq0
returns-then-k-eq0 c = early-fine _ c.read_question.result c.read_question.ensures _ c.verdict_number-k.ensures c.if-k-eq0.true

pub returns-then-k-le3 : goal.returns-then-k-le3
returns-then-k-le3 c = early-so _ c.read_question.result c.read_question.ensures _ c.verdict_number-k.ensures c.if-k-eq0.false (omega arith) _ c.from.ensures

pub returns : goal.returns
returns c = early-late _ c.read_question.result c.read_question.ensures _ c.verdict_number-k.ensures c.if-k-eq0.false (omega arith)
