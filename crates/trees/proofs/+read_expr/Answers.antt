use borrow.Enum.Refused.{opened}
use mathlib.Core.Path.{sym, ◌∙◌}
use native.Mathlib.Omega.{arith}
use Rattle.language.specs.Limits.{desk}
use Rattle.language.specs.Reading.{read_expr}
use Rattle.trees.proofs.Placing.{moves, goes_on, halts, handed}
use Rattle.trees.proofs.Parts.{past-expr, expr-eps, expr-one, expr-two, expr-none}
use Rattle.trees.proofs.+read_expr.Goals as goal

pub returns-then-w-at : goal.returns-then-w-at
returns-then-w-at t c = past-expr _ _ c.if-w-at.true

pub read_expr-requires : goal.read_expr-requires
read_expr-requires t c = (omega arith, tt)

pub read_expr-requires-in-Cat : goal.read_expr-requires-in-Cat
read_expr-requires-in-Cat t c = (omega arith, tt)

pub read_expr-requires-in-Cat-2 : goal.read_expr-requires-in-Cat-2
read_expr-requires-in-Cat-2 t c = let m = moves _ _ _ (sym c.read_expr-in-Cat.ensures ∙ c.in_ok-after-in-Cat.was) in (omega arith, tt)

pub returns-in-Eps : goal.returns-in-Eps
returns-in-Eps t c = expr-eps _ _ (omega arith) _ c.classify.ensures c.in-Eps.is

pub returns-in-Symbol : goal.returns-in-Symbol
returns-in-Symbol t c = c.read_expr.ensures ∙ expr-one _ _ (omega arith) _ c.classify.ensures c.in-Symbol.in-Symbol-own.keys2

pub returns-in_ok-after-in-Cat : goal.returns-in_ok-after-in-Cat
returns-in_ok-after-in-Cat t c = c.read_expr-in-Cat-2.ensures ∙ goes_on (read_expr desk) c.args.w.now _ _ (sym c.read_expr-in-Cat.ensures ∙ c.in_ok-after-in-Cat.was) ∙ expr-two _ _ (omega arith) _ c.classify.ensures c.in-Cat.in-Cat-own.keys3

pub returns-in_err-after-in-Cat : goal.returns-in_err-after-in-Cat
returns-in_err-after-in-Cat t c = handed _ _ c.from_residual.ensures.1 ∙ halts (read_expr desk) _ _ _ (sym c.read_expr-in-Cat.ensures ∙ c.in_err-after-in-Cat.was) ∙ expr-two _ _ (omega arith) _ c.classify.ensures c.in-Cat.in-Cat-own.keys3

pub returns-in_default : goal.returns-in_default
returns-in_default t c = expr-none _ _ (omega arith) _ c.classify.ensures (opened c.in_default.in_default-own.keys4)
