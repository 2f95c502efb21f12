-- `trees::read_literal` meets its contract: the word there says which two parts follow.
-- Assumes nothing.
use borrow.Enum.Refused.{opened}
use mathlib.Core.Path.{sym, ◌∙◌}
use native.Mathlib.Omega.{arith}
use Rattle.language.specs.Limits.{desk}
use Rattle.language.specs.Reading.{read_hedge, read_expr}
use Rattle.trees.proofs.Placing.{goes_on, halts, handed}
use Rattle.trees.proofs.Parts.{past-literal, literal-equation, literal-membership, literal-none}
use Rattle.trees.proofs.read_literal.Goals as goal

pub returns-then-w-at : goal.returns-then-w-at
returns-then-w-at c = past-literal _ _ c.if-w-at.true

pub returns-in_ok-right-in-Equation : goal.returns-in_ok-right-in-Equation
returns-in_ok-right-in-Equation c = c.read_hedge-in-Equation.ensures ∙ goes_on (read_hedge desk) c.args.w.now _ _ (sym c.read_hedge.ensures ∙ c.in_ok-right-in-Equation.was) ∙ literal-equation _ _ (omega arith) _ c.classify.ensures c.in-Equation.is

pub returns-in_err-right-in-Equation : goal.returns-in_err-right-in-Equation
returns-in_err-right-in-Equation c = handed _ _ c.from_residual.ensures.1 ∙ halts (read_hedge desk) _ _ _ (sym c.read_hedge.ensures ∙ c.in_err-right-in-Equation.was) ∙ literal-equation _ _ (omega arith) _ c.classify.ensures c.in-Equation.is

pub returns-in_ok-expression-in-Membership : goal.returns-in_ok-expression-in-Membership
returns-in_ok-expression-in-Membership c = c.read_expr.ensures ∙ goes_on (read_expr desk) c.args.w.now _ _ (sym c.read_hedge-in-Membership.ensures ∙ c.in_ok-expression-in-Membership.was) ∙ literal-membership _ _ (omega arith) _ c.classify.ensures c.in-Membership.is

pub returns-in_err-expression-in-Membership : goal.returns-in_err-expression-in-Membership
returns-in_err-expression-in-Membership c = handed _ _ c.from_residual-in_err-expression-in-Membership.ensures.1 ∙ halts (read_expr desk) _ _ _ (sym c.read_hedge-in-Membership.ensures ∙ c.in_err-expression-in-Membership.was) ∙ literal-membership _ _ (omega arith) _ c.classify.ensures c.in-Membership.is

pub returns-in_default : goal.returns-in_default
returns-in_default c = literal-none _ _ (omega arith) _ c.classify.ensures (opened c.in_default.in_default-own.keys3)
