use borrow.Enum.Refused.{opened}
use mathlib.Core.Path.{refl, sym, ◌∙◌}
use native.Mathlib.Omega.{arith}
use Rattle.language.specs.Limits.{desk}
use Rattle.language.specs.Reading.{read_hedge}
use Rattle.trees.proofs.Placing.{goes_on, halts, handed}
use Rattle.trees.proofs.Parts.{past-term, term-variable, term-functor, term-none, past-hedge, hedge-end, hedge-variable, hedge-term, term-moves}
use Rattle.trees.proofs.+read_hedge_read_term.Goals as goal

pub read_hedge-loop-i-init : goal.read_hedge-loop-i-init
read_hedge-loop-i-init t c = (omega arith, refl)

pub read_hedge-returns-in-End : goal.read_hedge-returns-in-End
read_hedge-returns-in-End t c = hedge-end _ _ (omega arith) _ c.classify.ensures c.in-End.is ∙ c.loop-i.invariant.1

pub read_hedge-loop-i-smaller-in-Run : goal.read_hedge-loop-i-smaller-in-Run
read_hedge-loop-i-smaller-in-Run t c = omega arith

pub read_hedge-loop-i-preserved-in-Run : goal.read_hedge-loop-i-preserved-in-Run
read_hedge-loop-i-preserved-in-Run t c = (omega arith, hedge-variable _ _ (omega arith) _ c.classify.ensures c.in-Run.is ∙ c.loop-i.invariant.1)

pub read_hedge-read_term-requires : goal.read_hedge-read_term-requires
read_hedge-read_term-requires t c = (omega arith, tt)

pub read_hedge-loop-i-smaller : goal.read_hedge-loop-i-smaller
read_hedge-loop-i-smaller t c = let m = term-moves _ _ (omega arith) _ c.classify.ensures (opened c.in_default.in_default-own.keys3) _ (sym c.read_term.ensures ∙ c.in_ok-i-in_default.was) in omega arith

pub read_hedge-loop-i-preserved : goal.read_hedge-loop-i-preserved
read_hedge-loop-i-preserved t c = let m = term-moves _ _ (omega arith) _ c.classify.ensures (opened c.in_default.in_default-own.keys3) _ (sym c.read_term.ensures ∙ c.in_ok-i-in_default.was) in
    (omega arith, goes_on (read_hedge desk) c.args.w.now _ _ (sym c.read_term.ensures ∙ c.in_ok-i-in_default.was) ∙ hedge-term _ _ (omega arith) _ c.classify.ensures (opened c.in_default.in_default-own.keys3) ∙ c.loop-i.invariant.1)

pub read_hedge-returns-in_err-i-in_default : goal.read_hedge-returns-in_err-i-in_default
read_hedge-returns-in_err-i-in_default t c = handed _ _ c.from_residual.ensures.1 ∙ halts (read_hedge desk) _ _ _ (sym c.read_term.ensures ∙ c.in_err-i-in_default.was) ∙ hedge-term _ _ (omega arith) _ c.classify.ensures (opened c.in_default.in_default-own.keys3) ∙ c.loop-i.invariant.1

pub read_hedge-returns : goal.read_hedge-returns
read_hedge-returns t c = past-hedge _ _ (omega arith) ∙ c.loop-i.invariant.1

pub read_term-returns-then-w-at : goal.read_term-returns-then-w-at
read_term-returns-then-w-at t c = past-term _ _ c.if-w-at.true

pub read_term-read_hedge-requires : goal.read_term-read_hedge-requires
read_term-read_hedge-requires t c = (omega arith, tt)

pub read_term-returns-in-Term : goal.read_term-returns-in-Term
read_term-returns-in-Term t c = term-variable _ _ (omega arith) _ c.classify.ensures c.in-Term.is

pub read_term-returns-in-Symbol : goal.read_term-returns-in-Symbol
read_term-returns-in-Symbol t c = c.read_hedge.ensures ∙ term-functor _ _ (omega arith) _ c.classify.ensures c.in-Symbol.in-Symbol-own.keys2

pub read_term-returns-in_default : goal.read_term-returns-in_default
read_term-returns-in_default t c = term-none _ _ (omega arith) _ c.classify.ensures (opened c.in_default.in_default-own.keys3)
