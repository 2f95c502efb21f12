-- `patterns::renumbered` meets its contract: each arm cites the law of its kind.
use borrow.Enum.Refused.{opened}
use Rattle.patterns.proofs.Turns.{entered-term, entered-run, entered-function, by-term, by-run, by-function, by-other}
use Rattle.patterns.proofs.renumbered.Goals as goal

pub number_at-requires : goal.number_at-requires
number_at-requires c = entered-term _ _ _ _ c.classify.ensures _ c.in-Term.is c.wide.ensures c.requires

pub number_at-requires-in-Run : goal.number_at-requires-in-Run
number_at-requires-in-Run c = entered-run _ _ _ _ c.classify.ensures _ c.in-Run.is c.wide-in-Run.ensures c.requires

pub number_at-requires-in-Function : goal.number_at-requires-in-Function
number_at-requires-in-Function c = entered-function _ _ _ _ c.classify.ensures _ c.in-Function.is c.wide-in-Function.ensures c.requires

pub returns-in-Term : goal.returns-in-Term
returns-in-Term c = by-term _ _ _ _ c.classify.ensures _ _ _ _ c.short.ensures c.in-Term.is c.wide.ensures c.term_word.ensures c.number_at.ensures.0

pub returns-in-Run : goal.returns-in-Run
returns-in-Run c = by-run _ _ _ _ c.classify.ensures _ _ _ _ c.short-in-Run.ensures c.in-Run.is c.wide-in-Run.ensures c.run_word.ensures c.number_at-in-Run.ensures.0

pub returns-in-Function : goal.returns-in-Function
returns-in-Function c = by-function _ _ _ _ c.classify.ensures _ _ _ _ c.short-in-Function.ensures c.in-Function.is c.wide-in-Function.ensures c.function_word.ensures c.number_at-in-Function.ensures.0

pub returns-in_default : goal.returns-in_default
returns-in_default c = by-other _ _ _ _ c.classify.ensures (opened c.in_default.in_default-own.keys4)
