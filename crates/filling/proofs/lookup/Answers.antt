-- `filling::lookup` meets its contract: a law for each kind of word.
use borrow.Enum.Refused.{opened}
use mathlib.Core.Path.{◌∙◌}
use Rattle.filling.proofs.Lookups.{has-term, has-run, has-name, shown-term, shown-run, shown-name, shown-symbol, shown-other}
use Rattle.filling.proofs.lookup.Goals as goal

pub body-requires : goal.body-requires
body-requires c = rw c.wide-i.ensures (has-term _ _ _ _ _ _ c.classify.ensures c.in-Term.is c.requires.at_in_bounds c.requires.shows)

pub body-requires-in-Run : goal.body-requires-in-Run
body-requires-in-Run c = rw c.wide.ensures (has-run _ _ _ _ _ _ c.classify.ensures c.in-Run.is c.requires.at_in_bounds c.requires.shows)

pub name-requires : goal.name-requires
name-requires c = rw c.wide-in-Function.ensures (has-name _ _ _ _ _ _ c.classify.ensures c.in-Function.is c.requires.at_in_bounds c.requires.shows)

pub returns-in-Term : goal.returns-in-Term
returns-in-Term c = c.body.ensures ∙ rw c.wide-i.ensures (shown-term _ _ _ c.args.question.now c.args.at _ c.classify.ensures c.in-Term.is)

pub returns-in-Run : goal.returns-in-Run
returns-in-Run c = c.body-in-Run.ensures ∙ rw c.wide.ensures (shown-run _ _ _ c.args.question.now c.args.at _ c.classify.ensures c.in-Run.is)

pub returns-in-Function : goal.returns-in-Function
returns-in-Function c = c.name.ensures ∙ rw c.wide-in-Function.ensures (shown-name _ _ _ c.args.question.now c.args.at _ c.classify.ensures c.in-Function.is)

pub returns-in-Symbol : goal.returns-in-Symbol
returns-in-Symbol c = shown-symbol _ _ _ _ _ _ c.classify.ensures c.in-Symbol.is c.term_end-to.ensures

pub returns-in_default : goal.returns-in_default
returns-in_default c = shown-other _ _ _ c.args.question.now c.args.at _ c.classify.ensures (opened c.in_default.in_default-own.keys5)
