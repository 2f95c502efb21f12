-- What a word becomes is written: a variable's value, or one word.
use borrow.Enum.Refused.{opened}
use Rattle.values.proofs.Parts.{wrote-term, wrote-run, wrote-blank, wrote-other}
use Rattle.values.proofs.write_word.Goals as goal

pub returns-in-Term : goal.returns-in-Term
returns-in-Term c = wrote-term _ _ c.classify.ensures _ c.in-Term.is c.write_unsolved.ensures

pub returns-in-Run : goal.returns-in-Run
returns-in-Run c = wrote-run _ _ c.classify.ensures _ c.in-Run.is c.write_unsolved-in-Run.ensures

pub returns-in-Function : goal.returns-in-Function
returns-in-Function c = wrote-blank _ _ c.classify.ensures _ c.in-Function.is c.symbol_word-d.ensures c.put.ensures

pub returns-in_default : goal.returns-in_default
returns-in_default c = wrote-other _ _ c.classify.ensures (opened c.in_default.in_default-own.keys4) c.put-in_default.ensures
