-- How many words a word becomes: a variable's value has many, any other word is one.
use borrow.Enum.Refused.{opened}
use Rattle.values.proofs.Parts.{length-term, length_run, length-other}
use Rattle.values.proofs.word_len.Goals as goal

pub returns-in-Term : goal.returns-in-Term
returns-in-Term c = length-term _ c.classify.ensures _ c.in-Term.is c.unsolved_len.ensures

pub returns-in-Run : goal.returns-in-Run
returns-in-Run c = length_run _ c.classify.ensures _ c.in-Run.is c.unsolved_len-in-Run.ensures

pub returns-in_default : goal.returns-in_default
returns-in_default c = length-other _ c.classify.ensures (opened c.in_default.in_default-own.keys3)
