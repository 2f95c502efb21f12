-- `undeclared::is_declared` meets its contract: the word's kind says which count its number is held against.
-- Assumes nothing.
use borrow.Enum.Refused.{opened}
use Rattle.undeclared.proofs.Scans.{declared-as, declared-none}
use Rattle.undeclared.proofs.is_declared.Goals as goal

pub returns-in-Term : goal.returns-in-Term
returns-in-Term c = declared-as _ _ _ _ c.classify.ensures c.in-Term.is

pub returns-in-Run : goal.returns-in-Run
returns-in-Run c = declared-as _ _ _ _ c.classify.ensures c.in-Run.is

pub returns-in-Symbol : goal.returns-in-Symbol
returns-in-Symbol c = declared-as _ _ _ _ c.classify.ensures c.in-Symbol.is

pub returns-in-Function : goal.returns-in-Function
returns-in-Function c = declared-as _ _ _ _ c.classify.ensures c.in-Function.is

pub returns-in_default : goal.returns-in_default
returns-in_default c = declared-none _ _ _ c.classify.ensures (opened c.in_default.in_default-own.keys5)
