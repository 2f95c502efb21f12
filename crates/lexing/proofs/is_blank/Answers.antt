-- `lexing::is_blank` meets its contract: each of the three bytes, and any other.
use Rattle.lexing.proofs.Laws.{is-blank, no-blank, space, tab, return}
use Rattle.lexing.proofs.is_blank.Goals as goal

pub returns-in-32 : goal.returns-in-32
returns-in-32 c = is-blank _ 32 space c.in-32.is

pub returns-in-9 : goal.returns-in-9
returns-in-9 c = is-blank _ 9 tab c.in-9.is

pub returns-in-13 : goal.returns-in-13
returns-in-13 c = is-blank _ 13 return c.in-13.is

pub returns-in_default : goal.returns-in_default
returns-in_default c = no-blank _ c.in_default.in_default-own.rest.0.0.1 c.in_default.in_default-own.rest.0.1 c.in_default.in_default-own.rest.1
