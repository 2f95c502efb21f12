-- `lexing::mark_of` meets its contract: each character of the grammar, and any other byte.
use Rattle.lexing.proofs.Laws.{is-mark, other-mark, question, star, percent, equal, between, open-bracket, close-bracket, plus-sign}
use Rattle.lexing.proofs.mark_of.Goals as goal

pub returns-in-63 : goal.returns-in-63
returns-in-63 c = is-mark _ 63 _ question c.in-63.is

pub returns-in-42 : goal.returns-in-42
returns-in-42 c = is-mark _ 42 _ star c.in-42.is

pub returns-in-37 : goal.returns-in-37
returns-in-37 c = is-mark _ 37 _ percent c.in-37.is

pub returns-in-61 : goal.returns-in-61
returns-in-61 c = is-mark _ 61 _ equal c.in-61.is

pub returns-in-44 : goal.returns-in-44
returns-in-44 c = is-mark _ 44 _ between c.in-44.is

pub returns-in-40 : goal.returns-in-40
returns-in-40 c = is-mark _ 40 _ open-bracket c.in-40.is

pub returns-in-41 : goal.returns-in-41
returns-in-41 c = is-mark _ 41 _ close-bracket c.in-41.is

pub returns-in-43 : goal.returns-in-43
returns-in-43 c = is-mark _ 43 _ plus-sign c.in-43.is

pub returns-in_default : goal.returns-in_default
returns-in_default c = other-mark _ _ c.letter.ensures c.in_default.in_default-own.rest.0.0.0.0.0.0.0.1 c.in_default.in_default-own.rest.0.0.0.0.0.0.1 c.in_default.in_default-own.rest.0.0.0.0.0.1 c.in_default.in_default-own.rest.0.0.0.0.1 c.in_default.in_default-own.rest.0.0.0.1 c.in_default.in_default-own.rest.0.0.1 c.in_default.in_default-own.rest.0.1 c.in_default.in_default-own.rest.1
