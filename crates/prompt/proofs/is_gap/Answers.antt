-- `prompt::is_gap` meets its contract: each of the four bytes, and any other.
use Rattle.prompt.proofs.Bytes.{is-gap, no_gap, space, tab, return, line-end}
use Rattle.prompt.proofs.is_gap.Goals as goal

pub returns-in-32 : goal.returns-in-32
returns-in-32 c = is-gap _ 32 space c.in-32.is

pub returns-in-9 : goal.returns-in-9
returns-in-9 c = is-gap _ 9 tab c.in-9.is

pub returns-in-13 : goal.returns-in-13
returns-in-13 c = is-gap _ 13 return c.in-13.is

pub returns-in-10 : goal.returns-in-10
returns-in-10 c = is-gap _ 10 line-end c.in-10.is

pub returns-in_default : goal.returns-in_default
returns-in_default c = no_gap _ c.in_default.in_default-own.rest.0.0.0.1 c.in_default.in_default-own.rest.0.0.1 c.in_default.in_default-own.rest.0.1 c.in_default.in_default-own.rest.1
