-- `finish`: a trail that is told is used up, or goes on.
use Rattle.running.proofs.Choosing.{ends-first, ends-noted, ends_more, ends-told}
use Rattle.running.proofs.next_steps.finish.Goals as goal

pub returns-then-s-told : goal.returns-then-s-told
returns-then-s-told c = ends_more _ _ _ c.in-Told.is c.requires c.if-s-told.true

pub returns-else-s-told : goal.returns-else-s-told
returns-else-s-told c = ends-told _ _ _ c.in-Told.is c.requires c.if-s-told.false

pub returns-in-First : goal.returns-in-First
returns-in-First c = ends-first _ _ _ c.in-First.is

pub returns-in-Noted : goal.returns-in-Noted
returns-in-Noted c = ends-noted _ _ _ c.in-Noted.is
