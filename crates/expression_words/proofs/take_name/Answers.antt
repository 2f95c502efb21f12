-- `expression_words::take_name` meets its contract: no byte, a name, another byte.
use Rattle.expression_words.proofs.Steps.{none-taken, other-taken, name-space, name-taken}
use Rattle.expression_words.proofs.take_name.Goals as goal

pub returns-then-at-to : goal.returns-then-at-to
returns-then-at-to c = none-taken c.requires c.if-at-to.true

pub on_name-requires : goal.on_name-requires
on_name-requires c = (name-space c.requires c.if-at-to.false c.is_name_byte.ensures c.if-is_name_byte.true, c.requires.place, c.requires.shelves)

pub returns-then-is_name_byte : goal.returns-then-is_name_byte
returns-then-is_name_byte c = name-taken c.requires c.if-at-to.false c.is_name_byte.ensures c.if-is_name_byte.true c.on_name.ensures

pub returns : goal.returns
returns c = other-taken c.requires c.if-at-to.false c.is_name_byte.ensures c.if-is_name_byte.false
