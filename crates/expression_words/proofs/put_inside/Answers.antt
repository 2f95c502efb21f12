-- `expression_words::put_inside` meets its contract: eps, or items.
use Rattle.expression_words.proofs.Laying.{inside-bare, inside-items, owed-bare, owed-items}
use Rattle.expression_words.proofs.put_inside.Goals as goal

pub put_if-requires : goal.put_if-requires
put_if-requires c = (owed-bare c.args.s c.if-s.true c.requires.0, c.requires.1)

pub returns-then-s : goal.returns-then-s
returns-then-s c = inside-bare c.args.s c.if-s.true c.put_if.ensures

pub put_item-requires : goal.put_item-requires
put_item-requires c = (owed-items c.args.s c.if-s.false c.requires.0, c.requires.1)

pub returns : goal.returns
returns c = inside-items c.args.s c.if-s.false c.put_item.ensures
