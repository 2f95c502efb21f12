-- `text_words::conjunction::nothing` meets its contract: bracket by bracket.
use Rattle.text_words.proofs.Pairs.{past, none-opens, none-closes, none-ends, is-nothing}
use Rattle.text_words.proofs.conjunction.nothing.Goals as goal

pub returns-then-turn-ne2 : goal.returns-then-turn-ne2
returns-then-turn-ne2 c = none-opens _ _ c.requires c.next-first.ensures c.turn.ensures c.if-turn-ne2.true

pub next-second-requires : goal.next-second-requires
next-second-requires c = (past _ _ c.requires c.next-first.ensures).1

pub returns-then-turn-ne3 : goal.returns-then-turn-ne3
returns-then-turn-ne3 c = none-closes _ _ c.requires c.next-first.ensures c.turn.ensures c.if-turn-ne2.false c.next-second.ensures c.turn-2.ensures c.if-turn-ne3.true

pub next-third-requires : goal.next-third-requires
next-third-requires c = (past _ _ (past _ _ c.requires c.next-first.ensures).1 c.next-second.ensures).1

pub returns-then-turn-ne1 : goal.returns-then-turn-ne1
returns-then-turn-ne1 c = none-ends _ _ c.requires c.next-first.ensures c.turn.ensures c.if-turn-ne2.false c.next-second.ensures c.turn-2.ensures c.if-turn-ne3.false c.next-third.ensures c.turn-3.ensures c.if-turn-ne1.true

pub returns : goal.returns
returns c = is-nothing _ _ c.requires c.next-first.ensures c.turn.ensures c.if-turn-ne2.false c.next-second.ensures c.turn-2.ensures c.if-turn-ne3.false c.next-third.ensures c.turn-3.ensures c.if-turn-ne1.false
