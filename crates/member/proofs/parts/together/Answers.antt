-- `member::together` meets its contract, by the word.
use Rattle.member.proofs.Moves.{together-cat, together-alt}
use Rattle.member.proofs.parts.together.Goals as goal

pub returns-then-x-eq7001 : goal.returns-then-x-eq7001
returns-then-x-eq7001 c = together-cat c.if-x-eq7001.true c.and.ensures c.and-then-x-eq7001.ensures c.or.ensures

pub returns : goal.returns
returns c = together-alt c.if-x-eq7001.false c.or-2.ensures c.or-3.ensures
