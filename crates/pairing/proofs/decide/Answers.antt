-- `pairing::decide` meets its contract.
use Rattle.pairing.proofs.Telling.{not-fair, fair-here, fair-so}
use Rattle.pairing.proofs.decide.Goals as goal

pub settle-requires : goal.settle-requires
settle-requires c = (record { word = c.requires.0.word; one = c.requires.0.one; other = c.requires.0.other; here = fair-here c.args.size c.requires.0.word c.requires.0.one c.requires.0.other c.args.at c.args.room.now c.args.question.now c.args.p c.requires.0.known c.if-p.true }, c.requires.1)

pub returns-then-p : goal.returns-then-p
returns-then-p c = λ word ps qs k. fair-so c.args.size word ps qs c.args.at c.args.room.now c.args.question.now c.args.p k c.if-p.true _ _ (c.settle.ensures word ps qs (fair-here c.args.size word ps qs c.args.at c.args.room.now c.args.question.now c.args.p k c.if-p.true))

pub returns : goal.returns
returns c = λ word ps qs k. not-fair c.args.size word ps qs c.args.at c.args.room.now c.args.question.now c.args.p k c.if-p.false _ c.unfair.ensures
