-- A line's place is read from the offsets.
use Rattle.answer_example.proofs.Reading.{line-missing, part-fits, line-shown}
use Rattle.answer_example.proofs.show_line.Goals as goal

pub returns-then-lines-line : goal.returns-then-lines-line
returns-then-lines-line c = line-missing c.word.ensures c.from-lines.ensures c.if-lines-line.true

pub show_part-requires : goal.show_part-requires
show_part-requires c = let a = c.requires in
    let (p, q, r, s) = part-fits c.word.ensures c.from-lines.ensures c.word-2.ensures c.from-from.ensures c.word-3.ensures c.from-to.ensures c.if-lines-line.false a.1 in
    (a.0, p, q, r, s)

pub returns : goal.returns
returns c = line-shown c.word.ensures c.from-lines.ensures c.word-2.ensures c.from-from.ensures c.word-3.ensures c.from-to.ensures c.if-lines-line.false c.show_part.ensures
