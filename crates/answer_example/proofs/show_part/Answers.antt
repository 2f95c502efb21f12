-- A line's mark says whether it is solved, and its words follow the mark.
use native.Mathlib.Omega.{arith}
use Rattle.answer_example.proofs.Reading.{part-open, part-settled, part-shown}
use Rattle.answer_example.proofs.show_part.Goals as goal

pub returns-then-mark-ne1 : goal.returns-then-mark-ne1
returns-then-mark-ne1 c = part-open c.word-mark.ensures c.if-mark-ne1.true

pub show_words-requires : goal.show_words-requires
show_words-requires c = let p = c.requires in (p.0, omega arith, part-settled c.word-mark.ensures c.if-mark-ne1.false p.4)

pub returns : goal.returns
returns c = part-shown c.word-mark.ensures c.if-mark-ne1.false c.show_words.ensures
