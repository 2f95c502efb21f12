-- A word of a hedge: the bracket that closes, or what stands before a name and its digits.
use Rattle.write_text.proofs.Words.{word_end, word-name}
use Rattle.write_text.proofs.bytes.put_word.Goals as goal

pub returns-then-x-eq0 : goal.returns-then-x-eq0
returns-then-x-eq0 c = word_end _ _ c.if-x-eq0.true c.closing.ensures c.put.ensures

pub returns : goal.returns
returns c = word-name _ _ c.if-x-eq0.false c.first.ensures c.second.ensures c.mark.ensures c.letter.ensures c.hundreds.ensures c.tens.ensures c.ones.ensures c.put_four-m.ensures c.put_four.ensures
