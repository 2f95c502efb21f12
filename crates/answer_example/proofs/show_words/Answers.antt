-- The question's counts are the numbers of symbols and variables.
use Rattle.answer_example.proofs.Reading.{words-shown}
use Rattle.answer_example.proofs.show_words.Goals as goal

pub returns : goal.returns
returns c = words-shown c.from-terms.ensures c.from-hedges.ensures c.from-functions.ensures c.default_symbol-any.ensures.1 c.fill_line.ensures
