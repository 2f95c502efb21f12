-- `text_words::literal::is_in` meets its contract: another token, and a name.
use Rattle.text_words.proofs.Ends.{no-sort, a-sort}
use Rattle.text_words.proofs.literal.is_in.Goals as goal

pub returns-then-sort-ne1 : goal.returns-then-sort-ne1
returns-then-sort-ne1 c = search (no-sort)

pub returns : goal.returns
returns c = search (a-sort)
