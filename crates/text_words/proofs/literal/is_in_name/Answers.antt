-- `text_words::literal::is_in_name` meets its contract: letter by letter.
use lib.Dec.{lit≤}
use Rattle.text_words.proofs.Ends.{first-other, second-other, third, letter-in}
use native.Mathlib.Omega.{arith}
use Rattle.text_words.proofs.literal.is_in_name.Goals as goal

pub overflow_add-at : goal.overflow_add-at
overflow_add-at c = omega (arith, letter-in c.letter_at.ensures c.if-letter_at-ne105.false (lit≤ tt))

pub returns-then-letter_at-ne110 : goal.returns-then-letter_at-ne110
returns-then-letter_at-ne110 c = second-other c.letter_at.ensures c.if-letter_at-ne105.false c.letter_at-2.ensures c.if-letter_at-ne110.true

pub overflow_add-at-2 : goal.overflow_add-at-2
overflow_add-at-2 c = omega (arith, letter-in c.letter_at-2.ensures c.if-letter_at-ne110.false (lit≤ tt))

pub returns : goal.returns
returns c = third c.letter_at.ensures c.if-letter_at-ne105.false c.letter_at-2.ensures c.if-letter_at-ne110.false c.letter_at-3.ensures

pub returns-then-letter_at-ne105 : goal.returns-then-letter_at-ne105
returns-then-letter_at-ne105 c = first-other c.letter_at.ensures c.if-letter_at-ne105.true
