-- `try_host::desk_place` meets its contract: the words lent have the mistake that the bytes have.
use mathlib.Core.Path.{◌∙◌}
use borrow.Author.Rules.{rules}
use Rattle.try_host.proofs.Places.{no-mistake, its-place, place_short}
use Rattle.try_host.proofs.desk_place.Goals as goal

pub returns-in-Ok : goal.returns-in-Ok
returns-in-Ok c = no-mistake _ _ c.take_words-n.ensures.words_after.0 _ c.read_question.ensures c.in-Ok.is

pub returns-in-Err : goal.returns-in-Err
returns-in-Err c = c.place.ensures ∙ its-place _ _ c.take_words-n.ensures.words_after.0 _ c.read_question.ensures c.in-Err.is

pub overflow_cast-result : goal.overflow_cast-result
overflow_cast-result c = let h = place_short _ _ c.take_words-n.ensures.words_after.0 _ c.read_question.ensures c.in-Err.is in
    let e = c.place.ensures in
    search rules
