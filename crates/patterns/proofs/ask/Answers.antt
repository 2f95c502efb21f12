-- `patterns::ask` meets its contract: each return cites the law of its test.
use Prim.Native.Nat.{◌+◌}
use mathlib.Core.Path.{sym, ap₂, ◌∙◌}
use lib.Dec.{ltb}
use borrow.Author.Tests.{ltb-false}
use Rattle.language.specs.Limits.{desk}
use Rattle.word_bytes.proofs.Pairs.{length-words_of}
use Rattle.patterns.proofs.Pairing.{none-tabled, ask-many, ask-few, ask-long, ask-asks}
use Rattle.patterns.proofs.ask.Goals as goal

pub returns-then-too_many-clause-value : goal.returns-then-too_many-clause-value
returns-then-too_many-clause-value c = (ask-many c.args.word _ _ _ _ c.even-a.ensures.0 c.even-b.ensures.0 _ _ _ _ c.number_blanks-n.ensures c.number_blanks-m.ensures _ c.too_many.ensures c.if-too_many.true c.args.question.now).0

pub returns-then-too_many-clause-question_after : goal.returns-then-too_many-clause-question_after
returns-then-too_many-clause-question_after c = (ask-many c.args.word _ _ _ _ c.even-a.ensures.0 c.even-b.ensures.0 _ _ _ _ c.number_blanks-n.ensures c.number_blanks-m.ensures _ c.too_many.ensures c.if-too_many.true c.args.question.now).1

pub returns-then-too_long-clause-value : goal.returns-then-too_long-clause-value
returns-then-too_long-clause-value c = (let a = sym (length-words_of c.even-a.result.now) in let b = sym (length-words_of c.even-b.result.now) in ask-long c.args.word _ _ _ _ c.even-a.ensures.0 c.even-b.ensures.0 _ _ _ _ c.number_blanks-n.ensures c.number_blanks-m.ensures _ c.too_many.ensures c.if-too_many.false _ (c.too_long.ensures ∙ ap₂ (λ i j. ltb desk.question (10 + (i + j))) a b) c.if-too_long.true c.args.question.now).0

pub returns-then-too_long-clause-question_after : goal.returns-then-too_long-clause-question_after
returns-then-too_long-clause-question_after c = (let a = sym (length-words_of c.even-a.result.now) in let b = sym (length-words_of c.even-b.result.now) in ask-long c.args.word _ _ _ _ c.even-a.ensures.0 c.even-b.ensures.0 _ _ _ _ c.number_blanks-n.ensures c.number_blanks-m.ensures _ c.too_many.ensures c.if-too_many.false _ (c.too_long.ensures ∙ ap₂ (λ i j. ltb desk.question (10 + (i + j))) a b) c.if-too_long.true c.args.question.now).1

pub write_pair-requires : goal.write_pair-requires
write_pair-requires c = record {
  noted = (c.number_blanks-n.ensures, c.number_blanks-m.ensures);
  second_value = ask-few c.args.word _ _ _ _ c.even-a.ensures.0 c.even-b.ensures.0 _ _ _ _ c.number_blanks-n.ensures c.number_blanks-m.ensures _ c.too_many.ensures c.if-too_many.false;
  second_bound = (ltb-false _ _ (sym c.too_long.ensures ∙ c.if-too_long.false), c.requires);
}

pub returns-clause-value : goal.returns-clause-value
returns-clause-value c = (let a = sym (length-words_of c.even-a.result.now) in let b = sym (length-words_of c.even-b.result.now) in ask-asks c.args.word _ _ _ _ c.even-a.ensures.0 c.even-b.ensures.0 _ _ _ _ c.number_blanks-n.ensures c.number_blanks-m.ensures _ c.too_many.ensures c.if-too_many.false _ (c.too_long.ensures ∙ ap₂ (λ i j. ltb desk.question (10 + (i + j))) a b) c.if-too_long.false _ _ _ _ _ _ _ a b c.and.ensures c.is_term.ensures c.is_term-2.ensures c.write_pair.ensures).0

pub returns-clause-question_after : goal.returns-clause-question_after
returns-clause-question_after c = (let a = sym (length-words_of c.even-a.result.now) in let b = sym (length-words_of c.even-b.result.now) in ask-asks c.args.word _ _ _ _ c.even-a.ensures.0 c.even-b.ensures.0 _ _ _ _ c.number_blanks-n.ensures c.number_blanks-m.ensures _ c.too_many.ensures c.if-too_many.false _ (c.too_long.ensures ∙ ap₂ (λ i j. ltb desk.question (10 + (i + j))) a b) c.if-too_long.false _ _ _ _ _ _ _ a b c.and.ensures c.is_term.ensures c.is_term-2.ensures c.write_pair.ensures).1

pub number_blanks-n-requires : goal.number_blanks-n-requires
number_blanks-n-requires c = none-tabled

pub number_blanks-m-requires : goal.number_blanks-m-requires
number_blanks-m-requires c = none-tabled
