-- `word_bytes::take_words` meets its contract: each return cites the law of its test.
use mathlib.Core.Path.{refl, sym}
use native.Mathlib.Omega.{arith}
use lib.Seq.{length-take-le}
use borrow.Author.Rules.{rules}
use Rattle.word_bytes.proofs.Pairs.{takes-none-of-odd, takes-none-of-long, takes_all}
use Rattle.word_bytes.proofs.take_words.Goals as goal

pub returns-then-words-n : goal.returns-then-words-n
returns-then-words-n c = record {
  upper_bound = search rules;
  words_after = takes-none-of-long _ _ c.if-bytes-ne0.false _ c.if-words-n.true;
}

pub returns : goal.returns
returns c = record {
  upper_bound = (omega arith, sym (length-take-le _ _ (omega arith)));
  words_after = takes_all _ _ c.if-bytes-ne0.false _ _ refl c.if-words-n.false c.read_words.ensures;
}

pub returns-then-bytes-ne0 : goal.returns-then-bytes-ne0
returns-then-bytes-ne0 c = record {
  upper_bound = search rules;
  words_after = takes-none-of-odd _ _ _ c.if-bytes-ne0.true;
}
