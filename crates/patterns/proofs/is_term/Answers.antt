-- `patterns::is_term` meets its contract: the first word, and what is to be closed after it.
use borrow.Enum.Refused.{opened}
use mathlib.Core.Path.{◌∙◌, ap}
use Rattle.language.specs.Limits.{desk}
use Rattle.language.specs.Kinds.{kind_of}
use Rattle.word_bytes.proofs.Pairs.{length-words_of}
use Rattle.patterns.proofs.Turns.{nothing-no-term, one-blank, one_name, no-term}
use native.Mathlib.Omega.{arith}
use Rattle.patterns.proofs.is_term.Goals as goal

pub returns-then-bytes-eq0 : goal.returns-then-bytes-eq0
returns-then-bytes-eq0 c = let h = length-words_of c.args.bytes.now in nothing-no-term _ (omega arith)

pub returns-in-Term : goal.returns-in-Term
returns-in-Term c = let h = length-words_of c.args.bytes.now in c.closes.ensures ∙ one-blank _ (omega arith) _ (c.classify.ensures ∙ ap (kind_of desk) c.word_at.ensures) c.in-Term.is

pub returns-in-Symbol : goal.returns-in-Symbol
returns-in-Symbol c = let h = length-words_of c.args.bytes.now in c.closes-in-Symbol.ensures ∙ one_name _ (omega arith) _ (c.classify.ensures ∙ ap (kind_of desk) c.word_at.ensures) c.in-Symbol.in-Symbol-own.keys2

pub returns-in_default : goal.returns-in_default
returns-in_default c = let h = length-words_of c.args.bytes.now in no-term _ (omega arith) _ (c.classify.ensures ∙ ap (kind_of desk) c.word_at.ensures) (opened c.in_default.in_default-own.keys3)
