use native.Mathlib.Omega.{arith}
use lib.Seq.{length-slice}
use Rattle.linear_form.proofs.Walking.{widened-full, widened_more}
use Rattle.linear_form.proofs.widen.Goals as goal

pub returns-then-rest-words : goal.returns-then-rest-words
returns-then-rest-words c = widened-full c.requires.0 c.requires.1 c.if-rest-words.true

pub copy-requires : goal.copy-requires
copy-requires c = let a = c.args in let l = length-slice a.from a.until a.k.now c.requires.1 in let h = c.if-rest-words.false in let f = c.requires.0 in omega arith

pub returns : goal.returns
returns c = widened_more c.requires.0 c.requires.1 c.if-rest-words.false c.copy.ensures
