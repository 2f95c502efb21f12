-- By the length of the result.
use mathlib.Core.List.{[]}
use Rattle.plans.specs.Results.{made}
use Rattle.results.proofs.Results.{size-over, size-more}
use Rattle.results.proofs.size_one.Goals as goal

pub returns-then-one-gt-QUESTION : goal.returns-then-one-gt-QUESTION
returns-then-one-gt-QUESTION c = let a = c.args in size-over a.n (made a.k.now a.r a.cut) [] _ c.made_len-one.ensures c.if-one-gt-QUESTION.true

pub returns : goal.returns
returns c = let a = c.args in size-more a.n (made a.k.now a.r a.cut) [] _ c.made_len-one.ensures c.if-one-gt-QUESTION.false _ c.grow.ensures
