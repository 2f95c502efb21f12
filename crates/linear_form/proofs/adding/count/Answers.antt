use Rattle.linear_form.proofs.Added.{counted-over, counted-long, counted-more}
use Rattle.linear_form.proofs.adding.count.Goals as goal

pub returns-in_err-n : goal.returns-in_err-n
returns-in_err-n c = rw c.from_residual.ensures (counted-over c.args.one c.in_err-n.was)

pub returns-then-one-gt-QUESTION : goal.returns-then-one-gt-QUESTION
returns-then-one-gt-QUESTION c = counted-long c.in_ok-n.was c.if-one-gt-QUESTION.true

pub returns : goal.returns
returns c = counted-more c.in_ok-n.was c.if-one-gt-QUESTION.false c.grow.ensures
