-- `expression_words::on_opens` meets its contract: what stands in it, and what is owed before it.
use Rattle.expression_words.proofs.Rows.{opens-marked}
use Rattle.expression_words.proofs.on_opens.Goals as goal

pub returns : goal.returns
returns c = opens-marked c.args.s c.put_inside-at.ensures c.out.ensures
