-- `expression_words::on_plus` meets its contract: the operand behind it.
use Rattle.expression_words.proofs.Laying.{plus-turned}
use Rattle.expression_words.proofs.on_plus.Goals as goal

pub returns : goal.returns
returns c = plus-turned c.args.s c.put_operand-at.ensures
