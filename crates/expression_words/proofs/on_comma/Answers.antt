-- `expression_words::on_comma` meets its contract: the item behind it.
use Rattle.expression_words.proofs.Laying.{comma-turned}
use Rattle.expression_words.proofs.on_comma.Goals as goal

pub returns : goal.returns
returns c = comma-turned c.args.s c.put_item-at.ensures
