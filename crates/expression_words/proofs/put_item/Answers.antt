-- `expression_words::put_item` meets its contract: its operand, and its word.
use Rattle.expression_words.proofs.Laying.{operand-leaves, laid_then}
use native.Mathlib.Omega.{arith}
use Rattle.expression_words.proofs.put_item.Goals as goal

pub put_operand-at-requires : goal.put_operand-at-requires
put_operand-at-requires c = omega arith

pub put_if-requires : goal.put_if-requires
put_if-requires c = (operand-leaves c.args.s c.requires.1 c.put_operand-at.ensures c.requires.0, omega arith)

pub returns : goal.returns
returns c = search (laid_then)
