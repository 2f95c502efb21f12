-- `expression_words::put_operand` meets its contract: its stars, and its word.
use Rattle.expression_words.proofs.Laying.{stars-leave, laid_then}
use native.Mathlib.Omega.{arith}
use Rattle.expression_words.proofs.put_operand.Goals as goal

pub put_stars-at-requires : goal.put_stars-at-requires
put_stars-at-requires c = omega arith

pub put_if-requires : goal.put_if-requires
put_if-requires c = (stars-leave c.args.s.stars c.args.s.operand c.requires.1 c.put_stars-at.ensures c.requires.0, omega arith)

pub returns : goal.returns
returns c = search (laid_then)
