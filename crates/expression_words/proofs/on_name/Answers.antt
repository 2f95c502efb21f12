-- `expression_words::on_name` meets its contract: eps or not, and its word.
use Rattle.language.specs.Limits.{desk}
use Rattle.expression_words.proofs.Laying.{leaf-leaves, name-turned}
use native.Mathlib.Omega.{arith}
use Rattle.expression_words.proofs.on_name.Goals as goal

pub put_if-first-requires : goal.put_if-first-requires
put_if-first-requires c = (leaf-leaves c.args.s c.requires.1 c.put_if-leaf.ensures c.requires.0, omega arith)

pub returns : goal.returns
returns c = name-turned desk _ _ c.args.at c.args.s c.put_if-leaf.ensures c.own_word-w.ensures c.put_if-first.ensures
