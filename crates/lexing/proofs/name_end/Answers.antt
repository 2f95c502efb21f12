use native.Mathlib.Omega.{arith}
use mathlib.Core.Path.{sym, ◌∙◌}
use borrow.Author.Rules.{rules}
use Rattle.grammar.specs.Tokens.{name_byte}
use Rattle.lexing.proofs.Laws.{walk-starts, walk-on, walk-stops, walk_ends}
use Rattle.lexing.proofs.name_end.Goals as goal

pub loop-i-init : goal.loop-i-init
loop-i-init c = walk-starts name_byte _ _ (search rules)

pub returns-then-not-is_name_byte : goal.returns-then-not-is_name_byte
returns-then-not-is_name_byte c = walk-stops name_byte _ _ _ c.loop-i.invariant (omega arith) (sym c.is_name_byte.ensures ∙ c.if-not-is_name_byte.true)

pub loop-i-preserved : goal.loop-i-preserved
loop-i-preserved c = walk-on name_byte _ _ _ c.loop-i.invariant (omega arith) (sym c.is_name_byte.ensures ∙ c.if-not-is_name_byte.false)

pub returns : goal.returns
returns c = let e = walk_ends name_byte _ _ _ c.loop-i.invariant (omega arith) in let w = c.loop-i.invariant.within in omega arith
