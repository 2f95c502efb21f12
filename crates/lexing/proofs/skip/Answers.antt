use native.Mathlib.Omega.{arith}
use mathlib.Core.Path.{sym, ◌∙◌}
use borrow.Author.Rules.{rules}
use Rattle.grammar.specs.Tokens.{blank}
use Rattle.lexing.proofs.Laws.{walk-starts, walk-on, walk-stops, walk_ends}
use Rattle.lexing.proofs.skip.Goals as goal

pub loop-i-init : goal.loop-i-init
loop-i-init c = walk-starts blank _ _ (search rules)

pub returns-then-not-is_blank : goal.returns-then-not-is_blank
returns-then-not-is_blank c = walk-stops blank _ _ _ c.loop-i.invariant (omega arith) (sym c.is_blank.ensures ∙ c.if-not-is_blank.true)

pub loop-i-preserved : goal.loop-i-preserved
loop-i-preserved c = walk-on blank _ _ _ c.loop-i.invariant (omega arith) (sym c.is_blank.ensures ∙ c.if-not-is_blank.false)

pub returns : goal.returns
returns c = let e = walk_ends blank _ _ _ c.loop-i.invariant (omega arith) in let w = c.loop-i.invariant.within in omega arith
