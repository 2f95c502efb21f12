-- The functor on the right, and whether the symbol is unordered, lead to the rank.
use mathlib.Core.Path.{sym, ◌∙◌}
use mathlib.Core.List.{◌++◌}
use Rattle.language.specs.Trees.{symbol}
use Rattle.equations.proofs.Names.{symbol-blank, same-unordered, same-symbol, symbols-clash}
use Rattle.equations.proofs.functors.rank_symbol.Goals as goal

pub returns-then-is_unordered : goal.returns-then-is_unordered
returns-then-is_unordered c = λ before behind G h y d t w e.
    same-unordered c.args.signature (before ++ behind) h d c.args.f c.in-Symbol.h G (sym c.in-Symbol.is ∙ e) c.if-f-h.true (sym c.is_unordered.ensures ∙ c.if-is_unordered.true) (c.rank_shuffled.ensures before behind (symbol c.args.f) G h y d t w)

pub returns-then-f-h : goal.returns-then-f-h
returns-then-f-h c = λ before behind G h y d t w e.
    same-symbol c.args.signature (before ++ behind) h d c.args.f c.in-Symbol.h G (sym c.in-Symbol.is ∙ e) c.if-f-h.true (sym c.is_unordered.ensures ∙ c.if-is_unordered.false)

pub returns-else-f-h : goal.returns-else-f-h
returns-else-f-h c = λ before behind G h y d t w e. symbols-clash c.args.signature (before ++ behind) h d c.args.f c.in-Symbol.h G (sym c.in-Symbol.is ∙ e) c.if-f-h.false

pub returns-in-Blank : goal.returns-in-Blank
returns-in-Blank c = λ before behind G h y d t w e. symbol-blank c.args.signature (before ++ behind) h d c.args.f G (sym c.in-Blank.is ∙ e)
