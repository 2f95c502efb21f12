-- A function variable stands elsewhere where its word does.
use mathlib.Core.Path.{sym, ◌∙◌}
use Rattle.equations.proofs.Names.{blank-elsewhere, left-own, right-own, not-elsewhere, symbol-elsewhere, blank-too}
use Rattle.equations.proofs.functors.both_elsewhere.Goals as goal

pub returns-then-not-repeated : goal.returns-then-not-repeated
returns-then-not-repeated c = λ K G u b d y e. not-elsewhere K c.args.f G (sym (blank-elsewhere u c.args.f b (left-own c.args.f G e) c.function_word.ensures) ∙ sym c.repeated.ensures ∙ c.if-not-repeated.true)

pub returns-in-Symbol : goal.returns-in-Symbol
returns-in-Symbol c = λ K G u b d y e. symbol-elsewhere K c.args.f G (sym (blank-elsewhere u c.args.f b (left-own c.args.f G e) c.function_word.ensures) ∙ sym c.repeated.ensures ∙ c.if-not-repeated.false) (sym c.in-Symbol.is ∙ d)

pub returns-in-Blank : goal.returns-in-Blank
returns-in-Blank c = λ K G u b d y e.
    blank-too K c.args.f c.in-Blank.y G _ (sym (blank-elsewhere u c.args.f b (left-own c.args.f G e) c.function_word.ensures) ∙ sym c.repeated.ensures ∙ c.if-not-repeated.false) (sym c.in-Blank.is ∙ d) y
    (λ i. c.repeated-in-Blank.ensures ∙ blank-elsewhere u c.in-Blank.y i (right-own c.args.f c.in-Blank.y G (sym c.in-Blank.is ∙ d) e) c.function_word-in-Blank.ensures)
