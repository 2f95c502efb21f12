-- Two lone variables are eliminated where both stand elsewhere.
use mathlib.Core.Path.{sym, ap, ◌∙◌}
use Rattle.language.specs.Kinds.{pick}
use Rattle.rules.specs.Places.{at_e1, no_rule}
use Rattle.equations.proofs.Looked.{both}
use Rattle.equations.proofs.Variables.{term-elsewhere, first-own, second-own, same-variable, two-variables}
use Rattle.equations.proofs.terms.rank_variables.Goals as goal

pub returns-then-x-z : goal.returns-then-x-z
returns-then-x-z c = λ K b i j. same-variable K c.args.x c.args.z c.if-x-z.true

pub returns-then-and : goal.returns-then-and
returns-then-and c = λ K b i j.
    sym (ap (λ b. pick b at_e1 no_rule) c.if-and.true)
    ∙ two-variables K c.args.x c.args.z c.if-x-z.false (both c.and.ensures (c.repeated-first.ensures ∙ term-elsewhere b c.args.x i (first-own c.args.x c.args.z c.if-x-z.false) c.term_word.ensures) (c.repeated-second.ensures ∙ term-elsewhere b c.args.z j (second-own c.args.x c.args.z c.if-x-z.false) c.term_word-2.ensures))

pub returns : goal.returns
returns c = λ K b i j.
    sym (ap (λ b. pick b at_e1 no_rule) c.if-and.false)
    ∙ two-variables K c.args.x c.args.z c.if-x-z.false (both c.and.ensures (c.repeated-first.ensures ∙ term-elsewhere b c.args.x i (first-own c.args.x c.args.z c.if-x-z.false) c.term_word.ensures) (c.repeated-second.ensures ∙ term-elsewhere b c.args.z j (second-own c.args.x c.args.z c.if-x-z.false) c.term_word-2.ensures))
