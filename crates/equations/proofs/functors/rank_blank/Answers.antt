-- The tests in their order lead to the rank.
use mathlib.Core.Path.{sym, ap, ◌∙◌}
use Rattle.language.specs.Kinds.{pick}
use Rattle.language.specs.Trees.{fvar}
use Rattle.rules.specs.Places.{at_e5, no_rule}
use Rattle.equations.proofs.Names.{bare-blanks, blank-every, blank-same, blank-over, blank-bare}
use Rattle.equations.proofs.functors.rank_blank.Goals as goal

pub returns-then-any_unordered : goal.returns-then-any_unordered
returns-then-any_unordered c = λ K G h d u x q y b. blank-every c.args.signature K h d c.args.f G (sym (c.same_blank.ensures G q) ∙ c.if-same_blank.true) (sym c.any_unordered.ensures ∙ c.if-any_unordered.true)

pub returns-then-same_blank : goal.returns-then-same_blank
returns-then-same_blank c = λ K G h d u x q y b. blank-same c.args.signature K h d c.args.f G (sym (c.same_blank.ensures G q) ∙ c.if-same_blank.true) (sym c.any_unordered.ensures ∙ c.if-any_unordered.false)

pub returns-then-not-bare : goal.returns-then-not-bare
returns-then-not-bare c = λ K G h d u x q y b. blank-over c.args.signature K h d c.args.f G (sym (c.same_blank.ensures G q) ∙ c.if-same_blank.false) (sym b ∙ c.if-not-bare.true)

pub returns-then-both_elsewhere : goal.returns-then-both_elsewhere
returns-then-both_elsewhere c = λ K G h d u x q y b.
    sym (ap (λ t. pick t at_e5 no_rule) c.if-both_elsewhere.true)
    ∙ blank-bare c.args.signature K h d c.args.f G (sym (c.same_blank.ensures G q) ∙ c.if-same_blank.false) (sym b ∙ c.if-not-bare.false) _ (c.both_elsewhere.ensures K G (bare-blanks (fvar c.args.f) G h d (sym b ∙ c.if-not-bare.false) u) x q y (sym (c.same_blank.ensures G q) ∙ c.if-same_blank.false))

pub returns : goal.returns
returns c = λ K G h d u x q y b.
    sym (ap (λ t. pick t at_e5 no_rule) c.if-both_elsewhere.false)
    ∙ blank-bare c.args.signature K h d c.args.f G (sym (c.same_blank.ensures G q) ∙ c.if-same_blank.false) (sym b ∙ c.if-not-bare.false) _ (c.both_elsewhere.ensures K G (bare-blanks (fvar c.args.f) G h d (sym b ∙ c.if-not-bare.false) u) x q y (sym (c.same_blank.ensures G q) ∙ c.if-same_blank.false))
