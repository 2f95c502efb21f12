-- `reader::read_question` meets its contract: each return is a verdict, with the tests before it.
-- Assumes nothing.
use mathlib.Core.Path.{◌≡◌, sym, ap, ◌∙◌}
use Rattle.std.proofs.Common.{Err, rules}
use Rattle.language.specs.declared.Refusal.TheVariants.{NotLiterals}
use Rattle.conjunctions.proofs.Parts.{ok-of, err-of}
use Rattle.outcomes.specs.Numbers.{checked_numbers}
use Rattle.reader.proofs.Verdicts.{too_short, too_long, counts-wrong, offsets-wrong, literals-wrong, number-wrong, nothing-wrong}
use Rattle.reader.proofs.read_question.Goals as goal

pub returns-then-question-lt6 : goal.returns-then-question-lt6
returns-then-question-lt6 c = too_short _ c.if-question-lt6.true

pub returns-then-question-gt-QUESTION : goal.returns-then-question-gt-QUESTION
returns-then-question-gt-QUESTION c = too_long _ c.if-question-lt6.false c.if-question-gt-QUESTION.true

pub returns-then-not-counts_fit : goal.returns-then-not-counts_fit
returns-then-not-counts_fit c = counts-wrong _ c.if-question-lt6.false c.if-question-gt-QUESTION.false _ c.read_header-h.ensures (sym c.counts_fit.ensures ∙ c.if-not-counts_fit.true)

pub returns-then-not-laid_out : goal.returns-then-not-laid_out
returns-then-not-laid_out c = offsets-wrong _ c.if-question-lt6.false c.if-question-gt-QUESTION.false _ c.read_header-h.ensures (sym c.counts_fit.ensures ∙ c.if-not-counts_fit.false)
    (sym c.laid_out.ensures ∙ c.if-not-laid_out.true)

pub read_all-requires : goal.read_all-requires
read_all-requires c = sym c.laid_out.ensures ∙ c.if-not-laid_out.false

pub returns-in_err-map_err : goal.returns-in_err-map_err
returns-in_err-map_err c = let (at, e) = err-of c.read_all.result c.in_err-map_err.ensures.variant in
    let h : c.from_residual.result ≡ Err (NotLiterals at) = search rules in
    ap checked_numbers h
    ∙ literals-wrong _ c.if-question-lt6.false c.if-question-gt-QUESTION.false _ c.read_header-h.ensures (sym c.counts_fit.ensures ∙ c.if-not-counts_fit.false)
    (sym c.laid_out.ensures ∙ c.if-not-laid_out.false) at (sym c.read_all.ensures ∙ e)

pub returns-in-Some : goal.returns-in-Some
returns-in-Some c = let r = ok-of c.read_all.result c.in_ok-map_err.ensures.variant in
    number-wrong _ c.if-question-lt6.false c.if-question-gt-QUESTION.false _ c.read_header-h.ensures (sym c.counts_fit.ensures ∙ c.if-not-counts_fit.false)
    (sym c.laid_out.ensures ∙ c.if-not-laid_out.false) _ (sym c.read_all.ensures ∙ r.1) _ c.from.ensures _
    (sym c.find_undeclared.ensures ∙ c.in-Some.is)

pub returns-in-None : goal.returns-in-None
returns-in-None c = let r = ok-of c.read_all.result c.in_ok-map_err.ensures.variant in
    nothing-wrong _ c.if-question-lt6.false c.if-question-gt-QUESTION.false _ c.read_header-h.ensures (sym c.counts_fit.ensures ∙ c.if-not-counts_fit.false)
    (sym c.laid_out.ensures ∙ c.if-not-laid_out.false) _ (sym c.read_all.ensures ∙ r.1) _ c.from.ensures
    (sym c.find_undeclared.ensures ∙ c.in-None.is)
