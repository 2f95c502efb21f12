-- `given::read_filling` meets its contract: a law for each return.
use mathlib.Core.Path.{sym, ◌∙◌}
use native.Mathlib.Omega.{arith}
use Rattle.given.proofs.Readings.{too_long, no_words, other-count, not-laid, bad-value, good-values}
use Rattle.given.proofs.read_filling.Goals as goal

pub returns-then-filling-n : goal.returns-then-filling-n
returns-then-filling-n c = let v = c.count_variables-n.ensures in
    other-count _ _ (λ e. c.if-filling-n.true (e ∙ sym v)) (omega arith)

pub returns-then-not-laid_out : goal.returns-then-not-laid_out
returns-then-not-laid_out c = not-laid _ _ _ c.count_variables-n.ensures (sym c.laid_out.ensures ∙ c.if-not-laid_out.true)

pub values_fit-requires : goal.values_fit-requires
values_fit-requires c = record {
  n_value = c.count_variables-n.ensures;
  filling_value = sym c.laid_out.ensures ∙ c.if-not-laid_out.false;
}

pub returns-then-not-values_fit : goal.returns-then-not-values_fit
returns-then-not-values_fit c = bad-value _ _ _ c.count_variables-n.ensures (omega arith) c.if-filling-n.false (sym c.laid_out.ensures ∙ c.if-not-laid_out.false) _ c.values_fit.ensures c.if-not-values_fit.true

pub returns : goal.returns
returns c = good-values _ _ _ c.count_variables-n.ensures (omega arith) c.if-filling-n.false (sym c.laid_out.ensures ∙ c.if-not-laid_out.false) _ c.values_fit.ensures c.if-not-values_fit.false

pub returns-then-filling-gt-FILLING : goal.returns-then-filling-gt-FILLING
returns-then-filling-gt-FILLING c = too_long _ _ (omega arith)

pub returns-then-filling-lt1 : goal.returns-then-filling-lt1
returns-then-filling-lt1 c = no_words _ _ (omega arith)
