-- `told_step`: no six bytes are left, or what their words name.
use native.Mathlib.Omega.{arith}
use mathlib.Core.Path.{◌∙◌}
use Rattle.running.proofs.Choosing.{none_told, next-told}
use Rattle.running.proofs.next_steps.told_step.Goals as goal

pub returns-then-told-made-lt-STEP_BYTES : goal.returns-then-told-made-lt-STEP_BYTES
returns-then-told-made-lt-STEP_BYTES c = λ x f e. none_told c.args.s x c.args.told.now c.args.made (let y = c.if-told-made-lt-STEP_BYTES.true in let z = c.requires.made_in_bounds.0 in omega arith)

pub returns : goal.returns
returns c = λ x f e.
    c.named_by.ensures x f e
    ∙ next-told c.args.s x c.args.told.now c.args.made _ _ _ (let y = c.if-told-made-lt-STEP_BYTES.false in let z = c.requires.made_in_bounds.0 in omega arith) c.word_at-rule.ensures c.word_at-literal.ensures c.word_at-side.ensures
