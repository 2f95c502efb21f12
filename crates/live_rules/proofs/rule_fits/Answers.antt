-- `live_rules::rule_fits` meets its contract.
use Rattle.live_rules.proofs.Reading.{fits-short, fits-no-action, fits_all}
use native.Mathlib.Omega.{arith}
use Rattle.live_rules.proofs.rule_fits.Goals as goal

pub returns-then-end-at : goal.returns-then-end-at
returns-then-end-at c = fits-short c.args.sheet.now c.args.at (omega arith)

pub returns-then-word_at-ge-ACTIONS : goal.returns-then-word_at-ge-ACTIONS
returns-then-word_at-ge-ACTIONS c = fits-no-action c.args.sheet.now c.args.at _ c.word_at.ensures (omega arith)

pub returns : goal.returns
returns c = fits_all c.args.sheet.now c.args.at _ _ (omega arith) c.word_at.ensures (omega arith) c.rule_end.ensures
