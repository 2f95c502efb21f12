-- `overlap::pattern` meets its contract.
use Prim.Native.Nat.{ℕ, ◌+◌, ◌-◌, ◌*◌}
use mathlib.Core.Path.{ap, ◌∙◌}
use lib.ListN.{take, drop}
use Rattle.word_bytes.specs.Bytes.{words_of, words_in}
use Rattle.live_rules.specs.Layout.{rule_end}
use Rattle.live_rules.proofs.Reading.{pattern-words}
use native.Mathlib.Omega.{arith}
use Rattle.overlap.proofs.pattern.Goals as goal

pub returns : goal.returns
returns c = let e = c.rule_end-end.ensures in ap (λ (n : ℕ). words_in (take (2 * n - 2 * (c.args.at + 2)) (drop (2 * (c.args.at + 2)) c.args.sheet.now))) e ∙ pattern-words c.args.sheet.now (c.args.at + 2) (rule_end (words_of c.args.sheet.now) c.args.at) (omega arith) c.requires
