-- Any two outcomes that a contract of this crate allows coincide.
use mathlib.Core.Path.{sym, ap, ◌∙◌}
use Rattle.language.proofs.Determined.{Determined}
use Rattle.live_rules.specs.contracts.rule_end as Rule-end-contract
use Rattle.live_rules.proofs.rule_end.Reads as Rule-end-reads
use Rattle.live_rules.specs.contracts.sheet_number as sheet-number-contract
use Rattle.live_rules.proofs.sheet_number.Reads as sheet-number-reads

rule_end-determined : Determined Rule-end-contract.ended Rule-end-reads.Pre Rule-end-reads.Post
rule_end-determined κs a p o q e d = ap (λ n. (n, o.1)) (e ∙ sym d)

sheet_number-determined : Determined sheet-number-contract.ended sheet-number-reads.Pre sheet-number-reads.Post
sheet_number-determined κs a p o q e d = ap (λ n. (n, o.1)) (e ∙ sym d)
