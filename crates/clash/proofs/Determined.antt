-- Any two outcomes that the contract of `judge` allows coincide.
use mathlib.Core.Path.{sym, ap, ◌∙◌}
use Rattle.language.proofs.Determined.{Determined}
use Rattle.clash.specs.contracts.judge as judge-contract
use Rattle.clash.proofs.judge.Reads as judge-reads

judge-determined : Determined judge-contract.ended judge-reads.Pre judge-reads.Post
judge-determined κs a p o q e d =
    let t = p.1 in
    ap (λ z. (z, o.1)) (e t.first t.second t.beyond t.further t.one t.two ∙ sym (d t.first t.second t.beyond t.further t.one t.two))
