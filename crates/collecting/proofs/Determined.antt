-- Any two outcomes that a contract of this crate allows coincide.
use mathlib.Core.Path.{ap}
use Rattle.language.specs.Limits.{desk}
use Rattle.language.proofs.Determined.{Determined}
use Rattle.collecting.proofs.Once.{lines-once}
use Rattle.collecting.specs.contracts.collect as collect-contract
use Rattle.collecting.proofs.collect.Reads as collect-reads

collect-determined : Determined collect-contract.ended collect-reads.Pre collect-reads.Post
collect-determined κs a p o q e d = ap (λ s. (tt, (tt, (s, tt)))) (lines-once desk _ e.on d.on)
