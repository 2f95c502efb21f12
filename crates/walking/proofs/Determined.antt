-- Any two outcomes that a contract of this crate allows coincide.
use mathlib.Core.Path.{sym, ap, ◌∙◌}
use Rattle.language.proofs.Determined.{Determined}
use Rattle.walking.specs.Walking.{Left}
use Rattle.walking.specs.contracts.side as side-contract
use Rattle.walking.proofs.side.Reads as side-reads

side-determined : Determined side-contract.ended side-reads.Pre side-reads.Post
side-determined κs a p o q e d = ap (λ (l : Left). (l.0, (tt, (tt, (l.1, (tt, (tt, tt))))))) (e.tells ∙ sym d.tells)
