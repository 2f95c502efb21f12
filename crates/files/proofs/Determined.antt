-- Any two outcomes that a contract of this crate allows coincide.
use mathlib.Core.Path.{sym, ap, ◌∙◌}
use Rattle.language.proofs.Determined.{Determined}
use Rattle.files.specs.contracts.status.found as found-contract
use Rattle.files.proofs.status.found.Reads as found-reads
use Rattle.files.specs.contracts.status.nothing as nothing-contract
use Rattle.files.proofs.status.nothing.Reads as nothing-reads
use Rattle.files.specs.contracts.status.failed as failed-contract
use Rattle.files.proofs.status.failed.Reads as failed-reads
use Rattle.files.specs.contracts.arguments.wrong_use as wrong_use-contract
use Rattle.files.proofs.arguments.wrong_use.Reads as wrong_use-reads

found-determined : Determined found-contract.ended found-reads.Pre found-reads.Post
found-determined κs a p o q e d = ap (λ z. (z, o.1)) (e ∙ sym d)

nothing-determined : Determined nothing-contract.ended nothing-reads.Pre nothing-reads.Post
nothing-determined κs a p o q e d = ap (λ z. (z, o.1)) (e ∙ sym d)

failed-determined : Determined failed-contract.ended failed-reads.Pre failed-reads.Post
failed-determined κs a p o q e d = ap (λ z. (z, o.1)) (e ∙ sym d)

wrong_use-determined : Determined wrong_use-contract.ended wrong_use-reads.Pre wrong_use-reads.Post
wrong_use-determined κs a p o q e d = ap (λ z. (z, o.1)) (e ∙ sym d)
