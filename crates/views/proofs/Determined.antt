-- Any two outcomes that a contract of this crate allows coincide.
use mathlib.Core.Path.{sym, ap, ◌∙◌}
use Rattle.language.proofs.Determined.{Determined}
use Rattle.views.specs.contracts.side_at as side_at-contract
use Rattle.views.proofs.side_at.Reads as side_at-reads
use Rattle.views.specs.contracts.see as see-contract
use Rattle.views.proofs.see.Reads as see-reads
use Rattle.views.specs.contracts.show_membership as show_membership-contract
use Rattle.views.proofs.show_membership.Reads as show_membership-reads
use Rattle.views.specs.contracts.swapped as swapped-contract
use Rattle.views.proofs.swapped.Reads as swapped-reads

side_at-determined : Determined side_at-contract.ended side_at-reads.Pre side_at-reads.Post
side_at-determined κs a p o q e d = ap (λ z. (z, o.1)) (e.2 ∙ sym d.2)

see-determined : Determined see-contract.ended see-reads.Pre see-reads.Post
see-determined κs a p o q e d = ap (λ z. (z, o.1)) (e.1 ∙ sym d.1)

show_membership-determined : Determined show_membership-contract.ended show_membership-reads.Pre show_membership-reads.Post
show_membership-determined κs a p o q e d = ap (λ z. (z, o.1)) (e.1 ∙ sym d.1)

swapped-determined : Determined swapped-contract.ended swapped-reads.Pre swapped-reads.Post
swapped-determined κs a p o q e d = ap (λ z. (z, o.1)) (e.1 ∙ sym d.1)
