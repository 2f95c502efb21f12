-- Any two outcomes that a contract of this crate allows coincide.
use mathlib.Core.Path.{sym, ap, ◌∙◌}
use Rattle.language.proofs.Determined.{Determined}
use Rattle.undeclared.specs.contracts.find_undeclared as find-undeclared-contract
use Rattle.undeclared.proofs.find_undeclared.Reads as find-undeclared-reads

find_undeclared-determined : Determined find-undeclared-contract.ended find-undeclared-reads.Pre find-undeclared-reads.Post
find_undeclared-determined κs a p o q e d = ap (λ z. (z, o.1)) (e ∙ sym d)
