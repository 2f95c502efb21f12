-- Any two outcomes that the contract of `take_first` allows coincide.
use mathlib.Core.Path.{sym, ap, ◌∙◌}
use Rattle.language.proofs.Determined.{Determined}
use Rattle.first_waiting.specs.contracts.take_first as take_first-contract
use Rattle.first_waiting.proofs.take_first.Reads as take_first-reads

take_first-determined : Determined take_first-contract.ended take_first-reads.Pre take_first-reads.Post
take_first-determined κs a p o q e d =
    ap (λ z. (z, o.1)) (e.0 ∙ sym d.0) ∙ ap (λ s. (q.0, (tt, (tt, (s, (tt, (o.1.1.1.1.1.0, tt))))))) (e.1.0 ∙ sym d.1.0)
    ∙ ap (λ s. (q.0, (tt, (tt, (q.1.1.1.0, (tt, (s, tt))))))) (e.1.1 ∙ sym d.1.1)
