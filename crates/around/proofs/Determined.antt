-- Any two outcomes that a contract of this crate allows coincide.
use mathlib.Core.Path.{sym, ap, ◌∙◌}
use mathlib.Core.List.{List}
use Prim.Native.Nat.{ℕ}
use Rattle.language.proofs.Determined.{Determined}
use Rattle.outcomes.specs.declared.Solved.{Solved}
use Rattle.around.proofs.Laws.{settled-one}
use Rattle.around.specs.contracts.refused as refused-contract
use Rattle.around.proofs.refused.Reads as refused-reads
use Rattle.around.specs.contracts.tell as tell-contract
use Rattle.around.proofs.tell.Reads as tell-reads
use Rattle.around.specs.contracts.ready as ready-contract
use Rattle.around.proofs.ready.Reads as ready-reads
use Rattle.around.specs.contracts.settle as settle-contract
use Rattle.around.proofs.settle.Reads as settle-reads

refused-determined : Determined refused-contract.ended refused-reads.Pre refused-reads.Post
refused-determined κs a p o q e d = ap (λ z. (z, o.1)) (e ∙ sym d)

abbrev Left : Type 0
Left = Solved × List ℕ × List ℕ

tell-determined : Determined tell-contract.ended tell-reads.Pre tell-reads.Post
tell-determined κs a p o q e d = ap (λ (t : Left). (t.0, (tt, (t.1, (t.2, tt))))) (e ∙ sym d)

ready-determined : Determined ready-contract.ended ready-reads.Pre ready-reads.Post
ready-determined κs a p o q e d = ap (λ z. (z, o.1)) (e ∙ sym d)

settle-determined : Determined settle-contract.ended settle-reads.Pre settle-reads.Post
settle-determined κs a p o q e d = ap (λ (s : List ℕ). (o.0, (tt, (s, tt)))) (settled-one a.0 _ o.1.1.0 q.1.1.0 e d)
