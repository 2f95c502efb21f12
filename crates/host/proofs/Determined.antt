-- Any two outcomes that a contract of this crate allows coincide: the number that comes back, and the bytes lent.
use Prim.Native.Nat.{ℕ}
use mathlib.Core.Path.{sym, ap, ◌∙◌}
use mathlib.Core.List.{List}
use Rattle.language.proofs.Determined.{Determined}
use Rattle.host.specs.contracts.desk_solve as desk-solve-contract
use Rattle.host.proofs.desk_solve.Reads as desk-solve-reads
use Rattle.host.specs.contracts.desk_example as desk-example-contract
use Rattle.host.proofs.desk_example.Reads as desk-example-reads
use Rattle.host.specs.contracts.desk_day as desk-day-contract
use Rattle.host.proofs.desk_day.Reads as desk-day-reads

desk_solve-determined : Determined desk-solve-contract.ended desk-solve-reads.Pre desk-solve-reads.Post
desk_solve-determined κs a p o q e d = ap (λ n. (n, o.1)) (e.0 ∙ sym d.0) ∙ ap (λ (bytes : List ℕ). (q.0, (tt, (bytes, tt)))) (e.1 ∙ sym d.1)

desk_example-determined : Determined desk-example-contract.ended desk-example-reads.Pre desk-example-reads.Post
desk_example-determined κs a p o q e d = ap (λ n. (n, o.1)) (e.0 ∙ sym d.0) ∙ ap (λ (bytes : List ℕ). (q.0, (tt, (tt, (tt, (bytes, tt)))))) (e.1 ∙ sym d.1)

desk_day-determined : Determined desk-day-contract.ended desk-day-reads.Pre desk-day-reads.Post
desk_day-determined κs a p o q e d = ap (λ n. (n, o.1)) (e.0 ∙ sym d.0) ∙ ap (λ (bytes : List ℕ). (q.0, (tt, (bytes, tt)))) (e.1 ∙ sym d.1)
