-- Any two outcomes that a contract of this crate allows coincide: the number that comes back, and the bytes lent.
use mathlib.Core.Path.{sym, ap, ap₂, ◌∙◌}
use mathlib.Core.List.{List}
use Prim.Native.Nat.{ℕ}
use Rattle.language.proofs.Determined.{Determined}
use Rattle.trail_host.specs.contracts.desk_solve_trail as desk-solve-trail-contract
use Rattle.trail_host.proofs.desk_solve_trail.Reads as desk-solve-trail-reads
use Rattle.trail_host.specs.contracts.desk_replay as desk-replay-contract
use Rattle.trail_host.proofs.desk_replay.Reads as desk-replay-reads
use Rattle.trail_host.specs.contracts.desk_example_trail as desk-example-trail-contract
use Rattle.trail_host.proofs.desk_example_trail.Reads as desk-example-trail-reads

desk_solve_trail-determined : Determined desk-solve-trail-contract.ended desk-solve-trail-reads.Pre desk-solve-trail-reads.Post
desk_solve_trail-determined κs a p o q e d =
    ap (λ n. (n, o.1)) (e.0 ∙ sym d.0) ∙ ap₂ (λ (answer trail : List ℕ). (q.0, (tt, (answer, (trail, tt))))) (e.1.0 ∙ sym d.1.0) (e.1.1 ∙ sym d.1.1)

desk_replay-determined : Determined desk-replay-contract.ended desk-replay-reads.Pre desk-replay-reads.Post
desk_replay-determined κs a p o q e d = ap (λ n. (n, o.1)) (e.0 ∙ sym d.0) ∙ ap (λ (bytes : List ℕ). (q.0, (tt, (tt, (bytes, tt))))) (e.1 ∙ sym d.1)

desk_example_trail-determined : Determined desk-example-trail-contract.ended desk-example-trail-reads.Pre desk-example-trail-reads.Post
desk_example_trail-determined κs a p o q e d =
    ap (λ n. (n, o.1)) (e.0 ∙ sym d.0) ∙ ap (λ (bytes : List ℕ). (q.0, (tt, (tt, (tt, (tt, (bytes, tt))))))) (e.1 ∙ sym d.1)
