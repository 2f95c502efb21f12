-- Any two outcomes that a contract of this crate allows coincide: the number that comes back, and the bytes lent.
use mathlib.Core.Path.{sym, ap, ◌∙◌}
use mathlib.Core.List.{List}
use Prim.Native.Nat.{ℕ}
use Rattle.language.proofs.Determined.{Determined}
use Rattle.step_host.specs.contracts.desk_step as desk-step-contract
use Rattle.step_host.proofs.desk_step.Reads as desk-step-reads

desk_step-determined : Determined desk-step-contract.ended desk-step-reads.Pre desk-step-reads.Post
desk_step-determined κs a p o q e d =
    ap (λ n. (n, o.1)) (e.0 ∙ sym d.0) ∙ ap (λ (bytes : List ℕ). (q.0, (tt, (tt, (tt, (tt, (tt, (bytes, tt)))))))) (e.1 ∙ sym d.1)
