-- Any two outcomes that the contract of `step_named` allows coincide: what comes back and what the lent slice then holds.
use mathlib.Core.Path.{◌≡◌, sym, ap, ◌∙◌}
use mathlib.Core.List.{List}
use Prim.Native.Nat.{ℕ}
use Rattle.std.specs.Prelude.{Result}
use Rattle.language.proofs.Determined.{Determined}
use Rattle.language.specs.declared.Refusal.{Refusal}
use Rattle.named_steps.specs.contracts.step_named as step_named-contract
use Rattle.named_steps.proofs.step_named.Reads as step_named-reads

abbrev Left : Type 0
Left = Result ℕ Refusal × List ℕ

step_named-determined : Determined step_named-contract.ended step_named-reads.Pre step_named-reads.Post
step_named-determined κs a p o q e d =
    let f : ◌≡◌ {A = Left} (o.0, o.1.1.1.1.1.1.0) (q.0, q.1.1.1.1.1.1.0) = e ∙ sym d in
    ap (λ (t : Left). (t.0, (tt, (tt, (tt, (tt, (tt, (t.1, tt)))))))) f
