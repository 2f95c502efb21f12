-- Any two outcomes that a contract of this crate allows coincide.
use Prim.Native.Nat.{ℕ}
use mathlib.Core.Path.{sym, ap₂, ◌∙◌}
use mathlib.Core.List.{List}
use Rattle.language.proofs.Determined.{Determined}
use Rattle.pairing.specs.contracts.meet as meet-contract
use Rattle.pairing.proofs.meet.Reads as meet-reads

meet-determined : Determined meet-contract.ended meet-reads.Pre meet-reads.Post
meet-determined κs a p o q e d = ap₂ (λ (r : ℕ) (s : List ℕ). (r, (tt, (tt, (tt, (s, (tt, (tt, tt)))))))) (e.0 ∙ sym d.0) (e.1 ∙ sym d.1)
