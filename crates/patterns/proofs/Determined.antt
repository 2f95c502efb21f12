-- Any two outcomes that a contract of this crate allows coincide.
use mathlib.Core.Path.{sym, ap₂, ◌∙◌}
use Prim.Native.Nat.{ℕ}
use mathlib.Core.List.{List}
use Rattle.language.proofs.Determined.{Determined}
use Rattle.std.specs.Prelude.{Result}
use Rattle.patterns.specs.declared.Pair.{Pair}
use Rattle.patterns.specs.declared.Unasked.{Unasked}
use Rattle.patterns.specs.contracts.ask as ask-contract
use Rattle.patterns.proofs.ask.Reads as ask-reads

ask-determined : Determined ask-contract.ended ask-reads.Pre ask-reads.Post
ask-determined κs a p o q e d = ap₂ (λ (r : Result Pair Unasked) (s : List ℕ). (r, (tt, (tt, (tt, (s, tt)))))) (e.0 ∙ sym d.0) (e.1 ∙ sym d.1)
