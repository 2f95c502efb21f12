-- Any two outcomes that a contract of this crate allows coincide.
use Prim.Native.Nat.{ℕ, ◌≤◌}
use mathlib.Core.Path.{◌≡◌, sym, ap, ◌∙◌}
use mathlib.Core.Bool.{Bool, false}
use mathlib.Core.List.{List}
use native.Mathlib.Omega.{arith}
use native.Mathlib.Decide.{dec_le}
use lib.ListN.{get_or}
use lib.Seq.{ext_get_or}
use Rattle.language.proofs.Determined.{Determined}
use Rattle.passing.specs.Places.{Cleared}
use Rattle.passing.specs.contracts.skip as skip-contract
use Rattle.passing.proofs.skip.Reads as skip-reads
use Rattle.passing.specs.contracts.clear as clear-contract
use Rattle.passing.proofs.clear.Reads as clear-reads

skip-determined : Determined skip-contract.ended skip-reads.Pre skip-reads.Post
skip-determined κs a p o q e d = ap (λ z. (z, o.1)) (e.each p.g p.here ∙ sym (d.each p.g p.here))

one-clear : (k l m : List Bool) (from to : ℕ) → Cleared k l from to → Cleared k m from to → l ≡ m
one-clear k l m from to c d = ext_get_or false l m (c.beside.len ∙ sym d.beside.len) (λ i p. at i (dec_le from i) (dec_le to i))
  where
    at : (i : ℕ) → Dec (from ≤ i) → Dec (to ≤ i) → get_or l i false ≡ get_or m i false
    at i (no n) t = c.beside.low i (omega arith) ∙ sym (d.beside.low i (omega arith))
    at i (yes p) (yes q) = c.beside.high i q ∙ sym (d.beside.high i q)
    at i (yes p) (no n) = c.clear i p (omega arith) ∙ sym (d.clear i p (omega arith))

clear-determined : Determined clear-contract.ended clear-reads.Pre clear-reads.Post
clear-determined κs a p o q e d = ap (λ s. (o.0, (s, o.1.1))) (one-clear a.0.now o.1.0 q.1.0 a.1.0 a.1.1.0 e d)
