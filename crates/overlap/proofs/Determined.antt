-- Any two outcomes that a contract of this crate allows coincide.
use Prim.Native.Nat.{ℕ}
use mathlib.Core.Path.{sym, ap₂, ◌∙◌}
use mathlib.Core.List.{List}
use Rattle.language.proofs.Determined.{Determined}
use Rattle.overlap.specs.contracts.overlap_pair as overlap-pair-contract
use Rattle.overlap.proofs.overlap_pair.Reads as overlap-pair-reads
use Rattle.overlap.specs.contracts.overlap_sheet as overlap-sheet-contract
use Rattle.overlap.proofs.overlap_sheet.Reads as overlap-sheet-reads

overlap_pair-determined : Determined overlap-pair-contract.ended overlap-pair-reads.Pre overlap-pair-reads.Post
overlap_pair-determined κs a p o q e d = ap₂ (λ (r : ℕ) (s : List ℕ). (r, (tt, (tt, (tt, (s, tt)))))) (e.0 ∙ sym d.0) (e.1 ∙ sym d.1)

overlap_sheet-determined : Determined overlap-sheet-contract.ended overlap-sheet-reads.Pre overlap-sheet-reads.Post
overlap_sheet-determined κs a p o q e d = ap₂ (λ (r : ℕ) (s : List ℕ). (r, (tt, (tt, (s, tt))))) (e.0 ∙ sym d.0) (e.1 ∙ sym d.1)
