-- Any two outcomes that a contract of this crate allows coincide.
use Prim.Native.Nat.{ℕ, ◌≤◌}
use mathlib.Core.Path.{◌≡◌, sym, ap, ◌∙◌}
use mathlib.Core.Bool.{Bool, false}
use mathlib.Core.List.{List}
use native.Mathlib.Omega.{arith}
use native.Mathlib.Decide.{dec_le}
use lib.ListN.{length, get_or}
use lib.Seq.{ext_get_or}
use Rattle.language.proofs.Determined.{Determined}
use Rattle.expressions.specs.declared.Part.{Part}
use Rattle.charts.specs.Charted.{Charts}
use Rattle.charts.specs.contracts.chart as chart-contract
use Rattle.charts.proofs.chart.Reads as chart-reads
use Rattle.charts.specs.contracts.part_at as part_at-contract
use Rattle.charts.proofs.part_at.Reads as part_at-reads
use Rattle.charts.specs.contracts.later as later-contract
use Rattle.charts.proofs.later.Reads as later-reads
use Rattle.charts.specs.contracts.level_of as level_of-contract
use Rattle.charts.proofs.level_of.Reads as level_of-reads
use Rattle.charts.specs.contracts.table.Chart.part as part-contract
use Rattle.charts.proofs.table.Chart.part.Reads as part-reads

part-at-determined : Determined part_at-contract.ended part_at-reads.Pre part_at-reads.Post
part-at-determined κs a p o q e d = ap (λ z. (z, o.1)) (e.is ∙ sym d.is)

part-of-chart-determined : Determined part-contract.ended part-reads.Pre part-reads.Post
part-of-chart-determined κs a p o q e d = ap (λ z. (z, o.1)) (e.is ∙ sym d.is)

later-determined : Determined later-contract.ended later-reads.Pre later-reads.Post
later-determined κs a p o q e d = ap (λ z. (z, o.1)) (e ∙ sym d)

level_of-determined : Determined level_of-contract.ended level_of-reads.Pre level_of-reads.Post
level_of-determined κs a p o q e d = ap (λ z. (z, o.1)) (e.is ∙ sym d.is)

-- two charts of the same words in the same tables
module _ {k ends a c : List ℕ} {nulls b d : List Bool} (x : Charts k ends nulls a b) (y : Charts k ends nulls c d) where
  same_ends : a ≡ c
  same_ends = ext_get_or 0 a c (x.ends-long ∙ sym y.ends-long) (λ i _. go i (dec_le (length k) i))
    where
      go : (i : ℕ) → Dec (length k ≤ i) → get_or a i 0 ≡ get_or c i 0
      go i (yes l) = x.ends-kept i l ∙ sym (y.ends-kept i l)
      go i (no l) = ap (λ (p : Part). p.end) ((x.here.each i (omega arith) (omega arith)).is ∙ sym (y.here.each i (omega arith) (omega arith)).is)

  same-nulls : b ≡ d
  same-nulls = ext_get_or false b d (x.nulls-long ∙ sym y.nulls-long) (λ i _. go i (dec_le (length k) i))
    where
      go : (i : ℕ) → Dec (length k ≤ i) → get_or b i false ≡ get_or d i false
      go i (yes l) = x.nulls-kept i l ∙ sym (y.nulls-kept i l)
      go i (no l) = ap (λ (p : Part). p.null) ((x.here.each i (omega arith) (omega arith)).is ∙ sym (y.here.each i (omega arith) (omega arith)).is)

chart-determined : Determined chart-contract.ended chart-reads.Pre chart-reads.Post
chart-determined κs a p o q e d = ap (λ s. (tt, (tt, (s, (o.1.1.1.0, tt))))) (same_ends e d) ∙ ap (λ s. (tt, (tt, (q.1.1.0, (s, tt))))) (same-nulls e d)
