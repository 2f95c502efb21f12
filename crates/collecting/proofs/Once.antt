-- Bytes leave the shelves in one way.
use Prim.Native.Nat.{ℕ, ◌+◌}
use native.Mathlib.Omega.{arith}
use mathlib.Core.Path.{◌≡◌, refl, sym, subst}
use mathlib.Core.Bool.{Bool}
use mathlib.Core.List.{List}
use Rattle.language.specs.Limits.{Limits}
use Rattle.collecting.specs.Collecting.{LineOn, line-ends, line-goes, LinesOn, last_line, one_more}

module _ (L : Limits) (text : List ℕ) where
  line-once : {names a c : List ℕ} {i r s : ℕ} {b : Bool} → LineOn L text names i b a r → LineOn L text names i b c s → (a ≡ c) × (r ≡ s)
  line-once (line-ends e) (line-ends d) = (refl, refl)
  line-once (line-ends e) (line-goes n d) = absurd (n e)
  line-once (line-goes n d) (line-ends e) = absurd (n e)
  line-once (line-goes n d) (line-goes m e) = line-once d e

  pub lines-once : {names a c : List ℕ} {at : ℕ} → LinesOn L text names at a → LinesOn L text names at c → a ≡ c
  lines-once (last_line l p) (last_line m q) = (line-once l m).0
  lines-once (last_line l p) (one_more m q d) = absurd (let e = (line-once l m).1 in omega arith)
  lines-once (one_more l p d) (last_line m q) = absurd (let e = (line-once l m).1 in omega arith)
  lines-once {c = c} (one_more {r = r} l p d) (one_more {names' = v} {r = s} m q e) =
      let z = line-once l m in lines-once d (subst (λ w. LinesOn L text w (r + 1) c) (sym z.0) (subst (λ k. LinesOn L text v (k + 1) c) (sym z.1) e))
