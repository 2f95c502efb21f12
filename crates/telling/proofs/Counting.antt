-- All words of a conjunction counted into an empty table.
use Prim.Native.Nat.{ℕ, ◌<◌, ◌≤◌}
use native.Mathlib.Omega.{arith}
use native.Mathlib.Decide.{dec_lt}
use mathlib.Core.Path.{◌≡◌, ap, ◌∙◌}
use mathlib.Core.List.{List}
use lib.ListN.{length, get_or, replicate, length-replicate, get_or-replicate, get_or-eq_default}
use lib.Seq.{slice, take-length}
use Rattle.counts.specs.Tables.{table as places, added, afresh}

pub zeros-short : (x : ℕ) → get_or (replicate places 0) x 0 ≤ 0
zeros-short x = go (dec_lt x places)
  where
    go : Dec (x < places) → get_or (replicate places 0) x 0 ≤ 0
    go (yes h) = let z = get_or-replicate {A = ℕ} places x 0 0 h in omega arith
    go (no h) = let z = get_or-eq_default {A = ℕ} (replicate places 0) 0 {n = x} (let l = length-replicate {A = ℕ} places 0 in omega arith) in omega arith

pub all-counted : (k t : List ℕ) → t ≡ added (slice 0 (length k) k) (replicate places 0) → t ≡ afresh k
unfolding afresh
all-counted k t e = e ∙ ap (λ ws. added ws (replicate places 0)) (take-length k)
