-- The chain of some words, word by word.
use mathlib.Core.Path.{◌≡◌, sym, ap, ◌∙◌}
use mathlib.Core.List.{List}
use Prim.Native.Nat.{ℕ, ◌+◌, ◌*◌, ◌/◌, ◌%◌, ◌<◌, ◌≤◌}
use native.Mathlib.Nat.{mod-lt}
use native.Mathlib.Omega.{arith}
use lib.ListN.{length, get_or}
use lib.Seq.{slice}
use Rattle.words.proofs.Parts.{part-cons, part_none}
use Rattle.folding.specs.Chains.{mixed, bucket}

pub mixed-on : (k : List ℕ) (i to s x : ℕ) → i < to → i < length k → x ≡ get_or k i 0
    → mixed ((s * 1664525 + x) % 4294967296) (slice (i + 1) to k) ≡ mixed s (slice i to k)
unfolding mixed
mixed-on k i to s x p q e =
    ap (λ w. mixed ((s * 1664525 + w) % 4294967296) (slice (i + 1) to k)) e ∙ sym (ap (mixed s) (part-cons k i to p q))

pub mixed-end : (k : List ℕ) (i to s : ℕ) → to ≤ i → mixed s (slice i to k) ≡ s
unfolding mixed
mixed-end k i to s p = ap (mixed s) (part_none k i to p)

pub bucket-is : (s : ℕ) (ws : List ℕ) → s ≡ mixed 0 ws → s / 4194304 ≡ bucket ws
unfolding bucket
bucket-is s ws e = ap (λ n. n / 4194304) e

pub mod_below : (n : ℕ) → n % 4294967296 < 4294967296
mod_below n = mod-lt n (omega arith)
