-- Parts of a list of words whose end lies within the list: the first word and the rest, nothing, and how long.
use mathlib.Core.Path.{◌≡◌, sym, ap, ◌∙◌}
use mathlib.Core.List.{List, [], ◌∷◌, ◌++◌}
use Prim.Native.Nat.{ℕ, ◌+◌, ◌-◌, ◌<◌, ◌≤◌}
use native.Mathlib.Numerals.{add-one}
use native.Mathlib.Omega.{arith}
use lib.ListN.{length, get_or, drop, take, length-drop, drop_of_length-le}
use lib.Seq.{slice, slice-cons, length-slice, take_all, take-length, length-take-le}
use Rattle.slices.specs.Written.{Within}

-- ws is us and then vs; a record, so that the three are found from it
pub record Split (ws us vs : List ℕ) : Type 0 where
  pub eq : ws ≡ us ++ vs

-- an end past the words is their end
pub within_all : (k : List ℕ) (to : ℕ) → length k ≤ to → Within k to (length k)
within_all k to h = record { low = omega arith; same = take-length k ∙ sym (take_all to k h) }

module _ {k : List ℕ} {to e : ℕ} (w : Within k to e) where
  -- the place follows from the words
  pub within-length : e ≡ length (take to k)
  within-length = sym (length-take-le e k w.low) ∙ ap length w.same

  pub same-part : (i : ℕ) → slice i e k ≡ slice i to k
  same-part i = ap (drop i) w.same

  pub part_length : (i : ℕ) → length (slice i to k) ≡ e - i
  part_length i = sym (ap length (same-part i)) ∙ length-slice i e k w.low

  -- the part from i on begins with the word at i
  pub part-cons : (i : ℕ) → i < e → slice i to k ≡ get_or k i 0 ∷ slice (i + 1) to k
  part-cons i h = sym (same-part i) ∙ slice-cons i e k 0 h w.low ∙ ap (λ n. get_or k i 0 ∷ slice n e k) (sym (add-one i)) ∙ ap (λ l. get_or k i 0 ∷ l) (same-part (i + 1))

  pub part_step : (i : ℕ) → i < e → Split (slice i to k) (get_or k i 0 ∷ []) (slice (i + 1) to k)
  part_step i h = record { eq = part-cons i h }

  pub part_none : (i : ℕ) → e ≤ i → slice i to k ≡ []
  part_none i h = sym (same-part i) ∙ drop_of_length-le (take e k) {i = i} (let l = length-take-le e k w.low in omega arith)

-- all of a list is a part
pub part-whole : (k : List ℕ) → slice 0 (length k) k ≡ k
part-whole k = take-length k

-- a part is no longer than the list
pub part-short : (k : List ℕ) (from to : ℕ) → length (slice from to k) ≤ length k
part-short k from to = let d = length-drop from (take to k) in let h = take_short to k in omega arith
  where
    take_short : (t : ℕ) (k : List ℕ) → length (take t k) ≤ length k
    take_short t k = rw (lib.ListN.length-take) (native.Mathlib.Nat.min-le_right t (length k))
