-- Words replaced in a part: word by word, nothing at the end, and how long it becomes.
use mathlib.Core.Path.{◌≡◌, refl, sym, ap, ◌∙◌}
use mathlib.Core.Bool.{Bool, true, false}
use mathlib.Core.List.{List, [], ◌∷◌}
use Prim.Native.Nat.{ℕ, ◌+◌, ◌*◌, ◌<◌, ◌≤◌}
use native.Mathlib.Omega.{arith}
use lib.ListN.{length, get_or, length-append}
use lib.Seq.{slice}
use Rattle.language.specs.Limits.{desk}
use Rattle.language.specs.Kinds.{pick}
use Rattle.plans.specs.Results.{replaced, empty_each}
use Rattle.words.specs.Spans.{member}
use Rattle.slices.specs.Written.{Within}
use Rattle.results.specs.Marked.{swapped}
use Rattle.slices.proofs.Parts.{Split, part-cons, part_none, part-short}

module _ (old new : List ℕ) (x : ℕ) (b : Bool) (m : b ≡ member x old) where
  pub swapped-old : b ≡ true → swapped old new x ≡ new
  unfolding swapped
  swapped-old e = ap (λ b. pick b new (x ∷ [])) (sym m ∙ e)

  pub swapped_other : b ≡ false → swapped old new x ≡ x ∷ []
  unfolding swapped
  swapped_other e = ap (λ b. pick b new (x ∷ [])) (sym m ∙ e)

  -- how many words stand for one
  pub swapped-length : (gain : ℕ) → gain ≡ length new → length (swapped old new x) ≡ pick b gain 1
  unfolding swapped
  swapped-length gain g = go b m
    where
      go : (b : Bool) → b ≡ member x old → length (pick (member x old) new (x ∷ [])) ≡ pick b gain 1
      go true e = ap (λ b. length (pick b new (x ∷ []))) (sym e) ∙ sym g
      go false e = ap (λ b. length (pick b new (x ∷ []))) (sym e)

module _ {k : List ℕ} {to e : ℕ} (w : Within k to e) (old new : List ℕ) where
  pub put_step : (i : ℕ) → i < e → Split (replaced old new (slice i to k)) (swapped old new (get_or k i 0)) (replaced old new (slice (i + 1) to k))
  unfolding swapped
  put_step i h = record { eq = ap (replaced old new) (part-cons w i h) }

  pub put-length : (i : ℕ) → i < e → (b : Bool) → b ≡ member (get_or k i 0) old → (gain one : ℕ) → gain ≡ length new → one ≡ pick b gain 1
      → length (replaced old new (slice i to k)) ≡ one + length (replaced old new (slice (i + 1) to k))
  put-length i h b m gain one g o =
      ap length (put_step i h).eq ∙ length-append (swapped old new (get_or k i 0)) (replaced old new (slice (i + 1) to k))
      ∙ ap (λ n. n + length (replaced old new (slice (i + 1) to k))) (swapped-length old new (get_or k i 0) b m gain g ∙ sym o)

  pub put-none : (i : ℕ) → e ≤ i → replaced old new (slice i to k) ≡ []
  put-none i h = ap (replaced old new) (part_none w i h)

module _ {k : List ℕ} {to e : ℕ} (w : Within k to e) where
  pub each_step : (i : ℕ) → i < e → Split (empty_each (slice i to k)) (5000 ∷ get_or k i 0 ∷ 0 ∷ 0 ∷ []) (empty_each (slice (i + 1) to k))
  each_step i h = record { eq = ap empty_each (part-cons w i h) }

  pub each_none : (i : ℕ) → e ≤ i → empty_each (slice i to k) ≡ []
  each_none i h = ap empty_each (part_none w i h)

-- ---- lengths

pub swapped-short : (old new : List ℕ) (x : ℕ) → length new ≤ desk.question → length (swapped old new x) ≤ desk.question
unfolding swapped
swapped-short old new x h = go (member x old)
  where
    go : (b : Bool) → length (pick b new (x ∷ [])) ≤ desk.question
    go true = h
    go false = omega arith

replaced-short : (old new ws : List ℕ) → length new ≤ desk.question → length (replaced old new ws) ≤ desk.question * length ws
unfolding swapped
replaced-short old new [] h = omega arith
replaced-short old new (x ∷ ws) h =
    let a = length-append (swapped old new x) (replaced old new ws) in
    let b = swapped-short old new x h in
    let d = replaced-short old new ws h in
    omega arith

pub put-short : (k : List ℕ) (old new cut from to until : ℕ) → length k ≤ desk.question
    → length (replaced (slice old until k) (slice new cut k) (slice from to k)) ≤ desk.question * desk.question
put-short k old new cut from to until h =
    let a = part-short k new cut in
    let b = part-short k from to in
    let d = replaced-short (slice old until k) (slice new cut k) (slice from to k) (omega arith) in
    omega arith

pub length-empty-each : (ws : List ℕ) → length (empty_each ws) ≡ 4 * length ws
length-empty-each [] = refl
length-empty-each (x ∷ ws) = let h = length-empty-each ws in omega arith
