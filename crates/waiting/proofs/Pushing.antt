-- A part of the question pushed: the two stores, and the block that then waits first.
use Prim.Native.Nat.{ℕ, suc, ◌+◌, ◌-◌, ◌<◌, ◌≤◌}
use native.Mathlib.Omega.{arith}
use mathlib.Core.Path.{◌≡◌, refl, sym, ap, ◌∙◌}
use mathlib.Core.Bool.{true}
use mathlib.Core.List.{List, [], ◌∷◌, ◌++◌, append-nil}
use lib.ListN.{length, drop, get_or, drop_of_length-le}
use lib.Seq.{sets, slice, length-slice}
use Rattle.language.specs.Limits.{desk}
use Rattle.language.specs.Question.{laid_out, parts}
use Rattle.language.proofs.Offsets.{slice-between, Part, table-count, table-part}
use Rattle.frames.specs.Frames.{frame, frame_of, Block, framed}
use Rattle.waiting.specs.Waiting.{in_order, Laid}
use Rattle.waiting.proofs.Blocks.{laid-before}

-- a frame stored before a part
pub stored : (w v s b : List ℕ) (start n x number : ℕ) → v ≡ sets w (start - frame) (frame_of x number) → s ≡ sets v start b → x ≡ n → frame ≤ start
    → s ≡ sets w (start - frame) (frame_of n number ++ b)
stored w v s b start n x number e d f h =
    d ∙ ap (λ l. sets l start b) e ∙ ap (λ y. sets (sets w (start - frame) (frame_of y number)) start b) f
    ∙ ap (λ j. sets (sets w (start - frame) (frame_of n number)) j b) (let z : start ≡ suc (suc (start - frame)) = omega arith in z)

module _ (q : List ℕ) (e : laid_out 5 (get_or q 4 0) q ≡ true) where
  abbrev cs : List (List ℕ)
  cs = parts 5 (get_or q 4 0) q

  -- the part that ends where the (i+1)-th begins
  pub part-before : (i : ℕ) → i < get_or q 4 0 → Part q i (get_or q (i + 5) 0) (get_or q (i + 6) 0) cs
  part-before i h = table-part 5 (get_or q 4 0) q e i (i + 5) (i + 6) h (omega arith) (omega arith)

  pub laid_none : (old : List ℕ) → Laid old desk.room (in_order (get_or q 4 0) (drop (get_or q 4 0) cs)) old
  laid_none old = rw (drop_of_length-le cs {i = get_or q 4 0} (let z = table-count 5 (get_or q 4 0) q e in omega arith)) (record { place = refl; words = refl })

  pub laid_more : (old w new : List ℕ) (at r i : ℕ) → 0 < i → i ≤ get_or q 4 0
      → r + (get_or q (i - 1 + 6) 0 - get_or q (i - 1 + 5) 0 + frame) ≡ at
      → new ≡ sets w r (frame_of (get_or q (i - 1 + 6) 0 - get_or q (i - 1 + 5) 0) (i - 1) ++ slice (get_or q (i - 1 + 5) 0) (get_or q (i - 1 + 6) 0) q)
      → Laid old at (in_order i (drop i cs)) w → Laid old r (in_order (i - 1) (drop (i - 1) cs)) new
  laid_more old w new at r i h g place d p =
      let c = part-before (i - 1) (omega arith) in
      let from = get_or q (i - 1 + 5) 0 in
      let to = get_or q (i - 1 + 6) 0 in
      let b = slice from to q in
      let n : length b ≡ to - from = length-slice from to q c.high in
      let block : Block = record { number = i - 1; words = b } in
      let f : framed (block ∷ []) ≡ frame_of (to - from) (i - 1) ++ b = ap (λ l. length b ∷ (i - 1) ∷ l) (append-nil b) ∙ ap (λ m. m ∷ (i - 1) ∷ b) n in
      let k = c.low in
      let z = ap length f in
      let next : suc (i - 1) ≡ i = omega arith in
      let here : in_order (i - 1) (drop (i - 1) cs) ≡ (block ∷ []) ++ in_order i (drop i cs) =
      ap (in_order (i - 1)) (c.here ∙ ap (λ p. p ∷ drop (suc (i - 1)) cs) (sym (slice-between from to q))) ∙ ap (λ j. block ∷ in_order j (drop j cs)) next in
      rw here (laid-before old at (in_order i (drop i cs)) w p (block ∷ []) r new (omega arith) (d ∙ ap (sets w r) (sym f)))
