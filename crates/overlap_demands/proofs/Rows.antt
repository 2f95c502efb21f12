-- The rows of a table, read back from the room's words.
use Prim.Native.Nat.{ℕ, zero, suc, ◌+◌, ◌-◌, ◌*◌, ◌/◌, ◌%◌, ◌<◌, ◌≤◌}
use mathlib.Core.Path.{◌≡◌, refl, sym, ap, ap₂, subst, ◌∙◌}
use mathlib.Core.Bool.{Bool, true, false}
use mathlib.Core.List.{List, [], ◌∷◌, ◌++◌, append_assoc}
use native.Mathlib.Omega.{arith}
use native.Mathlib.Nat.{suc-mul}
use borrow.Author.Tests.{eqb-false, ltb-false, ne_eqb}
use lib.Dec.{eqb, ltb}
use lib.ListN.{length, get_or, set, take, drop}
use lib.Seq.{sets, sets-eq, take-set-le, take-add, take_at, drop_at, length-take-le, length-sets}
use Rattle.language.specs.Kinds.{pick}
use Rattle.word_bytes.specs.Bytes.{words_of, words_in, bytes_of}
use Rattle.word_bytes.proofs.Pairs.{length-bytes_of, words-of-bytes, words-from, words-up-to, written}
use Rattle.live_rules.specs.Layout.{Rule, word_of, rules_in, sheet_number}
use Rattle.pairing.specs.Meeting.{Meeting, cannot, can, unsettled, refused, meeting}
use Rattle.pairing.specs.Lent.{meeting_number, report_of}
use Rattle.overlap.specs.Table.{word_from, pairs_of, row_words, row_length, table, needed, table_number, table_leaves}
use Rattle.overlap_demands.specs.Calls.{OverlapPair, OverlapSheet}
use Rattle.overlap_demands.specs.Promises.{pair_at, ByItself, row_by, RowsIn}
use Rattle.overlap_demands.proofs.Pairs.{Fair, meeting-fair}

-- ---- what is stored later, further on, changes nothing before it

take-sets : (n : ℕ) (l vs : List ℕ) (i : ℕ) → n ≤ i → take n (sets l i vs) ≡ take n l
take-sets n l [] i p = refl
take-sets n l (v ∷ vs) i p = take-sets n (set l i v) vs (suc i) (omega arith) ∙ take-set-le n l i v p

cut : (l k : List ℕ) (a m : ℕ) → take (a + m) l ≡ take (a + m) k → a ≤ length l → a ≤ length k → take m (drop a l) ≡ take m (drop a k)
cut l k a m e p q =
    sym (drop_at (take a l) (take m (drop a l)) a (length-take-le a l p)) ∙ ap (drop a) (sym (take-add a m l) ∙ e ∙ take-add a m k)
    ∙ drop_at (take a k) (take m (drop a k)) a (length-take-le a k q)

stored : (l vs : List ℕ) (a : ℕ) → a + length vs ≤ length l → take (length vs) (drop a (sets l a vs)) ≡ vs
stored l vs a p =
    ap (λ k. take (length vs) (drop a k)) (sets-eq vs l a p ∙ append_assoc (take a l) vs (drop (a + length vs) l))
    ∙ ap (take (length vs)) (drop_at (take a l) (vs ++ drop (a + length vs) l) a (length-take-le a l (omega arith)))
    ∙ take_at vs (drop (a + length vs) l) (length vs) refl

module _ (size word : ℕ) where
  take-table : (xs : List (Rule × Rule)) (at : ℕ) (room : List ℕ) (n : ℕ) → n ≤ 2 * at → take n (table size word xs at room) ≡ take n room
  unfolding table
  take-table [] at room n p = refl
  take-table (x ∷ xs) at room n p =
      take-table xs (at + row_length size word) (sets room (2 * at) (bytes_of (row_words size word x))) n (omega arith) ∙ take-sets n room (bytes_of (row_words size word x)) (2 * at) p

  table-len : (xs : List (Rule × Rule)) (at : ℕ) (room : List ℕ) → length (table size word xs at room) ≡ length room
  unfolding table
  table-len [] at room = refl
  table-len (x ∷ xs) at room = table-len xs (at + row_length size word) (sets room (2 * at) (bytes_of (row_words size word x))) ∙ length-sets room (2 * at) (bytes_of (row_words size word x))

  row-short : (x : Rule × Rule) → length (row_words size word x) ≤ size + 4
  row-short (a, b) = let f = (meeting-fair size word a.pattern b.pattern).short in omega arith

  row_first : (x : Rule × Rule) (xs : List (Rule × Rule)) (at : ℕ) (room : List ℕ) → 2 * (at + (size + 4)) ≤ length room
      → take (length (bytes_of (row_words size word x))) (drop (2 * at) (table size word (x ∷ xs) at room)) ≡ bytes_of (row_words size word x)
  unfolding table
  row_first x xs at room p =
      let bs = bytes_of (row_words size word x) in
      let l = length-bytes_of (row_words size word x) in
      let s = row-short x in
      let here = sets room (2 * at) bs in
      let n₁ = table-len xs (at + row_length size word) here in
      let n₂ = length-sets room (2 * at) bs in
      cut (table size word xs (at + row_length size word) here) here (2 * at) (length bs) (take-table xs (at + row_length size word) here (2 * at + length bs) (omega arith)) (omega arith) (omega arith)
      ∙ stored room bs (2 * at) (omega arith)

  row-nth : (xs : List (Rule × Rule)) (i at : ℕ) (room : List ℕ) (d : Rule × Rule) → i < length xs → 2 * (at + length xs * (size + 4)) ≤ length room
      → take (length (bytes_of (row_words size word (get_or xs i d)))) (drop (2 * (at + i * (size + 4))) (table size word xs at room)) ≡ bytes_of (row_words size word (get_or xs i d))
  unfolding table
  row-nth [] i at room d p q = absurd (omega arith)
  row-nth (x ∷ xs) zero at room d p q =
      ap (λ n. take (length (bytes_of (row_words size word x))) (drop n (table size word (x ∷ xs) at room))) (let z : 2 * (at + 0 * (size + 4)) ≡ 2 * at = omega arith in z)
      ∙ row_first x xs at room (omega (arith, suc-mul (length xs) (size + 4)))
  row-nth (x ∷ xs) (suc i) at room d p q =
      let bs = bytes_of (row_words size word x) in
      let n = length-sets room (2 * at) bs in
      ap (λ n. take (length (bytes_of (row_words size word (get_or xs i d)))) (drop n (table size word (x ∷ xs) at room)))
      (let z : 2 * (at + suc i * (size + 4)) ≡ 2 * (at + row_length size word + i * (size + 4)) = omega (arith, suc-mul i (size + 4)) in z)
      ∙ row-nth xs i (at + row_length size word) (sets room (2 * at) bs) d (omega arith) (omega (arith, suc-mul (length xs) (size + 4)))

  -- in words
  row_words_lem : (xs : List (Rule × Rule)) (i : ℕ) (room : List ℕ) (d : Rule × Rule) → i < length xs → 2 * (length xs * (size + 4)) ≤ length room
      → take (length (row_words size word (get_or xs i d))) (drop (i * (size + 4)) (words_of (table size word xs 0 room))) ≡ row_words size word (get_or xs i d)
  row_words_lem xs i room d p q =
      let ws = row_words size word (get_or xs i d) in
      let t = table size word xs 0 room in
      let l = length-bytes_of ws in
      ap (take (length ws)) (sym (words-from t (i * (size + 4)))) ∙ sym (words-up-to (drop (2 * (i * (size + 4))) t) (length ws))
      ∙ ap words_of (ap₂ (λ (m n : ℕ). take m (drop n t)) (sym l) (let z : 2 * (i * (size + 4)) ≡ 2 * (0 + i * (size + 4)) = omega arith in z) ∙ row-nth xs i 0 room d p (omega arith))
      ∙ words-of-bytes ws

-- ---- the pair by itself

number_of : (room : ℕ) (m : Meeting) → Fair room m → length (report_of m) ≡ meeting_number m - 200
number_of room cannot f = refl
number_of room unsettled f = refl
number_of room (can ws) f = omega arith
number_of room (refused n) f = omega (arith, f.low n refl)

report-back : (room : List ℕ) (m : Meeting) → Fair (length room / 2) m → take (meeting_number m - 200) (words_of (sets room 0 (bytes_of (report_of m)))) ≡ report_of m
report-back room m f =
    let ws = report_of m in
    let n = number_of (length room / 2) m f in
    let l = length-bytes_of ws in
    let s = f.short in
    ap₂ (λ (k : ℕ) (b : List ℕ). take k (words_of b)) (sym n) (written room ws (omega arith)) ∙ sym (words-up-to (bytes_of ws ++ drop (2 * length ws) room) (length ws))
    ∙ ap words_of (take_at (bytes_of ws) (drop (2 * length ws) room) (2 * length ws) l) ∙ words-of-bytes ws

-- ---- the sheet

module _ (c : OverlapSheet) (z : c.number ≡ 0) where
  abbrev ws : List ℕ
  ws = words_in c.sheet

  abbrev pairs : List (Rule × Rule)
  pairs = pairs_of (rules_in ws)

  zero_number : table_number c.report ws (length c.room / 2) ≡ 0
  zero_number = sym c.said.0 ∙ z

  enough : needed c.report ws ≤ length c.room / 2
  unfolding table_number
  enough = on (eqb (sheet_number ws) 0) refl (ltb (length c.room / 2) (needed c.report ws)) refl zero_number
    where
      on : (a : Bool) → eqb (sheet_number ws) 0 ≡ a → (b : Bool) → ltb (length c.room / 2) (needed c.report ws) ≡ b → pick a (pick b 1 0) (sheet_number ws) ≡ 0 → needed c.report ws ≤ length c.room / 2
      on true p true q d = absurd (omega arith)
      on true p false q d = ltb-false (length c.room / 2) (needed c.report ws) q
      on false p b q d = absurd (eqb-false (sheet_number ws) 0 p d)

  left : c.room_left ≡ table c.report (word_of ws) pairs 0 c.room
  unfolding table_leaves
  left = c.said.1 ∙ rw zero_number refl

  pub rows_in : RowsIn c
  rows_in =
      let e = enough in
      let fit : 2 * (length pairs * (c.report + 4)) ≤ length c.room = omega arith in
      record { fit = fit; each = λ i p d x. row fit i p d x }
    where
      row : 2 * (length pairs * (c.report + 4)) ≤ length c.room → (i : ℕ) → i < length pairs → (d : OverlapPair) → ByItself c i d → take (4 + (d.number - 200)) (drop (i * (c.report + 4)) (words_of c.room_left)) ≡ row_by (pair_at c i) d
      row fit i p d x =
          let m = meeting c.report (word_of ws) (pair_at c i).0.pattern (pair_at c i).1.pattern in
          let is : meeting (length d.room / 2) (word_from d.word₀) (words_in d.first) (words_in d.second) ≡ m = rw (x.size, x.word, x.first, x.second) refl in
          let n : d.number ≡ meeting_number m = d.said.0 ∙ ap meeting_number is in
          let f : Fair c.report m = meeting-fair c.report (word_of ws) (pair_at c i).0.pattern (pair_at c i).1.pattern in
          let g : Fair (length d.room / 2) m = subst (λ k. Fair k m) (sym x.size) f in
          let report : take (d.number - 200) (words_of d.room_left) ≡ report_of m =
          ap₂ (λ (k : ℕ) (b : List ℕ). take (k - 200) (words_of b)) n (d.said.1 ∙ ap (λ (y : Meeting). sets d.room 0 (bytes_of (report_of y))) is) ∙ report-back d.room m g in
          let len : 4 + (d.number - 200) ≡ length (row_words c.report (word_of ws) (pair_at c i)) = ap (λ k. 4 + (k - 200)) n ∙ ap (λ k. 4 + k) (sym (number_of c.report m f)) ∙ omega arith in
          ap₂ (λ (k : ℕ) (b : List ℕ). take k (drop (i * (c.report + 4)) (words_of b))) len left ∙ row_words_lem c.report (word_of ws) pairs i c.room _ p fit
          ∙ sym (ap₂ (λ (k : ℕ) (r : List ℕ). (pair_at c i).0.action ∷ ((pair_at c i).1.action ∷ ((k % 65536) ∷ ((k / 65536) ∷ r)))) n report)

pub room-untouched : (c : OverlapSheet) → (c.number ≡ 0 → ⊥) → c.room_left ≡ c.room
unfolding table_leaves
room-untouched c n = c.said.1 ∙ rw (ne_eqb (table_number c.report (words_in c.sheet) (length c.room / 2)) 0 (λ e. n (c.said.0 ∙ e))) refl
