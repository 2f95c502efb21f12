-- The questions of a sheet: the i-th stands between two offsets, and its bytes hold its words.
use Prim.Native.Nat.{ℕ, zero, suc, ◌+◌, ◌-◌, ◌*◌, ◌%◌, ◌<◌, ◌≤◌}
use mathlib.Core.Path.{◌≡◌, refl, sym, ap, ap₂, subst, ◌∙◌}
use mathlib.Core.Bool.{Bool, true, false}
use mathlib.Core.List.{List, [], ◌∷◌}
use native.Mathlib.Omega.{arith}
use lib.Dec.{eqb}
use lib.ListN.{length, take, drop, get_or, length-drop}
use lib.Seq.{length-take-le}
use borrow.Author.Tests.{eqb-true, eq-eqb}
use Rattle.language.specs.Limits.{desk}
use Rattle.language.specs.Question.{parts_from}
use Rattle.language.specs.Between.{between}
use Rattle.language.proofs.Offsets.{Part, part-is, part-from}
use Rattle.word_bytes.specs.Bytes.{words_of, words_in}
use Rattle.word_bytes.proofs.Pairs.{length-words_of, words-from, words-up-to, even-holds}
use Rattle.sheets.specs.Layout.{undoubled, parts_at, count_of, sheet_offsets, sheet_laid, sheet_parts}
use Rattle.day.proofs.Headers.{offset_at, offsets-cons, table-long, table-begins, table-rises, laid-few, laid_table, no, odd-sheet}

pub length-undoubled : (n : ℕ) (ws : List ℕ) → length (undoubled n ws) ≡ n
unfolding undoubled
length-undoubled zero ws = refl
length-undoubled (suc n) ws = ap suc (length-undoubled n (drop 2 ws))

-- the i-th of n offsets from the j-th on
nth : (ws : List ℕ) (n j i : ℕ) → i < n → get_or (undoubled n (drop (2 * j + 1) ws)) i 0 ≡ offset_at ws (j + i)
nth ws zero j i p = absurd (omega arith)
nth ws (suc n) j zero p = ap (λ os. get_or os 0 0) (offsets-cons ws n j) ∙ ap (offset_at ws) (let z : j ≡ j + 0 = omega arith in z)
nth ws (suc n) j (suc i) p =
    ap (λ os. get_or os (suc i) 0) (offsets-cons ws n j) ∙ nth ws n (j + 1) i (omega arith) ∙ ap (offset_at ws) (let z : j + 1 + i ≡ j + suc i = omega arith in z)

module _ (ws : List ℕ) (l : sheet_laid desk ws ≡ true) where
  parts_are : sheet_parts ws ≡ parts_from (offset_at ws 0) (undoubled (count_of ws) (drop 3 ws)) (drop (offset_at ws 0) ws)
  unfolding sheet_parts sheet_offsets
  parts_are =
      let e = table-begins ws (count_of ws) (laid_table ws l) in
      ap (λ os. parts_from (parts_at (count_of ws)) (drop 1 os) (drop (parts_at (count_of ws)) ws)) (offsets-cons ws (count_of ws) 0)
      ∙ ap (λ m. parts_from m (undoubled (count_of ws) (drop 3 ws)) (drop m ws)) (sym e)

  offset-is : (i : ℕ) → i ≤ count_of ws → get_or (offset_at ws 0 ∷ undoubled (count_of ws) (drop 3 ws)) i 0 ≡ offset_at ws i
  offset-is i p = ap (λ os. get_or os i 0) (sym (offsets-cons ws (count_of ws) 0)) ∙ nth ws (suc (count_of ws)) 0 i (omega arith) ∙ ap (offset_at ws) (let z : 0 + i ≡ i = omega arith in z)

  cut : (i : ℕ) → i < count_of ws → Part ws i (offset_at ws i) (offset_at ws (i + 1)) (sheet_parts ws)
  cut i p =
      let to : get_or (undoubled (count_of ws) (drop 3 ws)) i 0 ≡ offset_at ws (i + 1) = nth ws (count_of ws) 1 i p ∙ ap (offset_at ws) (let z : 1 + i ≡ i + 1 = omega arith in z) in
      let from = offset-is i (omega arith) in
      rw (parts_are, ← from, ← to) (part-from (offset_at ws 0) (undoubled (count_of ws) (drop 3 ws)) ws i (table-rises ws (count_of ws) (laid_table ws l)) (omega (arith, length-undoubled (count_of ws) (drop 3 ws))))

-- ---- in bytes

words-between : (bs : List ℕ) (from to : ℕ) → from ≤ to → 2 * to ≤ length bs → words_in (take (2 * to - 2 * from) (drop (2 * from) bs)) ≡ between from to (words_of bs)
words-between bs from to p q =
    let k : 2 * to - 2 * from ≡ 2 * (to - from) = omega arith in
    let n = length-take-le (2 * (to - from)) (drop (2 * from) bs) (omega (arith, length-drop (2 * from) bs)) in
    ap (λ m. words_in (take m (drop (2 * from) bs))) k ∙ even-holds (take (2 * (to - from)) (drop (2 * from) bs)) (omega arith)
    ∙ words-up-to (drop (2 * from) bs) (to - from) ∙ ap (take (to - from)) (words-from bs from)

-- the bytes of a sheet that is one, and the bytes of its questions
module _ (bs : List ℕ) (l : sheet_laid desk (words_in bs) ≡ true) where
  pub held : words_in bs ≡ words_of bs
  held = go (eqb (length bs % 2) 0) refl where
    go : (b : Bool) → eqb (length bs % 2) 0 ≡ b → words_in bs ≡ words_of bs
    go true e = even-holds bs (eqb-true _ _ e)
    go false e = absurd (no (odd-sheet bs (λ z. no (sym e ∙ eq-eqb _ _ z)) ∙ l))

  pub table-inside : 2 * parts_at (count_of (words_in bs)) ≤ length bs
  table-inside = let t = table-long (words_in bs) (count_of (words_in bs)) (laid_table (words_in bs) l) in omega (arith, ap length held, length-words_of bs)

  pub few-questions : count_of (words_in bs) ≤ desk.sheets
  few-questions = laid-few (words_in bs) l

  module _ (i : ℕ) (p : i < count_of (words_in bs)) (from to : ℕ) (e : from ≡ offset_at (words_of bs) i) (d : to ≡ offset_at (words_of bs) (i + 1)) where
    at-offsets : Part (words_of bs) i (offset_at (words_of bs) i) (offset_at (words_of bs) (i + 1)) (sheet_parts (words_in bs))
    at-offsets = subst (λ (ws : List ℕ). Part ws i (offset_at ws i) (offset_at ws (i + 1)) (sheet_parts (words_in bs))) held (cut (words_in bs) l i p)

    pub cut_low : from ≤ to
    cut_low = omega (arith, at-offsets.low)

    pub cut_high : 2 * to ≤ length bs
    cut_high = omega (arith, at-offsets.high, length-words_of bs)

    pub cut-words : words_in (take (2 * to - 2 * from) (drop (2 * from) bs)) ≡ get_or (sheet_parts (words_in bs)) i []
    cut-words = words-between bs from to cut_low cut_high ∙ ap₂ (λ (a b : ℕ). between a b (words_of bs)) e d ∙ sym (part-is at-offsets)
