-- A sheet's header, word by word: each offset where it stands, offsets that never fall, and whether the header is one.
use Prim.Native.Nat.{ℕ, suc, ◌+◌, ◌-◌, ◌*◌, ◌/◌, ◌%◌, ◌<◌, ◌≤◌}
use mathlib.Core.Path.{◌≡◌, refl, sym, ap, ap₂, ◌∙◌}
use mathlib.Core.Bool.{Bool, true, false, ◌&&◌}
use mathlib.Core.List.{List, [], ◌∷◌}
use native.Mathlib.Omega.{arith}
use lib.Dec.{leb, eqb}
use lib.ListN.{length, drop, get_or}
use lib.Seq.{get_or-drop, drop-drop}
use borrow.Author.Tests.{le-leb, lt-leb, eq-eqb, ne_eqb, leb-true, eqb-true}
use Rattle.language.specs.Kinds.{pick}
use Rattle.language.specs.Limits.{desk}
use Rattle.language.specs.Question.{rising, rises}
use Rattle.language.proofs.Bools.{both_true}
use Rattle.word_bytes.specs.Bytes.{words_of, words_in}
use Rattle.word_bytes.proofs.Pairs.{none_left, length-words_of, odd-holds-none, even-holds}
use Rattle.sheets.specs.Layout.{undoubled, parts_at, count_of, sheet_offsets, table_laid, sheet_laid}

-- ---- the offsets

module _ (ws : List ℕ) where
  abbrev pub offset_at : ℕ → ℕ
  offset_at i = get_or ws (2 * i + 1) 0 + 65536 * get_or ws (2 * i + 2) 0

  -- the offsets from the i-th on begin with it
  pub offsets-cons : (n i : ℕ) → undoubled (suc n) (drop (2 * i + 1) ws) ≡ offset_at i ∷ undoubled n (drop (2 * (i + 1) + 1) ws)
  unfolding undoubled
  offsets-cons n i =
      ap₂ (λ (a b : ℕ). (a + 65536 * b) ∷ undoubled n (drop 2 (drop (2 * i + 1) ws)))
      (get_or-drop (2 * i + 1) ws 0 0 ∙ ap (λ j. get_or ws j 0) (let z : 2 * i + 1 + 0 ≡ 2 * i + 1 = omega arith in z))
      (get_or-drop (2 * i + 1) ws 1 0 ∙ ap (λ j. get_or ws j 0) (let z : 2 * i + 1 + 1 ≡ 2 * i + 2 = omega arith in z))
      ∙ ap (λ l. offset_at i ∷ undoubled n l) (drop-drop 2 (2 * i + 1) ws ∙ ap (λ j. drop j ws) (let z : 2 * i + 1 + 2 ≡ 2 * (i + 1) + 1 = omega arith in z))

  -- of n offsets behind the first, those from the i-th of these on
  abbrev pub rest : ℕ → ℕ → List ℕ
  rest n i = undoubled (n - i) (drop (2 * (i + 1) + 1) ws)

  rest_all : (n : ℕ) → rest n 0 ≡ undoubled n (drop 3 ws)
  rest_all n = ap (λ m. undoubled m (drop 3 ws)) (let z : n - 0 ≡ n = omega arith in z)

  pub rest-first : (n from end : ℕ) → rising from (rest n 0) end ≡ rising from (undoubled n (drop 3 ws)) end
  rest-first n from end = ap (λ os. rising from os end) (rest_all n)

  rest-cons : (n i : ℕ) → i < n → rest n i ≡ offset_at (i + 1) ∷ rest n (i + 1)
  rest-cons n i p = ap (λ m. undoubled m (drop (2 * (i + 1) + 1) ws)) (let z : n - i ≡ suc (n - (i + 1)) = omega arith in z) ∙ offsets-cons (n - (i + 1)) (i + 1)

  module _ (n i from end : ℕ) where
    pub rest-done : n ≤ i → eqb from end ≡ rising from (rest n i) end
    unfolding undoubled
    rest-done p = sym (ap (λ m. rising from (undoubled m (drop (2 * (i + 1) + 1) ws)) end) (let z : n - i ≡ 0 = omega arith in z))

    module _ (p : i < n) (o : ℕ) (e : o ≡ offset_at (i + 1)) where
      one : rising from (rest n i) end ≡ (leb from o && rising o (rest n (i + 1)) end)
      one = ap (λ os. rising from os end) (rest-cons n i p) ∙ ap (λ x. leb from x && rising x (rest n (i + 1)) end) (sym e)

      pub rest-falls : o < from → false ≡ rising from (rest n i) end
      rest-falls l = sym (one ∙ ap (λ b. b && rising o (rest n (i + 1)) end) (lt-leb from o l))

      pub rest-on : from ≤ o → rising o (rest n (i + 1)) end ≡ rising from (rest n i) end
      rest-on l = sym (one ∙ ap (λ b. b && rising o (rest n (i + 1)) end) (le-leb from o l))

  -- ---- the table

  module _ (n : ℕ) where
    pub table-short : length ws < parts_at n → false ≡ table_laid n ws
    unfolding table_laid
    table-short p = sym (ap (λ b. b && rises (parts_at n) (sheet_offsets n ws) (length ws)) (lt-leb (parts_at n) (length ws) p))

    module _ (p : parts_at n ≤ length ws) where
      starts : table_laid n ws ≡ (eqb (offset_at 0) (parts_at n) && rising (offset_at 0) (undoubled n (drop 3 ws)) (length ws))
      unfolding table_laid sheet_offsets
      starts =
          ap (λ b. b && rises (parts_at n) (undoubled (suc n) (drop 1 ws)) (length ws)) (le-leb (parts_at n) (length ws) p)
          ∙ ap (λ os. rises (parts_at n) os (length ws)) (offsets-cons n 0)

      pub table-first : (o : ℕ) → o ≡ offset_at 0 → (o ≡ parts_at n → ⊥) → false ≡ table_laid n ws
      table-first o e q = sym (starts ∙ ap (λ b. b && rising (offset_at 0) (undoubled n (drop 3 ws)) (length ws)) (ne_eqb (offset_at 0) (parts_at n) (λ z. q (e ∙ z))))

      pub table-rest : (o : ℕ) → o ≡ offset_at 0 → o ≡ parts_at n → rising (parts_at n) (undoubled n (drop 3 ws)) (length ws) ≡ table_laid n ws
      table-rest o e q =
          let f : offset_at 0 ≡ parts_at n = sym e ∙ q in
          sym (starts ∙ ap (λ b. b && rising (offset_at 0) (undoubled n (drop 3 ws)) (length ws)) (eq-eqb (offset_at 0) (parts_at n) f) ∙ ap (λ x. rising x (undoubled n (drop 3 ws)) (length ws)) f)

    -- what a table that is one says
    module _ (t : table_laid n ws ≡ true) where
      pub table-long : parts_at n ≤ length ws
      unfolding table_laid
      table-long = leb-true _ _ (both_true (leb (parts_at n) (length ws)) (rises (parts_at n) (sheet_offsets n ws) (length ws)) t).0

      both : (eqb (offset_at 0) (parts_at n) ≡ true) × (rising (offset_at 0) (undoubled n (drop 3 ws)) (length ws) ≡ true)
      both = both_true (eqb (offset_at 0) (parts_at n)) (rising (offset_at 0) (undoubled n (drop 3 ws)) (length ws)) (sym (starts table-long) ∙ t)

      pub table-begins : offset_at 0 ≡ parts_at n
      table-begins = eqb-true _ _ both.0

      pub table-rises : rising (offset_at 0) (undoubled n (drop 3 ws)) (length ws) ≡ true
      table-rises = both.1

  -- ---- the header

  pub many : desk.sheets < count_of ws → false ≡ sheet_laid desk ws
  unfolding sheet_laid
  many p = sym (ap (λ b. b && table_laid (count_of ws) ws) (lt-leb (count_of ws) desk.sheets p))

  pub few : count_of ws ≤ desk.sheets → table_laid (count_of ws) ws ≡ sheet_laid desk ws
  unfolding sheet_laid
  few p = sym (ap (λ b. b && table_laid (count_of ws) ws) (le-leb (count_of ws) desk.sheets p))

  pub laid-few : sheet_laid desk ws ≡ true → count_of ws ≤ desk.sheets
  unfolding sheet_laid
  laid-few t = leb-true _ _ (both_true (leb (count_of ws) desk.sheets) (table_laid (count_of ws) ws) t).0

  pub laid_table : sheet_laid desk ws ≡ true → table_laid (count_of ws) ws ≡ true
  unfolding sheet_laid
  laid_table t = (both_true (leb (count_of ws) desk.sheets) (table_laid (count_of ws) ws) t).1

pub no : false ≡ true → ⊥
no z = let y : ◌≡◌ {A = ℕ} 0 1 = ap (λ (b : Bool). pick b 1 0) z in absurd (omega arith)

nothing-laid : sheet_laid desk [] ≡ false
unfolding sheet_laid table_laid
nothing-laid = refl

module _ (bs : List ℕ) where
  pub odd-sheet : (length bs % 2 ≡ 0 → ⊥) → false ≡ sheet_laid desk (words_in bs)
  odd-sheet h = sym (ap (sheet_laid desk) (odd-holds-none bs h) ∙ nothing-laid)

  module _ (even : length bs % 2 ≡ 0) where
    pub short-sheet : length bs < 2 → false ≡ sheet_laid desk (words_in bs)
    short-sheet h = sym (ap (sheet_laid desk) (even-holds bs even ∙ none_left bs h) ∙ nothing-laid)

    pub many-sheet : (n : ℕ) → n ≡ count_of (words_of bs) → desk.sheets < n → false ≡ sheet_laid desk (words_in bs)
    many-sheet n e h = many (words_of bs) (omega (arith, e)) ∙ ap (sheet_laid desk) (sym (even-holds bs even))

    pub few-sheet : (n : ℕ) → n ≡ count_of (words_of bs) → n ≤ desk.sheets → (r : Bool) → r ≡ table_laid n (words_of bs) → r ≡ sheet_laid desk (words_in bs)
    few-sheet n e h r d = d ∙ ap (λ m. table_laid m (words_of bs)) e ∙ few (words_of bs) (omega (arith, e)) ∙ ap (sheet_laid desk) (sym (even-holds bs even))

-- ---- the table in bytes

module _ (bs : List ℕ) (n : ℕ) where
  pub short-table : length bs / 2 < parts_at n → false ≡ table_laid n (words_of bs)
  short-table h = table-short (words_of bs) n (omega (arith, length-words_of bs))

  module _ (h : parts_at n ≤ length bs / 2) (o : ℕ) (e : o ≡ offset_at (words_of bs) 0) where
    pub other-table : (o ≡ parts_at n → ⊥) → false ≡ table_laid n (words_of bs)
    other-table q = table-first (words_of bs) n (omega (arith, length-words_of bs)) o e q

    pub whole-table : o ≡ parts_at n → (r : Bool) → r ≡ rising (parts_at n) (undoubled n (drop 3 (words_of bs))) (length bs / 2) → r ≡ table_laid n (words_of bs)
    whole-table q r d = d ∙ ap (rising (parts_at n) (undoubled n (drop 3 (words_of bs)))) (sym (length-words_of bs)) ∙ table-rest (words_of bs) n (omega (arith, length-words_of bs)) o e q
