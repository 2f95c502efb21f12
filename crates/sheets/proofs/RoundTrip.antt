-- A sheet is written and read back: it is laid out as it should be, and its parts are those that were written.
use Prim.Native.Nat.{ℕ, suc, ◌+◌, ◌*◌, ◌/◌, ◌%◌, ◌≤◌}
use mathlib.Core.Path.{◌≡◌, refl, sym, ap, ap₂, ◌∙◌}
use mathlib.Core.Bool.{true, ◌&&◌}
use mathlib.Core.List.{List, [], ◌∷◌, ◌++◌, append_assoc, append-nil}
use native.Mathlib.Omega.{arith}
use lib.Dec.{T, leb, le→leb}
use lib.ListN.{length, drop, length-append}
use lib.Seq.{drop_at}
use lib.Ieee.Bits.{is_true}
use Rattle.language.specs.Limits.{Limits}
use Rattle.language.specs.Question.{rises}
use Rattle.meaning.specs.Values.{offsets_of, joined}
use Rattle.rules.proofs.Tests.{and_both}
use Rattle.lines.proofs.WrittenTable.{length-offsets, rises-offsets, parts-before}
use Rattle.sheets.specs.Layout.{doubled, undoubled, parts_at, sheet_words, count_of, sheet_offsets, table_laid, sheet_laid, sheet_parts}

-- ---- numbers of two words each

pub length-doubled : (os : List ℕ) → length (doubled os) ≡ 2 * length os
unfolding doubled
length-doubled [] = refl
length-doubled (o ∷ os) = omega (arith, length-doubled os)

pub undoubled-doubled : (os ws : List ℕ) → undoubled (length os) (doubled os ++ ws) ≡ os
unfolding doubled undoubled
undoubled-doubled [] ws = refl
undoubled-doubled (o ∷ os) ws = ap₂ (λ (x : ℕ) (xs : List ℕ). x ∷ xs) (let z : o % 65536 + 65536 * (o / 65536) ≡ o = omega arith in z) (undoubled-doubled os ws)

-- ---- a sheet

module _ (ps : List (List ℕ)) where
  pub length-table : length (doubled (offsets_of (parts_at (length ps)) ps)) ≡ 2 * length ps + 2
  length-table = omega (arith, length-doubled (offsets_of (parts_at (length ps)) ps), length-offsets (parts_at (length ps)) ps)

  pub length-sheet : length (sheet_words ps) ≡ parts_at (length ps) + length (joined ps)
  unfolding sheet_words
  length-sheet = omega (arith, length-append (doubled (offsets_of (parts_at (length ps)) ps)) (joined ps), length-table)

  module _ (rest : List ℕ) where
    -- what stands behind the parts
    behind-all : sheet_words ps ++ rest ≡ length ps ∷ (doubled (offsets_of (parts_at (length ps)) ps) ++ (joined ps ++ rest))
    unfolding sheet_words
    behind-all = ap (λ l. length ps ∷ l) (append_assoc (doubled (offsets_of (parts_at (length ps)) ps)) (joined ps) rest)

    offsets-on : sheet_offsets (length ps) (sheet_words ps ++ rest) ≡ offsets_of (parts_at (length ps)) ps
    unfolding sheet_offsets
    offsets-on =
        ap (λ l. undoubled (suc (length ps)) (drop 1 l)) behind-all
        ∙ ap (λ n. undoubled n (doubled (offsets_of (parts_at (length ps)) ps) ++ (joined ps ++ rest))) (let z : suc (length ps) ≡ length (offsets_of (parts_at (length ps)) ps) = omega (arith, length-offsets (parts_at (length ps)) ps) in z)
        ∙ undoubled-doubled (offsets_of (parts_at (length ps)) ps) (joined ps ++ rest)

    pub count-on : count_of (sheet_words ps ++ rest) ≡ length ps
    count-on = ap count_of behind-all

    parts-there : drop (parts_at (length ps)) (sheet_words ps ++ rest) ≡ joined ps ++ rest
    parts-there =
        ap (drop (parts_at (length ps))) behind-all
        ∙ drop_at (length ps ∷ doubled (offsets_of (parts_at (length ps)) ps)) (joined ps ++ rest) (parts_at (length ps)) (omega (arith, length-table))

    -- the parts are read back, whatever stands behind them
    pub parts-on : sheet_parts (sheet_words ps ++ rest) ≡ ps
    unfolding sheet_parts
    parts-on = rw (count-on, offsets-on, parts-there) (parts-before (parts_at (length ps)) ps rest)

  alone : sheet_words ps ≡ sheet_words ps ++ []
  alone = sym (append-nil (sheet_words ps))

  offsets-back : sheet_offsets (length ps) (sheet_words ps) ≡ offsets_of (parts_at (length ps)) ps
  offsets-back = ap (sheet_offsets (length ps)) alone ∙ offsets-on []

  count-back : count_of (sheet_words ps) ≡ length ps
  count-back = ap count_of alone ∙ count-on []

  laid-test : (L : Limits) → length ps ≤ L.sheets → T (sheet_laid L (sheet_words ps))
  unfolding sheet_laid table_laid
  laid-test L few =
      let end = parts_at (length ps) + length (joined ps) in
      let risen = rises (parts_at (length ps)) (offsets_of (parts_at (length ps)) ps) (parts_at (length ps) + length (joined ps)) in
      rw (count-back, offsets-back, length-sheet)
      (and_both (leb (length ps) L.sheets) (leb (parts_at (length ps)) end && risen) (le→leb _ _ few)
      (and_both (leb (parts_at (length ps)) end) risen (le→leb (parts_at (length ps)) end (omega arith))
      (rises-offsets (parts_at (length ps)) (parts_at (length ps)) end ps refl refl)))

  pub laid-back : (L : Limits) → length ps ≤ L.sheets → sheet_laid L (sheet_words ps) ≡ true
  laid-back L few = is_true (sheet_laid L (sheet_words ps)) (laid-test L few)

  pub parts-back : sheet_parts (sheet_words ps) ≡ ps
  parts-back = ap sheet_parts alone ∙ parts-on []
