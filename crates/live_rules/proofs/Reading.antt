-- Reading a sheet of live rules in its bytes.
use Prim.Native.Nat.{ℕ, suc, ◌+◌, ◌-◌, ◌*◌, ◌/◌, ◌%◌, ◌<◌, ◌≤◌}
use mathlib.Core.Path.{◌≡◌, refl, sym, ap, ◌∙◌}
use mathlib.Core.Bool.{Bool, true, false, ◌&&◌, and-false}
use mathlib.Core.List.{List}
use native.Mathlib.Omega.{arith}
use borrow.Author.Tests.{eqb-true, eqb-false, le-leb, lt-leb, leb-true, lt-ltb, le-ltb, ltb-true, ltb-false}
use lib.Dec.{eqb, leb, ltb}
use lib.ListN.{length, get_or, take, drop, length-drop}
use lib.Seq.{length-take-le}
use Rattle.language.specs.Kinds.{pick}
use Rattle.language.specs.Between.{between}
use Rattle.language.proofs.Bools.{both_true}
use Rattle.word_bytes.specs.Bytes.{words_of, words_in}
use Rattle.word_bytes.proofs.Pairs.{length-words_of, words-from, words-up-to, odd-holds-none, even-holds}
use Rattle.live_rules.specs.Layout.{actions, most_rules, rules_at, count_of, rule_end, rule_fits, rules_laid, sheet_number}

-- ---- the words of a pattern

pub pattern-words : (bs : List ℕ) (from to : ℕ) → from ≤ to → to ≤ length bs / 2 → words_in (take (2 * to - 2 * from) (drop (2 * from) bs)) ≡ between from to (words_of bs)
pattern-words bs from to p q =
    let k : 2 * to - 2 * from ≡ 2 * (to - from) = omega arith in
    let n = length-take-le (2 * (to - from)) (drop (2 * from) bs) (omega (arith, length-drop (2 * from) bs)) in
    ap (λ m. words_in (take m (drop (2 * from) bs))) k ∙ even-holds (take (2 * (to - from)) (drop (2 * from) bs)) (omega arith)
    ∙ words-up-to (drop (2 * from) bs) (to - from) ∙ ap (take (to - from)) (words-from bs from)

-- ---- a rule at a place

module _ (bs : List ℕ) (at : ℕ) where
  abbrev ws : List ℕ
  ws = words_of bs

  pub fits-short : length bs / 2 < at + 2 → false ≡ rule_fits ws at
  fits-short h = sym (rw (lt-leb (at + 2) (length ws) (let l = length-words_of bs in omega arith)) refl)

  pub fits-no-action : (w : ℕ) → w ≡ get_or ws at 0 → 3 ≤ w → false ≡ rule_fits ws at
  fits-no-action w e h = sym (rw (le-ltb (get_or ws at 0) actions (omega (arith, sym e)), and-false (leb (at + 2) (length ws))) refl)

  pub fits_all : (w e : ℕ) → at + 2 ≤ length bs / 2 → w ≡ get_or ws at 0 → w < 3 → e ≡ rule_end ws at → leb e (length bs / 2) ≡ rule_fits ws at
  fits_all w e h d l f =
      let n = length-words_of bs in
      let a : leb (at + 2) (length ws) ≡ true = le-leb (at + 2) (length ws) (omega arith) in
      let b : ltb (get_or ws at 0) actions ≡ true = lt-ltb (get_or ws at 0) actions (omega (arith, sym d)) in
      rw (a, b, f, n) refl

  pub record Inside : Type 0 where
    pub header : at + 2 ≤ length bs / 2
    pub action : get_or ws at 0 < actions
    pub whole : rule_end ws at ≤ length bs / 2

  pub inside : rule_fits ws at ≡ true → Inside
  inside e =
      let n = length-words_of bs in
      let (ab, c) = both_true (leb (at + 2) (length ws) && ltb (get_or ws at 0) actions) (leb (rule_end ws at) (length ws)) e in
      let (a, b) = both_true (leb (at + 2) (length ws)) (ltb (get_or ws at 0) actions) ab in
      let x = leb-true (at + 2) (length ws) a in
      let y = leb-true (rule_end ws at) (length ws) c in
      record { header = omega arith; action = ltb-true (get_or ws at 0) actions b; whole = omega arith }

-- ---- rules one after another

pub laid_one : (n at : ℕ) (ws : List ℕ) → rules_laid (suc n) at ws ≡ (rule_fits ws at && rules_laid n (rule_end ws at) ws)
unfolding rules_laid
laid_one n at ws = refl

module _ (bs : List ℕ) (n i at : ℕ) (p : i < n) where
  one : rules_laid (n - i) at (words_of bs) ≡ (rule_fits (words_of bs) at && rules_laid (n - (i + 1)) (rule_end (words_of bs) at) (words_of bs))
  one = let z : n - i ≡ suc (n - (i + 1)) = omega arith in ap (λ m. rules_laid m at (words_of bs)) z ∙ laid_one (n - (i + 1)) at (words_of bs)

  pub laid-stops : false ≡ rule_fits (words_of bs) at → false ≡ rules_laid (n - i) at (words_of bs)
  laid-stops e = sym (one ∙ ap (λ b. b && rules_laid (n - (i + 1)) (rule_end (words_of bs) at) (words_of bs)) (sym e))

  pub laid-goes : true ≡ rule_fits (words_of bs) at → (to : ℕ) → to ≡ rule_end (words_of bs) at → rules_laid (n - (i + 1)) to (words_of bs) ≡ rules_laid (n - i) at (words_of bs)
  laid-goes e to f = ap (λ m. rules_laid (n - (i + 1)) m (words_of bs)) f ∙ sym (one ∙ ap (λ b. b && rules_laid (n - (i + 1)) (rule_end (words_of bs) at) (words_of bs)) (sym e))

pub laid_done : (bs : List ℕ) (n i at : ℕ) → n ≤ i → eqb at (length bs / 2) ≡ rules_laid (n - i) at (words_of bs)
unfolding rules_laid
laid_done bs n i at p = let z : n - i ≡ 0 = omega arith in rw (z, length-words_of bs) refl

pub laid-start : (bs : List ℕ) (n : ℕ) → rules_laid (n - 0) 2 (words_of bs) ≡ rules_laid n 2 (words_of bs)
laid-start bs n = ap (λ m. rules_laid m 2 (words_of bs)) (let z : n - 0 ≡ n = omega arith in z)

-- ---- the sheet

module _ (bs : List ℕ) where
  pub sheet-odd : (length bs % 2 ≡ 0 → ⊥) → 4 ≡ sheet_number (words_in bs)
  unfolding sheet_number
  sheet-odd h = sym (rw (odd-holds-none bs h) refl)

  module _ (even : length bs % 2 ≡ 0) where
    words : words_in bs ≡ words_of bs
    words = even-holds bs even

    pub sheet-short : length bs < 4 → 4 ≡ sheet_number (words_in bs)
    unfolding sheet_number
    sheet-short h =
        let n = length-words_of bs in
        sym (ap sheet_number words ∙ rw (lt-ltb (length (words_of bs)) rules_at (omega arith)) refl)

    module _ (long : 4 ≤ length bs) (n : ℕ) (en : n ≡ count_of (words_of bs)) where
      enough : ltb (length (words_of bs)) rules_at ≡ false
      enough = let l = length-words_of bs in le-ltb (length (words_of bs)) rules_at (omega arith)

      pub sheet-many : most_rules < n → 24 ≡ sheet_number (words_in bs)
      unfolding sheet_number
      sheet-many h = sym (ap sheet_number words ∙ rw (enough, lt-ltb most_rules (count_of (words_of bs)) (omega (arith, sym en))) refl)

      pub sheet-laid : n ≤ most_rules → (b : Bool) → b ≡ rules_laid n 2 (words_of bs) → pick b 0 4 ≡ sheet_number (words_in bs)
      unfolding sheet_number
      sheet-laid h b e = sym (ap sheet_number words ∙ rw (enough, le-ltb most_rules (count_of (words_of bs)) (omega (arith, sym en)), ← en, ← e) refl)

opened : (ws : List ℕ) → sheet_number ws ≡ pick (ltb (length ws) rules_at) 4 (pick (ltb most_rules (count_of ws)) 24 (pick (rules_laid (count_of ws) rules_at ws) 0 4))
unfolding sheet_number
opened ws = refl

-- what is known of bytes that are a sheet
pub record IsSheet (bs : List ℕ) : Type 0 where
  pub words : words_in bs ≡ words_of bs
  pub long : 4 ≤ length bs
  pub few : count_of (words_of bs) ≤ most_rules
  pub laid : rules_laid (count_of (words_of bs)) rules_at (words_of bs) ≡ true

pub is-sheet : (bs : List ℕ) → sheet_number (words_in bs) ≡ 0 → IsSheet bs
is-sheet bs e = by-parity (eqb (length bs % 2) 0) refl
  where
    by_tests : (a b c : Bool) → ltb (length (words_of bs)) rules_at ≡ a → ltb most_rules (count_of (words_of bs)) ≡ b → rules_laid (count_of (words_of bs)) rules_at (words_of bs) ≡ c
        → ◌≡◌ {A = ℕ} (pick a 4 (pick b 24 (pick c 0 4))) 0 → words_in bs ≡ words_of bs → IsSheet bs
    by_tests true b c x y z d w = absurd (let q : ◌≡◌ {A = ℕ} 4 0 = d in omega arith)
    by_tests false true c x y z d w = absurd (let q : ◌≡◌ {A = ℕ} 24 0 = d in omega arith)
    by_tests false false false x y z d w = absurd (let q : ◌≡◌ {A = ℕ} 4 0 = d in omega arith)
    by_tests false false true x y z d w =
        let l = length-words_of bs in
        let n = ltb-false (length (words_of bs)) rules_at x in
        record { words = w; long = omega arith; few = ltb-false most_rules (count_of (words_of bs)) y; laid = z }

    by-parity : (b : Bool) → eqb (length bs % 2) 0 ≡ b → IsSheet bs
    by-parity false p = absurd (let q : ◌≡◌ {A = ℕ} 4 0 = sheet-odd bs (eqb-false (length bs % 2) 0 p) ∙ e in omega arith)
    by-parity true p =
        let w = even-holds bs (eqb-true (length bs % 2) 0 p) in
        by_tests (ltb (length (words_of bs)) rules_at) (ltb most_rules (count_of (words_of bs))) (rules_laid (count_of (words_of bs)) rules_at (words_of bs)) refl refl refl
        (sym (opened (words_of bs)) ∙ ap sheet_number (sym w) ∙ e) w
