-- What the call for a whole sheet comes to.
use Prim.Native.Nat.{ℕ, ◌+◌, ◌*◌, ◌/◌, ◌<◌, ◌≤◌}
use mathlib.Core.Path.{◌≡◌, refl, sym, ap, ap₂, ◌∙◌}
use mathlib.Core.Bool.{Bool, true, false}
use mathlib.Core.List.{List, [], ◌∷◌, map}
use native.Mathlib.Omega.{arith}
use native.Mathlib.Nat.{add-mul}
use borrow.Author.Tests.{ne_eqb, lt-ltb, le-ltb}
use lib.Dec.{eqb, ltb}
use lib.ListN.{length, length-append, length-map}
use Rattle.language.specs.Kinds.{pick}
use Rattle.word_bytes.specs.Bytes.{words_of, words_in}
use Rattle.live_rules.specs.Layout.{Rule, word_of, count_of, rules_at, rules_from, rules_in, sheet_number}
use Rattle.live_rules.proofs.Reading.{IsSheet}
use Rattle.overlap.specs.Table.{pairs_of, row_length, table, needed, table_number, table_leaves}
use Rattle.overlap.specs.Lengths.{table_length}
use Rattle.overlap.proofs.Tabling.{rows-times, rules-count}

-- ---- how many words

pairs-times : (size : ℕ) (rs : List Rule) → table_length size (length rs) ≡ length (pairs_of rs) * row_length size 0
unfolding table_length
pairs-times size [] = omega arith
pairs-times size (r ∷ rs) =
    let xs = map {B = Rule × Rule} (λ (s : Rule). (r, s)) rs in
    ap₂ (λ (a b : ℕ). a + b) (rows-times size (length rs)) (pairs-times size rs)
    ∙ sym (ap (λ n. n * row_length size 0) (length-append xs (pairs_of rs) ∙ ap (λ n. n + length (pairs_of rs)) (length-map rs (λ (s : Rule). (r, s)))) ∙ add-mul (length rs) (length (pairs_of rs)) (row_length size 0))

-- ---- the call

module _ (size : ℕ) (bs room : List ℕ) where
  abbrev ws : List ℕ
  ws = words_in bs

  abbrev Ends : ℕ → List ℕ → Type 0
  Ends r new = (r ≡ table_number size ws (length room / 2)) × (new ≡ table_leaves size ws room)

  number : (n : ℕ) → sheet_number ws ≡ n → (b : Bool) → eqb n 0 ≡ b → table_number size ws (length room / 2) ≡ pick b (pick (ltb (length room / 2) (needed size ws)) 1 0) n
  unfolding table_number
  number n e b d = rw (e, d) refl

  leaves : (n : ℕ) → table_number size ws (length room / 2) ≡ n → (b : Bool) → eqb n 0 ≡ b → table_leaves size ws room ≡ pick b (table size (word_of ws) (pairs_of (rules_in ws)) 0 room) room
  unfolding table_leaves
  leaves n e b d = rw (e, d) refl

  pub sheet-refused : (k : ℕ) → k ≡ sheet_number ws → (k ≡ 0 → ⊥) → Ends k room
  sheet-refused k e z =
      let no = ne_eqb k 0 z in
      let n = number k (sym e) false no in
      (sym n, sym (leaves k n false no))

  module _ (x : IsSheet bs) (z : sheet_number ws ≡ 0) (n : ℕ) (en : n ≡ count_of (words_of bs)) where
    all-needed : table_length size n ≡ needed size ws
    all-needed =
        ap (table_length size) (sym (rules-count n rules_at (words_of bs))) ∙ pairs-times size (rules_from n rules_at (words_of bs))
        ∙ ap₂ (λ (m : ℕ) (us : List ℕ). length (pairs_of (rules_from m rules_at us)) * row_length size 0) (en ∙ ap count_of (sym x.words)) (sym x.words)

    pub sheet-no-room : length room / 2 < table_length size n → Ends 1 room
    sheet-no-room h =
        let a = all-needed in
        let e : table_number size ws (length room / 2) ≡ 1 = number 0 z true refl ∙ ap (λ b. pick b 1 0) (lt-ltb (length room / 2) (needed size ws) (omega arith)) in
        (sym e, sym (leaves 1 e false refl))

    pub sheet-done : table_length size n ≤ length room / 2 → (word : ℕ) → word ≡ word_of (words_of bs) → (new : List ℕ) → new ≡ table size word (pairs_of (rules_from n rules_at (words_of bs))) 0 room → Ends 0 new
    sheet-done h word ew new e =
        let a = all-needed in
        let f : table_number size ws (length room / 2) ≡ 0 = number 0 z true refl ∙ ap (λ b. pick b 1 0) (le-ltb (length room / 2) (needed size ws) (omega arith)) in
        (sym f, e ∙ ap₂ (λ (w : ℕ) (rs : List Rule). table size w (pairs_of rs) 0 room) (ew ∙ ap word_of (sym x.words)) (ap₂ (λ (m : ℕ) (us : List ℕ). rules_from m rules_at us) (en ∙ ap count_of (sym x.words)) (sym x.words)) ∙ sym (leaves 0 f true refl))
