-- The rows of a table in the room's bytes: one row, the rows of one rule, and the rows of all pairs.
use Prim.Native.Nat.{ℕ, zero, suc, ◌+◌, ◌-◌, ◌*◌, ◌/◌, ◌%◌, ◌<◌, ◌≤◌}
use mathlib.Core.Path.{◌≡◌, refl, sym, ap, ap₂, ◌∙◌}
use mathlib.Core.Bool.{true}
use mathlib.Core.List.{List, [], ◌∷◌, ◌++◌, map}
use native.Mathlib.Omega.{arith}
use native.Mathlib.Numerals.{add-one}
use native.Mathlib.Nat.{suc-mul, add-mul}
use lib.ListN.{length, get_or, set, length-map}
use lib.Seq.{sets, set_comm, length-sets}
use Rattle.language.proofs.Bools.{both_true}
use Rattle.language.proofs.Stores.{sets-append}
use Rattle.word_bytes.specs.Bytes.{words_of, bytes_of}
use Rattle.live_rules.specs.Layout.{Rule, rule_end, rule_at, rule_fits, rules_laid, rules_from}
use Rattle.live_rules.proofs.Reading.{Inside, inside, laid_one}
use Rattle.pairing.specs.Meeting.{meeting}
use Rattle.pairing.specs.Lent.{Told, report_of}
use Rattle.overlap.specs.Table.{pairs_of, row_words, row_length, table}
use Rattle.overlap.specs.Lengths.{rows_length, pair_count, table_length}

-- ---- stores that stand apart

set-sets : (l vs : List ℕ) (i j u : ℕ) → i < j → set (sets l j vs) i u ≡ sets (set l i u) j vs
set-sets l [] i j u p = refl
set-sets l (v ∷ vs) i j u p = set-sets (set l j v) vs i (suc j) u (omega arith) ∙ ap (λ k. sets k (suc j) vs) (set_comm l j i v u (λ e. omega arith))

sets-sets : (l us vs : List ℕ) (i j : ℕ) → i + length us ≤ j → sets (sets l j vs) i us ≡ sets (sets l i us) j vs
sets-sets l [] vs i j p = refl
sets-sets l (u ∷ us) vs i j p = ap (λ k. sets k (suc i) us) (set-sets l vs i j u (omega arith)) ∙ sets-sets (set l i u) us vs (suc i) j (omega arith)

-- ---- one row

abbrev head_of : ℕ → ℕ → ℕ → List ℕ
head_of a b n = a ∷ (b ∷ ((n % 65536) ∷ ((n / 65536) ∷ [])))

-- the report is written first, and then what stands before it
head-last : (room report : List ℕ) (to a b n : ℕ) → sets (sets room (2 * (to + 4)) (bytes_of report)) (2 * to) (bytes_of (head_of a b n)) ≡ sets room (2 * to) (bytes_of (head_of a b n ++ report))
unfolding bytes_of
head-last room report to a b n =
    let z : 2 * (to + 4) ≡ 2 * to + 8 = omega arith in
    sets-sets room (bytes_of (head_of a b n)) (bytes_of report) (2 * to) (2 * (to + 4)) (omega arith)
    ∙ ap (λ k. sets (sets room (2 * to) (bytes_of (head_of a b n))) k (bytes_of report)) z ∙ sym (sets-append (bytes_of (head_of a b n)) (bytes_of report) room (2 * to))

module _ (size word : ℕ) (ws : List ℕ) (i j to : ℕ) (room room₁ room₂ ps qs : List ℕ) (n a b : ℕ) where
  pub row_is : ps ≡ (rule_at ws i).pattern → qs ≡ (rule_at ws j).pattern → Told (meeting size word ps qs) (to + 4) room n room₁ → a ≡ get_or ws i 0 → b ≡ get_or ws j 0
      → room₂ ≡ sets room₁ (2 * to) (bytes_of (head_of a b n)) → room₂ ≡ sets room (2 * to) (bytes_of (row_words size word (rule_at ws i, rule_at ws j)))
  row_is ep eq (en, e₁) ea eb e₂ =
      e₂ ∙ ap (λ l. sets l (2 * to) (bytes_of (head_of a b n))) e₁ ∙ head-last room (report_of (meeting size word ps qs)) to a b n
      ∙ rw (ea, eb, en, ep, eq) refl

-- ---- a table in two parts

module _ (size word : ℕ) where
  pub table-append : (xs ys : List (Rule × Rule)) (at : ℕ) (room : List ℕ) → table size word (xs ++ ys) at room ≡ table size word ys (at + rows_length size (length xs)) (table size word xs at room)
  unfolding table rows_length
  table-append [] ys at room = ap (λ n. table size word ys n room) (let z : at ≡ at + 0 = omega arith in z)
  table-append (x ∷ xs) ys at room =
      table-append xs ys (at + row_length size word) (sets room (2 * at) (bytes_of (row_words size word x)))
      ∙ ap (λ n. table size word ys n (table size word (x ∷ xs) at room)) (let z : at + (size + 4) + rows_length size (length xs) ≡ at + (size + 4 + rows_length size (length xs)) = omega arith in z)

  pub table-length : (xs : List (Rule × Rule)) (at : ℕ) (room : List ℕ) → length (table size word xs at room) ≡ length room
  unfolding table
  table-length [] at room = refl
  table-length (x ∷ xs) at room = table-length xs (at + row_length size word) (sets room (2 * at) (bytes_of (row_words size word x))) ∙ length-sets room (2 * at) (bytes_of (row_words size word x))

  table-cons : (x : Rule × Rule) (xs : List (Rule × Rule)) (at : ℕ) (room : List ℕ) → table size word (x ∷ xs) at room ≡ table size word xs (at + (size + 4)) (sets room (2 * at) (bytes_of (row_words size word x)))
  unfolding table
  table-cons x xs at room = refl

-- ---- rules one after another

rules-one : (n at : ℕ) (ws : List ℕ) → rules_from (suc n) at ws ≡ rule_at ws at ∷ rules_from n (rule_end ws at) ws
unfolding rules_from
rules-one n at ws = refl

pub rules-count : (n at : ℕ) (ws : List ℕ) → length (rules_from n at ws) ≡ n
unfolding rules_from
rules-count zero at ws = refl
rules-count (suc n) at ws = ap suc (rules-count n (rule_end ws at) ws)

pub rows-one : (size n : ℕ) → rows_length size (suc n) ≡ size + 4 + rows_length size n
unfolding rows_length
rows-one size n = refl

pub table-one : (size n : ℕ) → table_length size (suc n) ≡ rows_length size n + table_length size n
unfolding table_length
table-one size n = refl

-- ---- how many words they have

pub rows-times : (size n : ℕ) → rows_length size n ≡ n * (size + 4)
unfolding rows_length
rows-times size zero = omega arith
rows-times size (suc n) = ap (λ m. size + 4 + m) (rows-times size n) ∙ omega (arith, suc-mul n (size + 4))

pub no_pairs : 0 ≡ pair_count 0
unfolding pair_count
no_pairs = refl

pair_one : (i : ℕ) → pair_count (suc i) ≡ i + pair_count i
unfolding pair_count
pair_one i = refl

pub one-rule-more : (i pairs : ℕ) → pairs ≡ pair_count i → pairs + i ≡ pair_count (i + 1)
one-rule-more i pairs e = omega (arith, e, ap pair_count (add-one i) ∙ pair_one i)

pub table-times : (size n : ℕ) → pair_count n * (size + 4) ≡ table_length size n
unfolding table_length pair_count
table-times size zero = omega arith
table-times size (suc n) = add-mul n (pair_count n) (size + 4) ∙ ap₂ (λ (a b : ℕ). a + b) (sym (rows-times size n)) (table-times size n)

-- the first of some rules, and those behind it
module _ (bs : List ℕ) (n at : ℕ) (l : rules_laid (suc n) at (words_of bs) ≡ true) where
  both : (rule_fits (words_of bs) at ≡ true) × (rules_laid n (rule_end (words_of bs) at) (words_of bs) ≡ true)
  both = both_true (rule_fits (words_of bs) at) (rules_laid n (rule_end (words_of bs) at) (words_of bs)) (sym (laid_one n at (words_of bs)) ∙ l)

  pub rule-here : Inside bs at
  rule-here = inside bs at both.0

  pub rules-behind : rules_laid n (rule_end (words_of bs) at) (words_of bs) ≡ true
  rules-behind = both.1

-- ---- the rows of one rule

-- k of the n rows are written, up to the word `at`, and the next rule is at j
pub record Rowing (size word : ℕ) (bs : List ℕ) (i from n : ℕ) (room : List ℕ) (to : ℕ) (new : List ℕ) (at j k : ℕ) : Type 0 where
  pub count : k ≤ n
  pub laid : rules_laid (n - k) j (words_of bs) ≡ true
  pub len : length new ≡ length room
  pub place : at + rows_length size (n - k) ≡ to + rows_length size n
  pub same : table size word (map (λ (s : Rule). (rule_at (words_of bs) i, s)) (rules_from (n - k) j (words_of bs))) at new ≡ table size word (map (λ (s : Rule). (rule_at (words_of bs) i, s)) (rules_from n from (words_of bs))) to room

module _ (size word : ℕ) (bs : List ℕ) (i from n : ℕ) (room : List ℕ) (to : ℕ) where
  pub rowing-starts : rules_laid n from (words_of bs) ≡ true → Rowing size word bs i from n room to room to from 0
  rowing-starts l =
      let z : n - 0 ≡ n = omega arith in
      record {
        count = omega arith;
        laid = ap (λ m. rules_laid m from (words_of bs)) z ∙ l;
        len = refl;
        place = ap (λ m. to + rows_length size m) z;
        same = ap (λ m. table size word (map (λ (s : Rule). (rule_at (words_of bs) i, s)) (rules_from m from (words_of bs))) to room) z;
      }

  module _ (new : List ℕ) (at j k : ℕ) (x : Rowing size word bs i from n room to new at j k) where
    module _ (p : k < n) where
      left : n - k ≡ suc (n - (k + 1))
      left = omega arith

      laid-here : rules_laid (suc (n - (k + 1))) j (words_of bs) ≡ true
      laid-here = ap (λ m. rules_laid m j (words_of bs)) (sym left) ∙ x.laid

      pub rowing-rule : Inside bs j
      rowing-rule = rule-here bs (n - (k + 1)) j laid-here

      rest-place : at + (size + 4 + rows_length size (n - (k + 1))) ≡ to + rows_length size n
      rest-place = ap (λ m. at + m) (sym (ap (rows_length size) left ∙ rows-one size (n - (k + 1)))) ∙ x.place

      pub rowing-room : 2 * (to + rows_length size n) ≤ length room → 2 * (at + (size + 4)) ≤ length new
      rowing-room q = let a = rest-place in let l = x.len in omega arith

      pub rowing-on : (new' : List ℕ) (j' : ℕ) → new' ≡ sets new (2 * at) (bytes_of (row_words size word (rule_at (words_of bs) i, rule_at (words_of bs) j))) → j' ≡ rule_end (words_of bs) j
          → Rowing size word bs i from n room to new' (at + (size + 4)) j' (k + 1)
      rowing-on new' j' en ej =
          let a = rest-place in
          let rs = rules_from (n - (k + 1)) (rule_end (words_of bs) j) (words_of bs) in
          let step : table size word (map (λ (s : Rule). (rule_at (words_of bs) i, s)) (rules_from (n - k) j (words_of bs))) at new ≡ table size word (map (λ (s : Rule). (rule_at (words_of bs) i, s)) rs) (at + (size + 4)) (sets new (2 * at) (bytes_of (row_words size word (rule_at (words_of bs) i, rule_at (words_of bs) j)))) =
          ap (λ (l : List Rule). table size word (map (λ (s : Rule). (rule_at (words_of bs) i, s)) l) at new) (ap (λ m. rules_from m j (words_of bs)) left ∙ rules-one (n - (k + 1)) j (words_of bs))
          ∙ table-cons size word (rule_at (words_of bs) i, rule_at (words_of bs) j) (map (λ (s : Rule). (rule_at (words_of bs) i, s)) rs) at new in
          record {
            count = omega arith;
            laid = ap (λ m. rules_laid (n - (k + 1)) m (words_of bs)) ej ∙ rules-behind bs (n - (k + 1)) j laid-here;
            len = ap length en ∙ length-sets new (2 * at) (bytes_of (row_words size word (rule_at (words_of bs) i, rule_at (words_of bs) j))) ∙ x.len;
            place = omega arith;
            same = ap₂ (λ (m : ℕ) (l : List ℕ). table size word (map (λ (s : Rule). (rule_at (words_of bs) i, s)) (rules_from (n - (k + 1)) m (words_of bs))) (at + (size + 4)) l) ej en ∙ sym step ∙ x.same;
          }

    pub rowing-ends : n ≤ k → (at ≡ to + rows_length size n) × (new ≡ table size word (map (λ (s : Rule). (rule_at (words_of bs) i, s)) (rules_from n from (words_of bs))) to room)
    unfolding rows_length rules_from table
    rowing-ends q =
        let z : n - k ≡ 0 = omega arith in
        let p = ap (λ m. at + rows_length size m) (sym z) ∙ x.place in
        (omega (arith, p), ap (λ m. table size word (map (λ (s : Rule). (rule_at (words_of bs) i, s)) (rules_from m j (words_of bs))) at new) (sym z) ∙ x.same)

-- ---- the rows of all pairs

-- k rules are left, from the place i on, and the rows of those before them are written, up to the word `at`
pub record Tabling (size word : ℕ) (bs : List ℕ) (n : ℕ) (room new : List ℕ) (at i k : ℕ) : Type 0 where
  pub laid : rules_laid k i (words_of bs) ≡ true
  pub len : length new ≡ length room
  pub place : at + table_length size k ≡ table_length size n
  pub same : table size word (pairs_of (rules_from k i (words_of bs))) at new ≡ table size word (pairs_of (rules_from n 2 (words_of bs))) 0 room

module _ (size word : ℕ) (bs : List ℕ) (n : ℕ) (room : List ℕ) where
  pub tabling-starts : rules_laid n 2 (words_of bs) ≡ true → Tabling size word bs n room room 0 2 n
  tabling-starts l = record { laid = l; len = refl; place = omega arith; same = refl }

  module _ (new : List ℕ) (at i k : ℕ) (x : Tabling size word bs n room new at i k) where
    module _ (p : 0 < k) where
      some_left : k ≡ suc (k - 1)
      some_left = omega arith

      laid-some : rules_laid (suc (k - 1)) i (words_of bs) ≡ true
      laid-some = ap (λ m. rules_laid m i (words_of bs)) (sym some_left) ∙ x.laid

      pub tabling-rule : Inside bs i
      tabling-rule = rule-here bs (k - 1) i laid-some

      pub tabling-behind : (next : ℕ) → next ≡ rule_end (words_of bs) i → rules_laid (k - 1) next (words_of bs) ≡ true
      tabling-behind next e = ap (λ m. rules_laid (k - 1) m (words_of bs)) e ∙ rules-behind bs (k - 1) i laid-some

      rest-table : at + (rows_length size (k - 1) + table_length size (k - 1)) ≡ table_length size n
      rest-table = ap (λ m. at + m) (sym (ap (table_length size) some_left ∙ table-one size (k - 1))) ∙ x.place

      pub tabling-room : 2 * table_length size n ≤ length room → 2 * (at + rows_length size (k - 1)) ≤ length new
      tabling-room q = let a = rest-table in let l = x.len in omega arith

      pub tabling-on : (next at' : ℕ) (new' : List ℕ) → next ≡ rule_end (words_of bs) i → at' ≡ at + rows_length size (k - 1)
          → new' ≡ table size word (map (λ (s : Rule). (rule_at (words_of bs) i, s)) (rules_from (k - 1) next (words_of bs))) at new → Tabling size word bs n room new' at' next (k - 1)
      tabling-on next at' new' en ea ew =
          let a = rest-table in
          let rs = rules_from (k - 1) next (words_of bs) in
          let xs = map {B = Rule × Rule} (λ (s : Rule). (rule_at (words_of bs) i, s)) rs in
          let count : length xs ≡ k - 1 = length-map rs (λ (s : Rule). (rule_at (words_of bs) i, s)) ∙ rules-count (k - 1) next (words_of bs) in
          let here : rules_from k i (words_of bs) ≡ rule_at (words_of bs) i ∷ rs = ap (λ m. rules_from m i (words_of bs)) some_left ∙ rules-one (k - 1) i (words_of bs) ∙ ap (λ m. rule_at (words_of bs) i ∷ rules_from (k - 1) m (words_of bs)) (sym en) in
          let step : table size word (pairs_of (rules_from k i (words_of bs))) at new ≡ table size word (pairs_of rs) at' new' =
          ap (λ l. table size word (pairs_of l) at new) here ∙ table-append size word xs (pairs_of rs) at new
          ∙ ap₂ (λ (m : ℕ) (l : List ℕ). table size word (pairs_of rs) m l) (ap (λ c. at + rows_length size c) count ∙ sym ea) (sym ew) in
          record {
            laid = tabling-behind next en;
            len = ap length ew ∙ table-length size word xs at new ∙ x.len;
            place = ap (λ m. m + table_length size (k - 1)) ea ∙ omega arith;
            same = sym step ∙ x.same;
          }

    pub tabling-ends : k ≤ 0 → new ≡ table size word (pairs_of (rules_from n 2 (words_of bs))) 0 room
    unfolding rules_from table
    tabling-ends q =
        let z : k ≡ 0 = omega arith in
        ap (λ m. table size word (pairs_of (rules_from m i (words_of bs))) at new) (sym z) ∙ x.same
