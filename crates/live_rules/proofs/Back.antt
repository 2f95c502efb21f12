-- A sheet that is written is read back: it is one, and its rules are those that were written.
use Prim.Native.Nat.{ℕ, suc, ◌+◌, ◌-◌, ◌<◌, ◌≤◌}
use mathlib.Core.Path.{◌≡◌, refl, sym, ap, ap₂, ◌∙◌}
use mathlib.Core.Bool.{Bool, true, ◌&&◌}
use mathlib.Core.List.{List, [], ◌∷◌, ◌++◌}
use native.Mathlib.Omega.{arith}
use borrow.Author.Tests.{eq-eqb, le-leb, lt-ltb, le-ltb}
use lib.Dec.{leb, ltb}
use lib.ListN.{length, get_or, take, drop, length-drop, length-append}
use lib.Seq.{get_or-drop, drop-drop, take_at, drop_at}
use Rattle.language.specs.Between.{between}
use Rattle.live_rules.specs.Layout.{Rule, actions, most_rules, rule_words, rules_words, sheet_words, count_of, rules_at, rule_end, rule_at, rule_fits, rules_laid, rules_from, rules_in, sheet_number}

-- every rule has one of the actions
pub data Acting : List Rule → Type 0 where
  none : Acting []
  more : {r : Rule} {rs : List Rule} → r.action < actions → Acting rs → Acting (r ∷ rs)

-- one rule, and what stands behind it, at a place
module _ (ws : List ℕ) (at : ℕ) (r : Rule) (rest : List ℕ) (e : drop at ws ≡ rule_words r ++ rest) where
  action-there : get_or ws at 0 ≡ r.action
  action-there = ap (λ n. get_or ws n 0) (let z : at ≡ at + 0 = omega arith in z) ∙ sym (get_or-drop at ws 0 0) ∙ ap (λ l. get_or l 0 0) e

  length-there : get_or ws (at + 1) 0 ≡ length r.pattern
  length-there = sym (get_or-drop at ws 1 0) ∙ ap (λ l. get_or l 1 0) e

  pattern-on : drop (at + 2) ws ≡ r.pattern ++ rest
  pattern-on = sym (drop-drop 2 at ws) ∙ ap (drop 2) e

  end-there : rule_end ws at ≡ at + 2 + length r.pattern
  end-there = ap (λ n. at + 2 + n) length-there

  pattern-there : between (at + 2) (rule_end ws at) ws ≡ r.pattern
  pattern-there =
      let z : rule_end ws at - (at + 2) ≡ length r.pattern = omega (arith, length-there) in
      ap₂ take z pattern-on ∙ take_at r.pattern rest (length r.pattern) refl

  rule-there : rule_at ws at ≡ r
  rule-there = ap₂ (λ (a : ℕ) (p : List ℕ). record { action = a; pattern = p }) action-there pattern-there

  rest-there : drop (rule_end ws at) ws ≡ rest
  rest-there = ap (λ n. drop n ws) end-there ∙ sym (drop-drop (length r.pattern) (at + 2) ws) ∙ ap (drop (length r.pattern)) pattern-on ∙ drop_at r.pattern rest (length r.pattern) refl

  inside-there : rule_end ws at ≤ length ws
  inside-there =
      let a : length ws - at ≡ suc (suc (length (r.pattern ++ rest))) = sym (length-drop at ws) ∙ ap length e in
      let b = length-append r.pattern rest in
      let c = end-there in
      omega arith

  fits-there : r.action < actions → rule_fits ws at ≡ true
  fits-there p =
      let i = inside-there in
      let a : leb (at + 2) (length ws) ≡ true = le-leb (at + 2) (length ws) (omega arith) in
      let b : ltb (get_or ws at 0) actions ≡ true = lt-ltb (get_or ws at 0) actions (omega (arith, action-there)) in
      rw (a, b, le-leb (rule_end ws at) (length ws) i) refl

rules-there : (rs : List Rule) → Acting rs → (ws : List ℕ) (at : ℕ) → at ≤ length ws → drop at ws ≡ rules_words rs → (rules_laid (length rs) at ws ≡ true) × (rules_from (length rs) at ws ≡ rs)
unfolding rules_laid rules_from
rules-there [] none ws at h e =
    let l : length ws - at ≡ 0 = sym (length-drop at ws) ∙ ap length e in
    (eq-eqb at (length ws) (omega arith), refl)
rules-there (r ∷ rs) (more p ok) ws at h e =
    let (a, b) = rules-there rs ok ws (rule_end ws at) (inside-there ws at r (rules_words rs) e) (rest-there ws at r (rules_words rs) e) in
    (ap₂ (λ (x y : Bool). x && y) (fits-there ws at r (rules_words rs) e p) a, ap₂ (λ (x : Rule) (xs : List Rule). x ∷ xs) (rule-there ws at r (rules_words rs) e) b)

pub sheet-back : (word : ℕ) (rs : List Rule) → Acting rs → length rs ≤ most_rules → (sheet_number (sheet_words word rs) ≡ 0) × (rules_in (sheet_words word rs) ≡ rs)
unfolding sheet_number
sheet-back word rs ok few =
    let ws = sheet_words word rs in
    let (a, b) = rules-there rs ok ws rules_at (omega arith) refl in
    (rw (le-ltb (length ws) rules_at (omega arith), le-ltb most_rules (count_of ws) few, a) refl, b)
