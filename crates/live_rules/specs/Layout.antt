-- A sheet of live rules in words: word 0 of a question, which declares the symbols for all rules; how many rules there are; and of each its action,
-- how many words its pattern has, and the pattern.
use Rattle.std.specs.Prelude.{ℕ, zero, suc, ◌+◌, Bool, ◌&&◌, List, [], ◌∷◌, ◌++◌, eqb, leb, ltb, length, get_or}
use Rattle.language.specs.Kinds.{pick}
use Rattle.language.specs.Between.{between}

-- "each a pattern (one term) and an action (keep, drop, forward)": 0 keep, 1 drop, 2 forward
pub record Rule : Type 0 where
  pub action : ℕ
  pub pattern : List ℕ

abbrev pub actions : ℕ
actions = 3

-- "up to 32"
abbrev pub most_rules : ℕ
most_rules = 32

-- ---- a sheet that is written

abbrev pub rule_words : Rule → List ℕ
rule_words r = r.action ∷ (length r.pattern ∷ r.pattern)

abbrev pub rules_words : List Rule → List ℕ
rules_words [] = []
rules_words (r ∷ rs) = rule_words r ++ rules_words rs

abbrev pub sheet_words : ℕ → List Rule → List ℕ
sheet_words word rs = word ∷ (length rs ∷ rules_words rs)

-- ---- and that is read

abbrev pub word_of : List ℕ → ℕ
word_of ws = get_or ws 0 0

abbrev pub count_of : List ℕ → ℕ
count_of ws = get_or ws 1 0

-- where the first rule stands
abbrev pub rules_at : ℕ
rules_at = 2

-- the place behind the rule at a place
abbrev pub rule_end : List ℕ → ℕ → ℕ
rule_end ws at = at + 2 + get_or ws (at + 1) 0

abbrev pub rule_at : List ℕ → ℕ → Rule
rule_at ws at = record { action = get_or ws at 0; pattern = between (at + 2) (rule_end ws at) ws }

-- a rule stands there, with one of the actions and all of its pattern
abbrev pub rule_fits : List ℕ → ℕ → Bool
rule_fits ws at = leb (at + 2) (length ws) && ltb (get_or ws at 0) actions && leb (rule_end ws at) (length ws)

-- n rules from a place on, and nothing behind them
unfoldable pub rules_laid : ℕ → ℕ → List ℕ → Bool
rules_laid zero at ws = eqb at (length ws)
rules_laid (suc n) at ws = rule_fits ws at && rules_laid n (rule_end ws at) ws

unfoldable pub rules_from : ℕ → ℕ → List ℕ → List Rule
rules_from zero at ws = []
rules_from (suc n) at ws = rule_at ws at ∷ rules_from n (rule_end ws at) ws

abbrev pub rules_in : List ℕ → List Rule
rules_in ws = rules_from (count_of ws) rules_at ws

-- "24 more than 32 rules", 4 for words that are no sheet, as for offsets that are none, and else 0
unfoldable pub sheet_number : List ℕ → ℕ
sheet_number ws = pick (ltb (length ws) rules_at) 4 (pick (ltb most_rules (count_of ws)) 24 (pick (rules_laid (count_of ws) rules_at ws) 0 4))
