-- The rules where every symbol is ordered, as they stood before unordered symbols came, and a step by them. They are here for one theorem alone: that
-- questions with u = 0 answer as before.
use Rattle.std.specs.Prelude.{List, [], ◌∷◌, ℕ, true, false, ltb}
use Rattle.language.specs.declared.Refusal.TheVariants.{ShortSlice}
use Rattle.language.specs.Limits.{Limits, walked_pairs}
use Rattle.language.specs.Trees.{eqn, mem, Conj, eq_s, eq_f}
use Rattle.language.specs.Question.{Asked, asks, refuses, read_question}
use Rattle.rules.specs.Reply.{PairRule}
use Rattle.rules.specs.Clash.{all_ordered, ClashBy}
use Rattle.rules.specs.Looks.{lone_node, as_symbol, as_over}
use Rattle.rules.specs.Rules.{EqRule, InRule, ◌>>=◌, check, into, Rule, on_eqn, on_mem, on_pair, R1, R2, Fold, F1, F2, F3, F4, F5, F6, F7, Del1, Del3, D2, E1, E2, E3, E4, E5, E6, M1, M2, M3, M4, M5, M6, M7, M10}
use Rattle.rules.specs.Step.{Spot, each, first, Step}
use Rattle.rules.specs.Run.{run_by}
use Rattle.rules.specs.Answer.{Solving, unread, ran}

-- D0: single terms with the same functor: children are equal.
abbrev pub ordered_d0 : EqRule
ordered_d0 K l r = do
  a ← lone_node l
  b ← lone_node r
  _ ← check (eq_f a.0 b.0)
  into (eqn a.1 b.1 ∷ [])

-- M11: f(H) in f(R): H in R.
abbrev pub ordered_m11 : InRule
ordered_m11 K h R = do
  a ← lone_node h
  f ← as_symbol a.0
  g ← as_over R
  _ ← check (eq_s f g.0)
  into (mem a.1 g.1 ∷ [])

-- Clash: a lone variable is in R and, by a later literal, in S, and no term (or hedge) lies in both.
abbrev pub ordered_clash : PairRule
ordered_clash = ClashBy walked_pairs all_ordered

abbrev pub ordered_rules : List Rule
ordered_rules =
    on_eqn R1 ∷ on_mem R2 ∷ on_pair Fold
    ∷ on_eqn F1 ∷ on_eqn F2 ∷ on_eqn F3 ∷ on_eqn F4 ∷ on_mem F5 ∷ on_mem F6 ∷ on_mem F7
    ∷ on_eqn Del1 ∷ on_eqn Del3
    ∷ on_eqn D2 ∷ on_eqn ordered_d0
    ∷ on_eqn E1 ∷ on_eqn E2 ∷ on_eqn E3 ∷ on_eqn E4 ∷ on_eqn E5 ∷ on_eqn E6
    ∷ on_mem M1 ∷ on_mem M2 ∷ on_mem M3 ∷ on_mem M4 ∷ on_mem M5 ∷ on_mem M6 ∷ on_mem M7 ∷ on_mem M10 ∷ on_mem ordered_m11
    ∷ on_pair ordered_clash
    ∷ []

unfoldable pub ordered_step : Step
ordered_step k = each (λ (f : Spot × List Conj). f.1) (first 0 ordered_rules k)

-- solving by them
abbrev pub ordered_solving_of : Limits → Asked → Solving
ordered_solving_of L (asks q) = ran (run_by L ordered_step q.alternatives)
ordered_solving_of L (refuses r) = unread r

unfoldable pub ordered_solving : Limits → ℕ → ℕ → List ℕ → Solving
ordered_solving L work answer ws =
    elim (ltb work L.room) [
      | true ↦ unread ShortSlice
      | false ↦
          elim (ltb answer L.room) [ true ↦ unread ShortSlice | false ↦ ordered_solving_of L (read_question L ws) ]
    ]
