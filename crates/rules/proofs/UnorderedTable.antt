-- The rules give what the table of unordered symbols says, by computation; and the search finds each new rule where 02 says.
use mathlib.Core.Path.{◌≡◌, refl}
use mathlib.Core.Bool.{true, false}
use mathlib.Core.List.{[], ◌∷◌, map}
use Rattle.language.specs.Trees.{ε, eqn, mem, is_unordered, any_unordered, ◌⧺◌}
use Rattle.rules.specs.Reply.{nothing, results}
use Rattle.rules.specs.Elements.{orders}
use Rattle.rules.specs.Rules.{◌>>=◌, check}
use Rattle.rules.specs.Places.{at_del2, at_d1, at_d0, at_e7, at_m11, at_m12}
use Rattle.rules.specs.Step.{search, step}
use Rattle.rules.specs.Solved.{solved}
use Rattle.rules.specs.Run.{run_from, run_by, run}
use Rattle.rules.specs.Table.{Case, solve_in, four_ordered, f, a, b, x, p, q, X, aᴱ, bᴱ, fᴱ}
use Rattle.rules.specs.UnorderedTable.{two_unordered, unordered_table, y, a∷}

pub unordered-holds : map (λ (c : Case). solve_in two_unordered c.question) unordered_table ≡ map (λ (c : Case). c.answer) unordered_table
unfolding is_unordered any_unordered orders ◌>>=◌ check search step solved run_from run_by run solve_in
unordered-holds = refl

-- "Del2 strikes the first shared element, earliest in the left side, then in the right": a, though b is the earlier one on the right; and of two a on
-- the right the first.
pub struck-found :
    (search two_unordered (eqn (f (a ⧺ b ⧺ p)) (f (b ⧺ q ⧺ a)) ∷ []) ≡ results (record { rule = at_del2; literal = 0; swapped = false }, (eqn (f (b ⧺ p)) (f (b ⧺ q)) ∷ []) ∷ []))
    × (search two_unordered (eqn (f (p ⧺ a)) (f (a ⧺ q ⧺ a)) ∷ []) ≡ results (record { rule = at_del2; literal = 0; swapped = false }, (eqn (f p) (f (q ⧺ a)) ∷ []) ∷ []))
unfolding is_unordered any_unordered ◌>>=◌ check search
struck-found = (refl, refl)

-- D1 writes H on the left, whichever side it is; its results go by the positions of T.
pub orders-found :
    (search two_unordered (eqn (f p) (f (x ⧺ y ⧺ a)) ∷ [])
    ≡ results (
      record { rule = at_d1; literal = 0; swapped = false },
      (eqn p (x ⧺ y ⧺ a) ∷ []) ∷ (eqn p (x ⧺ a ⧺ y) ∷ []) ∷ (eqn p (y ⧺ x ⧺ a) ∷ []) ∷ (eqn p (y ⧺ a ⧺ x) ∷ []) ∷ (eqn p (a ⧺ x ⧺ y) ∷ []) ∷ (eqn p (a ⧺ y ⧺ x) ∷ []) ∷ [],
    ))
    × (search two_unordered (eqn (f (x ⧺ a)) (f p) ∷ []) ≡ results (record { rule = at_d1; literal = 0; swapped = true }, (eqn p (x ⧺ a) ∷ []) ∷ (eqn p (a ⧺ x) ∷ []) ∷ []))
    × (search two_unordered (mem (f (x ⧺ a)) (fᴱ aᴱ) ∷ []) ≡ results (record { rule = at_m12; literal = 0; swapped = false }, (mem (x ⧺ a) aᴱ ∷ []) ∷ (mem (a ⧺ x) aᴱ ∷ []) ∷ []))
unfolding is_unordered any_unordered orders ◌>>=◌ check search
orders-found = (refl, refl, refl)

-- "for a function variable where u is 0, otherwise E7"; and where all symbols are ordered the old rules stand.
pub otherwise-found :
    (search four_ordered (eqn (X x) (X a) ∷ []) ≡ results (record { rule = at_d0; literal = 0; swapped = false }, (eqn x a ∷ []) ∷ []))
    × (search (record { symbols = 1; unordered = 1 }) (eqn (X x) (X a) ∷ []) ≡ results (record { rule = at_e7; literal = 0; swapped = false }, (eqn (X ε) a ∷ eqn (a∷ x) (a∷ a) ∷ []) ∷ []))
    × (search four_ordered (eqn (f (p ⧺ a)) (f (q ⧺ b)) ∷ []) ≡ results (record { rule = at_d0; literal = 0; swapped = false }, (eqn (p ⧺ a) (q ⧺ b) ∷ []) ∷ []))
    × (search two_unordered (eqn (f (p ⧺ a)) (f (q ⧺ b)) ∷ []) ≡ nothing)
    × (search four_ordered (mem (f p) (fᴱ bᴱ) ∷ []) ≡ results (record { rule = at_m11; literal = 0; swapped = false }, (mem p bᴱ ∷ []) ∷ []))
    × (search two_unordered (mem (f p) (fᴱ bᴱ) ∷ []) ≡ nothing)
unfolding is_unordered any_unordered ◌>>=◌ check search
otherwise-found = (refl, refl, refl, refl, refl, refl)
