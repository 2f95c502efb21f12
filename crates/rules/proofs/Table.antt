-- The rules give what the table says, case by case, by computation; and the search finds its steps where 01 says.
use mathlib.Core.Path.{◌≡◌, refl}
use mathlib.Core.Bool.{true, false}
use mathlib.Core.List.{[], ◌∷◌, map}
use Rattle.language.specs.Trees.{ε, eps, star, eqn, mem, is_unordered, any_unordered, ◌⧺◌}
use Rattle.rules.specs.Reply.{nothing, results}
use Rattle.rules.specs.Walk.{reached, long_walk, shared, common_hedge, common_term}
use Rattle.rules.specs.Rules.{◌>>=◌, check}
use Rattle.rules.specs.Places.{at_r1, at_fold, at_f3, at_d0, at_e1, at_m2, at_clash}
use Rattle.rules.specs.Step.{search, step}
use Rattle.rules.specs.Solved.{solved}
use Rattle.rules.specs.Run.{run_from, run_by, run}
use Rattle.rules.specs.Table.{report, Case, four_ordered, solve_in, solve, table, a, b, f, g, x, p, q, aᴱ, bᴱ, fᴱ}

pub table-holds : map (λ (c : Case). solve c.question) table ≡ map (λ (c : Case). c.answer) table
unfolding is_unordered any_unordered ◌>>=◌ check reached long_walk shared common_hedge common_term search step solved run_from run_by run solve_in solve
table-holds = refl

-- "the first rule below that applies to any literal": D0 at the second, though E1 applies to the first; "the earliest literal"; "the written side
-- first, then swapped": F3 applies to both, E1 to the other alone.
pub places-found :
    (search four_ordered (eqn x a ∷ eqn (f x) (f b) ∷ []) ≡ results (record { rule = at_d0; literal = 1; swapped = false }, (eqn x a ∷ eqn x b ∷ []) ∷ []))
    × (search four_ordered (eqn a b ∷ eqn b a ∷ []) ≡ results (record { rule = at_f3; literal = 0; swapped = false }, []))
    × (search four_ordered (eqn a x ∷ mem x aᴱ ∷ []) ≡ results (record { rule = at_e1; literal = 0; swapped = true }, (eqn x a ∷ mem a aᴱ ∷ []) ∷ []))
unfolding is_unordered any_unordered ◌>>=◌ check search
places-found = (refl, refl, refl)

-- The fold: after R1 and R2 and before all others, so at "a = b" twice it comes before F3; "of two literals with the same words the later is
-- removed", the first later one alone; the words as they stand decide, so that an equation turned round is another literal.
pub folds-found :
    (search four_ordered (mem x aᴱ ∷ mem x aᴱ ∷ []) ≡ results (record { rule = at_fold; literal = 0; swapped = false }, (mem x aᴱ ∷ []) ∷ []))
    × (search four_ordered (eqn a b ∷ eqn a b ∷ []) ≡ results (record { rule = at_fold; literal = 0; swapped = false }, (eqn a b ∷ []) ∷ []))
    × (search four_ordered (eqn x a ∷ eqn x a ∷ eqn a a ∷ []) ≡ results (record { rule = at_r1; literal = 2; swapped = false }, (eqn x a ∷ eqn x a ∷ []) ∷ []))
    × (search four_ordered (mem x bᴱ ∷ mem x aᴱ ∷ eqn a b ∷ mem x aᴱ ∷ mem x aᴱ ∷ [])
    ≡ results (record { rule = at_fold; literal = 1; swapped = false }, (mem x bᴱ ∷ mem x aᴱ ∷ eqn a b ∷ mem x aᴱ ∷ []) ∷ []))
    × (search four_ordered (eqn (f x) (g x) ∷ eqn (g x) (f x) ∷ []) ≡ results (record { rule = at_f3; literal = 0; swapped = false }, []))
unfolding is_unordered any_unordered ◌>>=◌ check search
folds-found = (refl, refl, refl, refl, refl)

-- The clash is the last rule, and "the place is the earlier one's": at the first of the two tests of x, whatever stands between; f(a) and f(b) clash below
-- their symbol; M2 comes before it; and for a hedge variable ε lies in a* and in b*.
pub clashes-found :
    (search four_ordered (mem x aᴱ ∷ mem x bᴱ ∷ []) ≡ results (record { rule = at_clash; literal = 0; swapped = false }, []))
    × (search four_ordered (mem p aᴱ ∷ mem x (fᴱ aᴱ) ∷ mem p aᴱ ∷ mem x (fᴱ bᴱ) ∷ [])
    ≡ results (record { rule = at_fold; literal = 0; swapped = false }, (mem p aᴱ ∷ mem x (fᴱ aᴱ) ∷ mem x (fᴱ bᴱ) ∷ []) ∷ []))
    × (search four_ordered (mem p aᴱ ∷ mem x (fᴱ aᴱ) ∷ mem q bᴱ ∷ mem x (fᴱ bᴱ) ∷ []) ≡ results (record { rule = at_clash; literal = 1; swapped = false }, []))
    × (search four_ordered (mem x aᴱ ∷ mem x bᴱ ∷ mem (x ⧺ x) aᴱ ∷ []) ≡ results (record { rule = at_m2; literal = 2; swapped = false }, (mem x aᴱ ∷ mem x bᴱ ∷ mem x aᴱ ∷ mem x eps ∷ []) ∷ []))
    × (search four_ordered (mem p (star aᴱ) ∷ mem p (star bᴱ) ∷ []) ≡ nothing)
unfolding is_unordered any_unordered ◌>>=◌ check reached long_walk shared common_hedge common_term search
clashes-found = (refl, refl, refl, refl, refl)

-- "each line shows it (from 0)": the number of the alternative that it descends from, and one without lines is counted
pub numbers-shown :
    solve ((eqn x a ∷ []) ∷ (eqn a b ∷ []) ∷ (eqn (p ⧺ q) a ∷ []) ∷ [])
    ≡ report (
    record { is_solved = true; number = 0; literals = eqn x a ∷ [] }
    ∷ record { is_solved = true; number = 2; literals = eqn p ε ∷ eqn q a ∷ [] }
    ∷ record { is_solved = true; number = 2; literals = eqn p a ∷ eqn q ε ∷ [] } ∷ []) 2
unfolding is_unordered any_unordered ◌>>=◌ check search step solved run_from run_by run solve_in solve
numbers-shown = refl
