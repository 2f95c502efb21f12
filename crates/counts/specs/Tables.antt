-- A table of how often each word stands among others.
use Rattle.std.specs.Prelude.{ℕ, ◌+◌, ◌-◌, ◌≡◌, List, [], ◌∷◌, ◌++◌, eqb, ltb, get_or, set, replicate}
use Rattle.language.specs.Kinds.{pick}
use Rattle.language.specs.Limits.{desk}
use Rattle.language.specs.Trees.{Var, Hedge, Conj}
use Rattle.views.specs.declared.View.{View}
use Rattle.views.specs.Views.{Sees}
use Rattle.views.specs.Variables.{variable_word, fine_var}
use Rattle.counts.specs.Counts.{count_hedge, count_conj}

-- how often a word stands among others
abbrev pub times : ℕ → List ℕ → ℕ
times x [] = 0
times x (y ∷ ws) = pick (eqb y x) 1 0 + times x ws

-- a place for each word up to the last of a variable
abbrev pub table : ℕ
table = 4000 + desk.each

-- the count of a word; words past the table are not counted
abbrev pub count_at : List ℕ → ℕ → ℕ
count_at t x = pick (ltb x table) (get_or t x 0) 0

-- a word counted in, and counted out
abbrev pub one_in : ℕ → List ℕ → List ℕ
one_in x t = pick (ltb x table) (set t x (get_or t x 0 + 1)) t

abbrev pub one_out : ℕ → List ℕ → List ℕ
one_out x t = pick (ltb x table) (set t x (get_or t x 0 - 1)) t

-- all of them
unfoldable pub added : List ℕ → List ℕ → List ℕ
added [] t = t
added (x ∷ ws) t = added ws (one_in x t)

unfoldable pub removed : List ℕ → List ℕ → List ℕ
removed [] t = t
removed (x ∷ ws) t = removed ws (one_out x t)

-- the count taken afresh
unfoldable pub afresh : List ℕ → List ℕ
afresh ws = added ws (replicate table 0)

-- the table t has the count of each variable in the conjunction
pub record Tallied (t : List ℕ) (c : Conj) : Type 0 where
  pub count : (v : Var) → fine_var desk v → count_at t (variable_word v) ≡ count_conj v c

-- the same of an equation of l and r, written in this order or the other, among the literals of K
pub record Beside (t : List ℕ) (K : Conj) (l r : Hedge) : Type 0 where
  pub count : (v : Var) → fine_var desk v → count_at t (variable_word v) ≡ (count_hedge v l + count_hedge v r) + count_conj v K

-- some equation stands in k where v says, and the table has the counts of its conjunction
pub record EquationCounted (k t : List ℕ) (v : View) : Type 0 where
  pub before : Conj
  pub l : Hedge
  pub r : Hedge
  pub behind : Conj
  pub sees : Sees k v before l r behind
  pub counts : Beside t (before ++ behind) l r
