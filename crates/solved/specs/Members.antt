-- How often variables stand in memberships.
use Rattle.std.specs.Prelude.{ℕ, ◌+◌, ◌≡◌, List, [], ◌∷◌, eqb, get_or}
use Rattle.std.proofs.Math.Seq.{slice}
use Rattle.language.specs.Kinds.{pick}
use Rattle.language.specs.Limits.{desk}
use Rattle.language.specs.Trees.{eqn, mem, Conj, Var}
use Rattle.views.specs.Variables.{variable_word, fine_var}
use Rattle.counts.specs.Counts.{count_hedge}
use Rattle.counts.specs.Tables.{count_at, added}

abbrev pub count_members : Var → Conj → ℕ
count_members v [] = 0
count_members v (eqn l r ∷ k) = count_members v k
count_members v (mem h R ∷ k) = count_hedge v h + count_members v k

-- the table t has these counts
pub record InMembers (t : List ℕ) (c : Conj) : Type 0 where
  pub count : (v : Var) → fine_var desk v → count_at t (variable_word v) ≡ count_members v c

-- the words of a literal counted in, where it is a membership
abbrev pub member_in : List ℕ → ℕ → ℕ → List ℕ → List ℕ
member_in k i next t = pick (eqb (get_or k i 0) 6000) (added (slice i next k) t) t
