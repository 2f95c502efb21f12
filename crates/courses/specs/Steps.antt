-- A step on each course: that it can be made, and what is noted of it. A trail that is told is in bytes.
use Rattle.std.specs.Prelude.{ℕ, ◌+◌, ◌*◌, ◌<◌, ◌≤◌, ◌≡◌, Bool, true, List, length}
use Rattle.language.specs.Limits.{desk}
use Rattle.language.specs.Trees.{Literal, Conj}
use Rattle.rules.specs.Places.{no_rule}
use Rattle.views.specs.Standing.{LiteralAt}
use Rattle.search.specs.declared.Best.{Best}
use Rattle.noting.specs.Noting as noting
use Rattle.courses.specs.declared.Course.{Course}
use Rattle.courses.specs.declared.Course.TheVariants.{First, Noted, Told}

-- one step more can be made
abbrev pub Below : Course → List ℕ → ℕ → Type 0
Below First told n = n < desk.steps
Below Noted told n = n < desk.steps
Below Told told n = 6 * n + 6 ≤ length told

-- there is room for the steps made, and this one is a rule's
abbrev pub Roomy : Course → Best → ℕ → List ℕ → Type 0
Roomy First b made out = Unit {0}
Roomy Noted b made out = (3 * made ≤ length out) × (b.rank < no_rule)
Roomy Told b made out = Unit {0}

abbrev pub NotedStep : List ℕ → Best → ℕ → Course → List ℕ → Bool → List ℕ → Type 0
NotedStep k b made First old r new = (r ≡ true) × (new ≡ old)
NotedStep k b made Noted old r new =
    (before : Conj) (l : Literal) (behind : Conj) → LiteralAt k b.at before l behind → noting.Noted old made b.rank (length before) b.swap r new
NotedStep k b made Told old r new = (r ≡ true) × (new ≡ old)
