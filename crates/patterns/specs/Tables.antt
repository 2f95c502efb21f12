-- A table by which a pattern's blanks are numbered anew, with a place for each number of each kind: 0 where the blank does not appear, and else one
-- more than the number of those that appear before it.
use Rattle.std.specs.Prelude.{ℕ, suc, ◌+◌, ◌-◌, ◌*◌, ◌<◌, ◌≤◌, ◌≡◌, List, length, get_or}
use Rattle.language.specs.declared.Kind.{Kind}
use Rattle.language.specs.declared.Kind.TheVariants.{End, Term, Run, Symbol, Function, Equation, Membership, Eps, Cat, Alt, Star, Other}
use Rattle.language.specs.Limits.{desk}
use Rattle.language.specs.Kinds.{pick, kind_of}
use Rattle.patterns.specs.declared.Numbers.{Numbers}
use Rattle.patterns.specs.Blanks.{among, before, Blanks, blanks_in}

-- where the places of each kind begin
abbrev pub at_terms : ℕ
at_terms = 0

abbrev pub at_hedges : ℕ
at_hedges = desk.each

abbrev pub at_functions : ℕ
at_functions = desk.each + desk.each

abbrev pub entry : ℕ → List ℕ → ℕ
entry x xs = pick (among x xs) (suc (before x xs)) 0

pub record Tabled (b : Blanks) (t : List ℕ) : Type 0 where
  pub size : length t ≡ 3 * desk.each
  pub terms : (x : ℕ) → x < desk.each → get_or t x 0 ≡ entry x b.terms
  pub hedges : (x : ℕ) → x < desk.each → get_or t (at_hedges + x) 0 ≡ entry x b.hedges
  pub functions : (x : ℕ) → x < desk.each → get_or t (at_functions + x) 0 ≡ entry x b.functions

-- the table of these blanks, and how many there are of each kind
pub record NotedAs (b : Blanks) (r : Numbers) (t : List ℕ) : Type 0 where
  pub table : Tabled b t
  pub terms : r.terms ≡ length b.terms
  pub hedges : r.hedges ≡ length b.hedges
  pub functions : r.functions ≡ length b.functions

-- of all blanks among these words
abbrev pub Noted : List ℕ → Numbers → List ℕ → Type 0
Noted ws r t = NotedAs (blanks_in ws) r t

-- ---- a word numbered by a table, behind as many as n has of its kind

abbrev pub renumbered_on : Numbers → List ℕ → ℕ → Kind → ℕ
renumbered_on n t w (Term x) = 1000 + (n.terms + get_or t x.0 0 - 1)
renumbered_on n t w (Run p) = 2000 + (n.hedges + get_or t (at_hedges + p.0) 0 - 1)
renumbered_on n t w (Function X) = 4000 + (n.functions + get_or t (at_functions + X.0) 0 - 1)
renumbered_on n t w (Symbol f) = w
renumbered_on n t w End = w
renumbered_on n t w Equation = w
renumbered_on n t w Membership = w
renumbered_on n t w Eps = w
renumbered_on n t w Cat = w
renumbered_on n t w Alt = w
renumbered_on n t w Star = w
renumbered_on n t w Other = w

unfoldable pub renumbered_by : Numbers → List ℕ → ℕ → ℕ
renumbered_by n t w = renumbered_on n t w (kind_of desk w)

-- the place is within the table, it is not empty, and the number is one of a kind's
pub record Entered (n : ℕ) (t : List ℕ) (place : ℕ) : Type 0 where
  pub inside : place < length t
  pub there : 1 ≤ get_or t place 0
  pub fits : n + get_or t place 0 ≤ desk.each

abbrev pub EnteredOn : Numbers → List ℕ → Kind → Type 0
EnteredOn n t (Term x) = Entered n.terms t x.0
EnteredOn n t (Run p) = Entered n.hedges t (at_hedges + p.0)
EnteredOn n t (Function X) = Entered n.functions t (at_functions + X.0)
EnteredOn n t (Symbol f) = Unit {0}
EnteredOn n t End = Unit {0}
EnteredOn n t Equation = Unit {0}
EnteredOn n t Membership = Unit {0}
EnteredOn n t Eps = Unit {0}
EnteredOn n t Cat = Unit {0}
EnteredOn n t Alt = Unit {0}
EnteredOn n t Star = Unit {0}
EnteredOn n t Other = Unit {0}

-- every blank among these words has its place
pub record Ready (n : Numbers) (t ws : List ℕ) : Type 0 where
  pub each : (i : ℕ) → i < length ws → EnteredOn n t (kind_of desk (get_or ws i 0))
