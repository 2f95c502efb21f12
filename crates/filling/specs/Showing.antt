-- How a word of the question is shown under a filling: as a part of the filling, or of the question itself; and what the words of a hedge become.
use Rattle.std.specs.Prelude.{ℕ, suc, ◌+◌, ◌-◌, ◌<◌, ◌≤◌, ◌≡◌, List, [], ◌∷◌, ◌++◌, eqb, length, get_or, take, drop}
use Rattle.std.proofs.Math.Option.{Option, none, some}
use Rattle.std.proofs.lemmas.List.Edits.{sets}
use Rattle.language.specs.declared.Kind.{Kind}
use Rattle.language.specs.declared.Kind.TheVariants.{End, Term, Run, Symbol, Function, Equation, Membership, Eps, Cat, Alt, Star, Other}
use Rattle.language.specs.Limits.{desk}
use Rattle.language.specs.Kinds.{pick, kind_of}
use Rattle.language.specs.Between.{between}

-- ---- the filling's values, numbered from 0

abbrev pub offset : List ℕ → ℕ → ℕ
offset fs i = get_or fs (i + 1) 0

-- where the next one begins
abbrev pub ending : List ℕ → ℕ → ℕ
ending fs i = get_or fs (i + 2) 0

-- the words of a value without the 0 that ends it
abbrev pub body_at : List ℕ → ℕ → List ℕ
body_at fs i = between (offset fs i) (ending fs i - 1) fs

-- its first word alone
abbrev pub name_at : List ℕ → ℕ → List ℕ
name_at fs i = between (offset fs i) (offset fs i + 1) fs

-- ---- a term without variables

abbrev pub more : Option ℕ → Option ℕ
more none = none
more (some k) = some (suc k)

-- one word of those that are to close `depth` hedges
abbrev pub closes_on : ℕ → Kind → (ℕ → Option ℕ) → Option ℕ
closes_on depth End rest = pick (eqb depth 1) (some 1) (more (rest (depth - 1)))
closes_on depth (Symbol f) rest = more (rest (depth + 1))
closes_on depth (Term x) rest = none
closes_on depth (Run p) rest = none
closes_on depth (Function X) rest = none
closes_on depth Equation rest = none
closes_on depth Membership rest = none
closes_on depth Eps rest = none
closes_on depth Cat rest = none
closes_on depth Alt rest = none
closes_on depth Star rest = none
closes_on depth Other rest = none

-- how many words close so many hedges; none where a variable comes first
unfoldable pub closes : ℕ → List ℕ → Option ℕ
closes depth [] = none
closes depth (w ∷ ws) = closes_on depth (kind_of desk w) (λ d. closes d ws)

abbrev pub or_one : ℕ → Option ℕ → ℕ
or_one n none = 1
or_one n (some k) = n + k

-- a symbol's words: those of its term where that has no variable, and else its own word
unfoldable pub term_size : List ℕ → ℕ
term_size ws = or_one 1 (closes 1 (drop 1 ws))

-- r is the place after what a symbol at `at` stands for
pub record TermEnd (ws : List ℕ) (at r : ℕ) : Type 0 where
  pub size : r ≡ at + term_size (drop at ws)
  pub on : at < r
  pub inside : r ≤ length ws

-- ---- how the first of some words is shown, t and h being the numbers of term and of hedge variables

abbrev pub shown_on : ℕ → ℕ → List ℕ → List ℕ → Kind → List ℕ
shown_on t h fs ws (Term x) = body_at fs x.0
shown_on t h fs ws (Run p) = body_at fs (t + p.0)
shown_on t h fs ws (Function X) = name_at fs (t + h + X.0)
shown_on t h fs ws (Symbol f) = take (term_size ws) ws
shown_on t h fs ws End = take 1 ws
shown_on t h fs ws Equation = take 1 ws
shown_on t h fs ws Membership = take 1 ws
shown_on t h fs ws Eps = take 1 ws
shown_on t h fs ws Cat = take 1 ws
shown_on t h fs ws Alt = take 1 ws
shown_on t h fs ws Star = take 1 ws
shown_on t h fs ws Other = take 1 ws

unfoldable pub shown : ℕ → ℕ → List ℕ → List ℕ → List ℕ
shown t h fs ws = shown_on t h fs ws (kind_of desk (get_or ws 0 0))

-- how many words are shown so, from how many words they became: those of a symbol are its own
abbrev pub step_on : ℕ → Kind → ℕ
step_on n (Symbol f) = n
step_on n (Term x) = 1
step_on n (Run p) = 1
step_on n (Function X) = 1
step_on n End = 1
step_on n Equation = 1
step_on n Membership = 1
step_on n Eps = 1
step_on n Cat = 1
step_on n Alt = 1
step_on n Star = 1
step_on n Other = 1

-- ---- what words become: each variable its value, any other word itself

abbrev pub word_on : ℕ → ℕ → List ℕ → ℕ → Kind → List ℕ
word_on t h fs w (Term x) = body_at fs x.0
word_on t h fs w (Run p) = body_at fs (t + p.0)
word_on t h fs w (Function X) = name_at fs (t + h + X.0)
word_on t h fs w (Symbol f) = w ∷ []
word_on t h fs w End = w ∷ []
word_on t h fs w Equation = w ∷ []
word_on t h fs w Membership = w ∷ []
word_on t h fs w Eps = w ∷ []
word_on t h fs w Cat = w ∷ []
word_on t h fs w Alt = w ∷ []
word_on t h fs w Star = w ∷ []
word_on t h fs w Other = w ∷ []

unfoldable pub filled : ℕ → ℕ → List ℕ → List ℕ → List ℕ
filled t h fs [] = []
filled t h fs (w ∷ ws) = word_on t h fs w (kind_of desk w) ++ filled t h fs ws

-- ---- what showing asks of the filling

-- the filling has a value of that number, and it has a word
pub record HasValue (fs : List ℕ) (i : ℕ) : Type 0 where
  pub there : i + 2 < length fs
  pub some_word : offset fs i < ending fs i
  pub inside : ending fs i ≤ length fs

abbrev pub ShowsOn : ℕ → ℕ → List ℕ → Kind → Type 0
ShowsOn t h fs (Term x) = HasValue fs x.0
ShowsOn t h fs (Run p) = HasValue fs (t + p.0)
ShowsOn t h fs (Function X) = HasValue fs (t + h + X.0)
ShowsOn t h fs (Symbol f) = Unit {0}
ShowsOn t h fs End = Unit {0}
ShowsOn t h fs Equation = Unit {0}
ShowsOn t h fs Membership = Unit {0}
ShowsOn t h fs Eps = Unit {0}
ShowsOn t h fs Cat = Unit {0}
ShowsOn t h fs Alt = Unit {0}
ShowsOn t h fs Star = Unit {0}
ShowsOn t h fs Other = Unit {0}

-- every variable among these words has a value
pub record Shows (t h : ℕ) (fs ws : List ℕ) : Type 0 where
  pub each : (i : ℕ) → i < length ws → ShowsOn t h fs (kind_of desk (get_or ws i 0))

-- ---- what writing them leaves

pub record Written (t h : ℕ) (fs ws room : List ℕ) (start : ℕ) (room' : List ℕ) (r : ℕ) : Type 0 where
  pub place : r ≡ start + length (filled t h fs ws)
  pub words : room' ≡ sets room start (filled t h fs ws)
