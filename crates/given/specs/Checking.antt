-- When the words of a value are of the form that its variable takes.
use Rattle.std.specs.Prelude.{ℕ, ◌+◌, ◌≡◌, Bool, true, false, ◌&&◌, List, [], ◌∷◌, ltb, length, Result, Ok, Err}
use Rattle.std.proofs.Math.Option.{Option, none, some}
use Rattle.language.specs.declared.Refusal.{Refusal}
use Rattle.language.specs.declared.Kind.{Kind}
use Rattle.language.specs.declared.Kind.TheVariants.{End, Term, Run, Symbol, Function, Equation, Membership, Eps, Cat, Alt, Star, Other}
use Rattle.language.specs.Limits.{desk}
use Rattle.language.specs.Kinds.{pick, kind_of}
use Rattle.language.specs.Trees.{Hedge, Counts}
use Rattle.language.specs.Writing.{hedge_words}
use Rattle.language.specs.Fine.{fine_hedge}
use Rattle.language.specs.Reading.{read_hedge}
use Rattle.meaning.specs.Complete.{Complete}
use Rattle.language.specs.Question.{parts}
use Rattle.meaning.specs.Values.{complete, Form, a_term, a_hedge, a_name, fits, forms, variables, value_of, values_of, Given, gives, refuses}

abbrev pub is_some : {A : Type 0} → Option A → Bool
is_some none = false
is_some (some a) = true

-- ---- words of a hedge without variables, whose symbols are declared

abbrev pub plain_on : ℕ → Kind → Bool
plain_on symbols End = true
plain_on symbols (Symbol f) = ltb f.0 symbols
plain_on symbols (Term x) = false
plain_on symbols (Run p) = false
plain_on symbols (Function X) = false
plain_on symbols Equation = false
plain_on symbols Membership = false
plain_on symbols Eps = false
plain_on symbols Cat = false
plain_on symbols Alt = false
plain_on symbols Star = false
plain_on symbols Other = false

unfoldable pub plain_words : ℕ → List ℕ → Bool
plain_words symbols [] = true
plain_words symbols (w ∷ ws) = plain_on symbols (kind_of desk w) && plain_words symbols ws

-- ---- a value of a form

unfoldable pub of_form : Counts → Form → List ℕ → Bool
of_form n form ws = is_some (value_of n form (length ws) (read_hedge desk ws))

-- these words are those of h, which is g
pub record Of (ws : List ℕ) (h : Hedge) (g : Complete) : Type 0 where
  pub fine : fine_hedge desk h
  pub is : complete h ≡ some g
  pub words : ws ≡ hedge_words h

-- the form decides
pub record Plain (n : Counts) (ws : List ℕ) : Type 0 where
  pub h : Hedge
  pub g : Complete
  pub it : Of ws h g
  pub form : (f : Form) → of_form n f ws ≡ fits f g

-- whether the words are those of a complete hedge whose symbols are declared
pub record Judged (n : Counts) (ws : List ℕ) (r : Bool) : Type 0 where
  pub plain : r ≡ true → Plain n ws
  pub not_plain : r ≡ false → (f : Form) → of_form n f ws ≡ false

-- whether it is one term
pub record OneTerm (ws : List ℕ) (r : Bool) : Type 0 where
  pub each : (h : Hedge) (g : Complete) → Of ws h g → r ≡ fits a_term g

-- what the value numbered i is to be
abbrev pub form_at : Counts → ℕ → Form
form_at n i = pick (ltb i n.terms) a_term (pick (ltb i (n.terms + n.hedges)) a_hedge a_name)

unfoldable pub all_of_form : Counts → List ℕ → Bool
all_of_form n fs = is_some (values_of desk n (forms n) (parts 1 (variables n) fs))

-- a filling that is not refused is fine
unfoldable pub given : Given → Result (Unit {0}) Refusal
given (gives ρ) = Ok tt
given (refuses r) = Err r
