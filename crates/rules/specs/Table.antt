-- The run on paper: the table of cases P1 to P12, each a question, its lines with their marks and numbers, and its steps.
use Rattle.std.specs.Prelude.{ℕ, Bool, true, false, List, [], ◌∷◌, map}
use Rattle.language.specs.declared.Refusal.{Refusal}
use Rattle.language.specs.Limits.{desk}
use Rattle.language.specs.declared.Signature.{Signature}
use Rattle.language.specs.Trees.{symbol, fvar, Hedge, ε, tvar, hvar, node, Expr, eps, cat, star, over, eqn, mem, Conj, ◌⧺◌}
use Rattle.rules.specs.Solved.{solved}
use Rattle.rules.specs.Run.{Numbered, Outcome, finished, refused, run}

-- a line, whether it is solved, and the number of its alternative
pub record Line : Type 0 where
  pub is_solved : Bool
  pub number : ℕ
  pub literals : Conj

pub data Report : Type 0 where
  report : List Line → ℕ → Report
  no_report : Refusal → Report

abbrev pub marked : Numbered → Line
marked k = record { is_solved = solved k.literals; number = k.number; literals = k.literals }

abbrev pub reported : Outcome → Report
reported (finished ls n) = report (map marked ls) n
reported (refused r) = no_report r

-- what the rules make of a question with these symbols
unfoldable pub solve_in : Signature → List Conj → Report
solve_in σ q = reported (run desk σ q)

-- four symbols, all of them ordered
abbrev pub four_ordered : Signature
four_ordered = record { symbols = 4; unordered = 0 }

unfoldable pub solve : List Conj → Report
solve q = solve_in four_ordered q

-- ---- "a, b, f, g are symbols 0 to 3; p, q hedge variables; a stands for a() and in expressions a(eps)."

abbrev pub f : Hedge → Hedge
f h = node (symbol (record { 0 = 2 })) h ε

abbrev pub g : Hedge → Hedge
g h = node (symbol (record { 0 = 3 })) h ε

abbrev pub a : Hedge
a = node (symbol (record { 0 = 0 })) ε ε

abbrev pub b : Hedge
b = node (symbol (record { 0 = 1 })) ε ε

abbrev pub x : Hedge
x = tvar (record { 0 = 0 }) ε

abbrev pub p : Hedge
p = hvar (record { 0 = 0 }) ε

abbrev pub q : Hedge
q = hvar (record { 0 = 1 }) ε

abbrev pub X : Hedge → Hedge
X h = node (fvar (record { 0 = 0 })) h ε

abbrev pub aᴱ : Expr
aᴱ = over (record { 0 = 0 }) eps

abbrev pub bᴱ : Expr
bᴱ = over (record { 0 = 1 }) eps

abbrev pub fᴱ : Expr → Expr
fᴱ R = over (record { 0 = 2 }) R

-- ---- the table

pub record Case : Type 0 where
  pub question : List Conj
  pub answer : Report

-- a question of one conjunction, whose number is 0
abbrev pub one : Conj → List Line → ℕ → Case
one k ls n = record { question = k ∷ []; answer = report ls n }

abbrev pub settled : Conj → Line
settled k = record { is_solved = true; number = 0; literals = k }

abbrev pub open-line : Conj → Line
open-line k = record { is_solved = false; number = 0; literals = k }

abbrev pub P1 : Case
P1 = record { question = []; answer = report [] 0 }

abbrev pub P2 : Case
P2 = one [] (settled [] ∷ []) 0

abbrev pub P3 : Case
P3 = one (eqn a b ∷ []) [] 1

abbrev pub P4 : Case
P4 = one (eqn (p ⧺ q) (a ⧺ b) ∷ [])
    (settled (eqn p ε ∷ eqn q (a ⧺ b) ∷ []) ∷ settled (eqn p a ∷ eqn q b ∷ []) ∷ settled (eqn p (a ⧺ b) ∷ eqn q ε ∷ []) ∷ []) 1

abbrev pub P5 : Case
P5 = one (eqn (p ⧺ p) (a ⧺ a) ∷ []) (settled (eqn p a ∷ []) ∷ []) 4

abbrev pub P6 : Case
P6 = one (eqn (p ⧺ a) (a ⧺ p) ∷ []) (open-line (eqn (p ⧺ a) (a ⧺ p) ∷ []) ∷ []) 0

abbrev pub P7 : Case
P7 = one (eqn x (f x) ∷ []) [] 1

abbrev pub P8 : Case
P8 = one (eqn (X a) (g p) ∷ []) (settled (eqn (X ε) (g ε) ∷ eqn a p ∷ []) ∷ []) 2

abbrev pub P9 : Case
P9 = one (mem p (cat (fᴱ (star aᴱ)) (star bᴱ)) ∷ eqn p (f (a ⧺ a) ⧺ b) ∷ []) (settled (eqn p (f (a ⧺ a) ⧺ b) ∷ []) ∷ []) 11

abbrev pub P10 : Case
P10 = one (mem x aᴱ ∷ mem x aᴱ ∷ []) (settled (mem x aᴱ ∷ []) ∷ []) 1

abbrev pub P11 : Case
P11 = one (mem (p ⧺ q) (fᴱ eps) ∷ []) (settled (mem p (fᴱ eps) ∷ eqn q ε ∷ []) ∷ settled (eqn p ε ∷ mem q (fᴱ eps) ∷ []) ∷ []) 1

abbrev pub P12 : Case
P12 = one (mem (x ⧺ x) (cat aᴱ bᴱ) ∷ []) [] 2

abbrev pub table : List Case
table = P1 ∷ P2 ∷ P3 ∷ P4 ∷ P5 ∷ P6 ∷ P7 ∷ P8 ∷ P9 ∷ P10 ∷ P11 ∷ P12 ∷ []
