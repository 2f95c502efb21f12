-- The values of a line's variables in words.
use Rattle.std.specs.Prelude.{ℕ, ◌+◌, ◌*◌, ◌≤◌, ◌≡◌, List, [], length}
use Rattle.std.proofs.Math.Option.{none, some}
use Rattle.std.proofs.Math.Seq.{slice}
use Rattle.language.specs.declared.TermVar.{TermVar}
use Rattle.language.specs.declared.FunVar.{FunVar}
use Rattle.language.specs.declared.Sym.{Sym}
use Rattle.language.specs.Trees.{Expr, over, Conj, Var, tv, fv}
use Rattle.meaning.specs.Complete.{complete_words}
use Rattle.rules.specs.Example.{expression_of, unsolved, bound, followed}
use Rattle.values.specs.declared.Variable.{Variable}
use Rattle.samples.specs.Bodies.{body}
use Rattle.values.specs.Lines.{Named, Line}
use Rattle.values.specs.Spelling.{becomes, spelled, HedgeWord, HedgeWords}

-- what no rule leaves: the expression of a term variable is a symbol's, and a function variable has none
pub record Settled (c : Conj) : Type 0 where
  pub terms : (x : TermVar) (R : Expr) → expression_of (tv x) c ≡ some R → (f : Sym) × (S : Expr) × (R ≡ over f S)
  pub names : (X : FunVar) → expression_of (fv X) c ≡ none

-- k are the words of a line that no rule leaves otherwise
pub record SettledLine (k : List ℕ) : Type 0 where
  pub c : Conj
  pub line : Line k c
  pub settled : Settled c

-- the words of v's value, where free blanks take the symbol `any`
unfoldable pub value_words : Sym → Conj → Var → List ℕ
value_words any c v = complete_words (followed any c v (bound v [] c))

-- Lengths are the same whatever that symbol is.

-- n is the number of words of the value that v takes unsolved, without the 0
pub record UnsolvedLength (k : List ℕ) (x : Variable) (n : ℕ) : Type 0 where
  pub few : n ≤ 2 * length k + 2
  pub each : (any : Sym) (c : Conj) (v : Var) → Line k c → Named v x → n ≡ length (body (unsolved any c v))

-- n is the number of words that x becomes
pub record WordLength (k : List ℕ) (x n : ℕ) : Type 0 where
  pub few : n ≤ 2 * length k + 2
  pub each : (any : Sym) (c : Conj) → Line k c → HedgeWord x → n ≡ length (becomes (unsolved any c) x)

-- n is the number of words that a part becomes
pub record PartLength (k : List ℕ) (from to n : ℕ) : Type 0 where
  pub few : n ≤ 10000000000
  pub each : (any : Sym) (c : Conj) → Line k c → HedgeWords (slice from to k) → n ≡ length (spelled (becomes (unsolved any c)) (slice from to k))

-- n is the number of words of a variable's value
pub record ValueLength (k : List ℕ) (x : Variable) (n : ℕ) : Type 0 where
  pub few : n ≤ 10000000000
  pub each : (any : Sym) (c : Conj) (v : Var) → Line k c → Settled c → Named v x → n ≡ length (value_words any c v)
