-- The values of the variables of one kind, in order.
use Rattle.std.specs.Prelude.{ℕ, ◌+◌, ◌*◌, ◌<◌, ◌≤◌, ◌≡◌, List, [], ◌∷◌, map, length}
use Rattle.language.specs.declared.Sym.{Sym}
use Rattle.language.specs.Limits.{desk}
use Rattle.language.specs.Trees.{Conj, Var}
use Rattle.meaning.specs.Values.{joined, numbers}
use Rattle.samples.specs.Laid.{Laid}
use Rattle.values.specs.Lines.{Named, Line}
use Rattle.values.specs.declared.Variable.{Variable}
use Rattle.values.specs.declared.Variable.TheVariants.{Term, Run, Function}
use Rattle.line_example.specs.declared.sorts.Sort.{Sort}
use Rattle.line_example.specs.declared.sorts.Sort.TheVariants.{Terms, Runs, Functions}
use Rattle.line_example.specs.declared.sorts.Row.{Row}
use Rattle.values.specs.Values.{Settled, value_words}

-- the variable of a kind with a number
abbrev pub numbered_of : Sort → ℕ → Variable
numbered_of Terms j = Term (record { 0 = j })
numbered_of Runs j = Run (record { 0 = j })
numbered_of Functions j = Function (record { 0 = j })

-- `make` gives the variables of a kind, `count` of them
abbrev pub Makes : (ℕ → Var) → Sort → ℕ → Type 0
Makes make of count = (j : ℕ) → j < count → Named (make j) (numbered_of of j)

-- their values from the j-th on, n of them, where free blanks take the symbol `any`
unfoldable pub values_by : Sym → Conj → (ℕ → Var) → ℕ → ℕ → List (List ℕ)
values_by any c make j n = map (λ i. value_words any c (make i)) (numbers j n)

-- where each begins
abbrev pub starts : ℕ → List (List ℕ) → List ℕ
starts at [] = []
starts at (ws ∷ wss) = at ∷ starts (at + length ws) wss

pub record KindLength (k : List ℕ) (of : Sort) (count n : ℕ) : Type 0 where
  pub few : n ≤ 10000000000 * desk.each
  pub each : (any : Sym) (c : Conj) (make : ℕ → Var) → Line k c → Settled c → Makes make of count → n ≡ length (joined (values_by any c make 0 count))

pub record KindStarts (k : List ℕ) (of : Sort) (count : ℕ) (old : List ℕ) (at offset : ℕ) (new : List ℕ) (r : Row) : Type 0 where
  pub few : r.next ≤ offset + 10000000000 * desk.each
  pub next : (any : Sym) (c : Conj) (make : ℕ → Var) → Line k c → Settled c → Makes make of count → r.next ≡ offset + length (joined (values_by any c make 0 count))
  pub each : (any : Sym) (c : Conj) (make : ℕ → Var) → Line k c → Settled c → Makes make of count → offset + length (joined (values_by any c make 0 count)) < 65536
      → Laid old at (starts offset (values_by any c make 0 count)) new r.to

pub record KindWritten (k : List ℕ) (of : Sort) (count : ℕ) (any : Sym) (old : List ℕ) (at : ℕ) (new : List ℕ) (e : ℕ) : Type 0 where
  pub each : (c : Conj) (make : ℕ → Var) → Line k c → Settled c → Makes make of count → Laid old at (joined (values_by any c make 0 count)) new e
