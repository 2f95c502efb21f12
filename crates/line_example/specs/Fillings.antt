-- The words of a line's example: a table of offsets, and the values.
use Rattle.std.specs.Prelude.{ℕ, ◌+◌, ◌*◌, ◌<◌, ◌≤◌, ◌≡◌, List, ◌∷◌, ◌++◌, length, Result}
use Rattle.language.specs.declared.Refusal.{Refusal}
use Rattle.language.specs.declared.Sym.{Sym}
use Rattle.language.specs.Limits.{desk}
use Rattle.language.specs.Trees.{Conj, Counts, tv, hv, fv}
use Rattle.meaning.specs.Values.{variables, joined, offsets_of, filling_words}
use Rattle.rules.specs.Example.{example}
use Rattle.rules.specs.Calls.{fitted}
use Rattle.samples.specs.Laid.{Laid}
use Rattle.values.specs.Lines.{Line}
use Rattle.values.specs.Values.{Settled}
use Rattle.line_example.specs.Rows.{values_by}
use Rattle.line_example.specs.Shown.{result_of, room_of}

-- the values of the term, hedge and function variables, where free blanks take the symbol `any`
unfoldable pub values_of : Sym → Conj → Counts → List (List ℕ)
values_of any c n = values_by any c (λ x. tv (record { 0 = x })) 0 n.terms ++ (values_by any c (λ p. hv (record { 0 = p })) 0 n.hedges ++ values_by any c (λ X. fv (record { 0 = X })) 0 n.functions)

-- the number of variables and the offsets
unfoldable pub table_of : Sym → Conj → Counts → List ℕ
table_of any c n = variables n ∷ offsets_of (variables n + 2) (values_of any c n)

-- so many variables of each kind
pub record Counted (n : Counts) (t h f : ℕ) : Type 0 where
  pub terms : n.terms ≡ t
  pub hedges : n.hedges ≡ h
  pub functions : n.functions ≡ f

pub record FillingLength (k : List ℕ) (terms hedges functions r : ℕ) : Type 0 where
  pub few : r ≤ 4 * (10000000000 * desk.each)
  pub each : (any : Sym) (c : Conj) (n : Counts) → Line k c → Settled c → Counted n terms hedges functions → r ≡ length (table_of any c n) + length (joined (values_of any c n))

pub record TableWritten (k : List ℕ) (terms hedges functions : ℕ) (old : List ℕ) (at : ℕ) (new : List ℕ) (e : ℕ) : Type 0 where
  pub each : (any : Sym) (c : Conj) (n : Counts) → Line k c → Settled c → Counted n terms hedges functions → variables n + 2 + length (joined (values_of any c n)) < 65536
      → Laid old at (table_of any c n) new e

pub record ValuesWritten (k : List ℕ) (terms hedges functions : ℕ) (any : Sym) (old : List ℕ) (at : ℕ) (new : List ℕ) (e : ℕ) : Type 0 where
  pub each : (c : Conj) (n : Counts) → Line k c → Settled c → Counted n terms hedges functions → Laid old at (joined (values_of any c n)) new e

-- the example of a line is shown, or it is too long
pub record LineShown (k : List ℕ) (terms hedges functions : ℕ) (any : Sym) (old new : List ℕ) (r : Result ℕ Refusal) : Type 0 where
  pub result : (c : Conj) (n : Counts) → Line k c → Settled c → Counted n terms hedges functions → r ≡ result_of (fitted desk (length old) (filling_words n (example any c)))
  pub room : (c : Conj) (n : Counts) → Line k c → Settled c → Counted n terms hedges functions → new ≡ room_of (fitted desk (length old) (filling_words n (example any c))) old
