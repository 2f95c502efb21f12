-- A reader of answers: the lines that a caller can read off the words that solving leaves. The words are all that a C program gets.
use Rattle.std.specs.Prelude.{ℕ, zero, suc, ◌+◌, ◌≡◌, ◌⊎◌, List, [], ◌∷◌, eqb, get_or}
use Rattle.std.proofs.Math.Option.{Option, none, some}
use Rattle.language.specs.declared.Signature.{Signature}
use Rattle.language.specs.Limits.{Limits}
use Rattle.language.specs.Kinds.{pick}
use Rattle.language.specs.Trees.{Conj}
use Rattle.language.specs.Between.{between}
use Rattle.language.specs.Reading.{Got, got, stop, read_conj}
use Rattle.meaning.specs.Meaning.{Filling, MeetsAll}
use Rattle.rules.specs.Run.{Numbered}

-- "each a mark (1 solved, 2 open) and its literals", and "in a word after the mark" the number of the alternative that it descends from
pub record Line : Type 0 where
  pub mark : ℕ
  pub number : ℕ
  pub literals : Conj

abbrev pub numbered_of : List Line → List Numbered
numbered_of [] = []
numbered_of (l ∷ ls) = record { number = l.number; literals = l.literals } ∷ numbered_of ls

-- the mark and the number, and the literals if they are read
abbrev pub marked : ℕ → ℕ → Got Conj → Option Line
marked m a (got k n) = some (record { mark = m; number = a; literals = k })
marked m a (stop n) = none

abbrev pub read_line : Limits → List ℕ → Option Line
read_line L [] = none
read_line L (m ∷ []) = none
read_line L (m ∷ a ∷ ws) = marked m a (read_conj L ws)

-- "the offset of each line and the end of the last": the words of line i, from its offset to the next
abbrev pub line_in : List ℕ → ℕ → List ℕ
line_in ws i = between (get_or ws (i + 2) 0) (get_or ws (i + 3) 0) ws

abbrev pub with_line : Option Line → Option (List Line) → Option (List Line)
with_line none ls = none
with_line (some l) none = none
with_line (some l) (some ls) = some (l ∷ ls)

-- n lines, from line i on
abbrev pub read_lines : Limits → List ℕ → ℕ → ℕ → Option (List Line)
read_lines L ws i zero = some []
read_lines L ws i (suc n) = with_line (read_line L (line_in ws i)) (read_lines L ws (suc i) n)

-- "Word 0: lines"
unfoldable pub read_answer : Limits → List ℕ → Option (List Line)
read_answer L ws = read_lines L ws 0 (get_or ws 0 0)

-- ---- what is said of lines, by the question's signature

abbrev pub MeetsLine : Signature → Filling → Line → Type 0
MeetsLine σ ρ l = MeetsAll σ ρ l.literals

-- at least one of the lines
abbrev pub MeetsLines : Signature → Filling → List Line → Type 0
MeetsLines σ ρ [] = ⊥
MeetsLines σ ρ (l ∷ ls) = MeetsLine σ ρ l ⊎ MeetsLines σ ρ ls

-- at least one of those that are of alternative n
abbrev pub MeetsLinesOf : Signature → Filling → ℕ → List Line → Type 0
MeetsLinesOf σ ρ n [] = ⊥
MeetsLinesOf σ ρ n (l ∷ ls) = ((l.number ≡ n) × MeetsLine σ ρ l) ⊎ MeetsLinesOf σ ρ n ls

-- the line at a place among them, from 0
abbrev pub nth_line : ℕ → List Line → Option Line
nth_line i [] = none
nth_line i (l ∷ ls) = elim i [ ℕ.zero ↦ some l | ℕ.suc j ↦ nth_line j ls ]

-- how many are marked open
abbrev pub opens : List Line → ℕ
opens [] = 0
opens (l ∷ ls) = pick (eqb l.mark 2) (suc (opens ls)) (opens ls)
