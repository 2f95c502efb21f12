-- How long results are together, each in its frame.
use Rattle.std.specs.Prelude.{ℕ, zero, suc, ◌+◌, ◌≤◌, List, [], ◌∷◌, map, leb, length, Option, Some, None}
use Rattle.language.specs.declared.Refusal.TheVariants.{LongResult}
use Rattle.language.specs.Limits.{desk}
use Rattle.language.specs.Kinds.{pick}
use Rattle.language.specs.Numbers.{number_of}
use Rattle.language.specs.Trees.{Hedge, Expr, Conj}
use Rattle.language.specs.Writing.{conj_words}
use Rattle.rules.specs.Rules.{Branch, monomial_result}
use Rattle.rules.specs.Expressions.{linear}
use Rattle.rules.specs.Step.{place}
use Rattle.frames.specs.Frames.{frame, in_frames}
use Rattle.views.specs.Looks.{head, tail}

-- A size is how many words results take, each in its frame (counted until they pass a lent slice); there is none where one of them is too long.
-- Its number of the table, 0 where no result is too long, and its value: how many words they are.
abbrev pub size_number : Option ℕ → ℕ
size_number (Some n) = 0
size_number None = number_of LongResult

abbrev pub size_value : Option ℕ → ℕ
size_value (Some n) = n
size_value None = 0

-- none passes the limit of a conjunction
abbrev pub Short : List (List ℕ) → Type 0
Short [] = Unit {0}
Short (w ∷ ws) = (length w ≤ desk.question) × Short ws

-- none of the results, which get this number, is too long, there is room for them from `at` on, and they are no more than a lent slice holds
pub record Ready (number : ℕ) (ws : List (List ℕ)) (out : List ℕ) (at : ℕ) : Type 0 where
  pub short : Short ws
  pub room : at + length (in_frames number ws) ≤ length out
  pub low : length (in_frames number ws) ≤ desk.room

-- one more of l words; past a slice's room there is no need to count on
abbrev pub grown : ℕ → ℕ → ℕ
grown n l = pick (leb n desk.room) (n + frame + l) n

-- m more of l words each
abbrev pub grown_by : ℕ → ℕ → ℕ → ℕ
grown_by zero n l = n
grown_by (suc m) n l = grown_by m (grown n l) l

-- n words and those of the results
abbrev pub sized_from : ℕ → List (List ℕ) → Option ℕ
sized_from n [] = Some n
sized_from n (w ∷ ws) = pick (leb (length w) desk.question) (sized_from (grown n (length w)) ws) None

unfoldable pub sized : List (List ℕ) → Option ℕ
sized ws = sized_from 0 ws

-- the words of a rule's results, in place
unfoldable pub placed_words : Conj → Conj → List Branch → List (List ℕ)
placed_words before behind bs = map (λ b. conj_words (place before behind b)) bs

-- the words of M2's results: one for each monomial of R
unfoldable pub monomial_words : Conj → Hedge → Expr → Conj → List (List ℕ)
monomial_words before h R behind = placed_words before behind (map (monomial_result (head h) (tail h)) (linear R))
