-- What a single named step of a question comes to. The question has one conjunction; the step is made where the named rule applies, first or not.
use Rattle.std.specs.Prelude.{ℕ, true, false, List, [], ◌∷◌, ltb}
use Rattle.language.specs.declared.Refusal.{Refusal}
use Rattle.language.specs.declared.Refusal.TheVariants.{ShortSlice, CountRange, LongResult, LongWaiting, BadStep}
use Rattle.language.specs.declared.Signature.{Signature}
use Rattle.language.specs.Limits.{Limits}
use Rattle.language.specs.Trees.{Conj, signature}
use Rattle.language.specs.Question.{Asked, asks, refuses, read_question}
use Rattle.rules.specs.Reply.{Reply, nothing, results, stops}
use Rattle.rules.specs.Run.{all_of, any_long, waiting_size}
use Rattle.replay.specs.Replay.{Triple}
use Rattle.telling.specs.Telling.{named_reply}

-- the results of the step; a refusal before it, which changes nothing; a refusal of the step, which leaves zeros
pub data Naming : Type 0 where
  made : List Conj → Naming
  unread : Refusal → Naming
  given-up : Refusal → Naming

-- 7, then 8, for results that wait alone
abbrev pub checked : Limits → ℕ → List Conj → Naming
checked L number ks =
    elim (any_long L ks) [
      | true ↦ given-up LongResult
      | false ↦ elim (ltb L.room (waiting_size (all_of number ks))) [ true ↦ given-up LongWaiting | false ↦ made ks ]
    ]

-- "26 step doesn't apply"; a clash whose walk is too long is 21
abbrev pub replied : Limits → ℕ → Reply (List Conj) → Naming
replied L number nothing = given-up BadStep
replied L number (results ks) = checked L number ks
replied L number (stops r) = given-up r

-- at one conjunction
abbrev pub named_at : Limits → ℕ → Signature → Triple → Conj → Naming
named_at L number σ t k = replied L number (named_reply σ t k)

-- none, or more than one: 3
abbrev pub of_one : Limits → ℕ → Signature → Triple → List Conj → Naming
of_one L number σ t [] = unread CountRange
of_one L number σ t (k ∷ []) = named_at L number σ t k
of_one L number σ t (k ∷ j ∷ ks) = unread CountRange

abbrev pub naming_of : Limits → ℕ → Triple → Asked → Naming
naming_of L number t (asks q) = of_one L number (signature q.counts) t q.alternatives
naming_of L number t (refuses r) = unread r

-- for a work slice of so many words: 1, then 2 to 6 as for any question, then 3 for the one conjunction
unfoldable pub naming : Limits → ℕ → ℕ → Triple → List ℕ → Naming
naming L work number t ws = elim (ltb work L.room) [ true ↦ unread ShortSlice | false ↦ naming_of L number t (read_question L ws) ]
