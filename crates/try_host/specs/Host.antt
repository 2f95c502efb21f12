-- What each call of the host that solves nothing returns, for every input.
use Rattle.std.specs.Prelude.{ℕ, ◌≡◌, ◌⊎◌, List}
use Rattle.language.specs.Limits.{Limits}
use Rattle.language.specs.Numbers.{number_of}
use Rattle.language.specs.Question.{asked_place, read_question}
use Rattle.meaning.specs.Meaning.{MeetsQuestion}
use Rattle.rules.specs.Calls.{Trying, trying}
use Rattle.rules.specs.Calls as calls
use Rattle.word_bytes.specs.Bytes.{words_in}

-- ---- desk_try

-- A question's bytes and a filling's. The work slice is the desk's own.
unfoldable pub trying_bytes : Limits → List ℕ → List ℕ → Trying
trying_bytes L q f = trying L L.room (words_in q) (words_in f)

-- 100 is no, 101 is yes, and below stand the refusals
unfoldable pub TryNumber : Trying → ℕ → Type 0
TryNumber (calls.decides q ρ) n = ((n ≡ 101) × MeetsQuestion ρ q) ⊎ ((n ≡ 100) × (MeetsQuestion ρ q → ⊥))
TryNumber (calls.unread r) n = n ≡ number_of r
TryNumber (calls.given-up r) n = n ≡ number_of r

-- ---- desk_place

-- "for 5 the first word that cannot continue a literal .., for 6 the first undeclared number .. for all other outcomes it is 0"
unfoldable pub place_bytes : Limits → List ℕ → ℕ
place_bytes L q = asked_place (read_question L (words_in q))
