-- Solving answers the words that fit as it answers all words.
use Prim.Native.Nat.{ℕ}
use mathlib.Core.Path.{◌≡◌, ap}
use mathlib.Core.Bool.{true, false}
use mathlib.Core.List.{List}
use lib.Dec.{ltb}
use Rattle.language.specs.declared.Refusal.TheVariants.{ShortSlice}
use Rattle.language.specs.Limits.{desk}
use Rattle.language.specs.Question.{Asked}
use Rattle.rules.specs.Answer.{unread, solving_of, solving}
use Rattle.word_bytes.specs.Bytes.{fitting}
use Rattle.word_bytes.proofs.Fitting.{fitting-question}

pub fitting-solving : (work answer : ℕ) (ws : List ℕ) → solving desk work answer (fitting desk.question ws) ≡ solving desk work answer ws
unfolding solving
fitting-solving work answer ws =
    ap
    (λ (a : Asked).
    elim (ltb work desk.room) [
      | true ↦ unread ShortSlice
      | false ↦ elim (ltb answer desk.room) [ true ↦ unread ShortSlice | false ↦ solving_of desk a ]
    ])
    (fitting-question ws)
