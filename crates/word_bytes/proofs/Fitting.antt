-- A question that does not fit is refused for its length, and so is nothing at all: the words that fit are read as all words are.
use Prim.Native.Nat.{ℕ, ◌<◌}
use mathlib.Core.Path.{◌≡◌, refl, sym, ap, ◌∙◌}
use mathlib.Core.Bool.{Bool, true, false, ◌&&◌, and-false}
use mathlib.Core.List.{List, []}
use lib.Dec.{leb}
use lib.ListN.{length}
use borrow.Author.Tests.{leb-false, lt-leb}
use Rattle.language.specs.declared.Refusal.TheVariants.{QuestionLength}
use Rattle.language.specs.Kinds.{pick}
use Rattle.language.specs.Limits.{desk}
use Rattle.language.specs.Question.{Asked, refuses, read_question, length_fits}
use Rattle.word_bytes.specs.Bytes.{fitting}

at_first : (b : Bool) (x : Asked) → b ≡ false → elim b [ false ↦ refuses QuestionLength | true ↦ x ] ≡ refuses QuestionLength
at_first b x e = ap (λ (t : Bool). elim t [ false ↦ refuses QuestionLength | true ↦ x ]) e

pub long-question : (ws : List ℕ) → desk.question < length ws → read_question desk ws ≡ refuses QuestionLength
unfolding read_question length_fits
long-question ws h =
    let e : leb (length ws) desk.question ≡ false = lt-leb _ _ h in
    let f : length_fits desk ws ≡ false = ap (λ (b : Bool). leb 6 (length ws) && b) e ∙ and-false (leb 6 (length ws)) in
    at_first (length_fits desk ws) _ f

pub no-question : read_question desk [] ≡ refuses QuestionLength
unfolding read_question length_fits
no-question = refl

pub fitting-question : (ws : List ℕ) → read_question desk (fitting desk.question ws) ≡ read_question desk ws
unfolding fitting
fitting-question ws = go (leb (length ws) desk.question) refl where
  go : (b : Bool) → leb (length ws) desk.question ≡ b → read_question desk (pick b ws []) ≡ read_question desk ws
  go true e = refl
  go false e = no-question ∙ sym (long-question ws (leb-false _ _ e))
