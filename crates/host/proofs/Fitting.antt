-- What does not fit is refused for its length, and so is nothing at all: the example of the words that fit is that of all words.
use Prim.Native.Nat.{ℕ, ◌≤◌, ◌<◌}
use mathlib.Core.Path.{◌≡◌, refl, ap, ◌∙◌, sym}
use mathlib.Core.Bool.{Bool, true, false, ◌||◌}
use mathlib.Core.List.{List, []}
use mathlib.Core.Option.{Option, none, some}
use native.Mathlib.Omega.{arith}
use lib.Dec.{leb, ltb}
use lib.ListN.{length}
use borrow.Author.Tests.{leb-false, ltb-false, le-ltb}
use Rattle.language.specs.declared.Refusal.TheVariants.{QuestionLength, LongExample, OpenLine}
use Rattle.language.specs.Kinds.{pick}
use Rattle.language.specs.Limits.{desk}
use Rattle.language.specs.Trees.{Counts}
use Rattle.language.specs.Question.{Asked, refuses, read_question, counts_of}
use Rattle.meaning.specs.Values.{filling_words}
use Rattle.rules.specs.Solved.{solved}
use Rattle.rules.specs.Example.{default_symbol, example}
use Rattle.rules.specs.Run.{Numbered}
use Rattle.rules.specs.Answer.{Solving, answered, unread, given-up, solving_of, solving}
use Rattle.rules.specs.Calls.{Showing, shows, denied, line_at, fitted, shown, showing_of, showing}
use Rattle.word_bytes.specs.Bytes.{fitting}
use Rattle.word_bytes.proofs.Fitting.{long-question, no-question}
use Rattle.handing.specs.Handed.{used}

abbrev over : List ℕ → Bool → Showing
over ws b = elim b [ true ↦ denied LongExample | false ↦ shows ws ]

-- a room of more words than a filling may have is as good as one of so many
fitted-used : (room : ℕ) (ws : List ℕ) → fitted desk (used desk.filling room) ws ≡ fitted desk room ws
unfolding used
fitted-used room ws = go (leb room desk.filling) refl where
  wide : (b : Bool) → ltb desk.filling (length ws) ≡ b → desk.filling < room → over ws (b || ltb desk.filling (length ws)) ≡ over ws (b || ltb room (length ws))
  wide true e h = refl
  wide false e h = let le : length ws ≤ desk.filling = ltb-false _ _ e in ap (over ws) (e ∙ sym (le-ltb room (length ws) (omega arith)))

  go : (b : Bool) → leb room desk.filling ≡ b → fitted desk (pick b room desk.filling) ws ≡ fitted desk room ws
  go true e = refl
  go false e = wide (ltb desk.filling (length ws)) refl (leb-false _ _ e)

shown-used : (old : Bool) (n : Counts) (room : ℕ) (o : Option Numbered) → shown desk old n (used desk.filling room) o ≡ shown desk old n room o
shown-used old n room none = refl
shown-used old n room (some k) =
    ap (λ (s : Showing). elim (solved k.literals) [ true ↦ s | false ↦ denied OpenLine ]) (fitted-used room (filling_words n (example (default_symbol old n) k.literals)))

pub showing-used : (old : Bool) (n : Counts) (room line : ℕ) (s : Solving) → showing_of desk old n (used desk.filling room) line s ≡ showing_of desk old n room line s
showing-used old n room line (answered ls steps) = shown-used old n room (line_at line ls)
showing-used old n room line (unread r) = refl
showing-used old n room line (given-up r) = refl

refused-showing : (old : Bool) (room line : ℕ) (ws : List ℕ) → read_question desk ws ≡ refuses QuestionLength → showing desk old desk.room desk.room room line ws ≡ denied QuestionLength
unfolding showing solving
refused-showing old room line ws e = ap (λ (a : Asked). showing_of desk old (counts_of ws) room line (solving_of desk a)) e

pub fitting-showing : (old : Bool) (room line : ℕ) (ws : List ℕ) → showing desk old desk.room desk.room (used desk.filling room) line (fitting desk.question ws) ≡ showing desk old desk.room desk.room room line ws
unfolding fitting showing
fitting-showing old room line ws = go (leb (length ws) desk.question) refl where
  go : (b : Bool) → leb (length ws) desk.question ≡ b → showing desk old desk.room desk.room (used desk.filling room) line (pick b ws []) ≡ showing desk old desk.room desk.room room line ws
  go true e = showing-used old (counts_of ws) room line (solving desk desk.room desk.room ws)
  go false e = refused-showing old _ line [] no-question ∙ sym (refused-showing old room line ws (long-question ws (leb-false _ _ e)))
