-- What was written of the tree that stands at a place of the words.
use Rattle.std.specs.Prelude.{ℕ, ◌+◌, ◌≤◌, ◌<◌, ◌≡◌, Bool, List, [], ◌∷◌, ◌++◌, length, drop}
use Rattle.language.specs.Limits.{desk}
use Rattle.language.specs.Trees.{Hedge, Expr, Literal, Conj, Question}
use Rattle.language.specs.Writing.{hedge_words, expr_words, literal_words, conj_words}
use Rattle.language.specs.Fine.{fine_hedge, fine_literal, fine_conj}
use Rattle.language.specs.Question.{asks, read_question}
use Rattle.texts.specs.Writer.{line_text, all_text}
use Rattle.texts.specs.Outcomes.{as_read}
use Rattle.expressions.specs.Standing.{Here}
use Rattle.write_text.specs.declared.Wrote.{Wrote}
use Rattle.write_text.specs.Laid.{Laid}
use Rattle.write_text.specs.Pieces.{is_one, side_piece, shape, literal_piece}

-- h stands in w at `at`, followed by `beyond`
pub record Side (w : List ℕ) (at : ℕ) (h : Hedge) (beyond : List ℕ) : Type 0 where
  pub fine : fine_hedge desk h
  pub words : drop at w ≡ hedge_words h ++ beyond

-- whether the hedge at `at` whose 0 stands at `last` is one element
pub record OneAt (w : List ℕ) (at last : ℕ) (r : Bool) : Type 0 where
  pub tells : (h : Hedge) (beyond : List ℕ) → Side w at h beyond → last + 1 ≡ at + length (hedge_words h) → r ≡ is_one h

pub record Test (w : List ℕ) (at : ℕ) (l : Literal) (beyond : List ℕ) : Type 0 where
  pub fine : fine_literal desk l
  pub words : drop at w ≡ literal_words l ++ beyond

-- a piece for `ws` words is written from `to` on
pub record Done (stop at : ℕ) (ws piece old : List ℕ) (to : ℕ) (new : List ℕ) (r : Wrote) : Type 0 where
  pub end : r.end ≡ at + length ws
  pub laid : Laid stop old to piece new r.to

pub record Sided (stop : ℕ) (w : List ℕ) (at : ℕ) (old : List ℕ) (to : ℕ) (new : List ℕ) (r : Wrote) : Type 0 where
  pub after : at ≤ r.end
  pub each : (h : Hedge) (beyond : List ℕ) → Side w at h beyond → Done stop at (hedge_words h) (side_piece h) old to new r

pub record Shaped (stop : ℕ) (w : List ℕ) (at t : ℕ) (old : List ℕ) (to : ℕ) (new : List ℕ) (r : Wrote) : Type 0 where
  pub after : at ≤ r.end
  pub each : (R : Expr) (beyond : List ℕ) → Here w at R beyond → Done stop at (expr_words R) (shape t R) old to new r

pub record Tested (stop : ℕ) (w : List ℕ) (at : ℕ) (old : List ℕ) (to : ℕ) (new : List ℕ) (r : Wrote) : Type 0 where
  pub after : at < r.end
  pub each : (l : Literal) (beyond : List ℕ) → Test w at l beyond → Done stop at (literal_words l) (literal_piece l) old to new r

-- the words are a question's
pub record IsQuestion (w : List ℕ) : Type 0 where
  pub question : Question
  pub read : read_question desk w ≡ asks question

-- all of w is a conjunction, and its line is written
abbrev pub Lined : ℕ → List ℕ → List ℕ → ℕ → List ℕ → ℕ → Type 0
Lined stop w old to new e = (k : Conj) → fine_conj desk k → w ≡ conj_words k → Laid stop old to (line_text k ++ (10 ∷ [])) new e

abbrev pub AllLined : ℕ → List ℕ → List ℕ → List ℕ → ℕ → Type 0
AllLined stop w old new e = (q : Question) → read_question desk w ≡ asks q → Laid stop old 0 (all_text q.alternatives) new e

abbrev pub Numbered : List ℕ → Bool → Type 0
Numbered w r = (q : Question) → read_question desk w ≡ asks q → r ≡ as_read q
