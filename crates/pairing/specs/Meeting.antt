-- What two rules come to, by the solver's answer to their patterns' question.
use Rattle.std.specs.Prelude.{ℕ, suc, false, ◌&&◌, List, [], ◌∷◌, eqb, leb, ltb, length}
use Rattle.language.specs.declared.Refusal.TheVariants.{NotLiterals, LongExample}
use Rattle.language.specs.Limits.{desk}
use Rattle.language.specs.Kinds.{pick}
use Rattle.language.specs.Numbers.{number_of}
use Rattle.language.specs.Trees.{Counts}
use Rattle.language.specs.Question.{Asked, asks, refuses, read_question}
use Rattle.rules.specs.Solved.{solved}
use Rattle.rules.specs.Run.{Numbered}
use Rattle.rules.specs.Answer.{Solving, answered, unread, given-up, solving}
use Rattle.rules.specs.Calls.{Showing, shows, denied, showing}
use Rattle.filling.specs.Showing.{filled}
use Rattle.patterns.specs.Blanks.{nothing, apart}
use Rattle.patterns.specs.Terms.{one_term}
use Rattle.patterns.specs.Pairs.{of_both, too_many, pair_words}

-- "cannot meet", "can meet" with the words of a report, "not settled", or a refusal's number
pub data Meeting : Type 0 where
  cannot : Meeting
  can : List ℕ → Meeting
  unsettled : Meeting
  refused : ℕ → Meeting

-- how many lines stand before the first that is settled; all of them, where none is
abbrev pub first_settled : List Numbered → ℕ
first_settled [] = 0
first_settled (k ∷ ks) = pick (solved k.literals) 0 (suc (first_settled ks))

-- 16: "which a report longer than its room gives too"
abbrev pub fits : ℕ → List ℕ → Meeting
fits room ws = pick (ltb room (length ws)) (refused (number_of LongExample)) (can ws)

-- the first pattern filled by the example; "16 of the example included"
abbrev pub reported : ℕ → Counts → List ℕ → Showing → Meeting
reported room n pattern (shows fs) = fits room (filled n.terms n.hedges fs pattern)
reported room n pattern (denied r) = refused (number_of r)

-- 5 "for a pattern that isn't one term", after 2 and 3
abbrev pub early : Asked → ℕ
early (asks q) = number_of (NotLiterals 0)
early (refuses r) = pick (leb (number_of r) 3) (number_of r) (number_of (NotLiterals 0))

-- the room is in words, and `word` is the question's word 0
module _ (room word : ℕ) (first second : List ℕ) where
  abbrev pub words : List ℕ
  words = pair_words word first second

  -- "with a report that both match, the first pattern filled by the first settled line's example"
  abbrev pub shown_by : ℕ → Meeting
  shown_by line = reported room (of_both word first second) (apart nothing first) (showing desk false desk.room desk.room desk.filling line words)

  -- '"cannot meet" when the solver has no line', '"not settled" when all lines are open'
  abbrev pub meeting_by : List Numbered → Meeting
  meeting_by [] = cannot
  meeting_by (k ∷ ks) = pick (eqb (first_settled (k ∷ ks)) (length (k ∷ ks))) unsettled (shown_by (first_settled (k ∷ ks)))

  -- "otherwise the solver's own number for that pair"
  abbrev pub meeting_of : Solving → Meeting
  meeting_of (answered ls n) = meeting_by ls
  meeting_of (unread r) = refused (number_of r)
  meeting_of (given-up r) = refused (number_of r)

  -- "25 two rules with more than" 128 "blanks of one kind together"
  unfoldable pub meeting : Meeting
  meeting =
      pick (too_many (of_both word first second)) (refused 25)
      (pick (one_term first && one_term second) (meeting_of (solving desk desk.room desk.room words)) (refused (early (read_question desk words))))
