-- What the paper prints in words: P4 whole, the limits under its table, places of mistakes, the borders of a run, and the default of an example.
use Prim.Native.Nat.{ℕ, ◌-◌}
use mathlib.Core.Path.{◌≡◌, refl}
use mathlib.Core.Bool.{true, false}
use mathlib.Core.List.{List, [], ◌∷◌, ◌++◌}
use lib.ListN.{replicate}
use Rattle.language.specs.declared.Refusal.TheVariants.{QuestionLength, CountRange, NotLiterals, Undeclared}
use Rattle.language.specs.Limits.{Limits, desk, first_desk}
use Rattle.language.specs.Numbers.{number_of}
use Rattle.language.specs.Kinds.{kind_of, within}
use Rattle.language.specs.Reading.{reading, read_hedge, read_expr, read_literal, read_conj}
use Rattle.language.specs.Undeclared.{declared_word, undeclared_at}
use Rattle.language.specs.Question.{laid_out, parts, length_fits, counts_fit, Asked, asks, refuses, read_question}
use Rattle.meaning.specs.Values.{filling_words}
use Rattle.rules.specs.Rules.{◌>>=◌, check}
use Rattle.rules.specs.Step.{search, step}
use Rattle.rules.specs.Solved.{solved}
use Rattle.rules.specs.Run.{Outcome, finished, refused, run_from, run_by, run}
use Rattle.rules.specs.Table as paper
use Rattle.rules.specs.Answer.{Solving, answered, unread, given-up, answer_words, solving}
use Rattle.rules.specs.Example.{example}
use Rattle.rules.specs.Calls.{Showing, shows, showing}

-- the steps and the answer's words, where there is an answer
pub data Written : Type 0 where
  written : ℕ → List ℕ → Written
  nothing : Written

abbrev pub in_words : Limits → Solving → Written
in_words L (answered ls n) = written n (answer_words L ls)
in_words L (unread r) = nothing
in_words L (given-up r) = nothing

-- P4 whole: its words, and those of its answer, each line with its mark and its number, n zeros at their end
abbrev pub P4 : List ℕ
P4 = 4 ∷ 0 ∷ 2 ∷ 0 ∷ 1 ∷ 7 ∷ 16 ∷ 5000 ∷ 2000 ∷ 2001 ∷ 0 ∷ 3000 ∷ 0 ∷ 3001 ∷ 0 ∷ 0 ∷ []

abbrev pub P4-answer : ℕ → Written
P4-answer n = written 1
    ((3 ∷ 0 ∷ 515 ∷ 529 ∷ 543 ∷ 557 ∷ replicate 509 0)
    ++ ((1 ∷ 0 ∷ 5000 ∷ 2000 ∷ 0 ∷ 0 ∷ 5000 ∷ 2001 ∷ 0 ∷ 3000 ∷ 0 ∷ 3001 ∷ 0 ∷ 0 ∷ [])
    ++ ((1 ∷ 0 ∷ 5000 ∷ 2000 ∷ 0 ∷ 3000 ∷ 0 ∷ 0 ∷ 5000 ∷ 2001 ∷ 0 ∷ 3001 ∷ 0 ∷ 0 ∷ [])
    ++ ((1 ∷ 0 ∷ 5000 ∷ 2000 ∷ 0 ∷ 3000 ∷ 0 ∷ 3001 ∷ 0 ∷ 0 ∷ 5000 ∷ 2001 ∷ 0 ∷ 0 ∷ []) ++ replicate n 0))))

-- in slices as long as the room, for the desk of today and for the one of which the paper prints it
pub P4-whole : in_words desk (solving desk desk.room desk.room P4) ≡ P4-answer 15827
unfolding solving answer_words read_question length_fits counts_fit laid_out parts reading read_hedge read_expr read_literal read_conj kind_of within ◌>>=◌ check search step solved run_from run_by run
P4-whole = refl

pub P4-first : in_words first_desk (solving first_desk first_desk.room first_desk.room P4) ≡ P4-answer 7635
unfolding solving answer_words read_question length_fits counts_fit laid_out parts reading read_hedge read_expr read_literal read_conj kind_of within ◌>>=◌ check search step solved run_from run_by run
P4-first = refl

-- ---- the limits

-- one equation: n hedge variables = ε
abbrev pub long : ℕ → List ℕ
long n = 5000 ∷ (replicate n 2000 ++ (0 ∷ 0 ∷ []))

abbrev pub refusal_of : Asked → Asked
refusal_of (asks q) = asks (record { counts = q.counts; alternatives = [] })
refusal_of (refuses r) = refuses r

abbrev pub header : ℕ → ℕ → ℕ → List ℕ
header symbols hedges end = symbols ∷ 0 ∷ hedges ∷ 0 ∷ 1 ∷ 7 ∷ end ∷ []

abbrev pub fine : ℕ → ℕ → Asked
fine s h = asks (record { counts = record { symbols = s; unordered = 0; terms = 0; hedges = h; functions = 0 }; alternatives = [] })

-- a question of so many words, and one with that number of symbols and that symbol
abbrev pub of_length : ℕ → List ℕ
of_length n = header 1 1 n ++ long (n - 10)

abbrev pub with_symbol : ℕ → ℕ → List ℕ
with_symbol symbols w = header symbols 0 12 ++ (5000 ∷ w ∷ 0 ∷ 0 ∷ 0 ∷ [])

-- "1,024 question words pass, 1,025 give 2; symbol 3031 passes with 32 declared, gives 6 with 31; 3032 gives 5."
pub first-limits-printed :
    (refusal_of (read_question first_desk (of_length 1024)) ≡ fine 1 1)
    × (refusal_of (read_question first_desk (of_length 1025)) ≡ refuses QuestionLength)
    × (refusal_of (read_question first_desk (with_symbol 32 3031)) ≡ fine 32 0)
    × (refusal_of (read_question first_desk (with_symbol 31 3031)) ≡ refuses (Undeclared 8))
    × (refusal_of (read_question first_desk (with_symbol 32 3032)) ≡ refuses (NotLiterals 8))
unfolding read_question length_fits counts_fit laid_out parts reading read_hedge read_expr read_literal read_conj kind_of within declared_word undeclared_at
first-limits-printed = (refl, refl, refl, refl, refl)

-- the same with the numbers of "Bigger sheets"; what was 5 because no count reached it is 6 now
pub limits-printed :
    (refusal_of (read_question desk (of_length 4096)) ≡ fine 1 1)
    × (refusal_of (read_question desk (of_length 4097)) ≡ refuses QuestionLength)
    × (refusal_of (read_question desk (with_symbol 128 3127)) ≡ fine 128 0)
    × (refusal_of (read_question desk (with_symbol 127 3127)) ≡ refuses (Undeclared 8))
    × (refusal_of (read_question desk (with_symbol 128 3128)) ≡ refuses (NotLiterals 8))
    × (refusal_of (read_question desk (with_symbol 32 3032)) ≡ refuses (Undeclared 8))
unfolding read_question length_fits counts_fit laid_out parts reading read_hedge read_expr read_literal read_conj kind_of within declared_word undeclared_at
limits-printed = (refl, refl, refl, refl, refl, refl)

-- ---- the first word

-- a question of no alternative with that first word
abbrev pub with_first : ℕ → List ℕ
with_first w = w ∷ 0 ∷ 0 ∷ 0 ∷ 0 ∷ 6 ∷ []

abbrev pub of_symbols : ℕ → ℕ → Asked
of_symbols s u = asks (record { counts = record { symbols = s; unordered = u; terms = 0; hedges = 0; functions = 0 }; alternatives = [] })

-- "symbols + 256 times u .. u above the symbols is 3"
pub first-words-printed :
    (read_question desk (with_first 1) ≡ of_symbols 1 0)
    × (read_question desk (with_first 257) ≡ of_symbols 1 1)
    × (read_question desk (with_first 513) ≡ refuses CountRange)
    × (read_question desk (with_first 256) ≡ refuses CountRange)
    × (read_question desk (with_first 1028) ≡ of_symbols 4 4)
    × (read_question desk (with_first 1284) ≡ refuses CountRange)
    × (read_question desk (with_first 32896) ≡ of_symbols 128 128)
    × (read_question desk (with_first 33152) ≡ refuses CountRange)
    × (read_question desk (with_first 129) ≡ refuses CountRange)
    × (read_question desk (with_first 65535) ≡ refuses CountRange)
unfolding read_question length_fits counts_fit laid_out parts reading read_hedge read_expr read_literal read_conj kind_of within declared_word undeclared_at
first-words-printed = (refl, refl, refl, refl, refl, refl, refl, refl, refl, refl)

-- ---- the place of the mistake

-- one alternative, or two, with one symbol declared
abbrev pub one_alternative : ℕ → List ℕ → List ℕ
one_alternative end ws = 1 ∷ 0 ∷ 0 ∷ 0 ∷ 1 ∷ 7 ∷ end ∷ ws

abbrev pub two_alternatives : ℕ → ℕ → List ℕ → List ℕ
two_alternatives middle end ws = 1 ∷ 0 ∷ 0 ∷ 0 ∷ 2 ∷ 8 ∷ middle ∷ end ∷ ws

-- "for 5 the first word that cannot continue a literal": a word that stands in no hedge, one before any literal, an alternative that breaks off inside
-- its second side, and the same with another behind it; "for 6 the first undeclared number"; and 5 though one stands earlier.
pub mistakes-printed :
    (read_question desk (one_alternative 12 (5000 ∷ 3000 ∷ 0 ∷ 7000 ∷ 0 ∷ [])) ≡ refuses (NotLiterals 10))
    × (read_question desk (one_alternative 11 (5000 ∷ 0 ∷ 0 ∷ 3000 ∷ [])) ≡ refuses (NotLiterals 10))
    × (read_question desk (one_alternative 12 (5000 ∷ 3000 ∷ 0 ∷ 0 ∷ 3000 ∷ [])) ≡ refuses (NotLiterals 12))
    × (read_question desk (two_alternatives 10 13 (5000 ∷ 0 ∷ 5000 ∷ 0 ∷ 0 ∷ [])) ≡ refuses (NotLiterals 10))
    × (read_question desk (one_alternative 14 (5000 ∷ 3001 ∷ 0 ∷ 0 ∷ 3002 ∷ 0 ∷ 0 ∷ [])) ≡ refuses (Undeclared 8))
    × (read_question desk (one_alternative 13 (5000 ∷ 3001 ∷ 0 ∷ 0 ∷ 7000 ∷ 0 ∷ [])) ≡ refuses (NotLiterals 11))
unfolding read_question length_fits counts_fit laid_out parts reading read_hedge read_expr read_literal read_conj kind_of within declared_word undeclared_at
mistakes-printed = (refl, refl, refl, refl, refl, refl)

-- ---- 7 to 10 at their borders

-- conjunctions of so many words, so much room, so many steps, three lines, and else the first desk's limits
abbrev pub narrow : ℕ → ℕ → ℕ → Limits
narrow longest room steps =
    record { question = longest; room = room; literal = first_desk.literal; lines = 3; steps = steps; filling = first_desk.filling; each = first_desk.each; alternatives = first_desk.alternatives; sheets = first_desk.sheets; apart = first_desk.apart }

abbrev pub end_of : Outcome → ℕ
end_of (finished ls n) = 0
end_of (refused r) = number_of r

-- P4's step leaves three conjunctions of 12 words. 7 counts these alone; waiting, each costs "its length plus two", 42 together; as lines, with
-- a mark and a number, each is 14 words, which stand behind the first 6.
pub borders :
    (end_of (run (narrow 12 48 1) paper.four_ordered (paper.P4).question) ≡ 0)
    × (end_of (run (narrow 11 48 1) paper.four_ordered (paper.P4).question) ≡ 7)
    × (end_of (run (narrow 12 41 1) paper.four_ordered (paper.P4).question) ≡ 8)
    × (end_of (run (narrow 12 42 1) paper.four_ordered (paper.P4).question) ≡ 9)
    × (end_of (run (narrow 12 47 1) paper.four_ordered (paper.P4).question) ≡ 9)
    × (end_of (run (narrow 11 41 0) paper.four_ordered (paper.P4).question) ≡ 10)
unfolding ◌>>=◌ check search step run_from run_by run
borders = (refl, refl, refl, refl, refl, refl)

-- ---- the default

-- one empty conjunction, so many symbols, one blank of each kind: the term and the name take the last symbol, or symbol 0 for old sheets
abbrev pub blanks : ℕ → List ℕ
blanks symbols = symbols ∷ 1 ∷ 1 ∷ 1 ∷ 1 ∷ 7 ∷ 7 ∷ []

abbrev pub filled : ℕ → Showing
filled w = shows (3 ∷ 5 ∷ 8 ∷ 9 ∷ 12 ∷ w ∷ 0 ∷ 0 ∷ 0 ∷ w ∷ 0 ∷ 0 ∷ [])

pub defaults-printed :
    (showing desk false desk.room desk.room 12 0 (blanks 4) ≡ filled 3003)
    × (showing desk true desk.room desk.room 12 0 (blanks 4) ≡ filled 3000)
    × (showing desk false desk.room desk.room 12 0 (blanks 1) ≡ filled 3000)
    × (showing desk false desk.room desk.room 12 0 (blanks 128) ≡ filled 3127)
unfolding showing solving read_question length_fits counts_fit laid_out parts reading read_hedge read_expr read_literal read_conj kind_of within ◌>>=◌ check search step solved run_from run_by run example filling_words
defaults-printed = (refl, refl, refl, refl)
