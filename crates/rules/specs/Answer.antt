-- The answer's words and what solving a question comes to.
use Rattle.std.specs.Prelude.{ℕ, suc, ◌+◌, ◌-◌, true, false, List, [], ◌∷◌, ◌++◌, map, ltb, length, drop, replicate}
use Rattle.language.specs.declared.Refusal.{Refusal}
use Rattle.language.specs.declared.Refusal.TheVariants.{ShortSlice}
use Rattle.language.specs.Limits.{Limits}
use Rattle.language.specs.Numbers.{place_of}
use Rattle.language.specs.Kinds.{pick}
use Rattle.language.specs.Trees.{Conj, signature}
use Rattle.language.specs.Writing.{conj_words}
use Rattle.language.specs.Question.{Asked, asks, refuses, read_question}
use Rattle.meaning.specs.Values.{offsets_of, joined}
use Rattle.rules.specs.Solved.{solved}
use Rattle.rules.specs.Run.{Numbered, lines_at, Outcome, finished, refused, run}

-- "a mark (1 solved, 2 open)"
abbrev pub mark_of : Conj → ℕ
mark_of k = pick (solved k) 1 2

-- and "in a word after the mark" the number of the alternative that it descends from
abbrev pub line_words : Numbered → List ℕ
line_words k = mark_of k.literals ∷ k.number ∷ conj_words k.literals

abbrev pub count_open : List Numbered → ℕ
count_open [] = 0
count_open (k ∷ ks) = pick (solved k.literals) (count_open ks) (suc (count_open ks))

-- zeros up to n words
abbrev pub padded : ℕ → List ℕ → List ℕ
padded n ws = ws ++ replicate (n - length ws) 0

-- "Word 0: lines; word 1: open lines; words 2..514: the offset of each line and the end of the last, then zeros; from 515 the lines .."
abbrev pub answer_body : Limits → List Numbered → List ℕ
answer_body L ls =
    let ws = map line_words ls in
    padded (lines_at L) (length ls ∷ count_open ls ∷ offsets_of (lines_at L) ws) ++ joined ws

-- "; then zeros"
unfoldable pub answer_words : Limits → List Numbered → List ℕ
answer_words L ls = padded L.room (answer_body L ls)

unfoldable pub zeros : Limits → List ℕ
zeros L = replicate L.room 0

-- "Zeros" covers the first words of a lent slice, as an answer does; "later words of a longer slice stay"
abbrev pub overwritten : Limits → List ℕ → List ℕ → List ℕ
overwritten L ws old = ws ++ drop L.room old

-- ---- solving

-- "none, all solved, some open"
pub data Verdict : Type 0 where
  no_line all_solved some_open : Verdict

abbrev pub verdict_of : List Numbered → Verdict
verdict_of [] = no_line
verdict_of (k ∷ ks) = pick (ltb 0 (count_open (k ∷ ks))) some_open all_solved

-- the lines and the steps of an answered question; a refusal before the run, which changes nothing; a refusal of the run, which leaves zeros
pub data Solving : Type 0 where
  answered : List Numbered → ℕ → Solving
  unread : Refusal → Solving
  given-up : Refusal → Solving

-- "Solving .. hand[s] that place on"
abbrev pub solving_place : Solving → ℕ
solving_place (answered ls n) = 0
solving_place (unread r) = place_of r
solving_place (given-up r) = place_of r

abbrev pub ran : Outcome → Solving
ran (finished ls n) = answered ls n
ran (refused r) = given-up r

abbrev pub solving_of : Limits → Asked → Solving
solving_of L (asks q) = ran (run L (signature q.counts) q.alternatives)
solving_of L (refuses r) = unread r

-- for a work and an answer slice of so many words: 1 before 2 to 10
unfoldable pub solving : Limits → ℕ → ℕ → List ℕ → Solving
solving L work answer ws =
    elim (ltb work L.room) [
      | true ↦ unread ShortSlice
      | false ↦
          elim (ltb answer L.room) [ true ↦ unread ShortSlice | false ↦ solving_of L (read_question L ws) ]
    ]
