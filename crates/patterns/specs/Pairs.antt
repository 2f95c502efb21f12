-- The question of a pair of patterns: that they become the same report.
use Rattle.std.specs.Prelude.{ℕ, ◌+◌, Bool, ◌&&◌, ◌||◌, List, [], ◌∷◌, ◌++◌, ltb, length, Result, Ok, Err}
use Rattle.std.proofs.lemmas.List.Edits.{sets}
use Rattle.language.specs.Limits.{desk}
use Rattle.language.specs.Kinds.{pick}
use Rattle.language.specs.Trees.{Counts}
use Rattle.patterns.specs.declared.Pair.{Pair}
use Rattle.patterns.specs.declared.Unasked.{Unasked}
use Rattle.patterns.specs.declared.Unasked.TheVariants.{TooMany, TooLong}
use Rattle.patterns.specs.Blanks.{blanks_in, counted, together, nothing, apart}
use Rattle.patterns.specs.Terms.{one_term}

-- what the pair's question declares; `word` is its word 0, as it is handed on
abbrev pub of_both : ℕ → List ℕ → List ℕ → Counts
of_both word first second = together (counted word (blanks_in first)) (counted 0 (blanks_in second))

-- "25 two rules with more than" 128 "blanks of one kind together"
unfoldable pub too_many : Counts → Bool
too_many n = ltb desk.each n.terms || ltb desk.each n.hedges || ltb desk.each n.functions

-- one conjunction of one equation: the first pattern, and the second, whose blanks are numbered behind the first's
unfoldable pub pair_words : ℕ → List ℕ → List ℕ → List ℕ
pair_words word first second =
    let n = of_both word first second in
    word ∷ n.terms ∷ n.hedges ∷ n.functions ∷ 1 ∷ 7 ∷ (10 + (length first + length second)) ∷ 5000
    ∷ (apart nothing first ++ (0 ∷ (apart (counted word (blanks_in first)) second ++ (0 ∷ []))))

-- ---- what writing it answers and leaves in the slice lent for it

unfoldable pub asked : ℕ → List ℕ → List ℕ → Result Pair Unasked
asked word first second =
    let n = of_both word first second in
    pick (too_many n) (Err TooMany)
    (pick (ltb desk.question (10 + (length first + length second))) (Err TooLong)
    (Ok (record { len = 10 + (length first + length second); first = length first; terms = n.terms; hedges = n.hedges; fair = one_term first && one_term second })))

abbrev pub asked_words : Result Pair Unasked → List ℕ → List ℕ
asked_words (Err e) ws = []
asked_words (Ok p) ws = ws

unfoldable pub asked_leaves : ℕ → List ℕ → List ℕ → List ℕ → List ℕ
asked_leaves word first second slice = sets slice 0 (asked_words (asked word first second) (pair_words word first second))
