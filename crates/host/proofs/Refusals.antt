-- Which numbers a question's reading and its run can give: 1 to 6 before the run, 7 to 10 and 21 from it.
use Prim.Native.Nat.{ℕ, ◌≤◌}
use mathlib.Core.Path.{◌≡◌, refl}
use mathlib.Core.Logic.{◌⊎◌, inl, inr}
use mathlib.Core.Bool.{Bool, true, false}
use mathlib.Core.List.{List}
use lib.Dec.{lit≤, ltb}
use Rattle.language.specs.declared.Refusal.{Refusal}
use Rattle.language.specs.declared.Refusal.TheVariants.{ShortSlice, QuestionLength, CountRange, BadOffset, NotLiterals}
use Rattle.language.specs.Limits.{Limits}
use Rattle.language.specs.Numbers.{number_of}
use Rattle.language.specs.Trees.{Conj, signature}
use Rattle.language.specs.Reading.{Got, got, stop}
use Rattle.language.specs.Question.{Asked, asks, refuses, read_question, length_fits, counts_fit, laid_out, read_all, parts, declared_q, counts_of, alternatives_of}
use Rattle.rules.specs.Run.{Outcome, finished, refused, run}
use Rattle.rules.specs.Answer.{Solving, answered, unread, given-up, ran, solving_of, solving}
use Rattle.rules.proofs.Stopping.{RunStopsBy, run-stops-by}

abbrev pub Between : ℕ → ℕ → Refusal → Type 0
Between low high r = (low ≤ number_of r) × (number_of r ≤ high)

-- ---- the reading

abbrev pub Early : Asked → Type 0
Early (asks q) = Unit {0}
Early (refuses r) = Between 1 6 r

tested : (b : Bool) (r : Refusal) (x : Asked) → Between 1 6 r → Early x → Early (elim b [ false ↦ refuses r | true ↦ x ])
tested false r x h e = h
tested true r x h e = e

read : (o : Got (List Conj)) (at : ℕ → ℕ) (go : List Conj → Asked) → ((ks : List Conj) → Early (go ks)) → Early (elim o [ stop n ↦ refuses (NotLiterals (at n)) | got ks n ↦ go ks ])
read (stop n) at go h = (lit≤ tt, lit≤ tt)
read (got ks n) at go h = h ks

pub early : (L : Limits) (ws : List ℕ) → Early (read_question L ws)
unfolding read_question
early L ws =
    tested (length_fits L ws) QuestionLength _ (lit≤ tt, lit≤ tt)
    (tested (counts_fit L (counts_of ws) (alternatives_of ws)) CountRange _ (lit≤ tt, lit≤ tt)
    (tested (laid_out 5 (alternatives_of ws) ws) BadOffset _ (lit≤ tt, lit≤ tt)
    (read (read_all L (parts 5 (alternatives_of ws) ws)) _ _
    (λ ks. tested (declared_q (counts_of ws) ks) _ _ (lit≤ tt, lit≤ tt) tt))))

-- ---- solving

-- from a run
abbrev Late : Refusal → Type 0
Late r = (7 ≤ number_of r) × ((number_of r ≤ 10) ⊎ (number_of r ≡ 21))

-- "1 to 6 ..: unchanged"; "7 to 10: zeros", and 21
abbrev pub InRange : Solving → Type 0
InRange (answered ls n) = Unit {0}
InRange (unread r) = Between 1 6 r
InRange (given-up r) = Late r

-- what becomes of an answer's bytes asks for no more: 1 to 6 before the run, and 7 or more from it
abbrev pub InOrder : Solving → Type 0
InOrder (answered ls n) = Unit {0}
InOrder (unread r) = Between 1 6 r
InOrder (given-up r) = 7 ≤ number_of r

pub in_order : (s : Solving) → InRange s → InOrder s
in_order (answered ls n) h = tt
in_order (unread r) h = h
in_order (given-up r) h = h.0

range-run : (o : Outcome) → RunStopsBy Late o → InRange (ran o)
range-run (finished ls n) h = tt
range-run (refused r) h = h

range-asked : (L : Limits) (a : Asked) → Early a → InRange (solving_of L a)
range-asked L (asks q) h =
    range-run (run L (signature q.counts) q.alternatives)
    (run-stops-by Late (lit≤ tt, inl (lit≤ tt)) (lit≤ tt, inl (lit≤ tt)) (lit≤ tt, inl (lit≤ tt)) (lit≤ tt, inl (lit≤ tt)) (lit≤ tt, inr refl) L (signature q.counts) q.alternatives)
range-asked L (refuses r) h = h

range-tested : (b : Bool) (s : Solving) → InRange s → InRange (elim b [ true ↦ unread ShortSlice | false ↦ s ])
range-tested true s h = (lit≤ tt, lit≤ tt)
range-tested false s h = h

pub in-range : (L : Limits) (work answer : ℕ) (ws : List ℕ) → InRange (solving L work answer ws)
unfolding solving
in-range L work answer ws =
    range-tested (ltb work L.room) _ (range-tested (ltb answer L.room) _ (range-asked L (read_question L ws) (early L ws)))
