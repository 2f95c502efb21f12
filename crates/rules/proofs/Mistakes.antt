-- Solving, trying and the example hand on the place that reading comes to, and give 0 for every outcome of their own.
use Prim.Native.Nat.{ℕ}
use mathlib.Core.Path.{◌≡◌, refl}
use mathlib.Core.Bool.{Bool, true, false, ◌&&◌, ◌||◌}
use mathlib.Core.List.{List}
use mathlib.Core.Option.{Option, none, some}
use lib.Dec.{leb, ltb, eqb}
use lib.ListN.{length, get_or}
use Rattle.language.specs.declared.Refusal.TheVariants.{ShortSlice, FillingLayout, FillingValue, LongLiteral, OpenLine, LongExample}
use Rattle.language.specs.Limits.{Limits}
use Rattle.language.specs.Kinds.{pick}
use Rattle.language.specs.Numbers.{place_of}
use Rattle.language.specs.Trees.{Counts, signature, Question}
use Rattle.language.specs.Question.{laid_out, parts, counts_of, Asked, asks, refuses, asked_place, read_question}
use Rattle.meaning.specs.Complete.{Complete}
use Rattle.meaning.specs.Values.{variables, forms, values_of, filling, Given, gives, read_filling, filling_words}
use Rattle.meaning.specs.Values as values
use Rattle.rules.specs.Solved.{solved}
use Rattle.rules.specs.Run.{Numbered, Outcome, finished, refused, run}
use Rattle.rules.specs.Answer.{Solving, answered, unread, given-up, solving_place, ran, solving_of, solving}
use Rattle.rules.specs.Example.{default_symbol, example}
use Rattle.rules.specs.Calls.{too_long, decides, trying_place, trying_with, trying_of, trying, line_at, shows, denied, showing_place, shown, showing_of, showing}
use Rattle.rules.specs.Calls as calls
use Rattle.rules.proofs.Stopping.{RunStopsBy, run-stops-by}

-- ---- solving

ran-no-place : (o : Outcome) → RunStopsBy (λ r. place_of r ≡ 0) o → solving_place (ran o) ≡ 0
ran-no-place (finished ls n) h = refl
ran-no-place (refused r) h = h

of-asked : (L : Limits) (a : Asked) → solving_place (solving_of L a) ≡ asked_place a
of-asked L (asks q) = ran-no-place (run L (signature q.counts) q.alternatives) (run-stops-by (λ r. place_of r ≡ 0) refl refl refl refl refl L (signature q.counts) q.alternatives)
of-asked L (refuses r) = refl

-- the place that reading the question comes to, where the slices are long enough
pub solving-place : (L : Limits) (work answer : ℕ) (ws : List ℕ)
    → solving_place (solving L work answer ws) ≡ pick (ltb work L.room || ltb answer L.room) 0 (asked_place (read_question L ws))
unfolding solving
solving-place L work answer ws = on (ltb work L.room) (ltb answer L.room)
  where
    on : (a b : Bool)
        → solving_place (elim a [ true ↦ unread ShortSlice | false ↦ elim b [ true ↦ unread ShortSlice | false ↦ solving_of L (read_question L ws) ] ])
        ≡ pick (a || b) 0 (asked_place (read_question L ws))
    on true b = refl
    on false true = refl
    on false false = of-asked L (read_question L ws)

-- ---- trying

abbrev NoPlace : Given → Type 0
NoPlace (gives ρ) = Unit {0}
NoPlace (values.refuses r) = place_of r ≡ 0

no_place : (L : Limits) (n : Counts) (fs : List ℕ) → NoPlace (read_filling L n fs)
unfolding read_filling
no_place L n fs = on (leb (length fs) L.filling && eqb (get_or fs 0 0) (variables n) && laid_out 1 (variables n) fs) (values_of L n (forms n) (parts 1 (variables n) fs))
  where
    on : (b : Bool) (vs : Option (List Complete))
        → NoPlace (elim b [ false ↦ values.refuses FillingLayout | true ↦ elim vs [ none ↦ values.refuses FillingValue | some vs ↦ gives (filling n vs) ] ])
    on false vs = refl
    on true none = refl
    on true (some vs) = tt

with-filling : (L : Limits) (q : Question) (g : Given) → NoPlace g → trying_place (trying_with L q g) ≡ 0
with-filling L q (gives ρ) h = on (too_long L ρ q.alternatives)
  where
    on : (b : Bool) → trying_place (elim b [ true ↦ calls.given-up LongLiteral | false ↦ decides q ρ ]) ≡ 0
    on true = refl
    on false = refl
with-filling L q (values.refuses r) h = h

tried : (L : Limits) (a : Asked) (fs : List ℕ) → trying_place (trying_of L a fs) ≡ asked_place a
tried L (asks q) fs = with-filling L q (read_filling L q.counts fs) (no_place L q.counts fs)
tried L (refuses r) fs = refl

pub trying-place : (L : Limits) (work : ℕ) (ws fs : List ℕ) → trying_place (trying L work ws fs) ≡ pick (ltb work L.room) 0 (asked_place (read_question L ws))
unfolding trying
trying-place L work ws fs = on (ltb work L.room)
  where
    on : (b : Bool) → trying_place (elim b [ true ↦ calls.unread ShortSlice | false ↦ trying_of L (read_question L ws) fs ]) ≡ pick b 0 (asked_place (read_question L ws))
    on true = refl
    on false = tried L (read_question L ws) fs

-- ---- the example

of-line : (L : Limits) (old : Bool) (n : Counts) (room : ℕ) (k : Option Numbered) → showing_place (shown L old n room k) ≡ 0
of-line L old n room none = refl
of-line L old n room (some k) =
    let fs = filling_words n (example (default_symbol old n) k.literals) in
    on (solved k.literals) fs (ltb L.filling (length fs) || ltb room (length fs))
  where
    on : (a : Bool) (fs : List ℕ) (b : Bool)
        → showing_place (elim a [ true ↦ elim b [ true ↦ denied LongExample | false ↦ shows fs ] | false ↦ denied OpenLine ]) ≡ 0
    on true fs true = refl
    on true fs false = refl
    on false fs b = refl

of-solving : (L : Limits) (old : Bool) (n : Counts) (room line : ℕ) (s : Solving) → showing_place (showing_of L old n room line s) ≡ solving_place s
of-solving L old n room line (answered ls steps) = of-line L old n room (line_at line ls)
of-solving L old n room line (unread r) = refl
of-solving L old n room line (given-up r) = refl

-- the place that solving anew comes to
pub showing-place : (L : Limits) (old : Bool) (work answer room line : ℕ) (ws : List ℕ)
    → showing_place (showing L old work answer room line ws) ≡ solving_place (solving L work answer ws)
unfolding showing
showing-place L old work answer room line ws = of-solving L old (counts_of ws) room line (solving L work answer ws)
