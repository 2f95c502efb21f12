-- What each demand comes to for a caller: theorems of any outcome that the contracts of the calls allow, from the words that the caller holds.
-- Nothing is known of a call but its contract (`allowed` beside each kind of call). The proofs are cited.
use Prim.Native.Nat.{ℕ, ◌≤◌, ◌<◌}
use mathlib.Core.Path.{◌≡◌}
use mathlib.Core.Logic.{◌⊎◌, ◌↔◌}
use mathlib.Core.List.{List}
use mathlib.Core.Option.{some}
use lib.ListN.{length, take, get_or}
use Rattle.std.specs.Prelude.{Ok, Err, true}
use Rattle.language.specs.declared.Refusal.{Refusal}
use Rattle.language.specs.declared.Refusal.TheVariants.{LongLiteral, LongExample}
use Rattle.language.specs.Limits.{desk}
use Rattle.language.specs.Mistakes.{RightPlace}
use Rattle.language.specs.Numbers.{number_of}
use Rattle.language.specs.Trees.{Question}
use Rattle.language.specs.Question.{asks, read_question}
use Rattle.meaning.specs.Meaning.{Filling, MeetsQuestion}
use Rattle.rules.specs.Each.{Each}
use Rattle.lines.specs.Matching.{Matching}
use Rattle.outcomes.specs.declared.Outcome.TheVariants.{Refused, NoLine}
use Rattle.outcomes.specs.Numbers.{SolveNumbers, outcome_number, solved_numbers, shown_numbers}
use Rattle.word_bytes.specs.Bytes.{words_of, words_in}
use Rattle.host.specs.Numbers.{asks_old}
use Rattle.demands.specs.Solves.{Solve}
use Rattle.demands.specs.Tries.{Try}
use Rattle.demands.specs.Examples.{Example}
use Rattle.demands.specs.HostCalls.{DeskSolve, DeskTry, DeskExample, DeskPlace, DeskDay}
use Rattle.demands.specs.Answers.{Line, nth_line}
use Rattle.demands.specs.Promises.{Promised, Answered, example_words, RoomShows, Told}
use Rattle.demands.specs.Before.{solved_before, exhibited_before, TriedBefore}
use Rattle.demands.specs.Table.{SolveFault, TryFault, First}
use Rattle.demands.specs.Tells.{SolvingNumber, SolveTells, TryTells, ExampleTells, TryAgrees}
use Rattle.demands.specs.HostTells.{DeskSolveTells, DeskTryTells, DeskTryAgrees, BytesTold, DeskExampleTells, DeskPlaceTells}
use Rattle.demands.proofs.Before as was
use Rattle.demands.specs.DayTells.{AnswersIn, DeskDayTells}
use Rattle.demands.proofs.Between as between
use Rattle.demands.proofs.Solving as solving
use Rattle.demands.proofs.Showing as showing
use Rattle.demands.proofs.Trying as trying
use Rattle.demands.proofs.Given as goal
use Rattle.demands.proofs.Hosting as hosting
use Rattle.demands.proofs.Places as places
use Rattle.demands.proofs.Days as days

-- ---- demand 1: it refuses a bad question itself, and what it leaves is fixed

-- Solving refuses with 1 to 10 or 21 and leaves what the table's third column says, or it answers, and leaves zeros and the answer.
pub solve-tells : (c : Solve) → SolveTells c
solve-tells = solving.tells

-- A number comes back exactly when the table says so: its condition holds, and that of no smaller number does.
pub solve-given : (c : Solve) (e : Refusal) → (c.returned.outcome ≡ Refused e) ↔ First (SolveFault (length c.work) (length c.answer) c.question) e
solve-given = goal.solve-given

-- Trying refuses with 1 to 6, 11, 12 or 13 and leaves what the third column says, or it says yes or no, and leaves zeros.
pub try-tells : (t : Try) → TryTells t
try-tells = goal.try-tells

pub try-given : (t : Try) (e : Refusal) → (t.returned ≡ Err e) ↔ First (TryFault (length t.work) t.question t.filling) e
try-given = goal.try-given

-- The example refuses as solving does, or the line that is read off the answer decides: 14, 15, 16, or its example in the room;
pub example-tells : (c : Example) → ExampleTells c
example-tells = showing.tells

-- and 1 to 10 and 21 come back exactly when the table says so.
pub example-given : (c : Example) (e : Refusal) → SolvingNumber (number_of e)
    → (c.returned ≡ Err e) ↔ First (SolveFault (length c.work) (length c.answer) c.question) e
example-given = showing.example-given

-- The place that comes back with 5 and 6 is that of the mistake: for 5 the first word that cannot continue a literal, or the conjunction's end, and
-- for 6 the first undeclared number. With every other number it is 0.
pub solve-place : (c : Solve) (e : Refusal) → c.returned.outcome ≡ Refused e → RightPlace desk c.question e
solve-place = places.solve-right

pub try-place : (t : Try) (e : Refusal) → t.returned ≡ Err e → RightPlace desk t.question e
try-place = places.try-right

pub example-place : (c : Example) (e : Refusal) → c.returned ≡ Err e → RightPlace desk c.question e
example-place = places.example-right

-- ---- demand 2 and demand 3, of an answer

-- Where the number is 0, the lines read off the answer's words are those of the published rules, in their order, with their marks, after as many
-- steps (`by-rules`); any filling meets the question exactly when it meets one of them (`exact`); and what comes back is what they say.
pub solve-answers : (c : Solve) → outcome_number c.returned.outcome ≡ 0 → Answered c.question c.answer_left c.returned
solve-answers c z = (solving.solves c z).answered.answered

-- "none" is a promise: where it comes back, no filling meets the question.
pub none-is-none : (c : Solve) → c.returned.outcome ≡ NoLine → (asked : Question) × (read_question desk c.question ≡ asks asked) × ((ρ : Filling) → ¬ MeetsQuestion ρ asked)
none-is-none = solving.none

-- If within each alternative every equation has a side without blanks, and each blank of a shape test also stands in an equation of that
-- alternative, the count of open lines that comes back is 0.
pub matching-none-open : (c : Solve) → ((asked : Question) → read_question desk c.question ≡ asks asked → Each Matching asked.alternatives) → c.returned.«open» ≡ 0
matching-none-open = solving.none_open

-- Two answers to one question have the same lines, whoever gave them.
pub one_answer : {q r : List ℕ} → q ≡ r → {a b : List ℕ} (p : Promised q a) (o : Promised r b) → (p.asked ≡ o.asked) × (p.lines ≡ o.lines)
one_answer = between.one_answer

-- ---- "Questions with u = 0 answer as before"

-- A question whose first word is a number of symbols alone is solved as before there were unordered symbols: the same comes back, and the same words
-- stand in the slices;
pub solve-as-before : (c : Solve) → get_or c.question 0 0 < 256
    → ◌≡◌ {A = SolveNumbers × List ℕ × List ℕ} (solved_numbers c.returned, c.work_left, c.answer_left) (solved_before c.question c.work c.answer)
solve-as-before = was.solve-before

-- a line's example is as before;
pub example-as-before : (c : Example) → get_or c.question 0 0 < 256
    → ◌≡◌ {A = (ℕ × ℕ × ℕ) × List ℕ × List ℕ × List ℕ} (shown_numbers c.returned, c.work_left, c.answer_left, c.room_left) (exhibited_before c.line c.old_sheets c.question c.work c.answer c.room)
example-as-before = was.example-before

-- and yes and no are those of the meaning in which the same is equal.
pub try-as-before : (t : Try) → get_or t.question 0 0 < 256 → (q : Question) → read_question desk t.question ≡ asks q → TriedBefore t q
try-as-before = was.try-before

-- ---- demand 3, of an example

-- A length comes back only for a settled line, and then the room's words are read back as a filling that meets that very line;
pub shows-only-so : (c : Example) (m : ℕ) → c.returned ≡ Ok m
    → (p : Promised c.question c.answer_left) × (k : Line) × (nth_line c.line p.lines ≡ some k) × (k.mark ≡ 1) × RoomShows c.old_sheets p.asked.counts k m c.room c.room_left
shows-only-so = showing.shows-so

-- and 16 only where the line's example is longer than the room lent or than a filling may be.
pub long-only-so : (c : Example) → c.returned ≡ Err LongExample
    → (p : Promised c.question c.answer_left) × (k : Line) × (nth_line c.line p.lines ≡ some k) × (k.mark ≡ 1)
    × ((desk.filling < length (example_words c.old_sheets p.asked.counts k)) ⊎ (length c.room < length (example_words c.old_sheets p.asked.counts k)))
long-only-so = showing.long-so

-- After solve has answered, the lines that it left decide what the example tells of the same question, in slices that are long enough: a settled
-- line is shown, or its example is too long (16).
pub example-follows : (s : Solve) → outcome_number s.returned.outcome ≡ 0 → (c : Example) → s.question ≡ c.question
    → desk.room ≤ length c.work → desk.room ≤ length c.answer → (p : Promised s.question s.answer_left)
    → Told c.old_sheets p.asked.counts c.room (nth_line c.line p.lines) c.returned c.room_left
example-follows = showing.follows

-- ---- demand 3, of a filling that is tried

-- A filling in words gets yes where it meets one of the lines of an answer to the same question, and no where it meets none.
pub try-agrees : (t : Try) {question answer : List ℕ} → t.question ≡ question → (p : Promised question answer) → TryAgrees p t.filling t.returned
try-agrees = trying.agrees

-- The words that an example showed, tried on the same question, get yes, or 13 where a literal filled in is too long.
pub shown-then-tried : (t : Try) (c : Example) (m : ℕ) → c.returned ≡ Ok m → t.question ≡ c.question → t.filling ≡ take m c.room_left
    → desk.room ≤ length t.work → (t.returned ≡ Ok true) ⊎ (t.returned ≡ Err LongLiteral)
shown-then-tried = trying.shown-tried

-- ---- the same for the C program, on bytes

-- The number is 0 to 10, each exactly when the table says so, and the answer's bytes are what the table says.
pub desk-solve-tells : (c : DeskSolve) → DeskSolveTells c
desk-solve-tells = hosting.solve-tells

-- Where it is 0, the words of the answer's bytes keep demands 2 and 3.
pub desk-solve-promises : (c : DeskSolve) → c.number ≡ 0 → Promised (words_in c.question) (words_of c.answer_left)
desk-solve-promises = hosting.solve-promises

-- 101 is yes, 100 is no, and all else is a number of the table, exactly when the table says so;
pub desk-try-tells : (t : DeskTry) → DeskTryTells t
desk-try-tells = hosting.try-tells

-- 101 and 100 are what the lines say in the bytes that desk_solve left;
pub desk-try-agrees : (t : DeskTry) {question answer : List ℕ} → t.question ≡ question → (p : Promised (words_in question) answer) → DeskTryAgrees p t.filling t.number
desk-try-agrees = hosting.try-agrees

-- desk_example refuses as desk_solve does, exactly when the table says so, or the line of that number in the answer decides;
pub desk-example-tells : (c : DeskExample) → DeskExampleTells c
desk-example-tells = hosting.example-tells

-- and the lines in the bytes that desk_solve left decide what desk_example tells: 14, 15, 16, or 100 and a length, with a filling in the room that meets that very line.
pub desk-example-follows : (s : DeskSolve) → s.number ≡ 0 → (c : DeskExample) → s.question ≡ c.question → (p : Promised (words_in s.question) (words_of s.answer_left))
    → BytesTold (asks_old c.old) p.asked.counts (nth_line c.line p.lines) c.room c.number c.room_left
desk-example-follows = hosting.example-follows

-- desk_place gives the place of the question's first fault, by the table's order, and 0 where it has none.
pub desk-place-tells : (c : DeskPlace) → DeskPlaceTells c
desk-place-tells = places.place-tells

-- ---- a day's sheets in one call

-- desk_day gives 22 exactly for a sheet whose header is none, and changes nothing then; 23 where the answers do not fit, and leaves zeros; and else 0.
pub desk-day-tells : (c : DeskDay) → DeskDayTells c
desk-day-tells = days.day-tells

-- Where it is 0, the answers stand in the room in the layout of the sheet, as many as there are questions, and each is what any call of desk_solve
-- gives for that question by itself.
pub desk-day-answers : (c : DeskDay) → c.number ≡ 0 → AnswersIn c
desk-day-answers = days.day-answers
