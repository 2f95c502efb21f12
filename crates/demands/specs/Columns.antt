-- "Work and answer slice": the third column of the table of numbers, and what a slice then holds.
use Rattle.std.specs.Prelude.{ℕ, List}
use Rattle.language.specs.declared.Refusal.{Refusal}
use Rattle.language.specs.declared.Refusal.TheVariants.{ShortSlice, QuestionLength, CountRange, BadOffset, NotLiterals, Undeclared, LongResult, LongWaiting, LineRoom, StepLimit, FillingLayout, FillingValue, LongLiteral, NoSuchLine, OpenLine, LongExample, NotText, ManyNames, LongText, OtherNumbers, LongWalk, SheetLayout, LongAnswers, BadStep, ShortTrail, LongTrail, TrailRoom}
use Rattle.language.specs.Limits.{desk}
use Rattle.rules.specs.Answer.{zeros, overwritten}

pub data Column : Type 0 where
  unchanged zeroed as-solved : Column

abbrev pub column : Refusal → Column
column ShortSlice = unchanged
column QuestionLength = unchanged
column CountRange = unchanged
column BadOffset = unchanged
column (NotLiterals at) = unchanged
column (Undeclared at) = unchanged
column LongResult = zeroed
column LongWaiting = zeroed
column LineRoom = zeroed
column StepLimit = zeroed
column FillingLayout = unchanged
column FillingValue = unchanged
column LongLiteral = zeroed
column NoSuchLine = as-solved
column OpenLine = as-solved
column LongExample = as-solved
column NotText = unchanged
column ManyNames = unchanged
column LongText = unchanged
column OtherNumbers = unchanged
column LongWalk = zeroed
column SheetLayout = unchanged
column LongAnswers = zeroed
column BadStep = zeroed
column ShortTrail = zeroed
column LongTrail = zeroed
column TrailRoom = zeroed

-- What a slice that held `old` holds after a refusal, if solving leaves `solved` in it. '"Zeros" covers the first' 16,384 'words; later words of a
-- longer slice stay.'
abbrev pub left_in : Column → List ℕ → List ℕ → List ℕ
left_in unchanged solved old = old
left_in zeroed solved old = overwritten desk (zeros desk) old
left_in as-solved solved old = solved
