-- `refusals::place` meets its contract: the place that a variant has, or 0.
use mathlib.Core.Path.{sym, ap}
use Rattle.language.specs.Numbers.{place_of}
use Rattle.refusals.proofs.place.Goals as goal

pub returns-in-ShortSlice : goal.returns-in-ShortSlice
returns-in-ShortSlice c = sym (ap place_of c.in-ShortSlice.is)

pub returns-in-QuestionLength : goal.returns-in-QuestionLength
returns-in-QuestionLength c = sym (ap place_of c.in-QuestionLength.is)

pub returns-in-CountRange : goal.returns-in-CountRange
returns-in-CountRange c = sym (ap place_of c.in-CountRange.is)

pub returns-in-BadOffset : goal.returns-in-BadOffset
returns-in-BadOffset c = sym (ap place_of c.in-BadOffset.is)

pub returns-in-NotLiterals : goal.returns-in-NotLiterals
returns-in-NotLiterals c = sym (ap place_of c.in-NotLiterals.is)

pub returns-in-Undeclared : goal.returns-in-Undeclared
returns-in-Undeclared c = sym (ap place_of c.in-Undeclared.is)

pub returns-in-LongResult : goal.returns-in-LongResult
returns-in-LongResult c = sym (ap place_of c.in-LongResult.is)

pub returns-in-LongWaiting : goal.returns-in-LongWaiting
returns-in-LongWaiting c = sym (ap place_of c.in-LongWaiting.is)

pub returns-in-LineRoom : goal.returns-in-LineRoom
returns-in-LineRoom c = sym (ap place_of c.in-LineRoom.is)

pub returns-in-StepLimit : goal.returns-in-StepLimit
returns-in-StepLimit c = sym (ap place_of c.in-StepLimit.is)

pub returns-in-FillingLayout : goal.returns-in-FillingLayout
returns-in-FillingLayout c = sym (ap place_of c.in-FillingLayout.is)

pub returns-in-FillingValue : goal.returns-in-FillingValue
returns-in-FillingValue c = sym (ap place_of c.in-FillingValue.is)

pub returns-in-LongLiteral : goal.returns-in-LongLiteral
returns-in-LongLiteral c = sym (ap place_of c.in-LongLiteral.is)

pub returns-in-NoSuchLine : goal.returns-in-NoSuchLine
returns-in-NoSuchLine c = sym (ap place_of c.in-NoSuchLine.is)

pub returns-in-OpenLine : goal.returns-in-OpenLine
returns-in-OpenLine c = sym (ap place_of c.in-OpenLine.is)

pub returns-in-LongExample : goal.returns-in-LongExample
returns-in-LongExample c = sym (ap place_of c.in-LongExample.is)

pub returns-in-NotText : goal.returns-in-NotText
returns-in-NotText c = sym (ap place_of c.in-NotText.is)

pub returns-in-ManyNames : goal.returns-in-ManyNames
returns-in-ManyNames c = sym (ap place_of c.in-ManyNames.is)

pub returns-in-LongText : goal.returns-in-LongText
returns-in-LongText c = sym (ap place_of c.in-LongText.is)

pub returns-in-OtherNumbers : goal.returns-in-OtherNumbers
returns-in-OtherNumbers c = sym (ap place_of c.in-OtherNumbers.is)

pub returns-in-LongWalk : goal.returns-in-LongWalk
returns-in-LongWalk c = sym (ap place_of c.in-LongWalk.is)

pub returns-in-SheetLayout : goal.returns-in-SheetLayout
returns-in-SheetLayout c = sym (ap place_of c.in-SheetLayout.is)

pub returns-in-LongAnswers : goal.returns-in-LongAnswers
returns-in-LongAnswers c = sym (ap place_of c.in-LongAnswers.is)

pub returns-in-BadStep : goal.returns-in-BadStep
returns-in-BadStep c = sym (ap place_of c.in-BadStep.is)

pub returns-in-ShortTrail : goal.returns-in-ShortTrail
returns-in-ShortTrail c = sym (ap place_of c.in-ShortTrail.is)

pub returns-in-LongTrail : goal.returns-in-LongTrail
returns-in-LongTrail c = sym (ap place_of c.in-LongTrail.is)

pub returns-in-TrailRoom : goal.returns-in-TrailRoom
returns-in-TrailRoom c = sym (ap place_of c.in-TrailRoom.is)
