-- The numbers of the refusals: none is 0.
use Prim.Native.Nat.{◌≤◌}
use lib.Dec.{lit≤}
use Rattle.language.specs.declared.Refusal.{Refusal}
use Rattle.language.specs.declared.Refusal.TheVariants.{ShortSlice, QuestionLength, CountRange, BadOffset, NotLiterals, Undeclared, LongResult, LongWaiting, LineRoom, StepLimit, FillingLayout, FillingValue, LongLiteral, NoSuchLine, OpenLine, LongExample, NotText, ManyNames, LongText, OtherNumbers, LongWalk, SheetLayout, LongAnswers, BadStep, ShortTrail, LongTrail, TrailRoom}
use Rattle.language.specs.Numbers.{number_of}

pub each_number : (r : Refusal) → (1 ≤ number_of r) × (number_of r ≤ 29)
each_number ShortSlice = (lit≤ tt, lit≤ tt)
each_number QuestionLength = (lit≤ tt, lit≤ tt)
each_number CountRange = (lit≤ tt, lit≤ tt)
each_number BadOffset = (lit≤ tt, lit≤ tt)
each_number (NotLiterals at) = (lit≤ tt, lit≤ tt)
each_number (Undeclared at) = (lit≤ tt, lit≤ tt)
each_number LongResult = (lit≤ tt, lit≤ tt)
each_number LongWaiting = (lit≤ tt, lit≤ tt)
each_number LineRoom = (lit≤ tt, lit≤ tt)
each_number StepLimit = (lit≤ tt, lit≤ tt)
each_number FillingLayout = (lit≤ tt, lit≤ tt)
each_number FillingValue = (lit≤ tt, lit≤ tt)
each_number LongLiteral = (lit≤ tt, lit≤ tt)
each_number NoSuchLine = (lit≤ tt, lit≤ tt)
each_number OpenLine = (lit≤ tt, lit≤ tt)
each_number LongExample = (lit≤ tt, lit≤ tt)
each_number NotText = (lit≤ tt, lit≤ tt)
each_number ManyNames = (lit≤ tt, lit≤ tt)
each_number LongText = (lit≤ tt, lit≤ tt)
each_number OtherNumbers = (lit≤ tt, lit≤ tt)
each_number LongWalk = (lit≤ tt, lit≤ tt)
each_number SheetLayout = (lit≤ tt, lit≤ tt)
each_number LongAnswers = (lit≤ tt, lit≤ tt)
each_number BadStep = (lit≤ tt, lit≤ tt)
each_number ShortTrail = (lit≤ tt, lit≤ tt)
each_number LongTrail = (lit≤ tt, lit≤ tt)
each_number TrailRoom = (lit≤ tt, lit≤ tt)
