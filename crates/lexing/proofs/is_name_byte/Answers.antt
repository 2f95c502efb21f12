-- `lexing::is_name_byte` meets its contract: the three ranges, one bound after another.
use native.Mathlib.Omega.{arith}
use Rattle.lexing.proofs.Laws.{below-0, up-to-9, below-A, up-to-Z, below-a, from-a}
use Rattle.lexing.proofs.is_name_byte.Goals as goal

pub returns-then-b-lt48 : goal.returns-then-b-lt48
returns-then-b-lt48 c = below-0 _ (omega arith)

pub returns-then-b-le57 : goal.returns-then-b-le57
returns-then-b-le57 c = up-to-9 _ (omega arith) (omega arith)

pub returns-then-b-lt65 : goal.returns-then-b-lt65
returns-then-b-lt65 c = below-A _ (omega arith) (omega arith)

pub returns-then-b-le90 : goal.returns-then-b-le90
returns-then-b-le90 c = up-to-Z _ (omega arith) (omega arith)

pub returns-then-b-lt97 : goal.returns-then-b-lt97
returns-then-b-lt97 c = below-a _ (omega arith) (omega arith)

pub returns : goal.returns
returns c = from-a _ (omega arith)
