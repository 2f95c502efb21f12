-- `prompt::with_digit` meets its contract: a number under 65,536, or one that is no word.
use native.Mathlib.Omega.{arith}
use Rattle.prompt.proofs.Bytes.{number_fits, number-too-large}
use Rattle.prompt.proofs.with_digit.Goals as goal

pub overflow_sub-more : goal.overflow_sub-more
overflow_sub-more c = omega arith

pub returns-then-more-lt65536 : goal.returns-then-more-lt65536
returns-then-more-lt65536 c = number_fits _ _ _ _ c.wide.ensures c.wide_byte.ensures c.if-more-lt65536.true

pub returns : goal.returns
returns c = number-too-large _ _ _ _ c.wide.ensures c.wide_byte.ensures c.if-more-lt65536.false
