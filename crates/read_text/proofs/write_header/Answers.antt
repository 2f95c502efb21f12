-- `read_text::write_header` meets its contract: count by count.
use Rattle.language.specs.Limits.{desk}
use Rattle.read_text.proofs.Leaves.{few-counts, least-few}
use native.Mathlib.Omega.{arith}
use Rattle.read_text.proofs.write_header.Goals as goal

pub returns : goal.returns
returns c = rw (c.put_head-6.ensures, c.put_head-5.ensures, c.put_head-4.ensures, c.put_head-3.ensures, c.put_head-2.ensures, c.put_head.ensures, c.at_least_one-s.ensures)

pub overflow_cast-s : goal.overflow_cast-s
overflow_cast-s c = let f = few-counts desk _ _ c.requires.1 in omega (arith, least-few _ desk.each f.symbol, c.at_least_one-s.ensures)

pub overflow_cast-names : goal.overflow_cast-names
overflow_cast-names c = let f = few-counts desk _ _ c.requires.1 in omega arith

pub overflow_cast-names-2 : goal.overflow_cast-names-2
overflow_cast-names-2 c = let f = few-counts desk _ _ c.requires.1 in omega arith

pub overflow_cast-names-3 : goal.overflow_cast-names-3
overflow_cast-names-3 c = let f = few-counts desk _ _ c.requires.1 in omega arith

pub overflow_cast-many : goal.overflow_cast-many
overflow_cast-many c = let f = few-counts desk _ _ c.requires.1 in omega arith

pub overflow_add-many : goal.overflow_add-many
overflow_add-many c = let f = few-counts desk _ _ c.requires.1 in omega arith

pub overflow_cast-many-2 : goal.overflow_cast-many-2
overflow_cast-many-2 c = let f = few-counts desk _ _ c.requires.1 in omega arith
