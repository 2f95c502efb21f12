-- A frame and a part, stored in a row.
use Prim.Native.Nat.{ℕ, ◌-◌, ◌≤◌}
use native.Mathlib.Omega.{arith}
use mathlib.Core.Path.{refl}
use lib.Seq.{slice, length-slice}
use borrow.Author.Rules.{rules}
use Rattle.frames.specs.Frames.{frame}
use Rattle.waiting.proofs.Pushing.{stored}
use Rattle.waiting.proofs.push.Goals as goal

pub copy-requires : goal.copy-requires
copy-requires c = let n = length-slice c.args.from c.args.to c.args.src.now c.requires.1 in
    search rules

pub returns : goal.returns
returns c = let a = c.args in
    let start : ℕ = a.at - (a.to - a.from) in
    let h : frame ≤ start = omega arith in
    (omega arith, stored a.work.now _ _ (slice a.from a.to a.src.now) start _ _ a.number c.write_frame.ensures c.copy.ensures.list refl h)
