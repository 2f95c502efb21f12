-- Each kind of piece is written by its own writer.
use Prim.Native.Nat.{◌+◌}
use mathlib.Core.Path.{ap}
use lib.ListN.{get_or}
use lib.Seq.{slice}
use Rattle.orders.proofs.Renamed.{length-renamed}
use Rattle.plans.specs.Results.{piece_words}
use Rattle.results.specs.Marked.{bare}
use Rattle.slices.proofs.Still.{wrote-word, wrote_as, fits-as}
use native.Mathlib.Omega.{arith}
use Rattle.results.proofs.making.write_piece.Goals as goal

pub bounds-out-at : goal.bounds-out-at
bounds-out-at c = let a = c.args in
    let h = fits-as (ap (piece_words a.k.now (bare a.s) a.cut a.nth) c.in-Word.is) _ _ c.requires.1 in
    omega arith

pub copy-requires : goal.copy-requires
copy-requires c = let a = c.args in fits-as (ap (piece_words a.k.now (bare a.s) a.cut a.nth) c.in-Copy.is) _ _ c.requires.1

pub put-requires : goal.put-requires
put-requires c = let a = c.args in (c.requires.0, fits-as (ap (piece_words a.k.now (bare a.s) a.cut a.nth) c.in-Put.is) _ _ c.requires.1)

pub copy-requires-in-ToCut : goal.copy-requires-in-ToCut
copy-requires-in-ToCut c = let a = c.args in fits-as (ap (piece_words a.k.now (bare a.s) a.cut a.nth) c.in-ToCut.is) _ _ c.requires.1

pub put-requires-in-PutFromCut : goal.put-requires-in-PutFromCut
put-requires-in-PutFromCut c = let a = c.args in (c.requires.0, fits-as (ap (piece_words a.k.now (bare a.s) a.cut a.nth) c.in-PutFromCut.is) _ _ c.requires.1)

pub empty_each-requires : goal.empty_each-requires
empty_each-requires c = let a = c.args in fits-as (ap (piece_words a.k.now (bare a.s) a.cut a.nth) c.in-Each.is) _ _ c.requires.1

pub write_order-requires : goal.write_order-requires
write_order-requires c = let a = c.args in (c.requires.2, fits-as (ap (piece_words a.k.now (bare a.s) a.cut a.nth) c.in-Ordered.is) _ _ c.requires.1)

pub write_named-requires : goal.write_named-requires
write_named-requires c = let a = c.args in
    let g = c.in-Named in
    let l = length-renamed (get_or a.k.now a.s.old 0) (3000 + a.nth) (slice g.from g.to a.k.now) in
    let h = fits-as (ap (piece_words a.k.now (bare a.s) a.cut a.nth) c.in-Named.is) _ _ c.requires.1 in
    (c.requires.2, omega arith)

pub returns-in-Word : goal.returns-in-Word
returns-in-Word c = let a = c.args in wrote_as (ap (piece_words a.k.now (bare a.s) a.cut a.nth) c.in-Word.is) (wrote-word _ _ _)

pub returns-in-Copy : goal.returns-in-Copy
returns-in-Copy c = let a = c.args in wrote_as (ap (piece_words a.k.now (bare a.s) a.cut a.nth) c.in-Copy.is) c.copy.ensures

pub returns-in-Put : goal.returns-in-Put
returns-in-Put c = let a = c.args in wrote_as (ap (piece_words a.k.now (bare a.s) a.cut a.nth) c.in-Put.is) c.put.ensures

pub returns-in-ToCut : goal.returns-in-ToCut
returns-in-ToCut c = let a = c.args in wrote_as (ap (piece_words a.k.now (bare a.s) a.cut a.nth) c.in-ToCut.is) c.copy-in-ToCut.ensures

pub returns-in-PutFromCut : goal.returns-in-PutFromCut
returns-in-PutFromCut c = let a = c.args in wrote_as (ap (piece_words a.k.now (bare a.s) a.cut a.nth) c.in-PutFromCut.is) c.put-in-PutFromCut.ensures

pub returns-in-Each : goal.returns-in-Each
returns-in-Each c = let a = c.args in wrote_as (ap (piece_words a.k.now (bare a.s) a.cut a.nth) c.in-Each.is) c.empty_each.ensures

pub returns-in-Ordered : goal.returns-in-Ordered
returns-in-Ordered c = let a = c.args in wrote_as (ap (piece_words a.k.now (bare a.s) a.cut a.nth) c.in-Ordered.is) c.write_order.ensures

pub returns-in-Named : goal.returns-in-Named
returns-in-Named c = let a = c.args in wrote_as (ap (piece_words a.k.now (bare a.s) a.cut a.nth) c.in-Named.is) c.write_named.ensures
