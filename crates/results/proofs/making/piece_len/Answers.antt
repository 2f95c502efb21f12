-- Each kind of piece has the length that its own function finds.
use Prim.Native.Nat.{◌*◌}
use mathlib.Core.Path.{sym, ap, ◌∙◌}
use lib.ListN.{get_or}
use lib.Seq.{slice}
use Rattle.orders.proofs.Renamed.{length-renamed}
use Rattle.plans.specs.Results.{piece_words}
use Rattle.results.specs.Marked.{bare}
use Rattle.slices.proofs.Still.{counted-as}
use Rattle.results.proofs.Replaced.{length-empty-each}
use Rattle.results.proofs.making.piece_len.Goals as goal

pub returns-in-Copy : goal.returns-in-Copy
returns-in-Copy c = let a = c.args in counted-as (ap (piece_words a.k.now (bare a.s) a.cut 0) c.in-Copy.is) c.part_len.ensures

pub returns-in-Put : goal.returns-in-Put
returns-in-Put c = let a = c.args in counted-as (ap (piece_words a.k.now (bare a.s) a.cut 0) c.in-Put.is) c.put_len.ensures

pub returns-in-ToCut : goal.returns-in-ToCut
returns-in-ToCut c = let a = c.args in counted-as (ap (piece_words a.k.now (bare a.s) a.cut 0) c.in-ToCut.is) c.part_len-in-ToCut.ensures

pub returns-in-PutFromCut : goal.returns-in-PutFromCut
returns-in-PutFromCut c = let a = c.args in counted-as (ap (piece_words a.k.now (bare a.s) a.cut 0) c.in-PutFromCut.is) c.put_len-in-PutFromCut.ensures

pub returns-in-Each : goal.returns-in-Each
returns-in-Each c = let a = c.args in
    let g = c.in-Each in
    counted-as (ap (piece_words a.k.now (bare a.s) a.cut 0) c.in-Each.is) (ap (λ n. 4 * n) c.part_len-in-Each.ensures ∙ sym (length-empty-each (slice g.from g.to a.k.now)))

pub returns-in-Ordered : goal.returns-in-Ordered
returns-in-Ordered c = let a = c.args in counted-as (ap (piece_words a.k.now (bare a.s) a.cut 0) c.in-Ordered.is) c.order_len.ensures

pub returns-in-Named : goal.returns-in-Named
returns-in-Named c = let a = c.args in
    let g = c.in-Named in
    counted-as (ap (piece_words a.k.now (bare a.s) a.cut 0) c.in-Named.is)
    (c.part_len-in-Named.ensures ∙ sym (length-renamed (get_or a.k.now a.s.old 0) 3000 (slice g.from g.to a.k.now)))
