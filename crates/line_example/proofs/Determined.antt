-- Any two outcomes that the contract of `fill_line` allows coincide.
use mathlib.Core.Path.{refl, sym, ap, ◌∙◌}
use Rattle.language.specs.Trees.{Counts}
use Rattle.language.proofs.Determined.{Determined}
use Rattle.line_example.specs.Fillings.{Counted}
use Rattle.line_example.specs.contracts.fill_line as fill_line-contract
use Rattle.line_example.proofs.fill_line.Reads as fill_line-reads

-- the counts that were handed on, with any number of symbols, unordered or not
fill_line-determined : Determined fill_line-contract.ended fill_line-reads.Pre fill_line-reads.Post
fill_line-determined κs a p o q e d =
    let l = p.4 in
    let n : Counts = record { symbols = 0; unordered = 0; terms = a.1.0; hedges = a.1.1.0; functions = a.1.1.1.0 } in
    let m : Counted n a.1.0 a.1.1.0 a.1.1.1.0 = record { terms = refl; hedges = refl; functions = refl } in
    ap (λ z. (z, o.1)) (e.result l.c n l.line l.settled m ∙ sym (d.result l.c n l.line l.settled m))
    ∙ ap (λ s. (q.0, (tt, (tt, (tt, (tt, (tt, (s, tt)))))))) (e.room l.c n l.line l.settled m ∙ sym (d.room l.c n l.line l.settled m))
