-- Any two outcomes that the contract of `show_line` allows coincide.
use mathlib.Core.Path.{sym, ap, ◌∙◌}
use Rattle.language.proofs.Determined.{Determined}
use Rattle.answer_example.specs.contracts.show_line as show_line-contract
use Rattle.answer_example.proofs.show_line.Reads as show_line-reads

-- the lines that stand in the answer
show_line-determined : Determined show_line-contract.ended show_line-reads.Pre show_line-reads.Post
show_line-determined κs a p o q e d =
    let l = p.1 in
    ap (λ z. (z, o.1)) (e.result l.ls l.is ∙ sym (d.result l.ls l.is))
    ∙ ap (λ s. (q.0, (tt, (tt, (tt, (tt, (s, tt))))))) (e.room l.ls l.is ∙ sym (d.room l.ls l.is))
