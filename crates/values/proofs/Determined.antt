-- Any two outcomes that a contract of this crate allows coincide.
use mathlib.Core.Path.{sym, ap, ◌∙◌}
use Rattle.language.specs.declared.Sym.{Sym}
use Rattle.language.proofs.Determined.{Determined}
use Rattle.values.specs.Lines.{var_of}
use Rattle.values.specs.contracts.value_len as value_len-contract
use Rattle.values.proofs.value_len.Reads as value_len-reads
use Rattle.values.specs.contracts.write_value as write_value-contract
use Rattle.values.proofs.write_value.Reads as write_value-reads

-- a length is the same for any symbol, so for this one
abbrev any : Sym
any = record { 0 = 0 }

value-len-determined : Determined value_len-contract.ended value_len-reads.Pre value_len-reads.Post
value-len-determined κs a p o q e d =
    let l = p.1 in
    let v = var_of a.1.0 in
    ap (λ z. (z, o.1)) (e.each any l.c v l.line l.settled p.2 ∙ sym (d.each any l.c v l.line l.settled p.2))

write_value-determined : Determined write_value-contract.ended write_value-reads.Pre write_value-reads.Post
write_value-determined κs a p o q e d =
    let l = p.0 in
    let v = var_of a.1.0 in
    let x = e l.c v l.line l.settled p.1 in
    let y = d l.c v l.line l.settled p.1 in
    ap (λ z. (z, o.1)) (x.end ∙ sym y.end) ∙ ap (λ s. (q.0, (tt, (tt, (tt, (s, (tt, tt))))))) (x.list ∙ sym y.list)
