-- Any two outcomes that a contract of this crate allows coincide.
use mathlib.Core.Path.{◌≡◌, sym, ap, ◌∙◌}
use Rattle.language.proofs.Determined.{Determined}
use Rattle.answers.specs.declared.Tally.{Tally}
use Rattle.answers.specs.Lined.{with_line}
use Rattle.answers.specs.contracts.begin as begin-contract
use Rattle.answers.proofs.begin.Reads as begin-reads
use Rattle.answers.specs.contracts.add_line as add_line-contract
use Rattle.answers.proofs.add_line.Reads as add_line-reads

same-tally : (t u : Tally) → t.lines ≡ u.lines → t.«open» ≡ u.«open» → t.end ≡ u.end → t ≡ u
same-tally t u a b c =
    ap (λ n. record { lines = n; «open» = t.«open»; end = t.end }) a ∙ ap (λ n. record { lines = u.lines; «open» = n; end = t.end }) b
    ∙ ap (λ n. record { lines = u.lines; «open» = u.«open»; end = n }) c

begin-determined : Determined begin-contract.ended begin-reads.Pre begin-reads.Post
begin-determined κs a p o q e d =
    ap (λ t. (t, o.1)) (same-tally o.0 q.0 (e.lines ∙ sym d.lines) (e.«open» ∙ sym d.«open») (e.end ∙ sym d.end))
    ∙ ap (λ s. (q.0, (s, tt))) (e.words ∙ sym d.words)

add_line-determined : Determined add_line-contract.ended add_line-reads.Pre add_line-reads.Post
add_line-determined κs a p o q e d =
    let z : o.0 ≡ q.0 = e.0 ∙ sym d.0 in
    ap (λ t. (t, o.1)) z
    ∙ ap (λ s. (q.0, (tt, (tt, (tt, (tt, (s, tt))))))) (e.1 ∙ ap (λ t. with_line a.1.1.1.0 t a.1.0 a.1.1.0 a.0.now a.1.1.1.1.0.now) z ∙ sym d.1)
