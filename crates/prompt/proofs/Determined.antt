-- Any two outcomes that a contract of this crate allows coincide.
use mathlib.Core.Path.{◌≡◌, sym, ap, ap₂, ◌∙◌}
use Rattle.language.proofs.Determined.{Determined}
use Rattle.prompt.specs.declared.Text.{Text}
use Rattle.prompt.specs.contracts.parse as parse-contract
use Rattle.prompt.proofs.parse.Reads as parse-reads

parse-determined : Determined parse-contract.ended parse-reads.Pre parse-reads.Post
parse-determined κs a p o q e d =
    let text : (n l c : _) → Text = λ n l c. record { words = n; line = l; column = c } in
    let same : o.0 ≡ q.0 = ap (λ n. text n o.0.line o.0.column) (e.count ∙ sym d.count) ∙ ap₂ (text q.0.words) (e.line ∙ sym d.line) (e.column ∙ sym d.column) in
    ap₂ (λ t s. (t, (tt, (s, tt)))) same (e.words ∙ sym d.words)
