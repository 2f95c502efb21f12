-- Any two outcomes that a contract of this crate allows coincide.
use native.Mathlib.Omega.{arith}
use mathlib.Core.Path.{◌≡◌, sym, ap, ◌∙◌}
use lib.ListN.{get_or}
use lib.Seq.{sets}
use Rattle.language.specs.Question.{parts}
use Rattle.language.proofs.Determined.{Determined}
use Rattle.frames.specs.Frames.{framed}
use Rattle.waiting.specs.Waiting.{in_order}
use Rattle.waiting.specs.contracts.lay_out as lay_out-contract
use Rattle.waiting.proofs.lay_out.Reads as lay_out-reads

-- where the blocks begin follows from how long they are
lay_out-determined : Determined lay_out-contract.ended lay_out-reads.Pre lay_out-reads.Post
lay_out-determined κs a p o q e d =
    let h = e.place in
    let k = d.place in
    let z : o.0 ≡ q.0 = omega arith in
    ap (λ x. (x, o.1)) z ∙ ap (λ s. (q.0, (tt, (s, tt)))) (e.words ∙ ap (λ x. sets a.1.0.now x (framed (in_order 0 (parts 5 (get_or a.0.now 4 0) a.0.now)))) z ∙ sym d.words)
