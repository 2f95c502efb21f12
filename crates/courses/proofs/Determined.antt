-- Any two outcomes that a contract of this crate allows coincide.
use Prim.Native.Nat.{ℕ}
use mathlib.Core.Path.{◌≡◌, sym, ap, ◌∙◌}
use mathlib.Core.Bool.{Bool}
use mathlib.Core.List.{List}
use Rattle.language.proofs.Determined.{Determined}
use Rattle.search.specs.declared.Best.{Best}
use Rattle.views.specs.Standing.{SomeLiteral}
use Rattle.noting.proofs.Determined.{one_way}
use Rattle.courses.specs.declared.Course.{Course}
use Rattle.courses.specs.declared.Course.TheVariants.{First, Noted, Told}
use Rattle.courses.specs.Steps.{NotedStep}
use Rattle.courses.specs.contracts.one_more as one_more-contract
use Rattle.courses.proofs.one_more.Reads as one_more-reads
use Rattle.courses.specs.contracts.note as note-contract
use Rattle.courses.proofs.note.Reads as note-reads

one-more-determined : Determined one_more-contract.ended one_more-reads.Pre one_more-reads.Post
one-more-determined κs a p o q e d = ap (λ z. (z, o.1)) (e ∙ sym d)

noted_one : (k : List ℕ) (b : Best) (made : ℕ) (course : Course) (old : List ℕ) (r s : Bool) (new other : List ℕ) → SomeLiteral k b.at
    → NotedStep k b made course old r new → NotedStep k b made course old s other → (r ≡ s) × (new ≡ other)
noted_one k b made First old r s new other x e d = (e.0 ∙ sym d.0, e.1 ∙ sym d.1)
noted_one k b made Noted old r s new other x e d = one_way (e x.before x.l x.behind x.stands) (d x.before x.l x.behind x.stands)
noted_one k b made Told old r s new other x e d = (e.0 ∙ sym d.0, e.1 ∙ sym d.1)

note-determined : Determined note-contract.ended note-reads.Pre note-reads.Post
note-determined κs a p o q e d =
    let z = noted_one _ a.1.0 a.1.1.0 a.1.1.1.1.0 _ o.0 q.0 o.1.1.1.1.0 q.1.1.1.1.0 p.1 e d in
    ap (λ b. (b, o.1)) z.0 ∙ ap (λ (t : List ℕ). (q.0, (tt, (tt, (tt, (t, (tt, tt))))))) z.1
