-- Any two outcomes that the contract of `note_step` allows coincide: whether there was room, and the trail.
use Prim.Native.Nat.{ℕ}
use native.Mathlib.Omega.{arith}
use mathlib.Core.Path.{◌≡◌, sym, ap, ◌∙◌}
use mathlib.Core.Bool.{Bool}
use mathlib.Core.List.{List}
use Rattle.language.proofs.Determined.{Determined}
use Rattle.noting.specs.Noting.{Noted, there, roomless}
use Rattle.noting.specs.contracts.note_step as note_step-contract
use Rattle.noting.proofs.note_step.Reads as note_step-reads

pub one_way : {old : List ℕ} {made rule literal : ℕ} {swap r s : Bool} {new ends : List ℕ} → Noted old made rule literal swap r new → Noted old made rule literal swap s ends → (r ≡ s) × (new ≡ ends)
one_way (there a h e) (there b i d) = (a ∙ sym b, e ∙ sym d)
one_way (there a h e) (roomless b i d) = absurd (omega arith)
one_way (roomless a h e) (there b i d) = absurd (omega arith)
one_way (roomless a h e) (roomless b i d) = (a ∙ sym b, e ∙ sym d)

note-step-determined : Determined note_step-contract.ended note_step-reads.Pre note_step-reads.Post
note-step-determined κs a p o q e d = let z = one_way e d in ap (λ b. (b, o.1)) z.0 ∙ ap (λ (t : List ℕ). (q.0, (t, (tt, (tt, (tt, (tt, tt))))))) z.1
