-- Any two outcomes that a contract of this crate allows coincide.
use mathlib.Core.Path.{◌≡◌, refl, sym, ap}
use mathlib.Core.Logic.{◌↔◌}
use mathlib.Core.Bool.{Bool, true, false}
use Rattle.language.proofs.Determined.{Determined}
use Rattle.alike.specs.contracts.same as same-contract
use Rattle.alike.proofs.same.Reads as same-reads

-- two tests of one fact
same_test : {P : Type 0} (a b : Bool) → (a ≡ true) ↔ P → (b ≡ true) ↔ P → a ≡ b
same_test true true f g = refl
same_test false false f g = refl
same_test true false f g = sym (g.1 (f.0 refl))
same_test false true f g = f.1 (g.0 refl)

same-determined : Determined same-contract.ended same-reads.Pre same-reads.Post
same-determined κs a p o q e d = let pair = p.0 in ap (λ z. (z, o.1)) (same_test o.0 q.0 (e.means pair.g pair.h pair.it) (d.means pair.g pair.h pair.it))
