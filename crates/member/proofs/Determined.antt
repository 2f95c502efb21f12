-- Any two outcomes that a contract of this crate allows coincide.
use mathlib.Core.Path.{◌≡◌, refl, sym, ap}
use mathlib.Core.Logic.{◌↔◌}
use mathlib.Core.Bool.{Bool, true, false}
use Rattle.language.proofs.Determined.{Determined}
use Rattle.member.specs.contracts.member as member-contract
use Rattle.member.proofs.member.Reads as member-reads

-- two tests of one fact
same_test : {P : Type 0} (a b : Bool) → (a ≡ true) ↔ P → (b ≡ true) ↔ P → a ≡ b
same_test true true f g = refl
same_test false false f g = refl
same_test true false f g = sym (g.1 (f.0 refl))
same_test false true f g = f.1 (g.0 refl)

member-determined : Determined member-contract.ended member-reads.Pre member-reads.Post
member-determined κs a p o q e d =
    let both = p.0 in
    let R = both.R in
    let h = both.g in
    ap (λ z. (z, o.1)) (same_test o.0 q.0 (e.means R h both.expression both.hedge) (d.means R h both.expression both.hedge))
