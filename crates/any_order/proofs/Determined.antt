-- Any two outcomes that a contract of this crate allows coincide.
use mathlib.Core.Path.{◌≡◌, refl, sym, ap}
use mathlib.Core.Logic.{◌↔◌}
use mathlib.Core.Bool.{Bool, true, false}
use Rattle.language.proofs.Determined.{Determined}
use Rattle.any_order.specs.contracts.some_order as some_order-contract
use Rattle.any_order.proofs.some_order.Reads as some_order-reads

-- two tests of one fact
pub same_test : {P : Type 0} (a b : Bool) → (a ≡ true) ↔ P → (b ≡ true) ↔ P → a ≡ b
same_test true true f g = refl
same_test false false f g = refl
same_test true false f g = sym (g.1 (f.0 refl))
same_test false true f g = f.1 (g.0 refl)

some_order-determined : Determined some_order-contract.ended some_order-reads.Pre some_order-reads.Post
some_order-determined κs a p o q e d =
    let asked = p.0 in
    let here = asked.expression.here in
    ap (λ z. (z, o.1)) (same_test o.0 q.0 (e.means asked.expression.R here asked.ks asked.records) (d.means asked.expression.R here asked.ks asked.records))
