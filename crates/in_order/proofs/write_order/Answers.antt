use Prim.Native.Nat.{ℕ, ◌+◌, ◌-◌}
use mathlib.Core.Path.{◌≡◌, refl, ap, sym, ◌∙◌}
use mathlib.Core.List.{List}
use native.Mathlib.Omega.{arith}
use Rattle.words.specs.Spans.{places}
use Rattle.orders.specs.Orders.{in_order, elements_at, ordered}
use Rattle.slices.proofs.Still.{still-all, still-none, still-fits, still-run}
use Rattle.orders.proofs.Orders.{agree-order, first_found, at_once, still-as}
use Rattle.in_order.proofs.write_order.Goals as goal

-- so many elements in their order, by their count
abbrev of : List ℕ → ℕ → ℕ → ℕ → List ℕ
of k number p m = elements_at k (in_order m number (places m k p))

pub loop-init : goal.loop-init
unfolding ordered
loop-init c =
    (still-as (ap (of c.args.k.now c.args.number c.args.from) (let z : c.args.n ≡ c.args.n + 8 - 8 = omega arith in z)) (still-all _ _ _ c.requires.1), omega arith)

pub copy-e-requires : goal.copy-e-requires
copy-e-requires c =
    still-fits c.loop.invariant.0 (first_found c.args.k.now c.loop.p (c.args.n + 8 - c.loop.counter) c.args.number (omega arith) c.requires.0 c.element_end-end.ensures)

pub loop-preserved : goal.loop-preserved
loop-preserved c = (
  still-as (ap (of c.args.k.now c.args.number c.element_end-end.result) (let z : c.args.n + 8 - c.loop.counter - 1 ≡ c.args.n + 8 - (c.loop.counter + 1) = omega arith in z))
      (still-run c.loop.invariant.0 (first_found c.args.k.now c.loop.p (c.args.n + 8 - c.loop.counter) c.args.number (omega arith) c.requires.0 c.element_end-end.ensures) c.copy-e.ensures),
  omega arith,
)

pub write_few-requires : goal.write_few-requires
write_few-requires c = let m = c.min-m.result in
    let z : c.args.n + 8 - c.loop.counter ≡ m = (let e = c.min-m.ensures in let b = c.loop.invariant.1 in omega arith) in
    let s = still-as (ap (of c.args.k.now c.args.number c.loop.p) z ∙ ap (elements_at c.args.k.now) (sym (agree-order m c.args.number c.places_of-few.result.at (places m c.args.k.now c.loop.p) c.places_of-few.ensures.1))) c.loop.invariant.0 in
    (c.places_of-few.ensures.0, (let e = c.min-m.ensures in omega arith), still-fits s (at_once _))

pub returns : goal.returns
returns c = let m = c.min-m.result in
    let z : c.args.n + 8 - c.loop.counter ≡ m = (let e = c.min-m.ensures in let b = c.loop.invariant.1 in omega arith) in
    let s = still-as (ap (of c.args.k.now c.args.number c.loop.p) z ∙ ap (elements_at c.args.k.now) (sym (agree-order m c.args.number c.places_of-few.result.at (places m c.args.k.now c.loop.p) c.places_of-few.ensures.1))) c.loop.invariant.0 in
    still-none (still-run s (at_once _) c.write_few.ensures) refl

pub places_of-few-requires : goal.places_of-few-requires
places_of-few-requires c = let e = c.min-m.ensures in omega arith
