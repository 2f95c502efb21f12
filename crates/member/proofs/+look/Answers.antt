use Prim.Native.Nat.{ℕ, ◌<◌, ◌+◌, ◌-◌}
use mathlib.Core.Path.{◌≡◌, refl}
use mathlib.Core.Bool.{Bool, true, false, ◌&&◌, ◌||◌}
use mathlib.Core.List.{List}
use native.Mathlib.Omega.{arith}
use lib.ListN.{get_or}
use Rattle.member.specs.declared.Seen.{Seen}
use Rattle.member.specs.Places.{Looked}
use Rattle.any_order.proofs.Standing.{expression-lt, first, second, is-alt, by-eps, by-cat, by-alt, by-star, by_over}
use Rattle.member.proofs.Standing.{looked-end, looked-falls}
use Rattle.member.proofs.+look.Goals as goal

module _ {e : List ℕ} {at : ℕ} where
  l-eps : get_or e at 0 ≡ 7000 → Looked e at (record { end = at + 1; null = true })
  l-eps w = record { each = by-eps _ w (refl, refl) }

  l-over : {s : Seen} → get_or e at 0 < 7000 → Looked e (at + 1) s → Looked e at (record { end = s.end; null = false })
  l-over w l = record { each = by_over _ w (λ f v a x. (omega (arith, (l.each a x).0), refl)) }

  l-star : {s : Seen} → get_or e at 0 ≡ 7003 → Looked e (at + 1) s → Looked e at (record { end = s.end; null = true })
  l-star w l = record { each = by-star _ w (λ a x. (omega (arith, (l.each a x).0), refl)) }

  l-cat : {s t : Seen} {v : Bool} → get_or e at 0 ≡ 7001 → Looked e (at + 1) s → Looked e s.end t → v ≡ (s.null && t.null) → Looked e at (record { end = t.end; null = v })
  l-cat w l k q = record {
    each = by-cat _ w (λ a b x y.
        let (z, n) = l.each a x in
        let (z', n') = k.each b (rw z y) in
        (omega arith, rw (q, n, n')));
  }

  l-alt : {s t : Seen} {v : Bool} → get_or e at 0 ≡ 7002 → Looked e (at + 1) s → Looked e s.end t → v ≡ (s.null || t.null) → Looked e at (record { end = t.end; null = v })
  l-alt w l k q = record {
    each = by-alt _ w (λ a b x y.
        let (z, n) = l.each a x in
        let (z', n') = k.each b (rw z y) in
        (omega arith, rw (q, n, n')));
  }

pub offset_bounds-e-at : goal.offset_bounds-e-at
offset_bounds-e-at t c = omega (arith, expression-lt)

pub bounds-e-at : goal.bounds-e-at
bounds-e-at t c = omega (arith, expression-lt)

pub overflow_add-result : goal.overflow_add-result
overflow_add-result t c = omega (arith, expression-lt)

pub returns-then-x-eq7000 : goal.returns-then-x-eq7000
returns-then-x-eq7000 t c = search (l-eps)

pub overflow_add-at : goal.overflow_add-at
overflow_add-at t c = omega (arith, expression-lt)

pub look-a-requires : goal.look-a-requires
look-a-requires t c = (omega (arith, expression-lt), search (first))

pub returns-then-x-lt7000 : goal.returns-then-x-lt7000
returns-then-x-lt7000 t c = search (l-over)

pub returns-then-x-eq7003 : goal.returns-then-x-eq7003
returns-then-x-eq7003 t c = search (l-star)

pub look-b-requires : goal.look-b-requires
look-b-requires t c = (search (looked-falls), search (second, looked-end))

pub returns-then-x-eq7001 : goal.returns-then-x-eq7001
returns-then-x-eq7001 t c = search (l-cat)

pub returns : goal.returns
returns t c = search (l-alt, is-alt)
