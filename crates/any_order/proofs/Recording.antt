-- Kinds that stand in words.
use Prim.Native.Nat.{ℕ, ◌+◌, ◌<◌, ◌≤◌}
use mathlib.Core.Path.{◌≡◌, refl, ◌∙◌}
use mathlib.Core.List.{List, [], ◌∷◌}
use native.Mathlib.Omega.{arith}
use lib.ListN.{length, get_or}
use Rattle.any_order.specs.Sharing.{Kind, Records}
use Rattle.any_order.specs.Searching.{Some, Heads, Onward}

pub records-le : (w : List ℕ) (at : ℕ) (ks : List Kind) (top : ℕ) → Records w at ks top → at ≤ top
records-le w at [] top r = omega arith
records-le w at (k ∷ ks) top r = omega (arith, records-le w (at + 2 + length k.places) ks top r.1)

heads : (w : List ℕ) (top n x y : ℕ) (ks : List Kind) → Records w n ks top → x ≡ n → x < top → y ≡ get_or w x 0 → Heads y ks
heads w top n x y [] r z l e = absurd (omega arith)
heads w top n x y (k ∷ ks) r z l e = e ∙ rw z r.0.times

no-heads : (w : List ℕ) (top n x : ℕ) (ks : List Kind) → Records w n ks top → x ≡ n → top ≤ x → Heads 0 ks
no-heads w top n x [] r z e = refl
no-heads w top n x (k ∷ ks) r z e = absurd (omega (arith, records-le w (n + 2 + length k.places) ks top r.1))

module _ {w : List ℕ} {kind top : ℕ} where
  pub some_fits : Some w kind top → kind + 2 + get_or w (kind + 1) 0 ≤ length w
  some_fits s = omega (arith, records-le w (kind + 2 + length s.k.places) s.ks top s.records.1, s.records.0.count, s.fits)

  module _ {times f : ℕ} where
    pub onward-more : 0 < times → Onward w kind times f top (record { kind = kind; times = times; floor = f })
    onward-more z = record { more = λ _. (refl, refl, refl); next = λ y. absurd (omega arith) }

    pub onward-next : {x y : ℕ} → times ≤ 0 → x ≡ get_or w (kind + 1) 0 → kind + 2 + x < top → y ≡ get_or w (kind + 2 + x) 0
        → Onward w kind times f top (record { kind = kind + 2 + x; times = y; floor = 0 })
    onward-next z e l d = record {
      more = λ q. absurd (omega arith);
      next = λ q k ks r. (omega (arith, r.0.count), refl, heads w top (kind + 2 + length k.places) _ _ ks r.1 (omega (arith, r.0.count)) l d);
    }

    pub onward-end : {x : ℕ} → times ≤ 0 → x ≡ get_or w (kind + 1) 0 → top ≤ kind + 2 + x
        → Onward w kind times f top (record { kind = kind + 2 + x; times = 0; floor = 0 })
    onward-end z e d = record {
      more = λ q. absurd (omega arith);
      next = λ q k ks r. (omega (arith, r.0.count), refl, no-heads w top (kind + 2 + length k.places) _ ks r.1 (omega (arith, r.0.count)) d);
    }
