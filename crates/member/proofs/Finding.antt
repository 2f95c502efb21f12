-- The kind that has given places.
use Prim.Native.Nat.{ℕ, suc, ◌+◌, ◌<◌, ◌≤◌}
use mathlib.Core.Path.{◌≡◌, refl, sym, ◌∙◌}
use mathlib.Core.Logic.{◌⊎◌, inl, inr}
use mathlib.Core.Bool.{Bool, true}
use mathlib.Core.List.{List, [], ◌∷◌}
use native.Mathlib.Omega.{arith}
use lib.Dec.{eqb, eqb→eq}
use lib.ListN.{length, get_or}
use lib.Seq.{slice, slice_empty, slice-cons}
use Rattle.language.proofs.Bools.{both_true}
use Rattle.rules.proofs.Tests.{true-test}
use Rattle.words.specs.Places.{same_list}
use Rattle.any_order.specs.Sharing.{Kind, Records}
use Rattle.any_order.proofs.Recording.{records-le}
use Rattle.any_order.proofs.Ranges.{not-both}
use Rattle.member.specs.Gathering.{Lists, Kinds, Raised, Found}

same-is : (xs ys : List ℕ) → same_list xs ys ≡ true → xs ≡ ys
same-is [] [] e = refl
same-is [] (y ∷ ys) e = absurd (not-both e refl)
same-is (x ∷ xs) [] e = absurd (not-both e refl)
same-is (x ∷ xs) (y ∷ ys) e =
    let (a, b) = both_true (eqb x y) (same_list xs ys) e in
    let p : x ≡ y = eqb→eq x y (true-test (eqb x y) a) in
    let q = same-is xs ys b in
    cc

part-is : (w : List ℕ) (a : ℕ) (L : List ℕ) (b : ℕ) → b ≡ a + length L → b ≤ length w → ((i : ℕ) → i < length L → get_or w (a + i) 0 ≡ get_or L i 0) → slice a b w ≡ L
part-is w a [] b e l h = let z : b ≡ a = omega arith in rw z (slice_empty a w)
part-is w a (x ∷ L) b e l h =
    let z : a + 0 ≡ a = omega arith in
    let y : get_or w a 0 ≡ x = rw z at (h 0 (omega arith)) in
    let r = part-is w (suc a) L b (omega arith) l (λ i u. let k : suc a + i ≡ a + suc i = omega arith in rw k (h (suc i) (omega arith))) in
    slice-cons a b w 0 (omega arith) l ∙ rw (y, r) refl

module _ {w : List ℕ} {at top : ℕ} where
  pub kinds-fit : Kinds w at top → at < top → at + 2 + get_or w (at + 1) 0 ≤ top
  kinds-fit s z = go s.ks s.records
    where
      go : (ks : List Kind) → Records w at ks top → at + 2 + get_or w (at + 1) 0 ≤ top
      go [] y = absurd (omega arith)
      go (k ∷ ks) y = omega (arith, records-le w (at + 2 + length k.places) ks top y.1, y.0.count)

  pub kinds-on : {n : ℕ} → Kinds w at top → at < top → n ≡ get_or w (at + 1) 0 → Kinds w (at + 2 + n) top
  kinds-on {n} s z e = go s.ks s.records
    where
      go : (ks : List Kind) → Records w at ks top → Kinds w (at + 2 + n) top
      go [] y = absurd (omega arith)
      go (k ∷ ks) y = let g : at + 2 + n ≡ at + 2 + length k.places = omega (arith, y.0.count) in record { ks = ks; records = rw g y.1; fits = s.fits }

module _ {w : List ℕ} {at top t : ℕ} where
  pub find-here : {n : ℕ} {r : Bool} → Kinds w at top → at < top → n ≡ get_or w (at + 1) 0 → t ≤ length w → r ≡ same_list (slice (at + 2) (at + 2 + n) w) (slice (top + 2) t w) → r ≡ true → Found w at top t at
  find-here {n} {r} s z e f d y = record { within = (omega arith, omega arith); each = λ ks L rec ls. go ks L rec ls }
    where
      go : (ks : List Kind) (L : List ℕ) → Records w at ks top → Lists w (top + 2) L t → (at ≡ top) ⊎ ((ks' : List Kind) × Raised ks at at L ks')
      go [] L rec ls = inl rec
      go (k ∷ ks) L rec ls =
          let a = part-is w (at + 2) k.places (at + 2 + n) (omega (arith, rec.0.count)) (omega (arith, kinds-fit s z, s.fits)) rec.0.places in
          let b = part-is w (top + 2) L t ls.end f ls.each in
          let c = same-is (slice (at + 2) (at + 2 + n) w) (slice (top + 2) t w) (sym d ∙ y) in
          inr (record { times = k.times + 1; places = k.places } ∷ ks, inl (refl, sym a ∙ c ∙ b, refl))

  pub find-on : {n o : ℕ} → at < top → n ≡ get_or w (at + 1) 0 → Found w (at + 2 + n) top t o → Found w at top t o
  find-on {n} {o} z e f = record { within = (omega (arith, f.within.0), f.within.1); each = λ ks L rec ls. go ks L rec ls }
    where
      go : (ks : List Kind) (L : List ℕ) → Records w at ks top → Lists w (top + 2) L t → (o ≡ top) ⊎ ((ks' : List Kind) × Raised ks at o L ks')
      go [] L rec ls = absurd (omega arith)
      go (k ∷ ks) L rec ls =
          let g : at + 2 + n ≡ at + 2 + length k.places = omega (arith, rec.0.count) in
          elim (f.each ks L (rw g rec.1) ls) [
            | inl y ↦ inl y
            | inr y ↦ inr (k ∷ y.0, inr (y.0, refl, rw g at y.1))
          ]

  pub find_none : Kinds w at top → top ≤ at → Found w at top t top
  find_none s z = record { within = (omega (arith, records-le w at s.ks top s.records), omega arith); each = λ ks L rec ls. inl refl }
