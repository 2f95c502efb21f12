-- A shelf holds the table of all names, up to one more than a header can count.
use Prim.Native.Nat.{ℕ, ◌+◌, ◌<◌, ◌≤◌}
use native.Mathlib.Omega.{arith}
use mathlib.Core.Path.{◌≡◌, refl, sym, ap, ◌∙◌}
use mathlib.Core.Bool.{Bool, true, false}
use mathlib.Core.List.{List, [], ◌∷◌, ◌++◌}
use lib.Dec.{ltb}
use lib.ListN.{length, take, length-append, length-take}
use lib.Seq.{take_all, take-append_seam}
use borrow.Author.Tests.{ltb-true, ltb-false, lt-ltb, le-ltb}
use Rattle.language.specs.Limits.{Limits}
use Rattle.language.specs.Kinds.{pick}
use Rattle.texts.specs.Numbering.{holds, enter, entered}
use Rattle.texts.proofs.Tables.{grows}
use Rattle.text_names.specs.Shelves.{entering, enter_all}

module _ (L : Limits) where
  entering-full : (n : ℕ) (t : List ℕ) → L.each < length t → entering L n t ≡ t
  unfolding entering
  entering-full n t p = on (holds n t)
    where
      on : (b : Bool) → pick b t (pick (ltb (length t) (L.each + 1)) (t ++ (n ∷ [])) t) ≡ t
      on true = refl
      on false = ap (λ b. pick b (t ++ (n ∷ [])) t) (le-ltb (length t) (L.each + 1) (omega arith))

  entering-room : (n : ℕ) (t : List ℕ) → length t ≤ L.each → entering L n t ≡ enter n t
  unfolding entering
  entering-room n t p = ap (λ b. pick (holds n t) t (pick b (t ++ (n ∷ [])) t)) (lt-ltb (length t) (L.each + 1) (omega arith))

  full-stays : (t l : List ℕ) → L.each < length t → enter_all L t l ≡ t
  unfolding enter_all
  full-stays t [] p = refl
  full-stays t (n ∷ l) p = ap (λ z. enter_all L z l) (entering-full n t p) ∙ full-stays t l p

  length-enter : (n : ℕ) (t : List ℕ) → length (enter n t) ≤ length t + 1
  length-enter n t = on (holds n t)
    where
      on : (b : Bool) → length (pick b t (t ++ (n ∷ []))) ≤ length t + 1
      on true = omega arith
      on false = let z = length-append t (n ∷ []) in omega arith

  -- The shelf is the table, cut off behind the first name too many.
  pub shelved : (t l : List ℕ) → length t ≤ L.each + 1 → enter_all L t l ≡ take (L.each + 1) (entered t l)
  unfolding enter_all
  shelved t [] p = sym (take_all (L.each + 1) t p)
  shelved t (n ∷ l) p = on (ltb L.each (length t)) refl (shelved (enter n t) l)
    where
      on : (b : Bool) → ltb L.each (length t) ≡ b → (length (enter n t) ≤ L.each + 1 → enter_all L (enter n t) l ≡ take (L.each + 1) (entered (enter n t) l)) → enter_all L (entering L n t) l ≡ take (L.each + 1) (entered (enter n t) l)
      on true e i =
          let q = ltb-true L.each (length t) e in
          let g = grows t (n ∷ l) in
          ap (λ z. enter_all L z l) (entering-full n t q) ∙ full-stays t l q
          ∙ sym (ap (take (L.each + 1)) g.1 ∙ ap (λ k. take k (t ++ g.0)) (let z : L.each + 1 ≡ length t = omega arith in z) ∙ take-append_seam t g.0)
      on false e i =
          let q = ltb-false L.each (length t) e in
          let r = length-enter n t in
          ap (λ z. enter_all L z l) (entering-room n t q) ∙ i (omega arith)

  -- Where the shelf is not full, it is the table; and it is full exactly where there are too many.
  pub all-of-them : (l : List ℕ) → length (enter_all L [] l) ≤ L.each → enter_all L [] l ≡ entered [] l
  all-of-them l p =
      let s = shelved [] l (omega arith) in
      let z = ap length s in
      let y = length-take (L.each + 1) (entered [] l) in
      s ∙ take_all (L.each + 1) (entered [] l) (omega arith)

  pub too_many : (l : List ℕ) → L.each < length (enter_all L [] l) → L.each < length (entered [] l)
  too_many l p = let z = ap length (shelved [] l (omega arith)) in let y = length-take (L.each + 1) (entered [] l) in omega arith
