-- Words written in a row.
use Prim.Native.Nat.{ℕ, zero, suc, ◌+◌, ◌≤◌, ◌<◌}
use mathlib.Core.Path.{◌≡◌, refl, sym, ap, ◌∙◌}
use mathlib.Core.Bool.{Bool, true, false}
use mathlib.Core.List.{List, [], ◌∷◌, ◌++◌}
use native.Mathlib.Omega.{arith}
use lib.Dec.{leb}
use borrow.Author.Tests.{leb-true, leb-false}
use lib.ListN.{length, set, length-append}
use lib.Seq.{sets, length-sets}
use Rattle.language.proofs.Stores.{sets-append}
use Rattle.samples.specs.Laid.{Laid}

-- nothing is stored past the end
set_past : (l : List ℕ) (i x : ℕ) → length l ≤ i → set l i x ≡ l
set_past [] i x h = refl
set_past (y ∷ l) zero x h = absurd (omega arith)
set_past (y ∷ l) (suc i) x h = ap (λ l. y ∷ l) (set_past l i x (omega arith))

sets-past : (l : List ℕ) (i : ℕ) (ws : List ℕ) → length l ≤ i → sets l i ws ≡ l
sets-past l i [] h = refl
sets-past l i (w ∷ ws) h = ap (λ l. sets l (suc i) ws) (set_past l i w h) ∙ sets-past l (suc i) ws (omega arith)

pub laid_none : {old : List ℕ} {at : ℕ} → Laid old at [] old at
laid_none = record { end = omega arith; list = refl }

pub laid_one : {old : List ℕ} {at x : ℕ} → at < length old → Laid old at (x ∷ []) (set old at x) (at + 1)
laid_one p = record { end = omega arith; list = refl }

pub laid-full : {old : List ℕ} {at x : ℕ} → length old ≤ at → Laid old at (x ∷ []) old at
laid-full {old} {at} {x} p = record { end = omega arith; list = sym (set_past old at x p) }

-- and then the next
pub laid-row : {old mid new : List ℕ} {at m e : ℕ} (us vs : List ℕ) → Laid old at us mid m → Laid mid m vs new e → Laid old at (us ++ vs) new e
laid-row {old} {mid} {new} {at} {m} {e} us vs a b =
    let n = length-append us vs in
    let s = ap length a.list ∙ length-sets old at us in
    let p = a.end in
    let q = b.end in
    record { end = omega arith; list = b.list ∙ ap (λ l. sets l m vs) a.list ∙ after (leb (at + length us) (length old)) refl ∙ sym (sets-append us vs old at) }
  where
    after : (b : Bool) → leb (at + length us) (length old) ≡ b → sets (sets old at us) m vs ≡ sets (sets old at us) (at + length us) vs
    after true t =
        let h = leb-true (at + length us) (length old) t in
        let p = a.end in
        let z : m ≡ at + length us = omega arith in
        ap (λ i. sets (sets old at us) i vs) z
    after false t =
        let h = leb-false (at + length us) (length old) t in
        let p = a.end in
        let l = length-sets old at us in
        sets-past (sets old at us) m vs (omega arith) ∙ sym (sets-past (sets old at us) (at + length us) vs (omega arith))

pub laid_as : {old new : List ℕ} {at e : ℕ} {us vs : List ℕ} → us ≡ vs → Laid old at us new e → Laid old at vs new e
laid_as {old} {new} {at} {e} p a = rw p at a
