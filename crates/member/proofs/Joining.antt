-- The kind of a term: one term more of it, and one less.
use Prim.Native.Nat.{ℕ, ◌+◌, ◌-◌, ◌<◌, ◌≤◌}
use mathlib.Core.Path.{◌≡◌, refl, ◌∙◌, ap}
use mathlib.Core.List.{List}
use native.Mathlib.Omega.{arith}
use native.Mathlib.Decide.{ℕ_discrete}
use lib.ListN.{length, get_or, set, length-set}
use lib.Seq.{get_or-set_same}
use Rattle.member.specs.declared.Joined.{Joined}
use Rattle.member.specs.Gathering.{Spared, Found, Joins, Undoable, Undone}
use Rattle.member.proofs.Shuffling.{spared-by}

module _ {w : List ℕ} {base top t o : ℕ} where
  pub join-new : {w₁ w₂ : List ℕ} → Found w base top t o → o ≡ top → w₁ ≡ set w top 1 → w₂ ≡ set w₁ (top + 1) (t - top - 2) → Joins w base top t w₂ (record { at = o; top = t })
  join-new f z d₁ d₂ = record { found = f; new = λ _. (refl, d₂ ∙ ap (λ v. set v (top + 1) (t - top - 2)) d₁); old = λ n. absurd (n z) }

  pub join-old : Found w base top t o → (o ≡ top → ⊥) → Joins w base top t (set w o (get_or w o 0 + 1)) (record { at = o; top = top })
  join-old f n = record { found = f; new = λ z. absurd (n z); old = λ _. (refl, refl) }

module _ {w : List ℕ} {o top : ℕ} where
  pub undo-new : o ≡ top → Undone w o top w
  undo-new z = record { new = λ _. refl; old = λ n. absurd (n z) }

  pub undo-old : (o ≡ top → ⊥) → Undone w o top (set w o (get_or w o 0 - 1))
  undo-old n = record { new = λ z. absurd (n z); old = λ _. refl }

pub joins-len : {w w' : List ℕ} {base top t : ℕ} {o : Joined} → Joins w base top t w' o → length w' ≡ length w
joins-len {w} {w'} {base} {top} {t} {o} i = go (ℕ_discrete o.at top)
  where
    go : Dec (o.at ≡ top) → length w' ≡ length w
    go (yes d) = ap length (i.new d).1 ∙ length-set (set w top 1) (top + 1) (t - top - 2) ∙ length-set w top 1
    go (no d) = ap length (i.old d).1 ∙ length-set w o.at (get_or w o.at 0 + 1)

pub undone-len : {w w' : List ℕ} {o top : ℕ} → Undone w o top w' → length w' ≡ length w
undone-len {w} {w'} {o} {top} u = go (ℕ_discrete o top)
  where
    go : Dec (o ≡ top) → length w' ≡ length w
    go (yes d) = ap length (u.new d)
    go (no d) = ap length (u.old d) ∙ length-set w o (get_or w o 0 - 1)

-- a kind that has one term more has some
raised-some : {w : List ℕ} {base top t o : ℕ} {v : List ℕ} → Found w base top t o → Spared (set w o (get_or w o 0 + 1)) v top → o < top → o < length w → (o < length v) × (1 ≤ get_or v o 0)
raised-some {w = w} {o = o} f s l u = (omega (arith, s.len, length-set w o (get_or w o 0 + 1)), omega (arith, s.low o l, get_or-set_same w o (get_or w o 0 + 1) 0 u))

pub joined-some : {w w₃ v : List ℕ} {base top t : ℕ} {o : Joined} → Joins w base top t w₃ o → Spared w₃ v o.top → top < length w → length w < 65536 → Undoable v o.at top
joined-some {w} {w₃} {v} {base} {top} {t} {o} i s l b = record {
  some = λ n.
      let u = raised-some i.found (spared-by (i.old n).1 (i.old n).0 s) (omega (arith, i.found.within.1, n)) (omega (arith, i.found.within.1)) in
      (u.0, omega (arith, s.len, joins-len i), u.1);
}
