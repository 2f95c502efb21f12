-- The invariant of every writer: which words are still to come, and from which place on.
use mathlib.Core.Path.{◌≡◌, refl, sym, ap, ◌∙◌}
use mathlib.Core.List.{List, [], ◌∷◌}
use Prim.Native.Nat.{ℕ, suc, ◌+◌, ◌<◌, ◌≤◌}
use native.Mathlib.Omega.{arith}
use lib.ListN.{length, set, length-append}
use lib.Seq.{sets, length-sets, set_comm}
use Rattle.language.proofs.Stores.{sets-append}
use Rattle.slices.specs.Written.{Wrote}
use Rattle.slices.proofs.Parts.{Split}

-- a store before a run may come after it
pub set-sets : (l : List ℕ) (i x : ℕ) (j : ℕ) (ws : List ℕ) → i < j → set (sets l j ws) i x ≡ sets (set l i x) j ws
set-sets l i x j [] h = refl
set-sets l i x j (w ∷ ws) h = set-sets (set l j w) i x (suc j) ws (omega arith) ∙ ap (λ m. sets m (suc j) ws) (set_comm l j i w x (λ e. omega arith))

-- of the words `all`, which were to stand from `at` on in `old`, the words ws are still to come, from e on in `new`
pub record Still (old : List ℕ) (at : ℕ) (all : List ℕ) (new : List ℕ) (e : ℕ) (ws : List ℕ) : Type 0 where
  pub size : length new ≡ length old
  pub room : at + length all ≤ length old
  pub end : e + length ws ≡ at + length all
  pub list : sets new e ws ≡ sets old at all

pub still-all : (old : List ℕ) (at : ℕ) (all : List ℕ) → at + length all ≤ length old → Still old at all old at all
still-all old at all h = record { size = refl; room = h; end = refl; list = refl }

module _ {old : List ℕ} {at : ℕ} {all new : List ℕ} {e : ℕ} {ws : List ℕ} (h : Still old at all new e ws) where
  pub still-none : ws ≡ [] → Wrote old at all new e
  still-none z =
      let y : length ws ≡ 0 = ap length z in
      let q = h.end in
      record { end = omega arith; list = sym (ap (sets new e) z) ∙ h.list }

  -- a run of words has room, and is written
  pub still-fits : {us vs : List ℕ} → Split ws us vs → e + length us ≤ length new
  still-fits {us} {vs} z =
      let y : length ws ≡ length us + length vs = ap length z.eq ∙ length-append us vs in
      let q = h.end in
      let r = h.room in
      let s = h.size in
      omega arith

  pub still-run : {us vs : List ℕ} → Split ws us vs → {new' : List ℕ} {e' : ℕ} → Wrote new e us new' e' → Still old at all new' e' vs
  still-run {us} {vs} z {new'} {e'} w =
      let y : length ws ≡ length us + length vs = ap length z.eq ∙ length-append us vs in
      let q = h.end in
      let d = w.end in
      record {
        size = ap length w.list ∙ length-sets new e us ∙ h.size;
        room = h.room;
        end = omega arith;
        list = ap (λ l. sets l e' vs) w.list ∙ ap (λ n. sets (sets new e us) n vs) w.end ∙ sym (sets-append us vs new e) ∙ sym (ap (sets new e) z.eq) ∙ h.list;
      }

-- one word
pub wrote-word : (l : List ℕ) (e x : ℕ) → Wrote l e (x ∷ []) (set l e x) (e + 1)
wrote-word l e x = record { end = refl; list = refl }

-- ---- the same words, said otherwise
module _ {ws vs : List ℕ} (z : ws ≡ vs) where
  pub wrote_as : {old : List ℕ} {at : ℕ} {new : List ℕ} {e : ℕ} → Wrote old at vs new e → Wrote old at ws new e
  wrote_as {old} {at} w = record { end = w.end ∙ ap (λ l. at + length l) (sym z); list = w.list ∙ ap (sets old at) (sym z) }

  pub fits-as : (at n : ℕ) → at + length ws ≤ n → at + length vs ≤ n
  fits-as at n h = let e : length ws ≡ length vs = ap length z in omega arith

  pub counted-as : {n : ℕ} → n ≡ length vs → n ≡ length ws
  counted-as e = e ∙ ap length (sym z)
