-- What stands before the parts of a rest, word by word.
use Prim.Native.Nat.{ℕ, zero, suc, ◌+◌, ◌-◌, ◌≤◌}
use mathlib.Core.Path.{◌≡◌, refl, ap, sym, ◌∙◌}
use mathlib.Core.List.{List, [], ◌∷◌, ◌++◌}
use native.Mathlib.Omega.{arith}
use lib.ListN.{length, take, drop, replicate}
use lib.Seq.{sets-eq, take-length}
use borrow.Rule.Slice.PartMut.{put_mid}
use Rattle.std.proofs.lemmas.Slice.{put_mid-paste}
use Rattle.slices.specs.Written.{Wrote}
use Rattle.monomials.specs.Loose.{joins, opening}

length-joins : (n : ℕ) → length (joins n) ≡ n
length-joins zero = refl
length-joins (suc n) = ap suc (length-joins n)

pub opening-joins : (n : ℕ) → (n ≡ 0 → ⊥) → opening n ≡ joins (n - 1)
opening-joins n z = let e : n ≡ suc (n - 1) = omega arith in ap opening e

pub opening-none : (n : ℕ) → n ≡ 0 → opening n ≡ 7000 ∷ []
opening-none n z = ap opening z

pub opening-length : (n : ℕ) → (n ≡ 0 → ⊥) → n - 1 ≡ length (opening n)
opening-length n z = sym (ap length (opening-joins n z) ∙ length-joins (n - 1))

pub opening-short : (n : ℕ) → length (opening n) ≤ n + 1
opening-short zero = omega arith
opening-short (suc n) = let z = length-joins n in omega arith

-- as many of the same word
joins-alike : (n : ℕ) → joins n ≡ replicate n 7001
joins-alike zero = refl
joins-alike (suc n) = ap (λ ws. 7001 ∷ ws) (joins-alike n)

joins_all : (n : ℕ) → take n (joins n) ≡ joins n
joins_all n = ap (λ m. take m (joins n)) (sym (length-joins n)) ∙ take-length (joins n)

-- a part that is filled with it
pub wrote-joins : (l : List ℕ) (at n end : ℕ) → end ≡ at + n → end ≤ length l → {part : List ℕ} → part ≡ replicate (end - at) 7001
    → Wrote l at (joins n) (put_mid at (end - at) l part) end
wrote-joins l at n end e h {part} p =
    let k : end - at ≡ n = omega arith in
    let s = length-joins n in
    record {
      end = e ∙ ap (λ m. at + m) (sym s);
      list =
          put_mid-paste at (end - at) l part (joins n) n (p ∙ ap (λ m. replicate m 7001) k ∙ sym (joins-alike n)) (sym k) (sym s)
          ∙ ap (λ ws. take at l ++ ws ++ drop (at + n) l) (joins_all n)
          ∙ ap (λ m. take at l ++ joins n ++ drop (at + m) l) (sym s)
          ∙ sym (sets-eq (joins n) l at (omega arith));
    }
