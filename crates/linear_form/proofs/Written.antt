-- One of M2's results, run by run.
use Prim.Native.Nat.{ℕ, ◌+◌, ◌-◌}
use mathlib.Core.Path.{◌≡◌, refl, ap, sym, ◌∙◌}
use mathlib.Core.List.{List, [], ◌∷◌, ◌++◌}
use native.Mathlib.Omega.{arith}
use lib.ListN.{length, drop, length-append}
use lib.Seq.{slice, sets, take-length}
use Rattle.frames.specs.Frames.{frame, frame_of}
use Rattle.slices.specs.Written.{Wrote}
use Rattle.language.proofs.Stores.{sets-append}
use Rattle.slices.proofs.Still.{wrote_as}
use Rattle.linear_form.specs.declared.adding.Kept.{Kept}
use Rattle.linear_form.specs.declared.adding.Spot.{Spot}
use Rattle.monomials.specs.Loose.{opening}
use Rattle.linear_form.specs.Rows.{front_words, back_words, result_length, result_words}

-- two runs in a row
pub wrote-append : {old : List ℕ} {at : ℕ} {us mid : List ℕ} {e : ℕ} {vs new : List ℕ} {e' : ℕ} → Wrote old at us mid e → Wrote mid e vs new e' → Wrote old at (us ++ vs) new e'
wrote-append {old} {at} {us} {mid} {e} {vs} a b =
    record {
      end = let x = a.end in let y = b.end in let z = length-append us vs in omega arith;
      list = b.list ∙ ap (λ n. sets mid n vs) a.end ∙ ap (λ l. sets l (at + length us) vs) a.list ∙ sym (sets-append us vs old at);
    }

-- how long a result is
pub result-length : (k : List ℕ) (s : Kept) (p : Spot) → result_length k s p ≡ length (front_words k s p) + (length (opening p.parts) + p.words) + length (slice s.end s.len k)
unfolding result_length back_words
result-length k s p = refl

-- what stands before the rest, run by run
pub front-wrote : (k : List ℕ) (s : Kept) (p : Spot) {old : List ℕ} {at : ℕ} {o₁ o₂ o₃ o₄ o₅ o₆ o₇ : List ℕ} {a b c d e f g : ℕ}
    → Wrote old at (slice 0 s.at k) o₁ a → Wrote o₁ a (6000 ∷ []) o₂ b → Wrote o₂ b (slice s.from s.rest k) o₃ c → Wrote o₃ c (0 ∷ []) o₄ d
    → Wrote o₄ d (slice p.place p.past k) o₅ e → Wrote o₅ e (6000 ∷ []) o₆ f → Wrote o₆ f (slice s.rest s.to k) o₇ g → Wrote old at (front_words k s p) o₇ g
unfolding front_words
front-wrote k s p x₁ x₂ x₃ x₄ x₅ x₆ x₇ = wrote-append x₁ (wrote-append x₂ (wrote-append x₃ (wrote-append x₄ (wrote-append x₅ (wrote-append x₆ x₇)))))

-- a part up to the end
pub to_the_end : (from : ℕ) (l : List ℕ) → slice from (length l) l ≡ drop from l
to_the_end from l = ap (drop from) (take-length l)

pub result-wrote : (k : List ℕ) (s : Kept) (p : Spot) (rest old : List ℕ) (at : ℕ) {one : ℕ} {o₁ o₂ o₃ o₄ o₅ : List ℕ} {a b c e : ℕ}
    → one ≡ result_length k s p → o₁ ≡ sets old at (frame_of one s.number) → Wrote o₁ (at + frame) (front_words k s p) o₂ a → Wrote o₂ a (opening p.parts) o₃ b
    → Wrote o₃ b (slice (length rest - p.words) (length rest) rest) o₄ c → Wrote o₄ c (slice s.end s.len k) o₅ e
    → Wrote old at (frame_of (result_length k s p) s.number ++ result_words k s p (drop (length rest - p.words) rest)) o₅ e
unfolding result_words back_words
result-wrote k s p rest old at {one} {o₁} n w₁ w₂ w₃ w₄ w₅ =
    let ws = drop (length rest - p.words) rest in
    let w₀ : Wrote old at (frame_of one s.number) o₁ (at + frame) = record { end = refl; list = w₁ } in
    let same : result_length k s p ∷ s.number ∷ (front_words k s p ++ ((opening p.parts ++ ws) ++ slice s.end s.len k)) ≡ one ∷ s.number ∷ (front_words k s p ++ ((opening p.parts ++ ws) ++ slice s.end s.len k)) = ap (λ n. n ∷ s.number ∷ (front_words k s p ++ ((opening p.parts ++ ws) ++ slice s.end s.len k))) (sym n) in
    wrote_as same (wrote-append w₀ (wrote-append w₂ (wrote-append (wrote-append w₃ (wrote_as (sym (to_the_end (length rest - p.words) rest)) w₄)) w₅)))
