-- Hedges in a row are passed one after the other: a hedge ends where the rest after its first element does.
use mathlib.Core.Path.{◌≡◌, refl, sym, ap, ◌∙◌}
use mathlib.Core.List.{List, [], ◌∷◌}
use Prim.Native.Nat.{ℕ, zero, suc, ◌+◌, ◌-◌, ◌<◌, ◌≤◌}
use native.Mathlib.Decide.{ℕ_discrete}
use native.Mathlib.Omega.{arith}
use lib.ListN.{length, get_or, drop}
use lib.Seq.{drop-drop}
use Rattle.words.specs.Spans.{opens, span, element_end}
use Rattle.words.proofs.Parts.{below-of-word}
use Rattle.words.proofs.Spans.{opens-pos, span-step, element-stop, element-on}

-- hedges in a row: first some of them, then the others
span-plus : (m n : ℕ) (ws : List ℕ) → span m ws + span n (drop (span m ws) ws) ≡ span (m + n) ws
unfolding span
span-plus m n [] = refl
span-plus zero n (x ∷ ws) =
    let e : span (0 + n) (x ∷ ws) ≡ span n (x ∷ ws) = let z : 0 + n ≡ n = omega arith in ap (λ j. span j (x ∷ ws)) z in
    let g : 0 + span n (x ∷ ws) ≡ span (0 + n) (x ∷ ws) = omega arith in g
span-plus (suc m) n (x ∷ ws) =
    let e : span (m + opens x + n) ws ≡ span (m + n + opens x) ws = let z : m + opens x + n ≡ m + n + opens x = omega arith in ap (λ j. span j ws) z in
    let d : span (suc m + n) (x ∷ ws) ≡ suc (span (m + n + opens x) ws) = let z : suc m + n ≡ suc (m + n) = omega arith in ap (λ j. span j (x ∷ ws)) z in
    let h = span-plus (m + opens x) n ws in
    let g : suc (span (m + opens x) ws) + span n (drop (span (m + opens x) ws) ws) ≡ span (suc m + n) (x ∷ ws) = omega arith in g

pub rest_end : (k : List ℕ) (i : ℕ) → element_end k i + span 1 (drop (element_end k i) k) ≡ i + span 1 (drop i k)
rest_end k i = go (ℕ_discrete (get_or k i 0) 0)
  where
    go : Dec (get_or k i 0 ≡ 0) → element_end k i + span 1 (drop (element_end k i) k) ≡ i + span 1 (drop i k)
    go (yes e) = ap (λ j. j + span 1 (drop j k)) (sym (element-stop k i e))
    go (no nz) =
        let o = opens-pos (get_or k i 0) nz in
        let n = opens (get_or k i 0) - 1 in
        let b = below-of-word k i nz in
        let d : drop (i + 1 + span n (drop (i + 1) k)) k ≡ drop (span n (drop (i + 1) k)) (drop (i + 1) k) = sym (drop-drop (span n (drop (i + 1) k)) (i + 1) k) in
        let p = span-plus n 1 (drop (i + 1) k) in
        let s = span-step 1 k i (λ z. absurd (omega arith)) b in
        let q : n + 1 ≡ 1 - 1 + opens (get_or k i 0) = omega arith in
        let r : span (n + 1) (drop (i + 1) k) ≡ span (1 - 1 + opens (get_or k i 0)) (drop (i + 1) k) = ap (λ j. span j (drop (i + 1) k)) q in
        let t : span 1 (drop (i + 1 + span n (drop (i + 1) k)) k) ≡ span 1 (drop (span n (drop (i + 1) k)) (drop (i + 1) k)) = ap (span 1) d in
        ap (λ j. j + span 1 (drop j k)) (element-on k i nz) ∙ (let z : i + 1 + span n (drop (i + 1) k) + span 1 (drop (i + 1 + span n (drop (i + 1) k)) k) ≡ i + span 1 (drop i k) = omega arith in z)
