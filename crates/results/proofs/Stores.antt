-- Words stored one by one: four in a row, and a frame before its words.
use mathlib.Core.Path.{◌≡◌, refl, ap, ◌∙◌}
use mathlib.Core.List.{List, [], ◌∷◌}
use Prim.Native.Nat.{ℕ, suc, ◌+◌}
use native.Mathlib.Omega.{arith}
use lib.ListN.{length, set}
use lib.Seq.{sets}
use Rattle.frames.specs.Frames.{frame, frame_of, in_frame}
use Rattle.slices.specs.Written.{Wrote}
use Rattle.slices.proofs.Still.{set-sets}

-- four
pub wrote-four : (l : List ℕ) (e a b c d : ℕ) → Wrote l e (a ∷ b ∷ c ∷ d ∷ []) (set (set (set (set l e a) (e + 1) b) (e + 2) c) (e + 3) d) (e + 4)
wrote-four l e a b c d =
    let p : e + 1 ≡ suc e = omega arith in
    let q : e + 2 ≡ suc (suc e) = omega arith in
    let r : e + 3 ≡ suc (suc (suc e)) = omega arith in
    record { end = refl; list = cc }

-- a frame before its words, stored when they stand
pub wrote-framed : {l : List ℕ} {at : ℕ} {ws new : List ℕ} {e x : ℕ} (number : ℕ) {new' : List ℕ} → Wrote l (at + frame) ws new e → x ≡ length ws → new' ≡ sets new at (frame_of x number)
    → Wrote l at (in_frame number ws) new' e
wrote-framed {l} {at} {ws} {new} {e} {x} number w z s = record {
  end = let q = w.end in omega arith;
  list =
      s ∙ ap (λ m. set (set m at x) (suc at) number) w.list ∙ ap (λ m. set m (suc at) number) (set-sets l at x (at + frame) ws (omega arith))
      ∙ set-sets (set l at x) (suc at) number (at + frame) ws (omega arith)
      ∙ ap (λ n. sets (set (set l at x) (suc at) number) n ws) (let y : at + frame ≡ suc (suc at) = omega arith in y)
      ∙ ap (λ y. sets (set (set l at y) (suc at) number) (suc (suc at)) ws) z;
}
