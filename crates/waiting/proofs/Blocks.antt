-- Blocks put before those that wait, and the first of them taken.
use Prim.Native.Nat.{ℕ, suc, ◌+◌, ◌-◌, ◌≤◌}
use native.Mathlib.Omega.{arith}
use native.Mathlib.Nat.{add-zero}
use mathlib.Core.Path.{◌≡◌, refl, sym, ap, ◌∙◌}
use mathlib.Core.List.{List, [], ◌∷◌, ◌++◌, append_assoc}
use lib.ListN.{length, take, drop, get_or, set, length-append}
use lib.Seq.{sets, sets-eq, length-sets, slice, drop_at, take_at, drop-drop, get_or-drop, length-take-le}
use Rattle.language.specs.Limits.{desk}
use Rattle.language.proofs.Offsets.{slice-between}
use Rattle.frames.specs.Frames.{frame, Block, framed, framed_length, framed_number}
use Rattle.frames.proofs.Framing.{framed-append}
use Rattle.slices.proofs.Still.{set-sets}
use Rattle.waiting.specs.Waiting.{Laid, Waiting}

-- what stands from i on after words are stored there
pub drop-sets : (l : List ℕ) (i : ℕ) (vs : List ℕ) → i + length vs ≤ length l → drop i (sets l i vs) ≡ vs ++ drop (i + length vs) l
drop-sets l i vs h =
    ap (drop i) (sets-eq vs l i h ∙ append_assoc (take i l) vs (drop (i + length vs) l))
    ∙ drop_at (take i l) (vs ++ drop (i + length vs) l) i (length-take-le i l (omega arith))

-- words stored right before others are stored with them
sets-before : (l : List ℕ) (r at : ℕ) (vs ws : List ℕ) → r + length vs ≡ at → sets (sets l at ws) r vs ≡ sets l r (vs ++ ws)
sets-before l r at [] ws e = ap (λ n. sets l n ws) (let z : at ≡ r = omega arith in z)
sets-before l r at (v ∷ vs) ws e =
    ap (λ m. sets m (suc r) vs) (set-sets l r v at ws (omega arith)) ∙ sets-before (set l r v) (suc r) at vs ws (omega arith)

-- ---- blocks laid out

pub laid-size : {old : List ℕ} {at : ℕ} {bs : List Block} {new : List ℕ} → Laid old at bs new → length new ≡ length old
laid-size {old} {at} {bs} p = ap length p.words ∙ length-sets old at (framed bs)

pub laid-before : (old : List ℕ) (at : ℕ) (bs : List Block) (w : List ℕ) → Laid old at bs w → (xs : List Block) (r : ℕ) (new : List ℕ)
    → r + length (framed xs) ≡ at → new ≡ sets w r (framed xs) → Laid old r (xs ++ bs) new
laid-before old at bs w p xs r new e d =
    let q = p.place in
    let f : length (framed (xs ++ bs)) ≡ length (framed xs) + length (framed bs) = ap length (framed-append xs bs) ∙ length-append (framed xs) (framed bs) in
    record {
      place = omega arith;
      words = d ∙ ap (λ l. sets l r (framed xs)) p.words ∙ sets-before old r at (framed xs) (framed bs) e ∙ ap (sets old r) (sym (framed-append xs bs));
    }

-- ---- blocks that wait

module _ (old : List ℕ) (at : ℕ) where
  -- words that are blocks, stored right before those that wait
  pub laid : (bs : List Block) (w : List ℕ) → Waiting old at bs w → desk.room ≤ length old → (xs : List Block) (r : ℕ) (new : List ℕ)
      → r + length (framed xs) ≡ at → new ≡ sets w r (framed xs) → Waiting old r (xs ++ bs) new
  laid bs w p room xs r new e d =
      let q = p.place in
      let z = p.size in
      let f : length (framed (xs ++ bs)) ≡ length (framed xs) + length (framed bs) = ap length (framed-append xs bs) ∙ length-append (framed xs) (framed bs) in
      record {
        place = omega arith;
        words =
            ap (drop r) d ∙ drop-sets w r (framed xs) (omega arith)
            ∙ ap (λ j. framed xs ++ drop j w) e ∙ ap (λ l. framed xs ++ l) p.words
            ∙ sym (append_assoc (framed xs) (framed bs) (drop desk.room old)) ∙ ap (λ l. l ++ drop desk.room old) (sym (framed-append xs bs));
        size = ap length d ∙ length-sets w r (framed xs) ∙ z;
      }

  pub laid-wait : (bs : List Block) (new : List ℕ) → desk.room ≤ length old → Laid old at bs new → Waiting old at bs new
  laid-wait bs new room p = record {
    place = p.place;
    words =
        let q = p.place in
        ap (drop at) p.words ∙ drop-sets old at (framed bs) (omega arith) ∙ ap (λ j. framed bs ++ drop j old) q;
    size = laid-size p;
  }

  -- ---- the first block

  module _ (b : Block) (bs : List Block) (w : List ℕ) (p : Waiting old at (b ∷ bs) w) where
    pub first-length : framed_length w at ≡ length b.words
    first-length = ap (λ j. get_or w j 0) (sym (add-zero at)) ∙ sym (get_or-drop at w 0 0) ∙ ap (λ l. get_or l 0 0) p.words

    pub first-number : framed_number w at ≡ b.number
    first-number = sym (get_or-drop at w 1 0) ∙ ap (λ l. get_or l 1 0) p.words

    after_first : drop (at + frame) w ≡ b.words ++ (framed bs ++ drop desk.room old)
    after_first = sym (drop-drop frame at w) ∙ ap (drop frame) p.words ∙ append_assoc b.words (framed bs) (drop desk.room old)

    pub first_block : slice (at + frame) (at + frame + length b.words) w ≡ b.words
    first_block =
        slice-between (at + frame) (at + frame + length b.words) w
        ∙ ap (λ n. take n (drop (at + frame) w)) (let z : at + frame + length b.words - (at + frame) ≡ length b.words = omega arith in z)
        ∙ ap (take (length b.words)) after_first ∙ take_at b.words (framed bs ++ drop desk.room old) (length b.words) refl

    pub first-room : at + frame + length b.words + length (framed bs) ≡ desk.room
    first-room = let q = p.place in let f = length-append b.words (framed bs) in omega arith

    pub rest-wait : Waiting old (at + frame + length b.words) bs w
    rest-wait = record {
      place = first-room;
      words = sym (drop-drop (length b.words) (at + frame) w) ∙ ap (drop (length b.words)) after_first ∙ drop_at b.words (framed bs ++ drop desk.room old) (length b.words) refl;
      size = p.size;
    }
