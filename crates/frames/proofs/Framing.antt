-- A frame stored word by word, and framed words in a row.
use Prim.Native.Nat.{ℕ, ◌+◌}
use native.Mathlib.Numerals.{add-one}
use mathlib.Core.Path.{◌≡◌, refl, sym, ap, ◌∙◌}
use mathlib.Core.List.{List, [], ◌∷◌, ◌++◌, append_assoc, map-append}
use lib.ListN.{length, set}
use lib.Seq.{sets}
use Rattle.frames.specs.Frames.{frame_of, Block, framed, all_with, in_frames}

pub frame-stored : (l : List ℕ) (at n number : ℕ) → set (set l at n) (at + 1) number ≡ sets l at (frame_of n number)
frame-stored l at n number = ap (λ i. set (set l at n) i number) (add-one at)

pub framed-append : (xs ys : List Block) → framed (xs ++ ys) ≡ framed xs ++ framed ys
framed-append [] ys = refl
framed-append (x ∷ xs) ys =
    ap (λ l. length x.words ∷ x.number ∷ (x.words ++ l)) (framed-append xs ys)
    ∙ ap (λ l. length x.words ∷ x.number ∷ l) (sym (append_assoc x.words (framed xs) (framed ys)))

-- those of one alternative
pub frames-append : (number : ℕ) (us vs : List (List ℕ)) → in_frames number (us ++ vs) ≡ in_frames number us ++ in_frames number vs
frames-append number us vs = ap framed (map-append (λ w. record { number = number; words = w }) us vs) ∙ framed-append (all_with number us) (all_with number vs)
