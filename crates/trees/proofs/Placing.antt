-- What is read at a place of a list of words: one word, two in a row, and what a word's kind leads to.
use mathlib.Core.Path.{◌≡◌, refl, sym, ap, ◌∙◌}
use mathlib.Core.List.{List, [], ◌∷◌}
use Prim.Native.Nat.{ℕ, ◌+◌, ◌<◌, ◌≤◌}
use native.Mathlib.Nat.{add_assoc}
use native.Mathlib.Numerals.{add-one}
use native.Mathlib.Omega.{arith}
use lib.ListN.{length, drop, get_or, drop_of_length-le}
use lib.Seq.{drop-cons, drop-drop}
use Rattle.language.specs.declared.Kind.{Kind}
use Rattle.language.specs.Limits.{desk}
use Rattle.language.specs.Kinds.{kind_of}
use Rattle.language.specs.Reading.{Got, got, stop, after, then, both, next, Reader}
use Rattle.std.specs.Prelude.{Result, Ok, Err, IsErrAnd}
use Rattle.std.proofs.lemmas.Result.{err_from_is_err_and}
use Rattle.trees.specs.Places.{placed}

-- n words, and then what was read
pub placed-after : {A B : Type 0} (at n : ℕ) (f : A → B) (g : Got A) → placed at (after n f g) ≡ placed (at + n) g
unfolding placed
placed-after at n f (got a k) = ap Ok (sym (add_assoc at n k))
placed-after at n f (stop k) = ap Err (sym (add_assoc at n k))

pub placed-next : {A : Type 0} (at : ℕ) (g : Got A) → placed at (next g) ≡ placed (at + 1) g
unfolding placed
placed-next at (got a k) = ap Ok (sym (add_assoc at 1 k))
placed-next at (stop k) = ap Err (sym (add_assoc at 1 k))

-- nothing was read
pub placed-none : (A : Type 0) (at : ℕ) → Err at ≡ placed {A = A} at (stop 0)
unfolding placed
placed-none A at = ap Err (omega arith)

-- what is read after a first, by where that ended
abbrev pub then_at : {A : Type 0} → Reader A → List ℕ → Result ℕ ℕ → Result ℕ ℕ
then_at s w (Ok q) = placed q (s (drop q w))
then_at s w (Err q) = Err q

pub goes_on : {A : Type 0} (s : Reader A) (w : List ℕ) (r : Result ℕ ℕ) (q : ℕ) → r ≡ Ok q → placed q (s (drop q w)) ≡ then_at s w r
goes_on s w r q e = ap (then_at s w) (sym e)

pub halts : {A : Type 0} (s : Reader A) (w : List ℕ) (r : Result ℕ ℕ) (q : ℕ) → r ≡ Err q → Err q ≡ then_at s w r
halts s w r q e = ap (then_at s w) (sym e)

-- what `?` hands on is where the reader before it stopped
pub handed : (r : Result ℕ ℕ) (q : ℕ) → IsErrAnd r (λ p. p ≡ q) → r ≡ Err q
handed r q a = let e = err_from_is_err_and r a in e.1 ∙ ap Err e.2

-- what was read ends at its place or after it
pub moves : {A : Type 0} (at : ℕ) (g : Got A) (q : ℕ) → placed at g ≡ Ok q → at ≤ q
unfolding placed
moves at (got a k) q e = let z : at + k ≡ q = cc in omega arith
moves at (stop k) q e = absurd (let z : ◌≡◌ {A = ℕ} 0 1 = cc in omega arith)

module _ (w : List ℕ) (at : ℕ) where
  -- past the last word
  pub past : {A : Type 0} (r : Reader A) → r [] ≡ stop 0 → length w ≤ at → Err at ≡ placed at (r (drop at w))
  past {A} r e p = placed-none A at ∙ ap (placed at) (sym e) ∙ ap (λ l. placed at (r l)) (sym (drop_of_length-le w p))

  -- two in a row
  pub both_at : {A B C : Type 0} (f : A → B → C) (r : Reader A) (s : Reader B) → then_at s w (placed at (r (drop at w))) ≡ placed at (both f r s (drop at w))
  both_at f r s = on (r (drop at w))
    where
      on : (g : Got _) → then_at s w (placed at g) ≡ placed at (then f g s (drop at w))
      on (got a k) = unfold placed in ap (λ l. placed (at + k) (s l)) (sym (drop-drop k at w)) ∙ sym (placed-after at k (f a) (s (drop k (drop at w))))
      on (stop k) = unfold placed in refl

  pub here : at < length w → drop at w ≡ get_or w at 0 ∷ drop (at + 1) w
  here p = rw (add-one, drop-cons w at 0)

  -- a reader that goes by the kind of the word there
  pub at-kind : {A : Type 0} (r : Reader A) (on : Kind → Reader A) → ((v : ℕ) (vs : List ℕ) (k : Kind) → kind_of desk v ≡ k → r (v ∷ vs) ≡ on k vs)
      → at < length w → (k : Kind) → k ≡ kind_of desk (get_or w at 0) → placed at (on k (drop (at + 1) w)) ≡ placed at (r (drop at w))
  at-kind r on step p k e = ap (placed at) (sym (ap r (here p) ∙ step (get_or w at 0) (drop (at + 1) w) k (sym e)))
