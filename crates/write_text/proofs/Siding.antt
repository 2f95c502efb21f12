-- The words of a hedge, one by one, are its elements; and what writing a side finds.
use Prim.Native.Nat.{ℕ, ◌+◌, ◌-◌, ◌<◌, ◌≤◌}
use mathlib.Core.Path.{◌≡◌, refl, sym, ap, ◌∙◌}
use mathlib.Core.Bool.{Bool, false}
use mathlib.Core.List.{List, [], ◌∷◌, ◌++◌, append_assoc}
use native.Mathlib.Omega.{arith}
use lib.Dec.{eqb}
use lib.ListN.{length, get_or, drop, take, length-append, length-drop}
use lib.Seq.{take-append_seam}
use borrow.Author.Tests.{eq-eqb, ne_eqb, lt-ltb, le-ltb}
use Rattle.language.specs.Kinds.{pick}
use Rattle.language.specs.Limits.{desk}
use Rattle.language.specs.Trees.{Functor, symbol, fvar, Hedge, ε, tvar, hvar, node}
use Rattle.language.specs.Writing.{functor_word, hedge_words}
use Rattle.language.specs.Fine.{fine_hedge}
use Rattle.language.specs.Reading.{Got, got, stop, read_hedge}
use Rattle.language.specs.Between.{between}
use Rattle.language.proofs.Laws.{hedges-read}
use Rattle.language.proofs.Offsets.{between_cons}
use Rattle.texts.specs.Writer.{is_empty}
use Rattle.std.specs.Prelude.{Result, Ok, Err}
use Rattle.trees.specs.Places.{placed}
use Rattle.expressions.proofs.Standing.{word-of, tail_of}
use Rattle.write_text.specs.Laid.{Laid}
use Rattle.write_text.specs.Pieces.{given, closing_of, word_text, after_of, flat, behind, elements, is_one, unless}
use Rattle.write_text.specs.Standing.{Side, OneAt, Sided}
use Rattle.write_text.proofs.Laid.{laid_as, laid-row, laid_none}

-- ---- word by word

pub flat-none : (s : ℕ) → flat s [] ≡ []
unfolding flat
flat-none s = refl

pub flat-cons : (s x : ℕ) (ws : List ℕ) → flat s (x ∷ ws) ≡ word_text s x ++ flat (after_of x) ws
unfolding flat
flat-cons s x ws = refl

flat_on : (s x t : ℕ) (ws : List ℕ) → after_of x ≡ t → flat s (x ∷ ws) ≡ word_text s x ++ flat t ws
flat_on s x t ws e = flat-cons s x ws ∙ ap (λ t. word_text s x ++ flat t ws) e

after-low : (x : ℕ) → x < 3000 → after_of x ≡ 2
after-low x p = ap (λ b. pick b 2 1) (lt-ltb x 3000 p)

after-functor : (f : Functor) → after_of (functor_word f) ≡ 1
after-functor (symbol f) = ap (λ b. pick b 2 1) (le-ltb (3000 + f.0) 3000 (omega arith))
after-functor (fvar X) = ap (λ b. pick b 2 1) (le-ltb (4000 + X.0) 3000 (omega arith))

word_end : (s : ℕ) → word_text s 0 ≡ given (closing_of s)
unfolding word_text
word_end s = refl

-- a hedge's words without its 0
abbrev body : Hedge → List ℕ
body ε = []
body (tvar x r) = (1000 + x.0) ∷ body r
body (hvar p r) = (2000 + p.0) ∷ body r
body (node f c r) = functor_word f ∷ (hedge_words c ++ body r)

words-body : (h : Hedge) → hedge_words h ≡ body h ++ (0 ∷ [])
words-body ε = refl
words-body (tvar x r) = ap (λ l. (1000 + x.0) ∷ l) (words-body r)
words-body (hvar p r) = ap (λ l. (2000 + p.0) ∷ l) (words-body r)
words-body (node f c r) = ap (λ l. functor_word f ∷ (hedge_words c ++ l)) (words-body r) ∙ ap (λ l. functor_word f ∷ l) (sym (append_assoc (hedge_words c) (body r) (0 ∷ [])))

two : (r : Hedge) → behind 2 r ≡ 2
two ε = refl
two (tvar x r) = refl
two (hvar p r) = refl
two (node f c r) = refl

-- where the elements of a hedge are followed by those of `ws`
flat-hedge : (h : Hedge) → fine_hedge desk h → (s : ℕ) (ws : List ℕ) → flat s (hedge_words h ++ ws) ≡ elements s h ++ (given (closing_of (behind s h)) ++ flat 2 ws)
flat-hedge ε i s ws = flat_on s 0 2 ws refl ∙ ap (λ l. l ++ flat 2 ws) (word_end s)
flat-hedge (tvar x r) i s ws =
    let b = i.0 in
    flat_on s (1000 + x.0) 2 (hedge_words r ++ ws) (after-low (1000 + x.0) (omega arith))
    ∙ ap (λ l. word_text s (1000 + x.0) ++ l) (flat-hedge r i.1 2 ws ∙ ap (λ z. elements 2 r ++ (given (closing_of z) ++ flat 2 ws)) (two r))
    ∙ sym (append_assoc (word_text s (1000 + x.0)) (elements 2 r) (given (closing_of 2) ++ flat 2 ws))
flat-hedge (hvar p r) i s ws =
    let b = i.0 in
    flat_on s (2000 + p.0) 2 (hedge_words r ++ ws) (after-low (2000 + p.0) (omega arith))
    ∙ ap (λ l. word_text s (2000 + p.0) ++ l) (flat-hedge r i.1 2 ws ∙ ap (λ z. elements 2 r ++ (given (closing_of z) ++ flat 2 ws)) (two r))
    ∙ sym (append_assoc (word_text s (2000 + p.0)) (elements 2 r) (given (closing_of 2) ++ flat 2 ws))
flat-hedge (node f c r) i s ws =
    flat_on s (functor_word f) 1 ((hedge_words c ++ hedge_words r) ++ ws) (after-functor f)
    ∙ ap (λ l. word_text s (functor_word f) ++ l)
    (ap (flat 1) (append_assoc (hedge_words c) (hedge_words r) ws)
    ∙ flat-hedge c i.1 1 (hedge_words r ++ ws)
    ∙ ap (λ l. elements 1 c ++ (given (closing_of (behind 1 c)) ++ l)) (flat-hedge r i.2 2 ws ∙ ap (λ z. elements 2 r ++ (given (closing_of z) ++ flat 2 ws)) (two r))
    ∙ sym (append_assoc (elements 1 c) (given (closing_of (behind 1 c))) (elements 2 r ++ (given (closing_of 2) ++ flat 2 ws)))
    ∙ sym (append_assoc (elements 1 c ++ given (closing_of (behind 1 c))) (elements 2 r) (given (closing_of 2) ++ flat 2 ws)))
    ∙ sym (append_assoc (word_text s (functor_word f)) ((elements 1 c ++ given (closing_of (behind 1 c))) ++ elements 2 r) (given (closing_of 2) ++ flat 2 ws))

flat-body : (h : Hedge) → fine_hedge desk h → (s : ℕ) → flat s (body h) ≡ elements s h
flat-body ε i s = flat-none s
flat-body (tvar x r) i s = let b = i.0 in flat_on s (1000 + x.0) 2 (body r) (after-low (1000 + x.0) (omega arith)) ∙ ap (λ l. word_text s (1000 + x.0) ++ l) (flat-body r i.1 2)
flat-body (hvar p r) i s = let b = i.0 in flat_on s (2000 + p.0) 2 (body r) (after-low (2000 + p.0) (omega arith)) ∙ ap (λ l. word_text s (2000 + p.0) ++ l) (flat-body r i.1 2)
flat-body (node f c r) i s =
    flat_on s (functor_word f) 1 (hedge_words c ++ body r) (after-functor f)
    ∙ ap (λ l. word_text s (functor_word f) ++ l)
    (flat-hedge c i.1 1 (body r) ∙ ap (λ l. elements 1 c ++ (given (closing_of (behind 1 c)) ++ l)) (flat-body r i.2 2)
    ∙ sym (append_assoc (elements 1 c) (given (closing_of (behind 1 c))) (elements 2 r)))

-- ---- the loop over a side's words

-- what is still to be written makes the whole
pub record Going (stop from end : ℕ) (w old : List ℕ) (to i s : ℕ) (now : List ℕ) (n : ℕ) : Type 0 where
  pub high : i ≤ end
  pub same : length now ≡ length old
  pub on : (new : List ℕ) (e : ℕ) → Laid stop now n (flat s (between i end w)) new e → Laid stop old to (flat 0 (between from end w)) new e

module _ {stop from end : ℕ} {w old : List ℕ} {to : ℕ} where
  pub going_on : {i s m n : ℕ} {now next : List ℕ} {t : ℕ} → Going stop from end w old to i s now n → i < end → end ≤ length w → Laid stop now n (word_text s (get_or w i 0)) next m → t ≡ after_of (get_or w i 0) → length next ≡ length old
      → Going stop from end w old to (i + 1) t next m
  going_on {i} {s} {m} {n} {now} {next} {t} g p q l e same = record {
    high = omega arith;
    same = same;
    on = λ new z k. g.on new z (laid_as (sym (ap (flat s) (between_cons i end w p q) ∙ flat_on s (get_or w i 0) t (between (i + 1) end w) (sym e))) (laid-row (word_text s (get_or w i 0)) (flat t (between (i + 1) end w)) l k));
  }

  pub all-gone : {i s n : ℕ} {now : List ℕ} → Going stop from end w old to i s now n → end ≤ i → Laid stop old to (flat 0 (between from end w)) now n
  all-gone {i} {s} {n} {now} g p = g.on now n (laid_as (sym (ap (λ m. flat s (take m (drop i w))) (let z : end - i ≡ 0 = omega arith in z) ∙ flat-none s)) laid_none)

-- ---- a hedge where it stands

-- a hedge has a word, and one only if it is empty
some_words : (h : Hedge) → 1 ≤ length (hedge_words h)
some_words ε = omega arith
some_words (tvar x r) = omega arith
some_words (hvar p r) = omega arith
some_words (node f c r) = omega arith

empty-words : (r : Hedge) (a b : ℕ) → b ≡ a + length (hedge_words r) → eqb (a + 1) b ≡ is_empty r
empty-words ε a b e = eq-eqb (a + 1) b (omega arith)
empty-words (tvar x r) a b e = let s = some_words r in ne_eqb (a + 1) b (omega arith)
empty-words (hvar p r) a b e = let s = some_words r in ne_eqb (a + 1) b (omega arith)
empty-words (node f c r) a b e = let s = some_words r in let t = some_words c in let n = length-append (hedge_words c) (hedge_words r) in ne_eqb (a + 1) b (omega arith)

place_of : (at : ℕ) (g : Got Hedge) (h : Hedge) (n e : ℕ) → g ≡ got h n → placed at g ≡ Ok e → e ≡ at + n
unfolding placed
place_of at g h n e p q = let z = sym (ap (placed at) p) ∙ q in cc

no_place : {A : Type 0} (at : ℕ) (g : Got Hedge) (h : Hedge) (n e : ℕ) → g ≡ got h n → placed at g ≡ Err e → A
unfolding placed
no_place at g h n e p q = let z = sym (ap (placed at) p) ∙ q in absurd (let z : ◌≡◌ {A = ℕ} 0 1 = cc in omega arith)

abbrev Tells : List ℕ → ℕ → ℕ → Bool → Type 0
Tells w at last r = (h : Hedge) (beyond : List ℕ) → Side w at h beyond → last + 1 ≡ at + length (hedge_words h) → r ≡ is_one h

module _ (w : List ℕ) (at : ℕ) where
  read-side : (h : Hedge) (beyond : List ℕ) → Side w at h beyond → read_hedge desk (drop at w) ≡ got h (length (hedge_words h))
  read-side h beyond s = ap (read_hedge desk) s.words ∙ (hedges-read desk).read_back h beyond s.fine

  -- what was read at a place lies within the words
  pub side-within : (r : Result ℕ ℕ) (e : ℕ) → r ≡ placed at (read_hedge desk (drop at w)) → r ≡ Ok e → (at < e) × (e ≤ length w)
  side-within r e p q = on (read_hedge desk (drop at w)) refl (sym p ∙ q)
    where
      on : (g : Got Hedge) → read_hedge desk (drop at w) ≡ g → placed at g ≡ Ok e → (at < e) × (e ≤ length w)
      on (got h n) i z =
          let f = (hedges-read desk).found (drop at w) h n i in
          let l = length-drop at w in
          let m = ap length f.2 ∙ length-append (hedge_words h) (drop n (drop at w)) in
          let k = some_words h in
          let j = f.1 in
          let y = place_of at (got h n) h n e refl z in
          (omega arith, omega arith)
      on (stop n) i z = unfold placed in absurd (let z : ◌≡◌ {A = ℕ} 0 1 = cc in omega arith)

  -- ---- whether it is one element

  pub one-past : (last : ℕ) → length w ≤ at → Tells w at last false
  one-past last p h beyond s e = let k = some_words h in let l = ap length s.words ∙ length-append (hedge_words h) beyond in absurd (omega (arith, length-drop at w))

  pub one-empty : (last : ℕ) → at ≡ last → Tells w at last false
  one-empty last p ε beyond s e = refl
  one-empty last p (tvar x r) beyond s e = absurd (let k = some_words r in omega arith)
  one-empty last p (hvar q r) beyond s e = absurd (let k = some_words r in omega arith)
  one-empty last p (node f c r) beyond s e = absurd (let k = some_words r in let n = length-append (hedge_words c) (hedge_words r) in omega arith)

  low-functor : (f : Functor) → functor_word f < 3000 → ⊥
  low-functor (symbol f) p = omega arith
  low-functor (fvar X) p = omega arith

  high_word : (f : Functor) (ws : List ℕ) → drop at w ≡ functor_word f ∷ ws → get_or w at 0 < 3000 → ⊥
  high_word f ws e p = low-functor f (let z = word-of w at e in omega arith)

  pub one-variable : (last : ℕ) → (at ≡ last → ⊥) → get_or w at 0 < 3000 → Tells w at last (eqb (at + 1) last)
  one-variable last n p ε beyond s e = absurd (n (omega arith))
  one-variable last n p (tvar x r) beyond s e = empty-words r at _ (omega arith)
  one-variable last n p (hvar q r) beyond s e = empty-words r at _ (omega arith)
  one-variable last n p (node f c r) beyond s e = absurd (high_word f _ s.words p)

  children : (f : Functor) (c r : Hedge) (beyond : List ℕ) → Side w at (node f c r) beyond → read_hedge desk (drop (at + 1) w) ≡ got c (length (hedge_words c))
  children f c r beyond s =
      ap (read_hedge desk) (tail_of w at s.words ∙ append_assoc (hedge_words c) (hedge_words r) beyond) ∙ (hedges-read desk).read_back c (hedge_words r ++ beyond) s.fine.1

  low_word : {A : Type 0} (x : ℕ) (ws : List ℕ) → drop at w ≡ x ∷ ws → x < 3000 → 3000 ≤ get_or w at 0 → A
  low_word x ws e p q = let z = word-of w at e in absurd (omega arith)

  module _ (last : ℕ) {m : ℕ} (g : Result ℕ ℕ) (p : 3000 ≤ get_or w at 0) (q : g ≡ placed (at + 1) (read_hedge desk (drop (at + 1) w))) where
    pub one-functor : g ≡ Ok m → Tells w at last (eqb m last)
    one-functor z ε beyond s e = low_word 0 _ s.words (omega arith) p
    one-functor z (tvar x r) beyond s e = let b = s.fine.0 in low_word (1000 + x.0) _ s.words (omega arith) p
    one-functor z (hvar x r) beyond s e = let b = s.fine.0 in low_word (2000 + x.0) _ s.words (omega arith) p
    one-functor z (node f c r) beyond s e =
        let y = place_of (at + 1) _ c (length (hedge_words c)) m (children f c r beyond s) (sym q ∙ z) in
        let n = length-append (hedge_words c) (hedge_words r) in
        let t = some_words c in
        ap (λ k. eqb k last) (let z : m ≡ m - 1 + 1 = omega arith in z) ∙ empty-words r (m - 1) last (omega arith)

    pub one-broken : g ≡ Err m → Tells w at last false
    one-broken z ε beyond s e = refl
    one-broken z (tvar x r) beyond s e = let b = s.fine.0 in low_word (1000 + x.0) _ s.words (omega arith) p
    one-broken z (hvar x r) beyond s e = let b = s.fine.0 in low_word (2000 + x.0) _ s.words (omega arith) p
    one-broken z (node f c r) beyond s e = no_place (at + 1) _ c (length (hedge_words c)) m (children f c r beyond s) (sym q ∙ z)

-- ---- a side is written

module _ {stop at to : ℕ} {w old : List ℕ} (g : Result ℕ ℕ) (q : g ≡ placed at (read_hedge desk (drop at w))) where
  pub sided-none : {e : ℕ} → g ≡ Err e → Sided stop w at old to old (record { end = at; to = to })
  sided-none {e} z = record { after = omega arith; each = λ h beyond s. no_place at _ h (length (hedge_words h)) e (read-side w at h beyond s) (sym q ∙ z) }

  pub sided : {e n m k : ℕ} {last : ℕ} {one : Bool} {l₁ l₂ new : List ℕ} (a b : ℕ) → g ≡ Ok e → last + 1 ≡ e → OneAt w at last one → a ≡ unless one 40 → Laid stop old to (given a) l₁ n
      → Laid stop l₁ n (flat 0 (between at last w)) l₂ m → b ≡ unless one 41 → Laid stop l₂ m (given b) new k → Sided stop w at old to new (record { end = e; to = k })
  sided {e} {n} {m} {k} {last} {one} {l₁} {l₂} {new} a b z p o pa la lf pb lb = record {
    after = let y = side-within w at g e q z in omega arith;
    each = λ h beyond s.
        let d = place_of at _ h (length (hedge_words h)) e (read-side w at h beyond s) (sym q ∙ z) in
        let i = o.tells h beyond s (p ∙ d) in
        let c = ap length (words-body h) ∙ length-append (body h) (0 ∷ []) in
        let u : last - at ≡ length (body h) = omega arith in
        let t : between at last w ≡ body h =
        ap (λ n. take n (drop at w)) u ∙ ap (take (length (body h))) (s.words ∙ ap (λ l. l ++ beyond) (words-body h) ∙ append_assoc (body h) (0 ∷ []) beyond) ∙ take-append_seam (body h) ((0 ∷ []) ++ beyond) in
        record {
          end = d;
          laid =
              laid-row (given (unless (is_one h) 40)) (elements 0 h ++ given (unless (is_one h) 41)) (laid_as (ap given (pa ∙ ap (λ o. unless o 40) i)) la)
              (laid-row (elements 0 h) (given (unless (is_one h) 41)) (laid_as (ap (flat 0) t ∙ flat-body h s.fine 0) lf) (laid_as (ap given (pb ∙ ap (λ o. unless o 41) i)) lb));
        };
  }
