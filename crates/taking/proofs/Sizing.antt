-- What a size says: `Some` of the words in a row and of each result, `None` that one of them is too long, and of the run's number 7.
use mathlib.Core.Path.{◌≡◌, refl, sym, ap, ◌∙◌}
use mathlib.Core.Bool.{Bool, true, false, ◌||◌}
use mathlib.Core.List.{List, [], ◌∷◌, map}
use Prim.Native.Nat.{ℕ, ◌+◌, ◌<◌, ◌≤◌}
use native.Mathlib.Omega.{arith}
use native.Mathlib.Decide.{dec_le}
use lib.Dec.{leb, ltb}
use lib.ListN.{length, length-append}
use borrow.Author.Tests.{le-leb, lt-leb, lt-ltb, le-ltb}
use Rattle.std.specs.Prelude.{Some, None}
use Rattle.language.specs.Kinds.{pick}
use Rattle.language.specs.Limits.{desk}
use Rattle.language.specs.Trees.{Conj}
use Rattle.language.specs.Writing.{conj_words}
use Rattle.rules.specs.Run.{size, any_long}
use Rattle.frames.specs.Frames.{frame, in_frames}
use Rattle.plans.specs.Sizes.{Short, grown, sized_from, sized, Ready}

-- whether some result is too long
abbrev pub too_long : List (List ℕ) → Bool
too_long [] = false
too_long (w ∷ ws) = ltb desk.question (length w) || too_long ws

-- m is n and the words of the results in a row, as far as it was counted
pub record Counted (n : ℕ) (ws : List (List ℕ)) (m : ℕ) : Type 0 where
  pub short : Short ws
  pub exact : (number : ℕ) → m ≤ desk.room → n + length (in_frames number ws) ≡ m
  pub past : (number : ℕ) → desk.room < m → desk.room < n + length (in_frames number ws)

module _ (n : ℕ) (w : List ℕ) (ws : List (List ℕ)) where
  fitting : length w ≤ desk.question → sized_from n (w ∷ ws) ≡ sized_from (grown n (length w)) ws
  fitting h = ap (λ b. pick b (sized_from (grown n (length w)) ws) None) (le-leb (length w) desk.question h)

  passing : desk.question < length w → sized_from n (w ∷ ws) ≡ None
  passing h = ap (λ b. pick b (sized_from (grown n (length w)) ws) None) (lt-leb (length w) desk.question h)

  -- one more counted
  counted-more : (m : ℕ) → length w ≤ desk.question → Counted (grown n (length w)) ws m → grown n (length w) ≤ m → Counted n (w ∷ ws) m
  counted-more m h r g = go (dec_le n desk.room)
    where
      go : Dec (n ≤ desk.room) → Counted n (w ∷ ws) m
      go (yes p) =
          let e : grown n (length w) ≡ n + frame + length w = ap (λ b. pick b (n + frame + length w) n) (le-leb n desk.room p) in
          record {
            short = (h, r.short);
            exact = λ number q. let l = length-append w (in_frames number ws) in let x = r.exact number q in omega arith;
            past = λ number q. let l = length-append w (in_frames number ws) in let x = r.past number q in omega arith;
          }
      go (no p) =
          let e : grown n (length w) ≡ n = ap (λ b. pick b (n + frame + length w) n) (lt-leb n desk.room (omega arith)) in
          record { short = (h, r.short); exact = λ number q. absurd (omega arith); past = λ number q. omega arith }

grown-up : (n l : ℕ) → n ≤ grown n l
grown-up n l = go (leb n desk.room)
  where
    go : (b : Bool) → n ≤ pick b (n + frame + l) n
    go true = omega arith
    go false = omega arith

counted : (ws : List (List ℕ)) (n m : ℕ) → sized_from n ws ≡ Some m → (n ≤ m) × Counted n ws m
counted [] n m e = let z : n ≡ m = cc in (omega arith, record { short = tt; exact = λ number q. omega arith; past = λ number q. omega arith })
counted (w ∷ ws) n m e = go (counted ws (grown n (length w)) m) (dec_le (length w) desk.question)
  where
    go : (sized_from (grown n (length w)) ws ≡ Some m → (grown n (length w) ≤ m) × Counted (grown n (length w)) ws m) → Dec (length w ≤ desk.question)
        → (n ≤ m) × Counted n (w ∷ ws) m
    go ih (yes p) =
        let d = ih (sym (fitting n w ws p) ∙ e) in
        let u = grown-up n (length w) in
        let v = d.0 in
        (omega arith, counted-more n w ws m p d.1 v)
    go ih (no p) = absurd (let y : None ≡ Some m = sym (passing n w ws (omega arith)) ∙ e in let z : ◌≡◌ {A = ℕ} 0 1 = cc in omega arith)

-- ---- `Some`
pub sized-fits : (ws : List (List ℕ)) (m : ℕ) → sized ws ≡ Some m → Counted 0 ws m
unfolding sized
sized-fits ws m e = (counted ws 0 m e).1

pub fits-exact : (number : ℕ) (ws : List (List ℕ)) (m : ℕ) → sized ws ≡ Some m → m ≤ desk.room → length (in_frames number ws) ≡ m
fits-exact number ws m e h = let x = (sized-fits ws m e).exact number h in omega arith

pub fits-past : (number : ℕ) (ws : List (List ℕ)) (m : ℕ) → sized ws ≡ Some m → desk.room < m → desk.room < length (in_frames number ws)
fits-past number ws m e h = let x = (sized-fits ws m e).past number h in omega arith

-- what the writer asks
pub fits-ready : (number : ℕ) (ws : List (List ℕ)) (m : ℕ) → sized ws ≡ Some m → m ≤ desk.room → (out : List ℕ) (at : ℕ) → at + m ≤ length out → Ready number ws out at
fits-ready number ws m e h out at r = record { short = (sized-fits ws m e).short; room = let x = fits-exact number ws m e h in omega arith; low = let x = fits-exact number ws m e h in omega arith }

-- ---- `None`
over-from : (ws : List (List ℕ)) (n : ℕ) → sized_from n ws ≡ None → too_long ws ≡ true
over-from [] n e = absurd (let z : ◌≡◌ {A = ℕ} 0 1 = cc in omega arith)
over-from (w ∷ ws) n e = go (over-from ws (grown n (length w))) (dec_le (length w) desk.question)
  where
    go : (sized_from (grown n (length w)) ws ≡ None → too_long ws ≡ true) → Dec (length w ≤ desk.question) → too_long (w ∷ ws) ≡ true
    go ih (yes p) = ap (λ b. b || too_long ws) (le-ltb desk.question (length w) p) ∙ ih (sym (fitting n w ws p) ∙ e)
    go ih (no p) = ap (λ b. b || too_long ws) (lt-ltb desk.question (length w) (omega arith))

pub over-long : (ws : List (List ℕ)) → sized ws ≡ None → too_long ws ≡ true
unfolding sized
over-long ws e = over-from ws 0 e

pub short-not-long : (ws : List (List ℕ)) → Short ws → too_long ws ≡ false
short-not-long [] s = refl
short-not-long (w ∷ ws) s = ap (λ b. b || too_long ws) (le-ltb desk.question (length w) s.0) ∙ short-not-long ws s.1

-- ---- number 7: the results of a step in words
pub words_long : (ks : List Conj) → any_long desk ks ≡ too_long (map conj_words ks)
words_long [] = refl
words_long (k ∷ ks) = ap (λ b. ltb desk.question (size k) || b) (words_long ks)

module _ (ks : List Conj) (ws : List (List ℕ)) (e : ws ≡ map conj_words ks) where
  pub over-any_long : sized ws ≡ None → any_long desk ks ≡ true
  over-any_long s = words_long ks ∙ ap too_long (sym e) ∙ over-long ws s

  pub fits-any_long : (m : ℕ) → sized ws ≡ Some m → any_long desk ks ≡ false
  fits-any_long m s = words_long ks ∙ ap too_long (sym e) ∙ short-not-long ws (sized-fits ws m s).short
