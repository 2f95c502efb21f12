-- Results counted and added to others: none, one, some and then more; and what is held from outside.
use Prim.Native.Nat.{ℕ, suc, ◌+◌, ◌-◌, ◌<◌, ◌≤◌}
use mathlib.Core.Path.{◌≡◌, refl, ap, sym, subst, ◌∙◌}
use mathlib.Core.Bool.{Bool, true, false}
use mathlib.Core.List.{List, [], ◌∷◌, ◌++◌, append_assoc, append-nil}
use native.Mathlib.Omega.{arith}
use lib.Dec.{leb}
use borrow.Author.Tests.{le-leb, lt-leb}
use lib.ListN.{length, take, drop, set, length-append, length-drop, drop_of_length-le}
use lib.Seq.{sets, slice, length-sets, sets-eq, drop_at, length-take-le, drop-set-lt}
use Rattle.std.specs.Prelude.{Option, Some, None}
use Rattle.language.specs.Kinds.{pick}
use Rattle.language.specs.Limits.{desk}
use Rattle.frames.specs.Frames.{frame, frame_of, in_frames}
use Rattle.frames.proofs.Framing.{frames-append}
use Rattle.plans.specs.Sizes.{Short, grown, sized_from, sized}
use Rattle.slices.specs.Written.{Wrote}
use Rattle.slices.proofs.Still.{wrote_as}
use Rattle.linear_form.specs.declared.adding.Kept.{Kept}
use Rattle.linear_form.specs.declared.adding.Spot.{Spot}
use Rattle.monomials.specs.Loose.{Loose, first_words, rest_words, opening}
use Rattle.linear_form.specs.Rows.{front_words, back_words, row_words, kept_length, length_by, result_length, result_words, counted, tallied, Holds, Rowed}
use Rattle.linear_form.specs.Walks.{Keeps, Added}
use Rattle.linear_form.proofs.Rows.{row_of, length-by}
use Rattle.linear_form.proofs.Written.{wrote-append}

-- ---- counting

pub tallied-append : (s : Option ℕ) (us vs : List (List ℕ)) → tallied s (us ++ vs) ≡ tallied (tallied s us) vs
tallied-append s [] vs = refl
tallied-append s (u ∷ us) vs = tallied-append (counted s (length u)) us vs

tallied-over : (ws : List (List ℕ)) → tallied None ws ≡ None
tallied-over [] = refl
tallied-over (w ∷ ws) = tallied-over ws

tallied-if : (b : Bool) (n : ℕ) (ws : List (List ℕ)) → tallied (Some n) ws ≡ sized_from n ws → tallied (pick b (Some n) None) ws ≡ pick b (sized_from n ws) None
tallied-if true n ws e = e
tallied-if false n ws e = tallied-over ws

tallied-from : (n : ℕ) (ws : List (List ℕ)) → tallied (Some n) ws ≡ sized_from n ws
tallied-from n [] = refl
tallied-from n (w ∷ ws) = tallied-if (leb (length w) desk.question) (grown n (length w)) ws (tallied-from (grown n (length w)) ws)

pub tallied-all : (ws : List (List ℕ)) → tallied (Some 0) ws ≡ sized ws
unfolding sized
tallied-all ws = tallied-from 0 ws

-- ---- in a row

short-append : (us vs : List (List ℕ)) → Short (us ++ vs) → Short us × Short vs
short-append [] vs h = (tt, h)
short-append (u ∷ us) vs h = let r = short-append us vs h.1 in ((h.0, r.0), r.1)

-- ---- what is held

pub keeps-all : (n : ℕ) (rest : List ℕ) → Keeps n rest rest
keeps-all n rest = record { long = refl; holds = λ vs l h. h }

pub keeps_on : {n m : ℕ} {r₀ r₁ r₂ : List ℕ} → n ≤ m → Keeps n r₀ r₁ → Keeps m r₁ r₂ → Keeps n r₀ r₂
keeps_on l a b = record { long = b.long ∙ a.long; holds = λ vs h x. b.holds vs (omega arith) (a.holds vs h x) }

pub holds-none : (rest : List ℕ) → Holds rest []
holds-none rest = record { last = λ l. drop_of_length-le rest {i = length rest - 0} (omega arith) }

drop_past : (l : List ℕ) (i : ℕ) (vs : List ℕ) (m : ℕ) → i + length vs ≤ m → drop m (sets l i vs) ≡ drop m l
drop_past l i [] m p = refl
drop_past l i (v ∷ vs) m p = drop_past (set l i v) (suc i) vs m (omega arith) ∙ drop-set-lt m l i v (omega arith)

drop-sets : (l : List ℕ) (i : ℕ) (vs : List ℕ) → i + length vs ≤ length l → drop i (sets l i vs) ≡ vs ++ drop (i + length vs) l
drop-sets l i vs h =
    ap (drop i) (sets-eq vs l i h ∙ append_assoc (take i l) vs (drop (i + length vs) l))
    ∙ drop_at (take i l) (vs ++ drop (i + length vs) l) i (length-take-le i l (omega arith))

-- words stored before the last n
module _ (rest : List ℕ) (at : ℕ) (us : List ℕ) {n : ℕ} (e : at + length us + n ≡ length rest) where
  pub store_keeps : Keeps n rest (sets rest at us)
  store_keeps =
      let z = length-sets rest at us in
      record {
        long = z;
        holds = λ vs l h. record { last = λ f. ap (λ m. drop (m - length vs) (sets rest at us)) z ∙ drop_past rest at us (length rest - length vs) (omega arith) ∙ h.last (omega arith) };
      }

  pub store-holds : (ws : List ℕ) → length ws ≡ n → Holds rest ws → Holds (sets rest at us) (us ++ ws)
  store-holds ws d h =
      record {
        last = λ f.
            let z = length-sets rest at us in
            let a = length-append us ws in
            let p : length (sets rest at us) - length (us ++ ws) ≡ at = omega arith in
            let q : at + length us ≡ length rest - length ws = omega arith in
            ap (λ m. drop m (sets rest at us)) p ∙ drop-sets rest at us (omega arith) ∙ ap (λ m. us ++ drop m rest) q ∙ ap (λ l. us ++ l) (h.last (omega arith));
      }

-- ---- adding

pub added_none : {number : ℕ} {ws rest out : List ℕ} {t : ℕ} → Added number [] ws rest out t rest out t
added_none {ws = ws} {rest = rest} = record { keeps = keeps-all (length ws) rest; wrote = λ h q s r. record { end = omega arith; list = refl } }

pub added-same : {number : ℕ} {ls ms : List (List ℕ)} {ws r₀ o₀ : List ℕ} {t₀ : ℕ} {r₁ o₁ : List ℕ} {t₁ : ℕ} → ms ≡ ls → Added number ls ws r₀ o₀ t₀ r₁ o₁ t₁ → Added number ms ws r₀ o₀ t₀ r₁ o₁ t₁
added-same e a = rw e a

pub added-append : {number : ℕ} {us vs : List (List ℕ)} {ws r₀ o₀ : List ℕ} {t₀ : ℕ} {r₁ o₁ : List ℕ} {t₁ : ℕ} {r₂ o₂ : List ℕ} {t₂ : ℕ}
    → Added number us ws r₀ o₀ t₀ r₁ o₁ t₁ → Added number vs ws r₁ o₁ t₁ r₂ o₂ t₂ → Added number (us ++ vs) ws r₀ o₀ t₀ r₂ o₂ t₂
added-append {number} {us} {vs} {ws} {r₀} {o₀} {t₀} {r₁} {o₁} {t₁} {r₂} {o₂} {t₂} a b =
    record {
      keeps = keeps_on (omega arith) a.keeps b.keeps;
      wrote = λ h q s r.
          let f = frames-append number us vs in
          let l = ap length f ∙ length-append (in_frames number us) (in_frames number vs) in
          let x = short-append us vs s in
          let u = a.wrote h q x.0 (omega arith) in
          let n = ap length u.list ∙ length-sets o₀ t₀ (in_frames number us) in
          let e = u.end in
          let k = a.keeps.long in
          wrote_as f (wrote-append u (b.wrote (a.keeps.holds ws (omega arith) h) (omega arith) x.1 (omega arith)));
    }

-- with more from outside
pub added-inner : {number : ℕ} {ls : List (List ℕ)} {ws vs r₀ r₁ o₀ : List ℕ} {t₀ : ℕ} {r₂ o₂ : List ℕ} {t₂ : ℕ} → length ws ≤ length vs
    → Keeps (length ws) r₀ r₁ → (Holds r₀ ws → Holds r₁ vs) → Added number ls vs r₁ o₀ t₀ r₂ o₂ t₂ → Added number ls ws r₀ o₀ t₀ r₂ o₂ t₂
added-inner l k f a =
    record {
      keeps = keeps_on l k a.keeps;
      wrote = λ h q s r. let z = k.long in a.wrote (f h) (omega arith) s r;
    }

-- ---- one

row-length : (k : List ℕ) (s : Kept) (p : Spot) (m : Loose) → front_words k s p ++ (rest_words m ++ back_words k s) ≡ row_words k s m → p.parts ≡ m.parts → p.words ≡ length m.words
    → result_length k s p ≡ length (row_words k s m)
unfolding result_length
row-length k s p m r c w =
    let a = length-append (front_words k s p) (rest_words m ++ back_words k s) in
    let b = length-append (rest_words m) (back_words k s) in
    let d = length-append (opening m.parts) m.words in
    let f = ap (λ n. length (opening n)) c in
    let g = ap length r in
    omega arith

pub tallied-one : (k : List ℕ) (s : Kept) (p : Spot) (size : Option ℕ) {one : ℕ} (m : Loose) → one ≡ length_by k (kept_length k s) p → slice p.place p.past k ≡ first_words m
    → p.parts ≡ m.parts → p.words ≡ length m.words → counted size one ≡ tallied size (row_words k s m ∷ [])
tallied-one k s p size m h e c w = ap (counted size) (h ∙ sym (length-by k s p) ∙ row-length k s p m (row_of k s p m e) c w)

pub added-one : {k : List ℕ} {s : Kept} {p : Spot} {rest out : List ℕ} {t : ℕ} {out' : List ℕ} {r : ℕ} (m : Loose) → Rowed k s p rest out t out' r
    → slice p.place p.past k ≡ first_words m → p.parts ≡ m.parts → p.words ≡ length m.words → Added s.number (row_words k s m ∷ []) m.words rest out t rest out' r
unfolding result_words
added-one {k} {s} {p} {rest} {out} {t} {out'} {r} m a e c w =
    let row = row_of k s p m e in
    let n = row-length k s p m row c w in
    record {
      keeps = keeps-all (length m.words) rest;
      wrote = λ h q x y.
          let z = length-append (row_words k s m) [] in
          let v = x.0 in
          let words : in_frames s.number (row_words k s m ∷ []) ≡ result_length k s p ∷ s.number ∷ (front_words k s p ++ ((opening p.parts ++ m.words) ++ back_words k s)) =
          ap (λ l. length (row_words k s m) ∷ s.number ∷ l) (append-nil (row_words k s m)) ∙ ap (λ n. n ∷ s.number ∷ row_words k s m) (sym n) ∙ ap (λ l. result_length k s p ∷ s.number ∷ l) (sym row)
          ∙ ap (λ n. result_length k s p ∷ s.number ∷ (front_words k s p ++ ((opening n ++ m.words) ++ back_words k s))) (sym c) in
          wrote_as words (a.wrote m.words (sym w) h q (omega arith) (omega arith));
    }

-- ---- how it comes to be

pub counted-over : {size : Option ℕ} (l : ℕ) → size ≡ None → None ≡ counted size l
counted-over l e = sym (ap (λ s. counted s l) e)

module _ {size : Option ℕ} {l n : ℕ} (e : size ≡ Some n) where
  pub counted-long : desk.question < l → None ≡ counted size l
  counted-long h = sym (ap (λ s. counted s l) e ∙ ap (λ b. pick b (Some (grown n l)) None) (lt-leb l desk.question h))

  pub counted-more : {m : ℕ} → l ≤ desk.question → m ≡ grown n l → Some m ≡ counted size l
  counted-more h g = sym (ap (λ s. counted s l) e ∙ ap (λ b. pick b (Some (grown n l)) None) (le-leb l desk.question h) ∙ ap Some (sym g))

words-length : (k : List ℕ) (s : Kept) (p : Spot) (ws : List ℕ) → length ws ≡ p.words → length (result_words k s p ws) ≡ result_length k s p
unfolding result_words result_length
words-length k s p ws l =
    let a = length-append (front_words k s p) ((opening p.parts ++ ws) ++ back_words k s) in
    let b = length-append (opening p.parts ++ ws) (back_words k s) in
    let d = length-append (opening p.parts) ws in
    omega arith

words-fewer : (k : List ℕ) (s : Kept) (p : Spot) → p.words ≤ result_length k s p
unfolding result_length
words-fewer k s p = omega arith

module _ {k : List ℕ} {s : Kept} {p : Spot} {rest out : List ℕ} {t one : ℕ} (fit : t ≤ length out) (e : one ≡ result_length k s p) where
  pub rowed-long : desk.question < one → Rowed k s p rest out t out t
  rowed-long h = record { room = fit; wrote = λ ws l d q x y. absurd (omega arith) }

  pub rowed-short : length rest < p.words → Rowed k s p rest out t out t
  rowed-short h = let f = words-fewer k s p in record { room = fit; wrote = λ ws l d q x y. absurd (omega arith) }

  pub rowed-full : length out - t < one + frame → Rowed k s p rest out t out t
  rowed-full h = record { room = fit; wrote = λ ws l d q x y. absurd (omega arith) }

  pub rowed-more : {out' : List ℕ} {end : ℕ} → p.words ≤ length rest → length out' ≡ length out → t + frame + one ≤ length out
      → Wrote out t (frame_of (result_length k s p) s.number ++ result_words k s p (drop (length rest - p.words) rest)) out' end → Rowed k s p rest out t out' end
  rowed-more {out'} {end} f n y w =
      let d = length-drop (length rest - p.words) rest in
      let l = words-length k s p (drop (length rest - p.words) rest) (omega arith) in
      let z = w.end in
      record {
        room = omega arith;
        wrote = λ ws l d q x z.
            let v : drop (length rest - p.words) rest ≡ ws = ap (λ m. drop (length rest - m) rest) (sym l) ∙ d.last (omega arith) in
            subst (λ ws. Wrote out t (frame_of (result_length k s p) s.number ++ result_words k s p ws) out' end) v w;
      }
