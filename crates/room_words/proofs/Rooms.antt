-- Words put one after another.
use Prim.Native.Nat.{ℕ, ◌+◌, ◌<◌, ◌≤◌, min}
use native.Mathlib.Omega.{arith}
use mathlib.Core.Path.{◌≡◌, refl, sym, ap, ap₂, ◌∙◌, subst}
use mathlib.Core.Bool.{Bool, true, false, not}
use mathlib.Core.List.{List, [], ◌∷◌, ◌++◌}
use lib.Dec.{leb}
use lib.ListN.{length, set, length-append}
use lib.Seq.{sets, length-sets}
use borrow.Author.Tests.{leb-true, leb-false, not-true, not-false}
use Rattle.language.proofs.Stores.{sets-append, set_past, sets-past}
use Rattle.room_words.specs.Rooms.{word_if, Put, Wrote}

pub put-length : {room ws room' : List ℕ} {n r : ℕ} → Put room n ws r room' → length room' ≡ length room
put-length {room} {ws} {room'} {n} p = ap length p.words ∙ length-sets room n ws

pub put-wrote : {room ws room' : List ℕ} {n r : ℕ} → Put room n ws r room' → Wrote room n ws r room'
put-wrote p = record { place = p.place; len = put-length p; words = λ q. p.words }

smaller : (a b : ℕ) → b ≤ a → min a b ≡ b
smaller a b p = omega arith

counted : (a b n m u v w : ℕ) → n ≤ a → b ≡ a → m ≡ min a (n + u) → w ≡ u + v → min b (m + v) ≡ min a (n + w)
counted a b n m u v w p e x l = omega arith

module _ {room : List ℕ} {n : ℕ} (p : n ≤ length room) where
  pub put-nothing : Put room n [] n room
  put-nothing = record { place = omega arith; words = refl }

  put_full : (w : ℕ) → length room ≤ n → Put room n (w ∷ []) n room
  put_full w q = record { place = omega arith; words = sym (set_past room n w q) }

  pub put_then : {us vs : List ℕ} {m r : ℕ} {room' room'' : List ℕ} → Put room n us m room' → Put room' m vs r room'' → Put room n (us ++ vs) r room''
  put_then {us} {vs} {m} {r} {room'} {room''} a b = record {
    place = b.place ∙ counted (length room) (length room') n m (length us) (length vs) (length (us ++ vs)) p (put-length a) a.place (length-append us vs);
    words = b.words ∙ ap (λ k. sets k m vs) a.words ∙ on (leb (n + length us) (length room)) refl ∙ sym (sets-append us vs room n);
  }
    where
      on : (t : Bool) → leb (n + length us) (length room) ≡ t → sets (sets room n us) m vs ≡ sets (sets room n us) (n + length us) vs
      on true e = ap (λ k. sets (sets room n us) k vs) (a.place ∙ smaller (length room) (n + length us) (leb-true (n + length us) (length room) e))
      on false e =
          let x = a.place in
          let y = leb-false (n + length us) (length room) e in
          let l = length-sets room n us in
          sets-past (sets room n us) m vs (omega arith) ∙ sym (sets-past (sets room n us) (n + length us) vs (omega arith))

  pub wrote_none : Wrote room n [] n room
  wrote_none = put-wrote put-nothing

  pub wrote_then : {us vs : List ℕ} {m r : ℕ} {room' room'' : List ℕ} → Wrote room n us m room' → Wrote room' m vs r room'' → Wrote room n (us ++ vs) r room''
  wrote_then {us} {vs} {m} {r} {room'} {room''} a b =
      let l = length-append us vs in
      let e = a.len in
      let f = b.len in
      let x = a.place in
      let y = b.place in record {
        place = y ∙ counted (length room) (length room') n m (length us) (length vs) (length (us ++ vs)) p e x l;
        len = f ∙ e;
        words = λ q.
            let s : n + length us ≤ length room = omega arith in
            let t : m ≡ n + length us = x ∙ smaller (length room) (n + length us) s in
            let z : m + length vs ≤ length room' = omega arith in
            b.words z ∙ ap₂ (λ k i. sets k i vs) (a.words s) t ∙ sym (sets-append us vs room n);
      }

-- ---- as the code does it

pub put-not : {room : List ℕ} {n : ℕ} (w : ℕ) (b : Bool) → not b ≡ true → n ≤ length room → Put room n (word_if b w) n room
put-not {room} {n} w b e p = subst (λ b. Put room n (word_if b w) n room) (sym (not-true b e)) (put-nothing p)

pub put_one : {room : List ℕ} {n : ℕ} (w : ℕ) (b : Bool) → not b ≡ false → n < length room → Put room n (word_if b w) (n + 1) (set room n w)
put_one {room} {n} w b e p = subst (λ b. Put room n (word_if b w) (n + 1) (set room n w)) (sym (not-false b e)) (record { place = omega arith; words = refl })

pub put-none : {room : List ℕ} {n : ℕ} (w : ℕ) (b : Bool) → not b ≡ false → length room ≤ n → n ≤ length room → Put room n (word_if b w) n room
put-none {room} {n} w b e p q = subst (λ b. Put room n (word_if b w) n room) (sym (not-false b e)) (put_full q w p)

pub head-past : {room : List ℕ} {n : ℕ} (w : ℕ) → length room ≤ n → room ≡ set room n w
head-past {room} {n} w p = sym (set_past room n w p)
