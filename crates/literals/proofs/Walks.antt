-- Literals counted along their words: so many are to be passed still, or were passed.
use Prim.Native.Nat.{ℕ, suc, ◌+◌, ◌-◌, ◌<◌, ◌≤◌}
use native.Mathlib.Omega.{arith}
use mathlib.Core.Path.{◌≡◌, refl, sym, ap, ◌∙◌}
use mathlib.Core.List.{List, [], ◌∷◌, ◌++◌, append_assoc, append-nil}
use lib.ListN.{length, drop, length-append}
use Rattle.language.specs.Limits.{desk}
use Rattle.language.specs.Trees.{Literal, Conj}
use Rattle.language.specs.Writing.{literal_words, conj_words}
use Rattle.language.specs.Fine.{fine_conj}
use Rattle.rules.proofs.FineParts.{fine-append}
use Rattle.words.specs.Places.{until_literal}
use Rattle.views.specs.Standing.{LiteralAt}
use Rattle.views.proofs.Words.{words_append}
use Rattle.views.proofs.Seen.{literal-next}
use Rattle.views.proofs.LiteralWalks.{Walked, walk-starts, walk_here, walk-to, walk_ends, literal-some, stands_here}
use Rattle.literals.specs.Places.{words_before}

-- ---- so many are to be passed still

abbrev pub Left : ℕ → Conj → ℕ → ℕ → Conj → Conj → Type 0
Left number c left i done rest = words_before number c ≡ i + words_before left rest

pub left-starts : (number : ℕ) (c : Conj) → Walked (Left number c number 0) c 0
left-starts number c = walk-starts (Left number c number 0) c (let z : words_before number c ≡ 0 + words_before number c = omega arith in z)

module _ (k : List ℕ) (number : ℕ) (c : Conj) (fine : fine_conj desk c) (words : k ≡ conj_words c) (left i : ℕ) (w : Walked (Left number c left i) c i) where
  pub left-none : i < length k → left ≡ 0 → i ≡ words_before number c
  left-none h e = walk_here k c fine words i (Left number c left i) (i ≡ words_before number c) w h
      λ done l rest p q. let z = ap (λ n. words_before n (l ∷ rest)) e in omega arith

  pub left_less : i < length k → (left ≡ 0 → ⊥) → (j : ℕ) → j ≡ i + 1 + until_literal (drop (i + 1) k) → Walked (Left number c (left - 1) j) c j
  left_less h e j n = walk-to k c fine words i (Left number c left i) (Left number c (left - 1) j) j w h
      λ done l rest p q.
      let a = n ∙ literal-next p in
      let z = ap (λ n. words_before n (l ∷ rest)) (let y : left ≡ suc (left - 1) = omega arith in y) in
      (a, omega arith)

  pub left-ends : length k ≤ i → i ≡ words_before number c
  left-ends h = let z = walk_ends k c fine words i (Left number c left i) w h in omega arith

-- ---- so many were passed, before the literal at a place

pub record Counted (before : Conj) (n i : ℕ) : Type 0 where
  pub done : Conj
  pub mid : Conj
  pub whole : before ≡ done ++ mid
  pub place : i ≡ length (conj_words done)
  pub count : n ≡ length done

pub counted-starts : (before : Conj) → Counted before 0 0
counted-starts before = record { done = []; mid = before; whole = refl; place = refl; count = refl }

module _ {k : List ℕ} {at : ℕ} {before : Conj} {l : Literal} {behind : Conj} (s : LiteralAt k at before l behind) (n i : ℕ) (w : Counted before n i) where
  lengths : (done mid : Conj) → before ≡ done ++ mid → length (conj_words before) ≡ length (conj_words done) + length (conj_words mid)
  lengths done mid e = ap length (ap conj_words e ∙ words_append done mid) ∙ length-append (conj_words done) (conj_words mid)

  pub counted-more : i < at → (j : ℕ) → j ≡ i + 1 + until_literal (drop (i + 1) k) → Counted before (n + 1) j
  counted-more h j e = go w.done w.mid w.whole w.place w.count
    where
      go : (done mid : Conj) → before ≡ done ++ mid → i ≡ length (conj_words done) → n ≡ length done → Counted before (n + 1) j
      go done [] d p q = absurd (let z = lengths done [] d in let y = s.place in omega arith)
      go done (m ∷ mid) d p q =
          let here = stands_here k (before ++ (l ∷ behind)) (fine-append desk before (l ∷ behind) s.fine_before (s.fine, s.fine_behind)) (s.words ∙ sym (words_append before (l ∷ behind))) i done m (mid ++ (l ∷ behind))
          (ap (λ b. b ++ (l ∷ behind)) d ∙ append_assoc done (m ∷ mid) (l ∷ behind)) p in
          let a = e ∙ literal-next here in
          record {
            done = done ++ (m ∷ []);
            mid = mid;
            whole = d ∙ sym (append_assoc done (m ∷ []) mid);
            place =
                let x = ap length (words_append done (m ∷ [])) ∙ length-append (conj_words done) (conj_words (m ∷ [])) in
                let y = ap length (append-nil (literal_words m)) in
                omega arith;
            count = let x = length-append done (m ∷ []) in omega arith;
          }

  -- past the place there is none
  pub counted-within : i ≤ at
  counted-within = let z = lengths w.done w.mid w.whole in let y = s.place in let x = w.place in omega arith

  pub counted-all : at ≤ i → n ≡ length before
  counted-all h = go w.done w.mid w.whole w.place w.count
    where
      go : (done mid : Conj) → before ≡ done ++ mid → i ≡ length (conj_words done) → n ≡ length done → n ≡ length before
      go done [] d p q = q ∙ ap length (sym (append-nil done) ∙ sym d)
      go done (m ∷ mid) d p q =
          absurd (let z = lengths done (m ∷ mid) d in let y = s.place in let x = literal-some m in let v = length-append (literal_words m) (conj_words mid) in omega arith)
