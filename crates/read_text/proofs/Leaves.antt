-- The small calls: at least one, too many, words copied.
use Prim.Native.Nat.{ℕ, zero, suc, ◌+◌, ◌-◌, ◌*◌, ◌<◌, ◌≤◌}
use native.Mathlib.Omega.{arith}
use native.Mathlib.Numerals.{add-one}
use mathlib.Core.Path.{◌≡◌, refl, sym, ap, ◌∙◌}
use mathlib.Core.Bool.{Bool, true, false, ◌||◌}
use mathlib.Core.List.{List, [], ◌∷◌, ◌++◌}
use lib.Dec.{ltb}
use lib.ListN.{length, take, get_or, set, length-take}
use lib.Seq.{sets, take-suc, length-sets}
use borrow.Author.Tests.{lt-ltb, le-ltb, ltb-false}
use Rattle.language.specs.Limits.{Limits}
use Rattle.text_names.specs.Shelves.{width}
use Rattle.text_words.proofs.Stores.{sets-++}
use Rattle.read_text.specs.Reads.{many_of, one_at_least}

pub some-already : (n : ℕ) → (n ≡ 0 → ⊥) → n ≡ one_at_least n
some-already zero p = absurd (p refl)
some-already (suc n) p = refl

-- ---- too many

module _ (L : Limits) (names : List ℕ) (many : ℕ) where
  pub many-terms : L.each < get_or names 0 0 → true ≡ many_of L names many
  unfolding many_of
  many-terms p = rw (lt-ltb L.each (get_or names 0 0) p)

  module _ (a : get_or names 0 0 ≤ L.each) where
    pub many-hedges : L.each < get_or names (width L) 0 → true ≡ many_of L names many
    unfolding many_of
    many-hedges p = rw (le-ltb L.each (get_or names 0 0) a, lt-ltb L.each (get_or names (width L) 0) p)

    module _ (b : get_or names (width L) 0 ≤ L.each) where
      pub many-symbols : L.each < get_or names (2 * width L) 0 → true ≡ many_of L names many
      unfolding many_of
      many-symbols p = rw (le-ltb L.each (get_or names 0 0) a, le-ltb L.each (get_or names (width L) 0) b, lt-ltb L.each (get_or names (2 * width L) 0) p)

      module _ (c : get_or names (2 * width L) 0 ≤ L.each) where
        pub many-functions : L.each < get_or names (3 * width L) 0 → true ≡ many_of L names many
        unfolding many_of
        many-functions p = rw (le-ltb L.each (get_or names 0 0) a, le-ltb L.each (get_or names (width L) 0) b, le-ltb L.each (get_or names (2 * width L) 0) c, lt-ltb L.each (get_or names (3 * width L) 0) p)

        pub many-lines : get_or names (3 * width L) 0 ≤ L.each → ltb L.alternatives many ≡ many_of L names many
        unfolding many_of
        many-lines d = rw (le-ltb L.each (get_or names 0 0) a, le-ltb L.each (get_or names (width L) 0) b, le-ltb L.each (get_or names (2 * width L) 0) c, le-ltb L.each (get_or names (3 * width L) 0) d)

-- ---- words copied

pub record Copying (words room : List ℕ) (n i : ℕ) (room' : List ℕ) : Type 0 where
  pub high : i ≤ n
  pub within : n ≤ length words
  pub fits : n ≤ length room
  pub same : room' ≡ sets room 0 (take i words)

pub copy-starts : {words room : List ℕ} {n : ℕ} → n ≤ length words → n ≤ length room → Copying words room n 0 room
copy-starts p q = record { high = omega arith; within = p; fits = q; same = refl }

pub copy-length : {words room : List ℕ} {n i : ℕ} {room' : List ℕ} → Copying words room n i room' → length room' ≡ length room
copy-length {words} {room} {n} {i} g = ap length g.same ∙ length-sets room 0 (take i words)

pub copy-on : {words room : List ℕ} {n i : ℕ} {room' : List ℕ} → Copying words room n i room' → i < n → Copying words room n (i + 1) (set room' i (get_or words i 0))
copy-on {words} {room} {n} {i} {room'} g p = record {
  high = omega arith;
  within = g.within;
  fits = g.fits;
  same =
      let w = g.within in
      let l : length (take i words) ≡ i = length-take i words ∙ (let z : Prim.Native.Nat.min i (length words) ≡ i = omega arith in z) in
      ap (λ r. set r i (get_or words i 0)) g.same
      ∙ ap (λ k. set (sets room 0 (take i words)) k (get_or words i 0)) (let z : i ≡ 0 + length (take i words) = omega arith in z)
      ∙ sets-++ room 0 (take i words) (get_or words i 0 ∷ [])
      ∙ ap (sets room 0) (sym (take-suc words i 0 (omega arith)) ∙ ap (λ k. take k words) (sym (add-one i)));
}

pub copy-ends : {words room : List ℕ} {n i : ℕ} {room' : List ℕ} → Copying words room n i room' → n ≤ i → room' ≡ sets room 0 (take n words)
copy-ends {words} {room} {n} {i} g p = g.same ∙ ap (λ k. sets room 0 (take k words)) (let h = g.high in let z : i ≡ n = omega arith in z)

-- ---- counts that fit a word

pub record Few (L : Limits) (names : List ℕ) (many : ℕ) : Type 0 where
  pub term : get_or names 0 0 ≤ L.each
  pub hedge : get_or names (width L) 0 ≤ L.each
  pub symbol : get_or names (2 * width L) 0 ≤ L.each
  pub function : get_or names (3 * width L) 0 ≤ L.each
  pub lines : many ≤ L.alternatives

pub few-counts : (L : Limits) (names : List ℕ) (many : ℕ) → many_of L names many ≡ false → Few L names many
unfolding many_of
few-counts L names many e = on (ltb L.each (get_or names 0 0)) refl (ltb L.each (get_or names (width L) 0)) refl (ltb L.each (get_or names (2 * width L) 0)) refl (ltb L.each (get_or names (3 * width L) 0)) refl (ltb L.alternatives many) refl e
  where
    on : (a : Bool) → ltb L.each (get_or names 0 0) ≡ a → (b : Bool) → ltb L.each (get_or names (width L) 0) ≡ b → (c : Bool) → ltb L.each (get_or names (2 * width L) 0) ≡ c
        → (f : Bool) → ltb L.each (get_or names (3 * width L) 0) ≡ f → (g : Bool) → ltb L.alternatives many ≡ g → (a || (b || (c || (f || g)))) ≡ false → Few L names many
    on true p b q c r f s g u e = absurd (let y : ◌≡◌ {A = ℕ} 0 1 = cc in omega arith)
    on false p true q c r f s g u e = absurd (let y : ◌≡◌ {A = ℕ} 0 1 = cc in omega arith)
    on false p false q true r f s g u e = absurd (let y : ◌≡◌ {A = ℕ} 0 1 = cc in omega arith)
    on false p false q false r true s g u e = absurd (let y : ◌≡◌ {A = ℕ} 0 1 = cc in omega arith)
    on false p false q false r false s true u e = absurd (let y : ◌≡◌ {A = ℕ} 0 1 = cc in omega arith)
    on false p false q false r false s false u e = record {
      term = ltb-false L.each (get_or names 0 0) p;
      hedge = ltb-false L.each (get_or names (width L) 0) q;
      symbol = ltb-false L.each (get_or names (2 * width L) 0) r;
      function = ltb-false L.each (get_or names (3 * width L) 0) s;
      lines = ltb-false L.alternatives many u;
    }

pub least-few : (n m : ℕ) → n ≤ m → one_at_least n ≤ m + 1
least-few zero m p = omega arith
least-few (suc n) m p = omega arith
