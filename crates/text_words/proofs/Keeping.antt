-- What is left in the end: all words, or a room that is cleared.
use Prim.Native.Nat.{ℕ, ◌+◌, ◌<◌, ◌≤◌}
use native.Mathlib.Omega.{arith}
use mathlib.Core.Path.{◌≡◌, refl, sym, ap, ap₂, ◌∙◌, subst}
use mathlib.Core.Bool.{Bool, true, false, ◌&&◌}
use mathlib.Core.List.{List}
use mathlib.Core.Option.{Option, none, some}
use lib.Dec.{leb, ltb}
use lib.ListN.{length, replicate, length-replicate}
use borrow.Author.Tests.{le-leb, lt-leb, lt-ltb, leb-true, ltb-true}
use Rattle.std.specs.Prelude.{Some, None}
use Rattle.std.specs.Prelude as std
use Rattle.language.specs.Kinds.{pick}
use Rattle.language.specs.Trees.{Conj}
use Rattle.grammar.specs.Grammar.{Lines, lines_of}
use Rattle.meaning.specs.Values.{joined}
use Rattle.texts.specs.Texts.{parse}
use Rattle.texts.specs.Numbering.{Naming}
use Rattle.texts.proofs.Readings.{text-read, text-spelt}
use Rattle.text_words.specs.declared.Took.{Took}
use Rattle.text_words.specs.Bodies.{words_of, end_in, body_in, Body, Looped, cleared, kept_of, leaves, written_of, ReadBody}

-- ---- the test

module _ (i n first most : ℕ) where
  pub no-offsets : first < i → false ≡ kept_of i n first most
  unfolding kept_of
  no-offsets p = rw (lt-leb i first p)

  pub all-kept : i ≤ first → ltb n most ≡ kept_of i n first most
  unfolding kept_of
  all-kept p = rw (le-leb i first p)

kept-said : (i n first most : ℕ) → kept_of i n first most ≡ true → (i ≤ first) × (n < most)
unfolding kept_of
kept-said i n first most e = let b = both (leb i first) (ltb n most) e in (leb-true i first b.0, ltb-true n most b.1)
  where
    both : (a b : Bool) → (a && b) ≡ true → (a ≡ true) × (b ≡ true)
    both true true e = (refl, refl)
    both true false e = absurd (let z : ◌≡◌ {A = ℕ} 0 1 = cc in omega arith)
    both false b e = absurd (let z : ◌≡◌ {A = ℕ} 0 1 = cc in omega arith)

kept-where : (i n first most : ℕ) → i ≤ first → n < most → kept_of i n first most ≡ true
unfolding kept_of
kept-where i n first most p q = rw (le-leb i first p, lt-ltb n most q)

same_kept : {i j n m : ℕ} (first : ℕ) {k l : ℕ} → i ≡ j → n ≡ m → k ≡ l → kept_of i n first k ≡ kept_of j m first l
same_kept first p q r = cc

-- ---- the whole

not-read : (text : List ℕ) → ((ks : List Conj) → Lines ks (lines_of text) → ⊥) → parse text ≡ none
not-read text f = on (parse text) refl
  where
    on : (o : Option (List Conj)) → parse text ≡ o → o ≡ none
    on none e = refl
    on (some ks) e = absurd (f ks (text-spelt text ks e))

some-number : {n m : ℕ} → ◌≡◌ {A = std.Option ℕ} (Some n) (Some m) → n ≡ m
some-number e = cc

module _ {ρ : Naming} {text room : List ℕ} {first : ℕ} {o : std.Option Took} {room₁ : List ℕ} (l : Looped ρ text room first o room₁) where
  pub body-unread : o ≡ None → {room₂ : List ℕ} → room₂ ≡ cleared room₁ → ReadBody ρ text room first None room₂
  body-unread e {room₂} c = record {
    len = ap length c ∙ length-replicate {A = ℕ} (length room₁) 0 ∙ l.len;
    good = λ n y. absurd (let z : ◌≡◌ {A = ℕ} 0 1 = cc in omega arith);
    bad = λ y. l.bad e;
    tells = ap (leaves None) (c ∙ ap (λ n. replicate n 0) l.len) ∙ ap (written_of ρ room first) (sym (not-read text (l.bad e)));
  }

  module _ {t : Took} (e : o ≡ Some t) {b : Bool} (k : b ≡ kept_of t.i t.n first (length room₁)) where
    left-kept : kept_of t.i t.n first (length room₁) ≡ true → leaves (Some t.n) room₁ ≡ written_of ρ room first (parse text)
    left-kept f =
        let g = l.good t e in
        let a = g.2.place in
        let n = l.len in
        let i = g.3 in
        let s = kept-said t.i t.n first (length room₁) f in
        let p = s.0 in
        let q = s.1 in
        ap₂ (λ m r. leaves (Some m) r) a (g.2.words (omega arith) (omega arith))
        ∙ ap (λ x. leaves (Some (end_in ρ room first g.0)) (pick x (body_in ρ room first g.0) (cleared room))) (sym (kept-where (6 + length g.0) (end_in ρ room first g.0) first (length room) (omega arith) (omega arith)))
        ∙ ap (written_of ρ room first) (sym (text-read text g.0 g.1))

    pub body_kept : b ≡ true → ReadBody ρ text room first (Some t.n) room₁
    body_kept f = record {
      len = l.len;
      good = λ n y. let g = l.good t e in (g.0, g.1, subst (λ m. Body ρ room first g.0 m room₁) (some-number y) g.2);
      bad = λ y. absurd (let z : ◌≡◌ {A = ℕ} 0 1 = cc in omega arith);
      tells = left-kept (sym k ∙ f);
    }

    left-cleared : {room₂ : List ℕ} → kept_of t.i t.n first (length room₁) ≡ false → room₂ ≡ cleared room₁ → leaves (Some t.n) room₂ ≡ written_of ρ room first (parse text)
    left-cleared {room₂} f c =
        let g = l.good t e in
        ap₂ (λ m r. leaves (Some m) r) g.2.place (c ∙ ap (λ n. replicate n 0) l.len)
        ∙ ap (λ x. leaves (Some (end_in ρ room first g.0)) (pick x (body_in ρ room first g.0) (cleared room))) (sym (same_kept first (sym g.3) (sym g.2.place) (sym l.len) ∙ f))
        ∙ ap (written_of ρ room first) (sym (text-read text g.0 g.1))

    pub body-cleared : b ≡ false → {room₂ : List ℕ} → room₂ ≡ cleared room₁ → ReadBody ρ text room first (Some t.n) room₂
    body-cleared f {room₂} c = record {
      len = ap length c ∙ length-replicate {A = ℕ} (length room₁) 0 ∙ l.len;
      good = λ n y. let g = l.good t e in (g.0, g.1, record { place = sym (some-number y) ∙ g.2.place; words = λ p q. absurd (unkept p q) });
      bad = λ y. absurd (let z : ◌≡◌ {A = ℕ} 0 1 = cc in omega arith);
      tells = left-cleared (sym k ∙ f) c;
    }
      where
        unkept : 6 + length (l.good t e).0 ≤ first → first + length (joined (words_of ρ (l.good t e).0)) < length room → ⊥
        unkept p q =
            let g = l.good t e in
            let a = g.2.place in
            let i = g.3 in
            let n = l.len in
            let z = kept-where t.i t.n first (length room₁) (omega arith) (omega arith) in
            let w : kept_of t.i t.n first (length room₁) ≡ false = sym k ∙ f in
            let v : ◌≡◌ {A = ℕ} 0 1 = cc in
            omega arith
