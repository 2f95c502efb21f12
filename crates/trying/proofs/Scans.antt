-- The loops over a conjunction's literals: what is left, and what it says of the whole.
use Prim.Native.Nat.{ℕ, ◌<◌, ◌≤◌}
use mathlib.Core.Path.{◌≡◌, refl, sym, ap, subst, ◌∙◌}
use mathlib.Core.Bool.{Bool, true, false, ◌||◌}
use mathlib.Core.List.{List, [], ◌∷◌}
use native.Mathlib.Omega.{arith}
use lib.Dec.{ltb}
use lib.ListN.{length, drop, drop_of_length-le}
use borrow.Author.Tests.{lt-ltb, le-ltb, ltb-false}
use Rattle.language.specs.Limits.{desk}
use Rattle.language.specs.Trees.{eqn, mem, Conj, Counts, signature}
use Rattle.language.specs.Writing.{conj_words}
use Rattle.language.specs.Between.{between}
use Rattle.meaning.specs.Meaning.{Filling, MeetsAll}
use Rattle.meaning.proofs.Values.{read_named}
use Rattle.rules.specs.Calls.{filled_size, any_over}
use Rattle.filling.specs.Showing.{filled, Shows}
use Rattle.trying.specs.Tasks.{Keeps, LiteralEnd, FittingLiteral, LiteralMet, AConj, SomeConj, FittingConj, ConjTooLong, ConjMet}
use Rattle.trying.proofs.Rooms.{keeps-none, keeps-both}
use Rattle.trying.proofs.Conjunctions.{Next-literal, next-literal, literal-shows, filling-few, literal-size}

-- no words, no literals
none_left : (k : Conj) → [] ≡ conj_words k → k ≡ []
none_left [] e = refl
none_left (eqn l r ∷ k) e = absurd (let z = ap length e in omega arith)
none_left (mem h R ∷ k) e = absurd (let z = ap length e in omega arith)

pub or-false : (a b : Bool) → (a || b) ≡ false → (a ≡ false) × (b ≡ false)
or-false true b e = absurd (let z : ◌≡◌ {A = ℕ} 0 1 = cc in omega arith)
or-false false b e = (refl, e)

pub true≢false : {A : Type 0} {b : Bool} → b ≡ true → b ≡ false → A
true≢false p q = absurd (let z : ◌≡◌ {A = ℕ} 0 1 = cc in omega arith)

module _ (n : Counts) (fs ws : List ℕ) where
  -- ---- lengths

  pub record LongLeft (i : ℕ) (k : Conj) (ρ : Filling) : Type 0 where
    pub left : Conj
    pub it : AConj n fs (drop i ws) left ρ
    pub same : any_over desk ρ left ≡ any_over desk ρ k

  pub record Scanning (i : ℕ) : Type 0 where
    pub some : SomeConj n fs ws
    pub each : (k : Conj) (ρ : Filling) → AConj n fs ws k ρ → LongLeft i k ρ

  pub scan-starts : SomeConj n fs ws → Scanning 0
  scan-starts s = record { some = s; each = λ k ρ x. record { left = k; it = x; same = refl } }

  module _ {i end : ℕ} (s : Scanning i) (e : LiteralEnd ws i end) (p : i < length ws) where
    pub scan-left : LongLeft i s.some.k s.some.ρ
    scan-left = s.each s.some.k s.some.ρ s.some.it

    pub scan-here : Next-literal n fs ws i end scan-left.left s.some.ρ
    scan-here = next-literal n fs ws i end scan-left.left s.some.ρ e p scan-left.it

    pub scan-ready : {t h : ℕ} → t ≡ n.terms → h ≡ n.hedges → (length fs ≤ desk.filling) × (length (between i end ws) ≤ desk.question) × Shows t h fs (between i end ws)
    scan-ready a b =
        let x = scan-here in
        (filling-few n fs _ x.l _ x.literal a b, omega (arith, x.literal.short), literal-shows n fs _ x.l _ x.literal a b)

    module _ {t h m : ℕ} (a : t ≡ n.terms) (b : h ≡ n.hedges) (f : m ≡ length (filled t h fs (between i end ws))) where
      -- the length of the literal that is next, in any of them
      size : (k : Conj) (ρ : Filling) (x : Next-literal n fs ws i end k ρ) → m ≡ filled_size ρ x.l
      size k ρ x = f ∙ literal-size n fs _ x.l ρ x.literal a b

      pub scan-over : desk.literal < m → ConjTooLong n fs ws true
      scan-over q = record {
        each = λ k ρ x.
            let l = s.each k ρ x in
            let y = next-literal n fs ws i end l.left ρ e p l.it in
            let z = size l.left ρ y in
            sym (ap (λ c. c || any_over desk ρ y.later) (lt-ltb desk.literal (filled_size ρ y.l) (omega arith))) ∙ ap (any_over desk ρ) (sym y.is) ∙ l.same;
      }

      pub scan-on : m ≤ desk.literal → Scanning end
      scan-on q = record {
        some = s.some;
        each = λ k ρ x.
            let l = s.each k ρ x in
            let y = next-literal n fs ws i end l.left ρ e p l.it in
            let z = size l.left ρ y in
            record {
              left = y.later;
              it = y.rest;
              same = sym (ap (λ c. c || any_over desk ρ y.later) (le-ltb desk.literal (filled_size ρ y.l) (omega arith))) ∙ ap (any_over desk ρ) (sym y.is) ∙ l.same;
            };
      }

  pub scan-ends : {i : ℕ} → Scanning i → length ws ≤ i → ConjTooLong n fs ws false
  scan-ends s p = record {
    each = λ k ρ x.
        let l = s.each k ρ x in
        let z = none_left l.left (sym (drop_of_length-le ws p) ∙ l.it.words) in
        ap (any_over desk ρ) (sym z) ∙ l.same;
  }

  -- ---- tests

  pub record MetLeft (i : ℕ) (k : Conj) (ρ : Filling) : Type 0 where
    pub left : Conj
    pub it : AConj n fs (drop i ws) left ρ
    pub fits : any_over desk ρ k ≡ false → any_over desk ρ left ≡ false
    pub all : MeetsAll (signature n) ρ left → MeetsAll (signature n) ρ k
    pub all' : MeetsAll (signature n) ρ k → MeetsAll (signature n) ρ left

  pub record Testing (i : ℕ) (w w' : List ℕ) : Type 0 where
    pub keeps : Keeps w w'
    pub some : FittingConj n fs ws
    pub each : (k : Conj) (ρ : Filling) → AConj n fs ws k ρ → MetLeft i k ρ

  pub test-starts : (w : List ℕ) → FittingConj n fs ws → Testing 0 w w
  test-starts w s = record { keeps = keeps-none w; some = s; each = λ k ρ x. record { left = k; it = x; fits = λ f. f; all = λ m. m; all' = λ m. m } }

  module _ {i end : ℕ} {w u : List ℕ} (s : Testing i w u) (e : LiteralEnd ws i end) (p : i < length ws) where
    pub its-left : MetLeft i s.some.k s.some.ρ
    its-left = s.each s.some.k s.some.ρ s.some.it

    pub test-here : Next-literal n fs ws i end its-left.left s.some.ρ
    test-here = next-literal n fs ws i end its-left.left s.some.ρ e p its-left.it

    pub test-ready : FittingLiteral n fs (between i end ws)
    test-ready =
        let y = test-here in
        let f : any_over desk s.some.ρ (y.l ∷ y.later) ≡ false = ap (any_over desk s.some.ρ) (sym y.is) ∙ its-left.fits s.some.fits in
        let g = or-false (ltb desk.literal (filled_size s.some.ρ y.l)) (any_over desk s.some.ρ y.later) f in
        record { l = y.l; ρ = s.some.ρ; it = y.literal; fits = ltb-false desk.literal (filled_size s.some.ρ y.l) g.0 }

    module _ {v : List ℕ} {r : Bool} (m : LiteralMet n fs (between i end ws) u v r) where
      pub test-fails : r ≡ false → ConjMet n fs ws w v false
      test-fails q = record {
        keeps = keeps-both s.keeps m.keeps;
        each = λ k ρ x.
            let l = s.each k ρ x in
            let y = next-literal n fs ws i end l.left ρ e p l.it in
            let (to, from) = m.each y.l ρ y.literal in
            (λ z. true≢false z refl, λ z. let a : MeetsAll (signature n) ρ (y.l ∷ y.later) = subst (MeetsAll (signature n) ρ) y.is (l.all' z) in true≢false (from a.0) q);
      }

      pub test_on : r ≡ true → Testing end w v
      test_on q = record {
        keeps = keeps-both s.keeps m.keeps;
        some = s.some;
        each = λ k ρ x.
            let l = s.each k ρ x in
            let y = next-literal n fs ws i end l.left ρ e p l.it in
            let (to, from) = m.each y.l ρ y.literal in
            record {
              left = y.later;
              it = y.rest;
              fits = λ f.
                  let g : any_over desk ρ (y.l ∷ y.later) ≡ false = ap (any_over desk ρ) (sym y.is) ∙ l.fits f in
                  (or-false (ltb desk.literal (filled_size ρ y.l)) (any_over desk ρ y.later) g).1;
              all = λ z. l.all (subst (MeetsAll (signature n) ρ) (sym y.is) (to q, z));
              all' = λ z. let a : MeetsAll (signature n) ρ (y.l ∷ y.later) = subst (MeetsAll (signature n) ρ) y.is (l.all' z) in a.1;
            };
      }

  pub test-ends : {i : ℕ} {w u : List ℕ} → Testing i w u → length ws ≤ i → ConjMet n fs ws w u true
  test-ends s p = record {
    keeps = s.keeps;
    each = λ k ρ x.
        let l = s.each k ρ x in
        let z = none_left l.left (sym (drop_of_length-le ws p) ∙ l.it.words) in
        (λ e. l.all (subst (MeetsAll (signature n) ρ) (sym z) (read_named n x.symbol desk fs ρ x.given)), λ m. refl);
  }
