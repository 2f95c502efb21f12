-- The loops over a question's alternatives: what is left, and what it says of the whole.
use Prim.Native.Nat.{ℕ, ◌+◌, ◌<◌, ◌≤◌}
use mathlib.Core.Path.{◌≡◌, refl, sym, ap, subst, ◌∙◌}
use mathlib.Core.Logic.{inl, inr, ◌↔◌}
use mathlib.Core.Bool.{Bool, true, false, ◌||◌}
use mathlib.Core.List.{List, [], ◌∷◌}
use native.Mathlib.Numerals.{add-one}
use native.Mathlib.Omega.{arith}
use lib.ListN.{length, get_or, drop, drop_of_length-le}
use lib.Seq.{drop-cons}
use Rattle.language.specs.Limits.{desk}
use Rattle.language.specs.Trees.{signature, Question}
use Rattle.language.specs.Writing.{conj_words}
use Rattle.language.specs.Question.{alternatives_of, declared_c}
use Rattle.language.specs.Between.{between}
use Rattle.language.proofs.Offsets.{laid-length}
use Rattle.language.proofs.Asking.{passed, ranges, how-many, alternative}
use Rattle.meaning.specs.Meaning.{Filling, MeetsAll, MeetsOne}
use Rattle.rules.specs.Calls.{any_over, too_long}
use Rattle.header.specs.declared.Header.{Header}
use Rattle.header.specs.Heading.{counts_in}
use Rattle.trying.specs.Tasks.{Keeps, AConj, SomeConj, FittingConj, ConjTooLong, ConjMet, AQuestion, SomeQuestion, FittingQuestion, QuestionTooLong, QuestionMet}
use Rattle.trying.proofs.Rooms.{keeps-none, keeps-both}
use Rattle.trying.proofs.Scans.{or-false, true≢false}

-- the alternative at i
pub record Here (h : Header) (fs ws : List ℕ) (q : Question) (ρ : Filling) (i from to : ℕ) : Type 0 where
  pub rises : from ≤ to
  pub inside : to ≤ length ws
  pub conj : AConj (counts_in h) fs (between from to ws) (get_or q.alternatives i []) ρ
  pub split : drop i q.alternatives ≡ get_or q.alternatives i [] ∷ drop (i + 1) q.alternatives

module _ (h : Header) (fs ws : List ℕ) where
  module _ (q : Question) (ρ : Filling) (x : AQuestion h fs ws q ρ) where
    counts-are : q.counts ≡ counts_in h
    counts-are = (passed desk ws q x.read).counts ∙ ap counts_in (sym x.head)

    some-symbol : 0 < (counts_in h).symbols
    some-symbol = let e = ap (λ h. h.symbols) x.head in omega (arith, (ranges desk ws q x.read).symbol)

    pub how-long : h.alternatives + 6 ≤ length ws
    how-long = let a = ap (λ h. h.alternatives) x.head in omega (arith, laid-length 5 (alternatives_of ws) ws (passed desk ws q x.read).laid_out)

    all_of : length q.alternatives ≡ h.alternatives
    all_of = how-many desk ws q x.read ∙ ap (λ h. h.alternatives) (sym x.head)

    pub here : (i from to : ℕ) → i < h.alternatives → from ≡ get_or ws (5 + i) 0 → to ≡ get_or ws (6 + i) 0 → Here h fs ws q ρ i from to
    here i from to p f t =
        let b = ap (λ h. h.alternatives) x.head in
        let a = alternative desk ws q x.read i (omega arith) in
        let w : between from to ws ≡ conj_words (get_or q.alternatives i []) = ap (λ from. between from to ws) f ∙ ap (λ to. between (get_or ws (5 + i) 0) to ws) t ∙ a.words in
        record {
          rises = omega (arith, a.rises);
          inside = omega (arith, a.inside);
          conj = record { symbol = some-symbol; given = x.given; words = w; fine = a.fine; known = ap (λ n. declared_c n (get_or q.alternatives i [])) (sym counts-are) ∙ a.declared; short = omega (arith, ap length w, a.short) };
          split = drop-cons q.alternatives i [] (omega (arith, all_of)) ∙ ap (λ n. get_or q.alternatives i [] ∷ drop n q.alternatives) (sym (add-one i));
        }

    -- none is left
    pub no_more : (i : ℕ) → h.alternatives ≤ i → drop i q.alternatives ≡ []
    no_more i p = let z : length q.alternatives ≤ i = omega (arith, all_of) in drop_of_length-le q.alternatives z

  -- ---- a loop over n alternatives, at the one numbered i

  pub fitting-some : FittingQuestion h fs ws → SomeQuestion h fs ws
  fitting-some s = record { q = s.q; ρ = s.ρ; it = s.it }

  module _ {n : ℕ} (s : SomeQuestion h fs ws) (e : n ≡ h.alternatives) where
    pub loop-room : n + 6 ≤ length ws
    loop-room = omega (arith, how-long s.q s.ρ s.it)

    module _ {i from to : ℕ} (p : i < n) (f : from ≡ get_or ws (5 + i) 0) (t : to ≡ get_or ws (6 + i) 0) where
      its : (q : Question) (ρ : Filling) (x : AQuestion h fs ws q ρ) → Here h fs ws q ρ i from to
      its q ρ x = here q ρ x i from to (omega arith) f t

      pub loop-here : Here h fs ws s.q s.ρ i from to
      loop-here = its s.q s.ρ s.it

  -- ---- lengths

  pub record Measuring (i n : ℕ) : Type 0 where
    pub some : SomeQuestion h fs ws
    pub number : n ≡ h.alternatives
    pub each : (q : Question) (ρ : Filling) → AQuestion h fs ws q ρ → too_long desk ρ (drop i q.alternatives) ≡ too_long desk ρ q.alternatives

  pub measuring-starts : {n : ℕ} → SomeQuestion h fs ws → n ≡ h.alternatives → Measuring 0 n
  measuring-starts s e = record { some = s; number = e; each = λ q ρ x. refl }

  module _ {i n from to : ℕ} (m : Measuring i n) (p : i < n) (f : from ≡ get_or ws (5 + i) 0) (t : to ≡ get_or ws (6 + i) 0) where
    pub measuring-conj : SomeConj (counts_in h) fs (between from to ws)
    measuring-conj = record { k = get_or m.some.q.alternatives i []; ρ = m.some.ρ; it = (loop-here m.some m.number p f t).conj }

    module _ {r : Bool} (c : ConjTooLong (counts_in h) fs (between from to ws) r) where
      over : (q : Question) (ρ : Filling) → AQuestion h fs ws q ρ → (r || too_long desk ρ (drop (i + 1) q.alternatives)) ≡ too_long desk ρ q.alternatives
      over q ρ x =
          let y = its m.some m.number p f t q ρ x in
          ap (λ b. b || too_long desk ρ (drop (i + 1) q.alternatives)) (c.each (get_or q.alternatives i []) ρ y.conj) ∙ ap (too_long desk ρ) (sym y.split) ∙ m.each q ρ x

      pub measuring-over : r ≡ true → QuestionTooLong h fs ws true
      measuring-over e = record { each = λ q ρ x. sym (ap (λ b. b || too_long desk ρ (drop (i + 1) q.alternatives)) e) ∙ over q ρ x }

      pub measuring-on : r ≡ false → Measuring (i + 1) n
      measuring-on e = record { some = m.some; number = m.number; each = λ q ρ x. sym (ap (λ b. b || too_long desk ρ (drop (i + 1) q.alternatives)) e) ∙ over q ρ x }

  pub measuring-ends : {i n : ℕ} → Measuring i n → n ≤ i → QuestionTooLong h fs ws false
  measuring-ends {i} m p = record { each = λ q ρ x. ap (too_long desk ρ) (sym (no_more q ρ x i (omega (arith, m.number)))) ∙ m.each q ρ x }

  -- ---- tests

  pub record Trying-on (i n : ℕ) (w w' : List ℕ) : Type 0 where
    pub keeps : Keeps w w'
    pub some : FittingQuestion h fs ws
    pub number : n ≡ h.alternatives
    pub fits : (q : Question) (ρ : Filling) → AQuestion h fs ws q ρ → too_long desk ρ q.alternatives ≡ false → too_long desk ρ (drop i q.alternatives) ≡ false
    pub one : (q : Question) (ρ : Filling) → AQuestion h fs ws q ρ → MeetsOne (signature (counts_in h)) ρ (drop i q.alternatives) ↔ MeetsOne (signature (counts_in h)) ρ q.alternatives

  pub trying-starts : {n : ℕ} (w : List ℕ) → FittingQuestion h fs ws → n ≡ h.alternatives → Trying-on 0 n w w
  trying-starts w s e = record { keeps = keeps-none w; some = s; number = e; fits = λ q ρ x f. f; one = λ q ρ x. (λ z. z, λ z. z) }

  module _ {i n from to : ℕ} {w u : List ℕ} (m : Trying-on i n w u) (p : i < n) (f : from ≡ get_or ws (5 + i) 0) (t : to ≡ get_or ws (6 + i) 0) where
    there : (q : Question) (ρ : Filling) (x : AQuestion h fs ws q ρ) → Here h fs ws q ρ i from to
    there = its (fitting-some m.some) m.number p f t

    -- the alternative fits, and so do those after it
    both-fit : (q : Question) (ρ : Filling) (x : AQuestion h fs ws q ρ) → too_long desk ρ q.alternatives ≡ false → (any_over desk ρ (get_or q.alternatives i []) ≡ false) × (too_long desk ρ (drop (i + 1) q.alternatives) ≡ false)
    both-fit q ρ x e =
        or-false (any_over desk ρ (get_or q.alternatives i [])) (too_long desk ρ (drop (i + 1) q.alternatives))
        (ap (too_long desk ρ) (sym (there q ρ x).split) ∙ m.fits q ρ x e)

    pub trying-conj : FittingConj (counts_in h) fs (between from to ws)
    trying-conj =
        let s = m.some in
        record { k = get_or s.q.alternatives i []; ρ = s.ρ; it = (there s.q s.ρ s.it).conj; fits = (both-fit s.q s.ρ s.it s.fits).0 }

    module _ {v : List ℕ} {r : Bool} (c : ConjMet (counts_in h) fs (between from to ws) u v r) where
      pub trying-met : r ≡ true → QuestionMet h fs ws w v true
      trying-met e = record {
        keeps = keeps-both m.keeps c.keeps;
        each = λ q ρ x.
            let y = there q ρ x in
            let (to-all, from_all) = c.each (get_or q.alternatives i []) ρ y.conj in
            let (on, back) = m.one q ρ x in
            (λ z. on (subst (MeetsOne (signature (counts_in h)) ρ) (sym y.split) (inl (to-all e))), λ z. refl);
      }

      pub trying-next : r ≡ false → Trying-on (i + 1) n w v
      trying-next e = record {
        keeps = keeps-both m.keeps c.keeps;
        some = m.some;
        number = m.number;
        fits = λ q ρ x f. (both-fit q ρ x f).1;
        one = λ q ρ x.
            let y = there q ρ x in
            let (to-all, from_all) = c.each (get_or q.alternatives i []) ρ y.conj in
            let (on, back) = m.one q ρ x in
            (λ z. on (subst (MeetsOne (signature (counts_in h)) ρ) (sym y.split) (inr z)), λ z. later q ρ from_all (subst (MeetsOne (signature (counts_in h)) ρ) y.split (back z)));
      }
        where
          later : (q : Question) (ρ : Filling) → (MeetsAll (signature (counts_in h)) ρ (get_or q.alternatives i []) → r ≡ true) → MeetsOne (signature (counts_in h)) ρ (get_or q.alternatives i [] ∷ drop (i + 1) q.alternatives) → MeetsOne (signature (counts_in h)) ρ (drop (i + 1) q.alternatives)
          later q ρ k (inl z) = true≢false (k z) e
          later q ρ k (inr z) = z

  pub trying-ends : {i n : ℕ} {w u : List ℕ} → Trying-on i n w u → n ≤ i → QuestionMet h fs ws w u false
  trying-ends {i} m p = record {
    keeps = m.keeps;
    each = λ q ρ x.
        let (on, back) = m.one q ρ x in
        (λ z. true≢false z refl, λ z. absurd (subst (MeetsOne (signature (counts_in h)) ρ) (no_more q ρ x i (omega (arith, m.number))) (back z)));
  }
