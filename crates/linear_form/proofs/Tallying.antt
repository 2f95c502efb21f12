-- What counting the results of an expression's parts tells of the whole.
use Prim.Native.Nat.{ℕ, suc, ◌+◌, ◌<◌, ◌≤◌}
use mathlib.Core.Path.{◌≡◌, refl, ap, sym, subst, ◌∙◌}
use mathlib.Core.Bool.{Bool, true, false, ◌&&◌, ◌||◌}
use mathlib.Core.Logic.{inl, inr}
use mathlib.Core.List.{List, [], ◌++◌, map, map-append, append-nil}
use native.Mathlib.Omega.{arith}
use lib.ListN.{length, get_or, length-append}
use Rattle.std.specs.Prelude.{Option, Some}
use Rattle.language.specs.Kinds.{pick}
use Rattle.language.specs.Trees.{Expr, cat, star, over}
use Rattle.language.specs.Writing.{expr_words, conj_words}
use Rattle.rules.specs.Looks.{is_eps}
use Rattle.rules.specs.Expressions.{nullable}
use Rattle.plans.specs.Sizes.{monomial_words}
use Rattle.views.specs.declared.Shape.{Shape}
use Rattle.linear_form.specs.declared.adding.Kept.{Kept}
use Rattle.linear_form.specs.declared.Outside.{Outside}
use Rattle.linear_form.specs.declared.Counted.{Counted}
use Rattle.expressions.specs.Standing.{Here}
use Rattle.linear_form.specs.Charted.{Past}
use Rattle.monomials.specs.Loose.{met}
use Rattle.linear_form.specs.Rows.{kept_of, row_words, kept_length, length_by, counted, tallied, Sized}
use Rattle.linear_form.specs.Walks.{Handed, closes, joined, TalliesOver, Tallies}
use Rattle.expressions.proofs.Standing.{second-of, words-here, by-eps, by-cat, by-alt, by-star, by_over, past_end, is-alt}
use Rattle.linear_form.proofs.Rows.{rows}
use Rattle.linear_form.proofs.Joining.{Dec7001, is-cat, closed-by, open_by, joined-cat, joined-alt}
use Rattle.linear_form.proofs.Added.{tallied-all, tallied-append, tallied-one}

tallied-two : (size : Option ℕ) (us vs : List (List ℕ)) {m n : Option ℕ} → m ≡ tallied size us → n ≡ tallied m vs → n ≡ tallied size (us ++ vs)
tallied-two size us vs a b = b ∙ ap (λ s. tallied s vs) a ∙ sym (tallied-append size us vs)

-- ---- by the word

module _ {k : List ℕ} {kept at : ℕ} {o : Outside} {size : Option ℕ} where
  pub tallies-end : length k ≤ at → Tallies k kept at o size (record { null = false; size = size })
  tallies-end z = record { each = λ s R w ws q g l. past_end (λ R w. TalliesOver k s R o.parts ws size (record { null = false; size = size })) z R w g }

  pub tallies-eps : get_or k at 0 ≡ 7000 → Tallies k kept at o size (record { null = true; size = size })
  tallies-eps z = record { each = λ s R w ws q g l. by-eps (λ R w. TalliesOver k s R o.parts ws size (record { null = true; size = size })) z (λ w. record { null = refl; size = refl }) R w g }

module _ {k : List ℕ} {kept at : ℕ} {o : Outside} {size : Option ℕ} {mid : ℕ} (m : Past k (at + 1) mid) where
  pub tallies-over : {one : ℕ} {more : Option ℕ} → get_or k at 0 < 7000 → one ≡ length_by k kept (record { place = at; past = mid; parts = o.parts; words = o.words })
      → more ≡ counted size one → Tallies k kept at o size (record { null = false; size = more })
  tallies-over {one} {more} z a e =
      record {
        each = λ s R w ws q g l. by_over (λ R w. Here k at R w → TalliesOver k s R o.parts ws size (record { null = false; size = more })) z (λ f y u A w h g.
            let n = m.each A w h in
            let x : mid ≡ at + length (expr_words (over f A)) = omega arith in
            record {
              null = refl;
              size = e ∙ tallied-one k s (record { place = at; past = mid; parts = o.parts; words = o.words }) size (record { name = f; inner = A; parts = o.parts; words = ws }) (a ∙ ap (λ n. length_by k n (record { place = at; past = mid; parts = o.parts; words = o.words })) q) (words-here g x) refl (sym l);
            }) R w g g;
      }

  -- what is handed down, and the results of the first part counted
  module _ {r₀ r₁ : List ℕ} {i : Outside} {a : Counted} (p : Handed k at mid o r₀ r₁ i) (b : Tallies k kept (at + 1) i size a) where
    pub tallies-star : get_or k at 0 ≡ 7003 → Tallies k kept at o size (record { null = true; size = a.size })
    tallies-star z =
        record {
          each = λ s R w ws q g l. by-star (λ R w. Here k at R w → TalliesOver k s R o.parts ws size (record { null = true; size = a.size })) z (λ A w h g.
              let n = m.each A w h in
              let x : mid ≡ at + length (expr_words (star A)) = omega arith in
              let c = (p.star z).parts in
              let d = (p.star z).words in
              let v = length-append (expr_words (star A)) ws in
              let f : suc o.parts ≡ i.parts = omega arith in
              let y = b.each s A w (expr_words (star A) ++ ws) q h (omega arith) in
              record { null = refl; size = y.size ∙ ap (λ n. tallied size (map (row_words k s) (met A n (expr_words (star A) ++ ws)))) (sym f) }) R w g g;
        }

    -- of a concatenation
    module _ (z : get_or k at 0 ≡ 7001) {s : Kept} (q : kept ≡ kept_length k s) (A B : Expr) (w ws : List ℕ) (h : Here k (at + 1) A (expr_words B ++ w)) (g : Here k mid B w) (l : length ws ≡ o.words) where
      first-tallied : TalliesOver k s A (pick (is_eps B) o.parts (suc o.parts)) (pick (is_eps B) ws (expr_words B ++ ws)) size a
      first-tallied =
          let t = p.cat z in
          let c = t.enclosed.each B w ws g (t.past.each B w g) l in
          subst (λ n. TalliesOver k s A n (pick (is_eps B) ws (expr_words B ++ ws)) size a) c.parts (b.each s A (expr_words B ++ w) (pick (is_eps B) ws (expr_words B ++ ws)) q h c.words)

    tallies-shut : get_or k at 0 ≡ 7001 → a.null ≡ false → Tallies k kept at o size a
    tallies-shut z n =
        record {
          each = λ s R w ws q g l. by-cat (λ R w. TalliesOver k s R o.parts ws size a) z (λ A B w h f.
              let g = second-of h f (m.each A _ h) in
              let c = first-tallied z q A B w ws h g l in
              let y : nullable A ≡ false = sym c.null ∙ n in
              let e : map (row_words k s) (met (cat A B) o.parts ws) ≡ map (row_words k s) (met A (pick (is_eps B) o.parts (suc o.parts)) (pick (is_eps B) ws (expr_words B ++ ws))) = rw (y, append-nil) in
              record { null = n ∙ ap (λ b. b && nullable B) (sym y); size = c.size ∙ ap (tallied size) (sym e) }) R w g;
        }

    tallies-open : {d : Counted} {u : Bool} → get_or k at 0 ≡ 7001 → a.null ≡ true → u ≡ d.null → Tallies k kept mid o a.size d → Tallies k kept at o size (record { null = u; size = d.size })
    tallies-open {d} {u} z n e v =
        record {
          each = λ s R w ws q g l. by-cat (λ R w. TalliesOver k s R o.parts ws size (record { null = u; size = d.size })) z (λ A B w h f.
              let g = second-of h f (m.each A _ h) in
              let c = first-tallied z q A B w ws h g l in
              let t = v.each s B w ws q g l in
              let y : nullable A ≡ true = sym c.null ∙ n in
              let us = map (row_words k s) (met A (pick (is_eps B) o.parts (suc o.parts)) (pick (is_eps B) ws (expr_words B ++ ws))) in
              let vs = map (row_words k s) (met B o.parts ws) in
              let r : map (row_words k s) (met (cat A B) o.parts ws) ≡ map (row_words k s) (met A (pick (is_eps B) o.parts (suc o.parts)) (pick (is_eps B) ws (expr_words B ++ ws))) ++ map (row_words k s) (met B o.parts ws) = rw (y, map-append) in
              record { null = e ∙ t.null ∙ ap (λ b. b && nullable B) (sym y); size = tallied-two size us vs c.size t.size ∙ ap (tallied size) (sym r) }) R w g;
        }

    tallies-choice : {d : Counted} {u : Bool} → (get_or k at 0 ≡ 7000 → ⊥) → (get_or k at 0 ≡ 7001 → ⊥) → (get_or k at 0 ≡ 7003 → ⊥) → 7000 ≤ get_or k at 0 → u ≡ (a.null || d.null)
        → Tallies k kept mid o a.size d → Tallies k kept at o size (record { null = u; size = d.size })
    tallies-choice {d} {u} n0 n1 n3 lo e v =
        let b' : Tallies k kept (at + 1) o size a = subst (λ i. Tallies k kept (at + 1) i size a) (p.alt n3 n1).0 b in
        record {
          each = λ s R w ws q g l. by-alt (λ R w. TalliesOver k s R o.parts ws size (record { null = u; size = d.size })) (is-alt g n0 n1 n3 lo) (λ A B w h f.
              let x = b'.each s A _ ws q h l in
              let y = v.each s B w ws q (second-of h f (m.each A _ h)) l in
              record {
                null = e ∙ ap (λ u. u || d.null) x.null ∙ ap (λ u. nullable A || u) y.null;
                size = tallied-two size (map (row_words k s) (met A o.parts ws)) (map (row_words k s) (met B o.parts ws)) x.size y.size ∙ ap (tallied size) (sym (map-append (row_words k s) (met A o.parts ws) (met B o.parts ws)));
              }) R w g;
        }

    pub tallies-first : {c : Bool} → c ≡ closes (get_or k at 0) a.null → c ≡ true → Tallies k kept at o size a
    tallies-first e c = let h = closed-by (get_or k at 0) a.null (sym e ∙ c) in tallies-shut h.0 h.1

    -- and those of the second
    module _ {d : Counted} {u : Bool} (v : Tallies k kept mid o a.size d) (n0 : get_or k at 0 ≡ 7000 → ⊥) (n3 : get_or k at 0 ≡ 7003 → ⊥) (lo : 7000 ≤ get_or k at 0)
        (f : closes (get_or k at 0) a.null ≡ false) (g : u ≡ joined (get_or k at 0) a.null d.null) where
      tallies-joined : Dec7001 (get_or k at 0) → Tallies k kept at o size (record { null = u; size = d.size })
      tallies-joined (inl z) = let n = open_by (get_or k at 0) a.null z f in tallies-open z n (g ∙ joined-cat (get_or k at 0) a.null d.null z n) v
      tallies-joined (inr z) = tallies-choice n0 z n3 lo (g ∙ joined-alt (get_or k at 0) a.null d.null z) v

      pub tallies-both : Tallies k kept at o size (record { null = u; size = d.size })
      tallies-both = tallies-joined (is-cat (get_or k at 0))

-- ---- the whole, with nothing outside

pub tally-sizes : {k : List ℕ} (s : Shape) {t : Kept} {kept : ℕ} {r : Counted} → t ≡ kept_of s 0 → kept ≡ kept_length k t → Tallies k kept s.expr (record { parts = 0; words = 0 }) (Some 0) r → Sized k s r.size
tally-sizes {k} s {t} {kept} {r} e q w =
    record {
      each = λ before h R behind v.
          (w.each t R (conj_words behind) [] q (record { fine = v.fine; words = v.here }) refl).size
          ∙ ap (tallied (Some 0)) (sym (rows v 0 ∙ ap (λ t. map (row_words k t) (met R 0 [])) (sym e)))
          ∙ tallied-all (monomial_words before h R behind);
    }
