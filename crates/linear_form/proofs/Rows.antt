-- M2's results are the rows of its monomials laid open.
use Prim.Native.Nat.{ℕ, ◌+◌, ◌*◌, ◌≤◌}
use mathlib.Core.Path.{◌≡◌, ap, sym, ◌∙◌}
use mathlib.Core.List.{List, [], ◌∷◌, ◌++◌, map, map-map, append_assoc}
use native.Mathlib.Omega.{arith}
use lib.ListN.{length, length-append}
use lib.Seq.{slice}
use Rattle.language.specs.Limits.{desk}
use Rattle.language.specs.Trees.{Hedge, Expr, over, mem, Conj}
use Rattle.language.specs.Writing.{conj_words}
use Rattle.rules.specs.Rules.{monomial_result}
use Rattle.rules.specs.Expressions.{Monomial, linear}
use Rattle.rules.specs.Step.{place}
use Rattle.views.specs.Looks.{head, tail}
use Rattle.plans.specs.Sizes.{placed_words, monomial_words}
use Rattle.views.specs.Views.{Shows}
use Rattle.views.specs.declared.Shape.{Shape}
use Rattle.views.proofs.Words.{words-body, words_append}
use Rattle.views.proofs.Sides.{side-head, side-tail, shows-before, shows-behind}
use Rattle.slices.proofs.Parts.{part-short}
use Rattle.linear_form.specs.declared.adding.Kept.{Kept}
use Rattle.linear_form.specs.declared.adding.Spot.{Spot}
use Rattle.monomials.specs.Loose.{Loose, first_words, rest_words, opening, met}
use Rattle.linear_form.specs.Rows.{kept_of, front_words, back_words, row_words, kept_length, length_by, result_length, Bounded}
use Rattle.linear_form.proofs.Rests.{opening-short}
use Rattle.monomials.proofs.Linear.{Fits, rest_of, pairs, results_same}

pub front_length : (k : List ℕ) (s : Kept) (p : Spot) → length (front_words k s p)
    ≡ length (slice 0 s.at k) + length (slice s.from s.rest k) + length (slice p.place p.past k) + length (slice s.rest s.to k) + 3
unfolding front_words
front_length k s p =
    let d = slice s.rest s.to k in
    let c = length-append (slice p.place p.past k) (6000 ∷ d) in
    let b = length-append (slice s.from s.rest k) (0 ∷ (slice p.place p.past k ++ (6000 ∷ d))) in
    let a = length-append (slice 0 s.at k) (6000 ∷ (slice s.from s.rest k ++ (0 ∷ (slice p.place p.past k ++ (6000 ∷ d))))) in
    omega arith

-- what every result keeps, and what else a bounded one has
pub parts-short : (k : List ℕ) (s : Kept) → length k ≤ desk.question
    → length (slice 0 s.at k) + length (slice s.from s.rest k) + length (slice s.rest s.to k) + length (slice s.end s.len k) ≤ 4 * desk.question
parts-short k s h =
    let a = part-short k 0 s.at in
    let b = part-short k s.from s.rest in
    let c = part-short k s.rest s.to in
    let d = part-short k s.end s.len in
    omega arith

pub kept-short : (k : List ℕ) (s : Kept) → length k ≤ desk.question → kept_length k s ≤ 4 * desk.question + 3
unfolding kept_length
kept-short k s h = let p = parts-short k s h in omega arith

pub row-short : (k : List ℕ) (p : Spot) → length k ≤ desk.question → Bounded p
    → length (slice p.place p.past k) + (length (opening p.parts) + p.words) ≤ 2 * desk.question + 1 + desk.question * desk.question
row-short k p h b =
    let a = part-short k p.place p.past in
    let c = opening-short p.parts in
    let d = b.few in
    let e = b.short in
    omega arith

pub length-by : (k : List ℕ) (s : Kept) (p : Spot) → result_length k s p ≡ length_by k (kept_length k s) p
unfolding result_length length_by kept_length back_words
length-by k s p = let l = front_length k s p in omega arith

pub length-as : (k : List ℕ) (s : Kept) (p : Spot) {kept one : ℕ} → kept ≡ kept_length k s → one ≡ length_by k kept p → one ≡ result_length k s p
length-as k s p q e = e ∙ ap (λ n. length_by k n p) q ∙ sym (length-by k s p)

seven : (a b c d e : List ℕ) → (a ++ (6000 ∷ (b ++ (0 ∷ (c ++ (6000 ∷ d)))))) ++ e ≡ a ++ (6000 ∷ (b ++ (0 ∷ (c ++ (6000 ∷ (d ++ e))))))
seven a b c d e = simp append_assoc

-- a row, where the first term stands in the words
pub row_of : (k : List ℕ) (s : Kept) (p : Spot) (m : Loose) → slice p.place p.past k ≡ first_words m → front_words k s p ++ (rest_words m ++ back_words k s) ≡ row_words k s m
unfolding row_words front_words
row_of k s p m e =
    seven (slice 0 s.at k) (slice s.from s.rest k) (slice p.place p.past k) (slice s.rest s.to k) (rest_words m ++ back_words k s)
    ∙ ap (λ c. slice 0 s.at k ++ (6000 ∷ (slice s.from s.rest k ++ (0 ∷ (c ++ (6000 ∷ (slice s.rest s.to k ++ (rest_words m ++ back_words k s)))))))) e

module _ {k : List ℕ} {s : Shape} {before : Conj} {h : Hedge} {R : Expr} {behind : Conj} (v : Shows k s before h R behind) where
  row : (number : ℕ) (m : Monomial) (n : Loose) → Fits m n → conj_words (place before behind (monomial_result (head h) (tail h) m)) ≡ row_words k (kept_of s number) n
  unfolding row_words back_words
  row number m n f =
      rw (shows-before v, side-head v.hedge, side-tail v.hedge, shows-behind v, words_append before (mem (head h) (over m.name m.inner) ∷ mem (tail h) m.rest ∷ behind), words-body (head h), ← rest_of f, ← f.name, ← f.inner)
      (simp append_assoc)

  pub rows : (number : ℕ) → monomial_words before h R behind ≡ map (row_words k (kept_of s number)) (met R 0 [])
  unfolding monomial_words placed_words
  rows number = map-map (λ b. conj_words (place before behind b)) (monomial_result (head h) (tail h)) (linear R) ∙ results_same (λ m. conj_words (place before behind (monomial_result (head h) (tail h) m))) (row_words k (kept_of s number)) (row number) (pairs R)
