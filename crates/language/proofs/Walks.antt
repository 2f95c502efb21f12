-- A walk along the parts of a table of offsets, from the words between one offset and the next: the loop keeps what is to be returned.
use mathlib.Core.Path.{◌≡◌, refl, sym, ap, ◌∙◌}
use mathlib.Core.Bool.{Bool, true, false, ◌&&◌}
use mathlib.Core.List.{List, [], ◌∷◌}
use Prim.Native.Nat.{ℕ, suc, ◌+◌, ◌-◌, ◌<◌, ◌≤◌}
use native.Mathlib.Omega.{arith}
use lib.ListN.{length, drop, get_or, drop_of_length-le}
use Rattle.language.specs.Question.{laid_out, parts}
use Rattle.language.specs.Between.{between}
use Rattle.language.proofs.Offsets.{laid-length, laid-begins, Part, table-count, table-part}

-- `result` is what is to be returned, by the number of the next part, the place where it begins, and the parts that are left
module _ {A : Type 0} (result : ℕ → ℕ → List (List ℕ) → A) (head n : ℕ) (ws : List ℕ) where
  -- the next part begins at `from` and ends at the offset that stands at `at`; those from it on decide
  pub record Walk (at from : ℕ) : Type 0 where
    pub laid : laid_out head n ws ≡ true
    pub low : head + 1 ≤ at
    pub high : at ≤ head + n + 1
    pub start : from ≡ get_or ws (at - 1) 0
    pub left : result (at - (head + 1)) from (drop (at - (head + 1)) (parts head n ws)) ≡ result 0 (head + n + 1) (parts head n ws)

  pub walk-starts : (at from : ℕ) → laid_out head n ws ≡ true → at ≡ head + 1 → from ≡ head + n + 1 → Walk at from
  walk-starts at from l a f = record {
    laid = l;
    low = omega arith;
    high = omega arith;
    start = f ∙ sym (laid-begins head n ws l) ∙ ap (λ j. get_or ws j 0) (let z : head ≡ at - 1 = omega arith in z);
    left =
        ap (λ j. result j from (drop j (parts head n ws))) (let z : at - (head + 1) ≡ 0 = omega arith in z)
        ∙ ap (λ o. result 0 o (parts head n ws)) f;
  }

  pub walk-room : {at from : ℕ} → Walk at from → head + n + 1 ≤ length ws
  walk-room w = laid-length head n ws w.laid

  module _ {at from : ℕ} (w : Walk at from) (p : at < head + n + 1) (o : ℕ) (e : o ≡ get_or ws at 0) where
    abbrev i : ℕ
    i = at - (head + 1)

    part : Part ws i (get_or ws (at - 1) 0) (get_or ws at 0) (parts head n ws)
    part = let l = w.low in table-part head n ws w.laid i (at - 1) at (omega arith) (omega arith) (omega arith)

    pub walk-part : (from ≤ o) × (o ≤ length ws)
    walk-part = (omega (arith, part.low, w.start), omega (arith, part.high))

    one : result 0 (head + n + 1) (parts head n ws) ≡ result i from (between from o ws ∷ drop (suc i) (parts head n ws))
    one =
        sym w.left ∙ ap (result i from) part.here
        ∙ ap (λ f. result i from (between f (get_or ws at 0) ws ∷ drop (suc i) (parts head n ws))) (sym w.start)
        ∙ ap (λ t. result i from (between from t ws ∷ drop (suc i) (parts head n ws))) (sym e)

    -- the part is passed
    pub walk-on : ((ps : List (List ℕ)) → result i from (between from o ws ∷ ps) ≡ result (suc i) o ps) → Walk (at + 1) o
    walk-on s = record {
      laid = w.laid;
      low = omega (arith, w.low);
      high = omega arith;
      start = e ∙ ap (λ j. get_or ws j 0) (let z : at ≡ at + 1 - 1 = omega arith in z);
      left =
          let l = w.low in
          ap (λ j. result j o (drop j (parts head n ws))) (let z : at + 1 - (head + 1) ≡ suc i = omega arith in z)
          ∙ sym (one ∙ s (drop (suc i) (parts head n ws)));
    }

    -- the part decides
    pub walk-stops : {r : A} → ((ps : List (List ℕ)) → result i from (between from o ws ∷ ps) ≡ r) → r ≡ result 0 (head + n + 1) (parts head n ws)
    walk-stops s = sym (one ∙ s (drop (suc i) (parts head n ws)))

  pub walk_ends : {at from : ℕ} → Walk at from → head + n + 1 ≤ at → result (at - (head + 1)) from [] ≡ result 0 (head + n + 1) (parts head n ws)
  walk_ends {at} {from} w p =
      let z : length (parts head n ws) ≤ at - (head + 1) = omega (arith, table-count head n ws w.laid) in
      sym (ap (result (at - (head + 1)) from) (drop_of_length-le (parts head n ws) z)) ∙ w.left

-- ---- whether each part passes the test of its number

unfoldable pub passes : (ℕ → List ℕ → Bool) → ℕ → List (List ℕ) → Bool
passes test i [] = true
passes test i (p ∷ ps) = test i p && passes test (suc i) ps

abbrev pub passing : (ℕ → List ℕ → Bool) → ℕ → ℕ → List (List ℕ) → Bool
passing test i from ps = passes test i ps

module _ (test : ℕ → List ℕ → Bool) (i : ℕ) where
  pub passes_none : passes test i [] ≡ true
  unfolding passes
  passes_none = refl

  pub passes_on : {p : List ℕ} → test i p ≡ true → (ps : List (List ℕ)) → passes test i (p ∷ ps) ≡ passes test (suc i) ps
  unfolding passes
  passes_on e ps = ap (λ b. b && passes test (suc i) ps) e

  pub passes-fails : {p : List ℕ} → test i p ≡ false → (ps : List (List ℕ)) → passes test i (p ∷ ps) ≡ false
  unfolding passes
  passes-fails e ps = ap (λ b. b && passes test (suc i) ps) e
