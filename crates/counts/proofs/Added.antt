-- The table after words were counted in or out, place by place.
use mathlib.Core.Path.{◌≡◌, refl, sym, ap, ◌∙◌}
use mathlib.Core.Bool.{Bool, true, false}
use mathlib.Core.List.{List, [], ◌∷◌, ◌++◌}
use Prim.Native.Nat.{ℕ, ◌+◌, ◌-◌, ◌<◌, ◌≤◌}
use native.Mathlib.Omega.{arith}
use lib.Dec.{eqb, ltb}
use lib.ListN.{length, get_or, set, replicate, length-set, length-replicate, get_or-replicate}
use lib.Seq.{slice, get_or-set_same, get_or-set_other, ext_get_or}
use borrow.Author.Tests.{eqb-true, eqb-false, eq-eqb, lt-ltb, le-ltb, ltb-true, ltb-false}
use Rattle.language.specs.Kinds.{pick}
use Rattle.words.proofs.Parts.{part-cons, part_none}
use Rattle.counts.specs.Tables.{times, table, count_at, one_in, one_out, added, removed, afresh}
use Rattle.counts.proofs.Times.{times-append}

-- ---- one word

-- a table with another number at a word's place, where it has one
module _ (t : List ℕ) (x n : ℕ) where
  abbrev put : List ℕ
  put = pick (ltb x table) (set t x n) t

  put-length : length put ≡ length t
  put-length = go (ltb x table)
    where
      go : (b : Bool) → length (pick b (set t x n) t) ≡ length t
      go true = length-set t x n
      go false = refl

  put_other : (y : ℕ) → eqb x y ≡ false → get_or put y 0 ≡ get_or t y 0
  put_other y e = go (ltb x table)
    where
      go : (b : Bool) → get_or (pick b (set t x n) t) y 0 ≡ get_or t y 0
      go true = get_or-set_other t x y n 0 (λ d. eqb-false x y e (sym d))
      go false = refl

  put_same : x < table → length t ≡ table → get_or put x 0 ≡ n
  put_same h e = ap (λ b. get_or (pick b (set t x n) t) x 0) (lt-ltb x table h) ∙ get_or-set_same t x n 0 (omega arith)

-- ---- many

pub length-added : (ws t : List ℕ) → length (added ws t) ≡ length t
unfolding added
length-added [] t = refl
length-added (x ∷ ws) t = length-added ws (one_in x t) ∙ put-length t x (get_or t x 0 + 1)

pub length_removed : (ws t : List ℕ) → length (removed ws t) ≡ length t
unfolding removed
length_removed [] t = refl
length_removed (x ∷ ws) t = length_removed ws (one_out x t) ∙ put-length t x (get_or t x 0 - 1)

module _ (y : ℕ) (h : y < table) where
  in_one : (x : ℕ) (t : List ℕ) → length t ≡ table → get_or (one_in x t) y 0 ≡ get_or t y 0 + pick (eqb x y) 1 0
  in_one x t e = go (eqb x y) refl
    where
      go : (b : Bool) → eqb x y ≡ b → get_or (one_in x t) y 0 ≡ get_or t y 0 + pick b 1 0
      go true d =
          let z = eqb-true x y d in
          let s : get_or (one_in x t) x 0 ≡ get_or t x 0 + 1 = put_same t x (get_or t x 0 + 1) (omega arith) e in
          ap (λ n. get_or (one_in x t) n 0) (sym z) ∙ s ∙ ap (λ n. get_or t n 0 + 1) z
      go false d = let s = put_other t x (get_or t x 0 + 1) y d in omega arith

  out_one : (x : ℕ) (t : List ℕ) → length t ≡ table → get_or (one_out x t) y 0 ≡ get_or t y 0 - pick (eqb x y) 1 0
  out_one x t e = go (eqb x y) refl
    where
      go : (b : Bool) → eqb x y ≡ b → get_or (one_out x t) y 0 ≡ get_or t y 0 - pick b 1 0
      go true d =
          let z = eqb-true x y d in
          let s : get_or (one_out x t) x 0 ≡ get_or t x 0 - 1 = put_same t x (get_or t x 0 - 1) (omega arith) e in
          ap (λ n. get_or (one_out x t) n 0) (sym z) ∙ s ∙ ap (λ n. get_or t n 0 - 1) z
      go false d = let s = put_other t x (get_or t x 0 - 1) y d in omega arith

  pub at_added : (ws t : List ℕ) → length t ≡ table → get_or (added ws t) y 0 ≡ get_or t y 0 + times y ws
  unfolding added
  at_added [] t e = omega arith
  at_added (x ∷ ws) t e =
      let a = at_added ws (one_in x t) (put-length t x (get_or t x 0 + 1) ∙ e) in
      let b = in_one x t e in
      let g : get_or (added ws (one_in x t)) y 0 ≡ get_or t y 0 + (pick (eqb x y) 1 0 + times y ws) = omega arith in g

  pub at-removed : (ws t : List ℕ) → length t ≡ table → get_or (removed ws t) y 0 ≡ get_or t y 0 - times y ws
  unfolding removed
  at-removed [] t e = omega arith
  at-removed (x ∷ ws) t e =
      let a = at-removed ws (one_out x t) (put-length t x (get_or t x 0 - 1) ∙ e) in
      let b = out_one x t e in
      let g : get_or (removed ws (one_out x t)) y 0 ≡ get_or t y 0 - (pick (eqb x y) 1 0 + times y ws) = omega arith in g

-- ---- taken afresh

pub afresh-none : replicate table 0 ≡ afresh []
unfolding afresh added
afresh-none = refl

pub length-afresh : (ws : List ℕ) → length (afresh ws) ≡ table
unfolding afresh
length-afresh ws = length-added ws (replicate table 0) ∙ length-replicate {A = ℕ} table 0

pub at-afresh : (y : ℕ) → y < table → (ws : List ℕ) → get_or (afresh ws) y 0 ≡ times y ws
unfolding afresh
at-afresh y h ws =
    let a = at_added y h ws (replicate table 0) (length-replicate {A = ℕ} table 0) in
    let b = get_or-replicate {A = ℕ} table y 0 0 h in
    omega arith

-- a part counted out and others counted in: the count of the words with those in its place
pub kept : (a old new b : List ℕ) → added new (removed old (afresh (a ++ (old ++ b)))) ≡ afresh (a ++ (new ++ b))
kept a old new b = ext_get_or 0 _ _ (long ∙ sym (length-afresh (a ++ (new ++ b)))) (λ i p. same i (let z = long in omega arith))
  where
    t : List ℕ
    t = afresh (a ++ (old ++ b))

    off : length (removed old t) ≡ table
    off = length_removed old t ∙ length-afresh (a ++ (old ++ b))

    long : length (added new (removed old t)) ≡ table
    long = length-added new (removed old t) ∙ off

    same : (y : ℕ) → y < table → get_or (added new (removed old t)) y 0 ≡ get_or (afresh (a ++ (new ++ b))) y 0
    same y h =
        let e₁ = at_added y h new (removed old t) off in
        let e₂ = at-removed y h old t (length-afresh (a ++ (old ++ b))) in
        let e₃ = at-afresh y h (a ++ (old ++ b)) in
        let e₄ = at-afresh y h (a ++ (new ++ b)) in
        let m₁ = times-append y a (old ++ b) in
        let m₂ = times-append y old b in
        let m₃ = times-append y a (new ++ b) in
        let m₄ = times-append y new b in
        omega arith

-- ---- the tests of the code

pub past-in : (x : ℕ) (t : List ℕ) → table ≤ x → t ≡ one_in x t
past-in x t h = sym (ap (λ b. pick b (set t x (get_or t x 0 + 1)) t) (le-ltb x table h))

pub past-out : (x : ℕ) (t : List ℕ) → table ≤ x → t ≡ one_out x t
past-out x t h = sym (ap (λ b. pick b (set t x (get_or t x 0 - 1)) t) (le-ltb x table h))

pub within_in : (x : ℕ) (t : List ℕ) → x < table → set t x (get_or t x 0 + 1) ≡ one_in x t
within_in x t h = sym (ap (λ b. pick b (set t x (get_or t x 0 + 1)) t) (lt-ltb x table h))

pub within-out : (x : ℕ) (t : List ℕ) → x < table → set t x (get_or t x 0 - 1) ≡ one_out x t
within-out x t h = sym (ap (λ b. pick b (set t x (get_or t x 0 - 1)) t) (lt-ltb x table h))

pub counted : (x : ℕ) (t : List ℕ) → x < table → get_or t x 0 ≡ count_at t x
counted x t h = sym (ap (λ b. pick b (get_or t x 0) 0) (lt-ltb x table h))

pub uncounted : (x : ℕ) (t : List ℕ) → table ≤ x → count_at t x ≡ 0
uncounted x t h = ap (λ b. pick b (get_or t x 0) 0) (le-ltb x table h)

-- ---- one turn of a loop

pub added-on : (k t : List ℕ) (i to x : ℕ) → i < to → to ≤ length k → x ≡ get_or k i 0 → added (slice (i + 1) to k) (one_in x t) ≡ added (slice i to k) t
unfolding added
added-on k t i to x p q e = ap (λ y. added (slice (i + 1) to k) (one_in y t)) e ∙ sym (ap (λ ws. added ws t) (part-cons k i to p (omega arith)))

pub removed-on : (k t : List ℕ) (i to x : ℕ) → i < to → to ≤ length k → x ≡ get_or k i 0 → removed (slice (i + 1) to k) (one_out x t) ≡ removed (slice i to k) t
unfolding removed
removed-on k t i to x p q e = ap (λ y. removed (slice (i + 1) to k) (one_out y t)) e ∙ sym (ap (λ ws. removed ws t) (part-cons k i to p (omega arith)))

pub added_none : (k t : List ℕ) (i to : ℕ) → to ≤ i → t ≡ added (slice i to k) t
unfolding added
added_none k t i to p = sym (ap (λ ws. added ws t) (part_none k i to p))

pub removed-none : (k t : List ℕ) (i to : ℕ) → to ≤ i → t ≡ removed (slice i to k) t
unfolding removed
removed-none k t i to p = sym (ap (λ ws. removed ws t) (part_none k i to p))

pub length-in : (x : ℕ) (t : List ℕ) → length (one_in x t) ≡ length t
length-in x t = put-length t x (get_or t x 0 + 1)

pub length-out : (x : ℕ) (t : List ℕ) → length (one_out x t) ≡ length t
length-out x t = put-length t x (get_or t x 0 - 1)

-- a number more at one place at most
pub in-at-most : (x : ℕ) (t : List ℕ) → length t ≡ table → (y : ℕ) → get_or (one_in x t) y 0 ≤ get_or t y 0 + 1
in-at-most x t e y = go (eqb x y) refl (ltb x table) refl
  where
    go : (b : Bool) → eqb x y ≡ b → (d : Bool) → ltb x table ≡ d → get_or (one_in x t) y 0 ≤ get_or t y 0 + 1
    go true p true q =
        let z = eqb-true x y p in
        let s : get_or (one_in x t) x 0 ≡ get_or t x 0 + 1 = put_same t x (get_or t x 0 + 1) (ltb-true x table q) e in
        let r = ap (λ n. get_or (one_in x t) n 0) (sym z) ∙ s ∙ ap (λ n. get_or t n 0 + 1) z in omega arith
    go true p false q = let r = ap (λ s. get_or s y 0) (past-in x t (ltb-false x table q)) in omega arith
    go false p d q = let s = put_other t x (get_or t x 0 + 1) y p in omega arith

abbrev one : Bool → ℕ
one b = pick b 1 0

one-by : (y : ℕ) {m n : ℕ} → m ≡ n → one (eqb m y) ≡ one (eqb n y)
one-by y e = ap (λ n. one (eqb n y)) e

one_at : {b : Bool} → b ≡ true → one b ≡ 1
one_at e = ap one e

-- what is left to count out
pub out-left : (k t : List ℕ) (i to x : ℕ) → i < to → to ≤ length k → x ≡ get_or k i 0 → length t ≡ table
    → ((y : ℕ) → y < table → times y (slice i to k) ≤ get_or t y 0) → (y : ℕ) → y < table → times y (slice (i + 1) to k) ≤ get_or (one_out x t) y 0
out-left k t i to x p q e d f y h =
    let a = out_one y h x t d in
    let b : times y (slice i to k) ≡ pick (eqb (get_or k i 0) y) 1 0 + times y (slice (i + 1) to k) = ap (times y) (part-cons k i to p (omega arith)) in
    let c = one-by y e in
    let g = f y h in
    omega arith

pub out-here : (k t : List ℕ) (i to x : ℕ) → i < to → to ≤ length k → x ≡ get_or k i 0 → ((y : ℕ) → y < table → times y (slice i to k) ≤ get_or t y 0) → x < table → 1 ≤ get_or t x 0
out-here k t i to x p q e f h =
    let b : times x (slice i to k) ≡ pick (eqb (get_or k i 0) x) 1 0 + times x (slice (i + 1) to k) = ap (times x) (part-cons k i to p (omega arith)) in
    let c = one_at (eq-eqb (get_or k i 0) x (sym e)) in
    let g = f x h in
    omega arith
