-- Passing an expression in prefix notation: by its first word, and by the expressions that follow it.
use Prim.Native.Nat.{ℕ, zero, suc, ◌+◌, ◌<◌, ◌≤◌}
use mathlib.Core.Path.{◌≡◌, refl, sym, ap, ◌∙◌}
use mathlib.Core.Bool.{Bool, true, false, ◌&&◌, ◌||◌}
use mathlib.Core.List.{List, [], ◌∷◌}
use native.Mathlib.Omega.{arith}
use lib.Dec.{eqb}
use lib.ListN.{length, get_or, drop, drop_of_length-le, get_or-eq_default}
use lib.Seq.{drop-drop, get_or-drop}
use borrow.Author.Tests.{eq-eqb, ne_eqb, le-leb, lt-leb}
use Rattle.words.proofs.Parts.{drop_here}
use Rattle.expressions.specs.declared.Part.{Part}
use Rattle.expressions.specs.Passing.{asks, reach, null_by, nulls, part_at}

-- ---- by the word

module _ (x : ℕ) where
  pub asks_none : x ≡ 7000 → asks x ≡ 0
  unfolding asks
  asks_none e = rw (eq-eqb x 7000 e)

  pub asks-star : x ≡ 7003 → asks x ≡ 1
  unfolding asks
  asks-star e = rw (ne_eqb x 7000 (omega arith), eq-eqb x 7003 e)

  pub asks-over : x < 7000 → asks x ≡ 1
  unfolding asks
  asks-over h = rw (ne_eqb x 7000 (omega arith), ne_eqb x 7003 (omega arith), le-leb x 6999 (omega arith))

  pub asks_two : (x ≡ 7000 → ⊥) → (x ≡ 7003 → ⊥) → 7000 ≤ x → asks x ≡ 2
  unfolding asks
  asks_two a b h = rw (ne_eqb x 7000 a, ne_eqb x 7003 b, lt-leb x 6999 (omega arith))

  module _ (a b : Bool) where
    null-eps : x ≡ 7000 → null_by x a b ≡ true
    unfolding null_by
    null-eps e = rw (eq-eqb x 7000 e)

    pub null-star : x ≡ 7003 → null_by x a b ≡ true
    unfolding null_by
    null-star e = rw (ne_eqb x 7000 (omega arith), eq-eqb x 7003 e)

    pub null-over : x < 7000 → null_by x a b ≡ false
    unfolding null_by
    null-over h = rw (ne_eqb x 7000 (omega arith), ne_eqb x 7003 (omega arith), le-leb x 6999 (omega arith))

    pub null-cat : x ≡ 7001 → null_by x a b ≡ (a && b)
    unfolding null_by
    null-cat e = rw (ne_eqb x 7000 (omega arith), ne_eqb x 7003 (omega arith), lt-leb x 6999 (omega arith), eq-eqb x 7001 e)

    pub null-alt : (x ≡ 7000 → ⊥) → (x ≡ 7001 → ⊥) → (x ≡ 7003 → ⊥) → 7000 ≤ x → null_by x a b ≡ (a || b)
    unfolding null_by
    null-alt n0 n1 n3 h = rw (ne_eqb x 7000 n0, ne_eqb x 7003 n3, lt-leb x 6999 (omega arith), ne_eqb x 7001 n1)

-- ---- expressions in a row

pub reach-none : (ws : List ℕ) → reach 0 ws ≡ 0
unfolding reach
reach-none [] = refl
reach-none (x ∷ ws) = refl

reach-zero : (m : ℕ) (ws : List ℕ) → reach m ws ≡ reach 0 ws + reach m (drop (reach 0 ws) ws)
reach-zero m ws = let z = reach-none ws in let r = ap (λ j. reach m (drop j ws)) z in omega arith

-- the first n of them, and the next m
pub reach-more : (n m : ℕ) (ws : List ℕ) → reach (n + m) ws ≡ reach n ws + reach m (drop (reach n ws) ws)
unfolding reach
reach-more n m [] = refl
reach-more zero m (x ∷ ws) = let e : zero + m ≡ m = omega arith in ap (λ j. reach j (x ∷ ws)) e ∙ reach-zero m (x ∷ ws)
reach-more (suc n) m (x ∷ ws) =
    let e : suc n + m ≡ suc (n + m) = omega arith in
    let d : n + m + asks x ≡ n + asks x + m = omega arith in
    let h = reach-more (n + asks x) m ws in
    ap (λ j. reach j (x ∷ ws)) e ∙ ap (λ j. suc (reach j ws)) d ∙ omega arith

nulls-more : (n : ℕ) (ws : List ℕ) → nulls (drop (reach n ws) ws) ≡ drop n (nulls ws)
unfolding reach nulls
nulls-more zero [] = refl
nulls-more (suc n) [] = refl
nulls-more zero (x ∷ ws) = refl
nulls-more (suc n) (x ∷ ws) =
    let d : n + asks x ≡ asks x + n = omega arith in
    nulls-more (n + asks x) ws ∙ ap (λ j. drop j (nulls ws)) d ∙ sym (drop-drop n (asks x) (nulls ws))

-- ---- what is told

abbrev part : ℕ → Bool → Bool → Part
part end null bare = record { end = end; null = null; bare = bare }

same-part : {e d : ℕ} {n m b c : Bool} → e ≡ d → n ≡ m → b ≡ c → part e n b ≡ part d m c
same-part {e} {d} {n} {m} {b} {c} x y z = ap (λ j. part j n b) x ∙ ap (λ j. part d j b) y ∙ ap (part d m) z

module _ (k : List ℕ) (at : ℕ) where
  pub part_none : length k ≤ at → record { end = at; null = false; bare = false } ≡ part_at k at
  unfolding part_at reach nulls
  part_none h =
      let z : at + 0 ≡ at = omega arith in
      sym (ap (λ ws. part (at + reach 1 ws) (get_or (nulls ws) 0 false) (eqb (get_or k at 0) 7000)) (drop_of_length-le k {i = at} h) ∙ ap (λ n. part n false (eqb (get_or k at 0) 7000)) z ∙ ap (λ x. part at false (eqb x 7000)) (get_or-eq_default k 0 h))

  module _ (i : at < length k) where
    abbrev rest : List ℕ
    rest = drop (at + 1) k

    -- by the first word
    part_by : part_at k at ≡ part (at + suc (reach (asks (get_or k at 0)) rest)) (null_by (get_or k at 0) (get_or (nulls rest) 0 false) (get_or (nulls rest) 1 false)) (eqb (get_or k at 0) 7000)
    unfolding part_at reach nulls
    part_by =
        let e : 0 + asks (get_or k at 0) ≡ asks (get_or k at 0) = omega arith in
        ap (λ ws. part (at + reach 1 ws) (get_or (nulls ws) 0 false) (eqb (get_or k at 0) 7000)) (drop_here k at i) ∙ ap (λ n. part (at + suc (reach n rest)) (null_by (get_or k at 0) (get_or (nulls rest) 0 false) (get_or (nulls rest) 1 false)) (eqb (get_or k at 0) 7000)) e

    part-from : {e : ℕ} {n b : Bool} → at + suc (reach (asks (get_or k at 0)) rest) ≡ e → null_by (get_or k at 0) (get_or (nulls rest) 0 false) (get_or (nulls rest) 1 false) ≡ n → eqb (get_or k at 0) 7000 ≡ b → part e n b ≡ part_at k at
    part-from x y z = sym (part_by ∙ same-part x y z)

    pub part-eps : get_or k at 0 ≡ 7000 → record { end = at + 1; null = true; bare = true } ≡ part_at k at
    part-eps z =
        let r : at + suc (reach (asks (get_or k at 0)) rest) ≡ at + 1 = let a = ap (λ n. reach n rest) (asks_none (get_or k at 0) z) ∙ reach-none rest in omega arith in
        part-from r (null-eps (get_or k at 0) _ _ z) (eq-eqb (get_or k at 0) 7000 z)

    module _ (nz : get_or k at 0 ≡ 7000 → ⊥) {p : Part} (a : p ≡ part_at k (at + 1)) where
      first-end : p.end ≡ at + 1 + reach 1 rest
      unfolding part_at
      first-end = ap (λ (r : Part). r.end) a

      first-null : p.null ≡ get_or (nulls rest) 0 false
      unfolding part_at
      first-null = ap (λ (r : Part). r.null) a

      -- one expression follows
      pub part-one : {n : Bool} → asks (get_or k at 0) ≡ 1 → ((a b : Bool) → null_by (get_or k at 0) a b ≡ n) → record { end = p.end; null = n; bare = false } ≡ part_at k at
      part-one {n} o u =
          let r : at + suc (reach (asks (get_or k at 0)) rest) ≡ p.end = let b = ap (λ n. reach n rest) o in let c = first-end in omega arith in
          part-from r (u _ _) (ne_eqb (get_or k at 0) 7000 nz)

      -- two follow
      module _ {q : Part} (b : q ≡ part_at k p.end) where
        next : drop p.end k ≡ drop (reach 1 rest) rest
        next = ap (λ j. drop j k) first-end ∙ sym (drop-drop (reach 1 rest) (at + 1) k)

        second-end : q.end ≡ p.end + reach 1 (drop (reach 1 rest) rest)
        unfolding part_at
        second-end = ap (λ (r : Part). r.end) b ∙ ap (λ ws. p.end + reach 1 ws) next

        second-null : q.null ≡ get_or (nulls rest) 1 false
        unfolding part_at
        second-null = ap (λ (r : Part). r.null) b ∙ ap (λ ws. get_or (nulls ws) 0 false) next ∙ ap (λ l. get_or l 0 false) (nulls-more 1 rest) ∙ get_or-drop 1 (nulls rest) 0 false

        pub part-two : {n : Bool} → asks (get_or k at 0) ≡ 2 → n ≡ null_by (get_or k at 0) p.null q.null → record { end = q.end; null = n; bare = false } ≡ part_at k at
        part-two {n} o u =
            let r : at + suc (reach (asks (get_or k at 0)) rest) ≡ q.end = let c = ap (λ n. reach n rest) o in let d = reach-more 1 1 rest in let f = first-end in let g = second-end in omega arith in
            let v : null_by (get_or k at 0) (get_or (nulls rest) 0 false) (get_or (nulls rest) 1 false) ≡ n = sym (u ∙ ap (λ b. null_by (get_or k at 0) b q.null) first-null ∙ ap (null_by (get_or k at 0) (get_or (nulls rest) 0 false)) second-null) in
            part-from r v (ne_eqb (get_or k at 0) 7000 nz)
