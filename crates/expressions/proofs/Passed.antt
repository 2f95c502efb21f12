-- What the parts of an expression tell of the whole, in the shape in which passing it finds them.
use Prim.Native.Nat.{ℕ, ◌+◌, ◌<◌, ◌≤◌}
use mathlib.Core.Path.{◌≡◌, refl, ap, sym, ◌∙◌}
use mathlib.Core.Bool.{Bool, true, false, ◌&&◌, ◌||◌}
use mathlib.Core.List.{List}
use native.Mathlib.Omega.{arith}
use lib.ListN.{length, get_or, length-append}
use Rattle.language.specs.Writing.{expr_words}
use Rattle.rules.specs.Expressions.{nullable}
use Rattle.expressions.specs.declared.Part.{Part}
use Rattle.expressions.specs.Standing.{PartOf, Parted}
use Rattle.expressions.proofs.Passing.{asks-star, asks-over, asks_two, null-star, null-over, null-cat, null-alt, part_none, part-eps, part-one, part-two}
use Rattle.expressions.proofs.Standing.{second-of, by-eps, by-cat, by-alt, by-star, by_over, past_end, is-alt}

module _ {k : List ℕ} {at : ℕ} where
  pub passed-end : length k ≤ at → Parted k at (record { end = at; null = false; bare = false })
  passed-end z = record { after = omega arith; within = λ y. omega arith; is = part_none _ _ z; each = past_end _ z }

  pub passed-eps : at < length k → get_or k at 0 ≡ 7000 → Parted k at (record { end = at + 1; null = true; bare = true })
  passed-eps i z =
      record { after = omega arith; within = λ y. omega arith; is = part-eps _ _ i z; each = by-eps _ z (λ w. record { end = refl; null = refl; bare = refl }) }

  pub passed-star : {p : Part} → at < length k → get_or k at 0 ≡ 7003 → Parted k (at + 1) p → Parted k at (record { end = p.end; null = true; bare = false })
  passed-star {p} i z a =
      record {
        after = let l = a.after in omega arith;
        within = λ y. a.within (omega arith);
        is = part-one _ _ i (omega arith) a.is (asks-star _ z) (λ a b. null-star _ a b z);
        each = by-star _ z (λ A w h. let e = (a.each A w h).end in record { end = omega arith; null = refl; bare = refl });
      }

  pub passed_over : {p : Part} → at < length k → get_or k at 0 < 7000 → Parted k (at + 1) p → Parted k at (record { end = p.end; null = false; bare = false })
  passed_over {p} i z a =
      record {
        after = let l = a.after in omega arith;
        within = λ y. a.within (omega arith);
        is = part-one _ _ i (omega arith) a.is (asks-over _ z) (λ a b. null-over _ a b z);
        each = by_over _ z (λ f y u A w h. let e = (a.each A w h).end in record { end = omega arith; null = refl; bare = refl });
      }

  module _ {p q : Part} (i : at < length k) (a : Parted k (at + 1) p) (b : Parted k p.end q) where
    two-after : at ≤ q.end
    two-after = let l = a.after in let m = b.after in omega arith

    two-within : at ≤ length k → q.end ≤ length k
    two-within y = b.within (a.within (omega arith))

    pub passed-cat : {n : Bool} → get_or k at 0 ≡ 7001 → n ≡ (p.null && q.null) → Parted k at (record { end = q.end; null = n; bare = false })
    passed-cat z e =
        record {
          after = two-after;
          within = two-within;
          is = part-two _ _ i (omega arith) a.is b.is (asks_two _ (omega arith) (omega arith) (omega arith)) (e ∙ sym (null-cat _ p.null q.null z));
          each = by-cat _ z (λ A B w h o.
              let l = a.each A _ h in
              let r = b.each B w (second-of h o l.end) in
              let s = length-append (expr_words A) (expr_words B) in
              let y = l.end in
              let x = r.end in
              record { end = omega arith; null = e ∙ ap (λ n. n && q.null) l.null ∙ ap (λ n. nullable A && n) r.null; bare = refl });
        }

    pub passed-alt : {n : Bool} → (get_or k at 0 ≡ 7000 → ⊥) → (get_or k at 0 ≡ 7001 → ⊥) → (get_or k at 0 ≡ 7003 → ⊥) → 7000 ≤ get_or k at 0
        → n ≡ (p.null || q.null) → Parted k at (record { end = q.end; null = n; bare = false })
    passed-alt {n} n0 n1 n3 lo e =
        record {
          after = two-after;
          within = two-within;
          is = part-two _ _ i n0 a.is b.is (asks_two _ n0 n3 lo) (e ∙ sym (null-alt _ p.null q.null n0 n1 n3 lo));
          each = λ R v g. by-alt (λ R v. PartOf at R (record { end = q.end; null = n; bare = false })) (is-alt g n0 n1 n3 lo) (λ A B w h o.
              let l = a.each A _ h in
              let r = b.each B w (second-of h o l.end) in
              let s = length-append (expr_words A) (expr_words B) in
              let y = l.end in
              let x = r.end in
              record { end = omega arith; null = e ∙ ap (λ n. n || q.null) l.null ∙ ap (λ n. nullable A || n) r.null; bare = refl }) R v g;
        }
