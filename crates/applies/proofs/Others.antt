-- How often a word stands in a part, and in all words: it stands outside the part exactly if that is more often.
use Prim.Native.Nat.{ℕ, ◌+◌, ◌-◌, ◌<◌, ◌≤◌}
use native.Mathlib.Omega.{arith}
use native.Mathlib.Decide.{dec_lt}
use mathlib.Core.Path.{◌≡◌, refl, sym, ap, ◌∙◌}
use mathlib.Core.Bool.{Bool, true, false, ◌||◌}
use mathlib.Core.List.{List, [], ◌∷◌}
use lib.Dec.{eqb, ltb}
use lib.ListN.{length, get_or, take, drop, take-append-drop, drop_of_length-le}
use lib.Seq.{slice, take-take, drop-drop}
use borrow.Author.Tests.{lt-ltb, le-ltb, eq-eqb, ne_eqb}
use Rattle.language.specs.Kinds.{pick}
use Rattle.words.specs.Spans.{member}
use Rattle.words.proofs.Parts.{take_short, part-cons, part_none, part-past}
use Rattle.counts.specs.Tables.{times, table as places, afresh}
use Rattle.counts.proofs.Times.{Some, none, more, some_or, times-append}
use Rattle.counts.proofs.Added.{at-afresh}

-- ---- the loop

pub one-here : (y x : ℕ) → y ≡ x → ◌≡◌ {A = ℕ} 1 (pick (eqb y x) 1 0)
one-here y x e = sym (ap (λ b. pick b 1 0) (eq-eqb y x e))

pub none_here : (y x : ℕ) → (y ≡ x → ⊥) → ◌≡◌ {A = ℕ} 0 (pick (eqb y x) 1 0)
none_here y x e = sym (ap (λ b. pick b 1 0) (ne_eqb y x e))

pub one-short : (b : Bool) → pick b 1 0 ≤ 1
one-short true = omega arith
one-short false = omega arith

module _ (k : List ℕ) (x i t : ℕ) where
  pub times-next : i < t → i < length k → times x (slice i t k) ≡ pick (eqb (get_or k i 0) x) 1 0 + times x (slice (i + 1) t k)
  times-next p q = ap (times x) (part-cons k i t p q)

  pub times_none : t ≤ i → times x (slice i t k) ≡ 0
  times_none p = ap (times x) (part_none k i t p)

  pub times-past : length k ≤ i → times x (slice i t k) ≡ 0
  times-past p = ap (times x) (part-past k i t p)

-- ---- outside a part

some_one : (b : Bool) → Some b (pick b 1 0)
some_one true = more {n = 1} (omega arith)
some_one false = none refl

some-member : (x : ℕ) (ws : List ℕ) → Some (member x ws) (times x ws)
some-member x [] = none refl
some-member x (y ∷ ws) = some_or (some_one (eqb y x)) (some-member x ws)

more-than : {b : Bool} {n : ℕ} (s m : ℕ) → Some b n → (1 ≤ n → s < m) → (n ≡ 0 → m ≤ s) → ltb s m ≡ b
more-than s m (more p) f g = lt-ltb s m (f p)
more-than s m (none p) f g = le-ltb s m (g p)

module _ (x : ℕ) (k : List ℕ) where
  cut : (i : ℕ) → times x k ≡ times x (take i k) + times x (drop i k)
  cut i = ap (times x) (sym (take-append-drop i k)) ∙ times-append x (take i k) (drop i k)

  further : (i n : ℕ) → times x (drop i k) ≡ times x (take n (drop i k)) + times x (drop (i + n) k)
  further i n = ap (times x) (sym (take-append-drop n (drop i k))) ∙ times-append x (take n (drop i k)) (drop n (drop i k)) ∙ ap (λ ws. times x (take n (drop i k)) + times x ws) (drop-drop n i k)

  -- the words up to a later place
  inner : (at end : ℕ) → at ≤ end → times x (take end k) ≡ times x (take at k) + times x (slice at end k)
  inner at end p =
      ap (times x) (sym (take-append-drop at (take end k))) ∙ times-append x (take at (take end k)) (drop at (take end k)) ∙ ap (λ ws. times x ws + times x (slice at end k)) (take-take at end k p)

  outside : (at end : ℕ) → Dec (end < at) → ltb (times x (slice at end k)) (times x k) ≡ (member x (take at k) || member x (drop end k))
  outside at end (yes h) =
      let s : times x (slice at end k) ≡ 0 = ap (times x) (drop_of_length-le (take end k) {i = at} (let z = take_short end k in omega arith)) in
      let a = cut at in let e = cut end in let f = further end (at - end) in
      let g : times x (drop (end + (at - end)) k) ≡ times x (drop at k) = let z : end + (at - end) ≡ at = omega arith in ap (λ i. times x (drop i k)) z in
      more-than (times x (slice at end k)) (times x k) (some_or (some-member x (take at k)) (some-member x (drop end k))) (λ p. omega arith) (λ p. omega arith)
  outside at end (no h) =
      let a = inner at end (omega arith) in let e = cut end in
      more-than (times x (slice at end k)) (times x k) (some_or (some-member x (take at k)) (some-member x (drop end k))) (λ p. omega arith) (λ p. omega arith)

-- by the table of all words
pub by-table : (k t : List ℕ) (at end x here n : ℕ) → t ≡ afresh k → x < places → here ≡ times x (slice at end k) → n ≡ get_or t x 0
    → ltb here n ≡ (member x (take at k) || member x (drop end k))
by-table k t at end x here n e h a b =
    ap (λ m. ltb m n) a ∙ ap (ltb (times x (slice at end k))) (b ∙ ap (λ s. get_or s x 0) e ∙ at-afresh x h k) ∙ outside x k at end (dec_lt end at)
