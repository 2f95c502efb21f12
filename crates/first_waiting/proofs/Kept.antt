-- Words of which a part in the middle is other than before: their list, and the table of their counts.
use Prim.Native.Nat.{ℕ, ◌+◌, ◌-◌, ◌<◌, ◌≤◌}
use native.Mathlib.Omega.{arith}
use native.Mathlib.Decide.{ℕ_discrete, dec_lt}
use mathlib.Core.Path.{◌≡◌, refl, sym, ap, ◌∙◌}
use mathlib.Core.List.{List, ◌++◌}
use lib.ListN.{length, get_or, take, drop, get_or-eq_default}
use lib.Seq.{slice, sets, sets-eq, ext_get_or, get_or-take, get_or-drop, take-add, drop-append-le, drop_at, length-take-le, length-slice}
use Rattle.language.specs.Limits.{desk}
use Rattle.counts.specs.Tables.{times, table, added, removed, afresh}
use Rattle.counts.proofs.Times.{times-append, times-short}
use Rattle.counts.proofs.Added.{kept, at-afresh, at-removed, length-afresh, length_removed}
use Rattle.first_waiting.specs.Parts.{Alike, AlikeBack}

-- ---- the loops

pub alike-none : (k w : List ℕ) (from : ℕ) → Alike k w from 0
alike-none k w from = record { each = λ j h. absurd (omega arith) }

pub alike-more : {k w : List ℕ} {from i : ℕ} → Alike k w from i → get_or k i 0 ≡ get_or w (from + i) 0 → Alike k w from (i + 1)
alike-more {k} {w} {from} {i} a e = record { each = λ j h. go j h (ℕ_discrete j i) }
  where
    go : (j : ℕ) → j < i + 1 → Dec (j ≡ i) → get_or k j 0 ≡ get_or w (from + j) 0
    go j h (yes z) = ap (λ n. get_or k n 0) z ∙ e ∙ ap (λ n. get_or w (from + n) 0) (sym z)
    go j h (no z) = a.each j (omega (arith, z))

pub back_none : (k : List ℕ) (end : ℕ) (w : List ℕ) (to : ℕ) → AlikeBack k end w to 0
back_none k end w to = record { each = λ j h. absurd (omega arith) }

pub back_more : {k : List ℕ} {end : ℕ} {w : List ℕ} {to i : ℕ} → AlikeBack k end w to i → get_or k (end - 1 - i) 0 ≡ get_or w (to - 1 - i) 0 → AlikeBack k end w to (i + 1)
back_more {k} {end} {w} {to} {i} a e = record { each = λ j h. go j h (ℕ_discrete j i) }
  where
    go : (j : ℕ) → j < i + 1 → Dec (j ≡ i) → get_or k (end - 1 - j) 0 ≡ get_or w (to - 1 - j) 0
    go j h (yes z) = ap (λ n. get_or k (end - 1 - n) 0) z ∙ e ∙ ap (λ n. get_or w (to - 1 - n) 0) (sym z)
    go j h (no z) = a.each j (omega (arith, z))

-- ---- parts

-- a part is cut in two
pub cut : (w : List ℕ) (from mid to : ℕ) → from ≤ mid → mid ≤ to → to ≤ length w → slice from to w ≡ slice from mid w ++ slice mid to w
cut w from mid to p q r = front ∙ ap (λ s. slice from mid w ++ s) (sym back)
  where
    size : length (take mid w) ≡ mid
    size = length-take-le mid w (omega arith)

    whole : take to w ≡ take mid w ++ take (to - mid) (drop mid w)
    whole = let z : to ≡ mid + (to - mid) = omega arith in ap (λ n. take n w) z ∙ take-add mid (to - mid) w

    front : slice from to w ≡ slice from mid w ++ take (to - mid) (drop mid w)
    front = ap (drop from) whole ∙ drop-append-le from (take mid w) (take (to - mid) (drop mid w)) (let z = size in omega arith)

    back : slice mid to w ≡ take (to - mid) (drop mid w)
    back = ap (drop mid) whole ∙ drop_at (take mid w) (take (to - mid) (drop mid w)) mid size

-- parts of the same words
same-words : (k w : List ℕ) (a b n : ℕ) → a + n ≤ length k → b + n ≤ length w → ((j : ℕ) → j < n → get_or k (a + j) 0 ≡ get_or w (b + j) 0) → slice a (a + n) k ≡ slice b (b + n) w
same-words k w a b n p q f = ext_get_or 0 _ _ (long k a p ∙ sym (long w b q)) (λ i h. at k a i (let z = long k a p in omega arith) ∙ f i (let z = long k a p in omega arith) ∙ sym (at w b i (let z = long k a p in omega arith)))
  where
    long : (k : List ℕ) (a : ℕ) → a + n ≤ length k → length (slice a (a + n) k) ≡ n
    long k a p = let z = length-slice a (a + n) k p in omega arith

    at : (k : List ℕ) (a i : ℕ) → i < n → get_or (slice a (a + n) k) i 0 ≡ get_or k (a + i) 0
    at k a i h = get_or-drop a (take (a + n) k) i 0 ∙ get_or-take (a + n) k (a + i) 0 (omega arith)

-- a place among the last b, counted from the end
from_end : (e b j : ℕ) → b ≤ e → j < b → e - b + j ≡ e - 1 - (b - 1 - j)
from_end e b j p q = omega arith

-- what was found: `old` words of k, n words of w, so many the same in front and so many behind
pub record Follows (k w : List ℕ) (from to old n front back : ℕ) : Type 0 where
  pub size : to ≡ from + n
  pub within : to ≤ length w
  pub room : n ≤ length k
  pub fits : old ≤ length k
  pub few : front + back ≤ old
  pub less : front + back ≤ n
  pub before-alike : Alike k w from front
  pub behind-alike : AlikeBack k old w to back

pub follows : (k w : List ℕ) (from n old most front back : ℕ) → from + n ≤ length w → n ≤ length k → old ≤ length k → (most ≤ old) × (most ≤ n)
    → (front ≤ most) × Alike k w from front → (back ≤ most - front) × AlikeBack k old w (from + n) back → Follows k w from (from + n) old n front back
follows k w from n old most front back p q r m a b =
    record { size = refl; within = p; room = q; fits = r; few = omega arith; less = omega arith; before-alike = a.1; behind-alike = b.1 }

module _ {k w : List ℕ} {from to old n front back : ℕ} (f : Follows k w from to old n front back) where
  size : to ≡ from + n
  size = f.size

  within : to ≤ length w
  within = f.within

  fits : old ≤ length k
  fits = f.fits

  few : front + back ≤ old
  few = f.few

  less : front + back ≤ n
  less = f.less

  abbrev before : List ℕ
  before = slice 0 front k

  abbrev behind : List ℕ
  behind = slice (old - back) old k

  abbrev gone : List ℕ
  gone = slice front (old - back) k

  abbrev come : List ℕ
  come = slice (from + front) (to - back) w

  old-words : take old k ≡ before ++ (gone ++ behind)
  old-words = cut k 0 front old (let z₁ = size in let z₂ = within in let z₃ = fits in let z₄ = few in let z₅ = less in omega arith) (let z₁ = size in let z₂ = within in let z₃ = fits in let z₄ = few in let z₅ = less in omega arith) fits ∙ ap (λ s. before ++ s) (cut k front (old - back) old (let z₁ = size in let z₂ = within in let z₃ = fits in let z₄ = few in let z₅ = less in omega arith) (let z₁ = size in let z₂ = within in let z₃ = fits in let z₄ = few in let z₅ = less in omega arith) fits)

  before_same : before ≡ slice from (from + front) w
  before_same = let y : front ≡ 0 + front = omega arith in ap (λ e. slice 0 e k) y ∙ same-words k w 0 from front (let z₁ = size in let z₂ = within in let z₃ = fits in let z₄ = few in let z₅ = less in omega arith) (let z₁ = size in let z₂ = within in let z₃ = fits in let z₄ = few in let z₅ = less in omega arith) (λ j h. let z : 0 + j ≡ j = omega arith in ap (λ i. get_or k i 0) z ∙ f.before-alike.each j h)

  behind-same : behind ≡ slice (to - back) to w
  behind-same =
      let x : old - back + back ≡ old = let z₄ = few in omega arith in
      let y : to - back + back ≡ to = let z₁ = size in let z₅ = less in omega arith in
      ap (λ e. slice (old - back) e k) (sym x)
      ∙ same-words k w (old - back) (to - back) back (let z₁ = size in let z₂ = within in let z₃ = fits in let z₄ = few in let z₅ = less in omega arith) (let z₁ = size in let z₂ = within in let z₃ = fits in let z₄ = few in let z₅ = less in omega arith)
      (λ j h.
      ap (λ i. get_or k i 0) (from_end old back j (let z₁ = size in let z₂ = within in let z₃ = fits in let z₄ = few in let z₅ = less in omega arith) h) ∙ f.behind-alike.each (back - 1 - j) (let z₁ = size in let z₂ = within in let z₃ = fits in let z₄ = few in let z₅ = less in omega arith) ∙ ap (λ i. get_or w i 0) (sym (from_end to back j (let z₁ = size in let z₂ = within in let z₃ = fits in let z₄ = few in let z₅ = less in omega arith) h)))
      ∙ ap (λ e. slice (to - back) e w) y

  new-words : slice from to w ≡ before ++ (come ++ behind)
  new-words =
      cut w from (from + front) to (let z₁ = size in let z₂ = within in let z₃ = fits in let z₄ = few in let z₅ = less in omega arith) (let z₁ = size in let z₂ = within in let z₃ = fits in let z₄ = few in let z₅ = less in omega arith) within
      ∙ ap (λ s. slice from (from + front) w ++ s) (cut w (from + front) (to - back) to (let z₁ = size in let z₂ = within in let z₃ = fits in let z₄ = few in let z₅ = less in omega arith) (let z₁ = size in let z₂ = within in let z₃ = fits in let z₄ = few in let z₅ = less in omega arith) within ∙ ap (λ s. come ++ s) (sym behind-same))
      ∙ ap (λ s. s ++ (come ++ behind)) (sym before_same)

  -- ---- what counting out and in asks, and what they leave

  module _ (t : List ℕ) (e : t ≡ afresh (take old k)) where
    pub out-fits : (x : ℕ) → x < table → times x gone ≤ get_or t x 0
    out-fits x h =
        let e₁ = ap (λ s. get_or s x 0) e ∙ at-afresh x h (take old k) ∙ ap (times x) old-words ∙ times-append x before (gone ++ behind) in
        let g = times-append x gone behind in omega arith

    pub in-fits : length k ≤ desk.question → (u : List ℕ) → u ≡ removed gone t → (x : ℕ) → get_or u x 0 + (to - back - (from + front)) < 65536
    in-fits q u d x = go (dec_lt x table)
      where
        long : length t ≡ table
        long = ap length e ∙ length-afresh (take old k)

        go : Dec (x < table) → get_or u x 0 + (to - back - (from + front)) < 65536
        go (yes h) =
            let e₁ = ap (λ s. get_or s x 0) d ∙ at-removed x h gone t long in
            let g = ap (λ s. get_or s x 0) e ∙ at-afresh x h (take old k) in
            let m = times-short x (take old k) in
            let l = length-take-le old k fits in let z₁ = size in let z₃ = fits in let z₆ = f.room in omega arith
        go (no h) = let z = get_or-eq_default u 0 {n = x} (let l = ap length d ∙ length_removed gone t ∙ long in omega arith) in let z₁ = size in let z₆ = f.room in omega arith

    pub table_kept : (u : List ℕ) → u ≡ removed gone t → (v : List ℕ) → v ≡ added come u → v ≡ afresh (slice from to w)
    table_kept u d v g = g ∙ ap (added come) (d ∙ ap (removed gone) (e ∙ ap afresh old-words)) ∙ kept before gone come behind ∙ ap afresh (sym new-words)

  abbrev rest : List ℕ
  rest = slice (from + front) to w

  -- the words that are not as before are written over
  pub words-kept : (k' : List ℕ) → k' ≡ sets k front (slice (from + front) to w) → k' ≡ sets k 0 (slice from to w)
  words-kept k' e =
      e
      ∙ sets-eq rest k front (let z = long in let z₆ = f.room in let z₅ = less in omega arith)
      ∙ ap (λ s. (take front k ++ rest) ++ drop s k) (let z : front + length rest ≡ 0 + length (slice from to w) = let x = long in let y = all in let z₅ = less in omega arith in z)
      ∙ ap (λ s. s ++ drop (0 + length (slice from to w)) k) (ap (λ s. s ++ rest) before_same ∙ sym (cut w from (from + front) to (let z₁ = size in let z₂ = within in let z₃ = fits in let z₄ = few in let z₅ = less in omega arith) (let z₁ = size in let z₂ = within in let z₃ = fits in let z₄ = few in let z₅ = less in omega arith) within))
      ∙ sym (sets-eq (slice from to w) k 0 (let z = all in let z₆ = f.room in omega arith))
    where
      long : length rest ≡ n - front
      long = let z = length-slice (from + front) to w within in let z₁ = size in omega arith

      all : length (slice from to w) ≡ n
      all = let z = length-slice from to w within in let z₁ = size in omega arith
