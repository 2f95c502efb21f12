-- Results of one length: what they come to together is known from their number and that length, and a number past the room need not be counted.
use Prim.Native.Nat.{ℕ, zero, suc, ◌+◌, ◌*◌, ◌-◌, ◌<◌, ◌≤◌}
use mathlib.Core.Path.{◌≡◌, refl, sym, ap, ◌∙◌}
use mathlib.Core.List.{List, map}
use native.Mathlib.Decide.{dec_le}
use native.Mathlib.Omega.{arith}
use lib.Dec.{leb}
use lib.ListN.{length, get_or, length-append}
use lib.Seq.{slice}
use borrow.Author.Tests.{le-leb, lt-leb}
use Rattle.std.specs.Prelude.{Some, None}
use Rattle.language.specs.Limits.{desk}
use Rattle.language.specs.Kinds.{pick}
use Rattle.meaning.specs.Values.{numbers}
use Rattle.rules.specs.Elements.{factorial}
use Rattle.frames.specs.Frames.{frame}
use Rattle.orders.specs.Orders.{plenty, some_orders}
use Rattle.orders.proofs.Orders.{ordered-length, orders-many, few-orders, many-orders}
use Rattle.orders.proofs.Renamed.{length-renamed}
use Rattle.plans.specs.declared.Piece.{Piece}
use Rattle.plans.specs.declared.Piece.TheVariants.{Word, Copy, Put, ToCut, PutFromCut, Each, Ordered, Named}
use Rattle.plans.specs.declared.Recipe.{Recipe}
use Rattle.plans.specs.Results.{piece_words, slot_at, pieces_from, numbered, made}
use Rattle.plans.specs.Sizes.{grown, grown_by, sized_from, sized}

-- ---- results that differ in their number alone are equally long

pub piece-alike : (k : List ℕ) (r : Recipe) (cut nth : ℕ) (p : Piece) → length (piece_words k r cut nth p) ≡ length (piece_words k r cut 0 p)
piece-alike k r cut nth (Word x) = refl
piece-alike k r cut nth (Copy from to) = refl
piece-alike k r cut nth (Put from to) = refl
piece-alike k r cut nth (ToCut from) = refl
piece-alike k r cut nth (PutFromCut to) = refl
piece-alike k r cut nth (Each from to) = refl
piece-alike k r cut nth (Ordered from n) = ordered-length k from n nth
piece-alike k r cut nth (Named from to) =
    length-renamed (get_or k r.old 0) (3000 + nth) (slice from to k) ∙ sym (length-renamed (get_or k r.old 0) (3000 + 0) (slice from to k))

pieces-alike : (n i : ℕ) (k : List ℕ) (r : Recipe) (cut nth : ℕ) → length (pieces_from n i k r cut nth) ≡ length (pieces_from n i k r cut 0)
pieces-alike zero i k r cut nth = refl
pieces-alike (suc n) i k r cut nth =
    omega (
      arith,
      length-append (piece_words k r cut nth (slot_at r i)) (pieces_from n (i + 1) k r cut nth),
      length-append (piece_words k r cut 0 (slot_at r i)) (pieces_from n (i + 1) k r cut 0),
      piece-alike k r cut nth (slot_at r i),
      pieces-alike n (i + 1) k r cut nth,
    )

pub numbered-length : (k : List ℕ) (r : Recipe) (cut nth : ℕ) → length (numbered k r cut nth) ≡ length (made k r cut)
unfolding numbered
numbered-length k r cut nth = pieces-alike 12 0 k r cut nth

-- ---- counted on

grown-low : (n l : ℕ) → n ≤ desk.room → grown n l ≡ n + frame + l
grown-low n l h = ap (λ b. pick b (n + frame + l) n) (le-leb n desk.room h)

grown-high : (n l : ℕ) → desk.room < n → grown n l ≡ n
grown-high n l h = ap (λ b. pick b (n + frame + l) n) (lt-leb n desk.room h)

-- past the room nothing is counted any more
pub grown-past : (m n l : ℕ) → desk.room < n → grown_by m n l ≡ n
grown-past zero n l h = refl
grown-past (suc m) n l h = ap (λ i. grown_by m i l) (grown-high n l h) ∙ grown-past m n l h

-- one more counted
pub grown-one : (m j n l : ℕ) → m ≡ suc j → {g : ℕ} → g ≡ grown n l → grown_by m n l ≡ grown_by j g l
grown-one m j n l e d = ap (λ i. grown_by i n l) e ∙ ap (λ i. grown_by j i l) (sym d)

grown-enough : (m n l : ℕ) → desk.room < n + 2 * m → desk.room < grown_by m n l
grown-enough zero n l h = omega arith
grown-enough (suc m) n l h = go (grown-enough m (grown n l) l) (dec_le n desk.room)
  where
    go : (desk.room < grown n l + 2 * m → desk.room < grown_by m (grown n l) l) → Dec (n ≤ desk.room) → desk.room < grown_by m (grown n l) l
    go f (yes p) = f (let e = grown-low n l p in omega arith)
    go f (no p) = f (let e = grown-high n l (omega arith) in omega arith)

grown-sum : (a b n l : ℕ) → grown_by (a + b) n l ≡ grown_by b (grown_by a n l) l
grown-sum zero b n l = let z : 0 + b ≡ b = omega arith in ap (λ i. grown_by i n l) z
grown-sum (suc a) b n l = let z : suc a + b ≡ suc (a + b) = omega arith in ap (λ i. grown_by i n l) z ∙ grown-sum a b (grown n l) l

-- as many as pass the room are as good as more
grown-plenty : (m l : ℕ) → plenty ≤ m → grown_by m 0 l ≡ grown_by plenty 0 l
grown-plenty m l h =
    let e : m ≡ plenty + (m - plenty) = omega arith in
    ap (λ i. grown_by i 0 l) e ∙ grown-sum plenty (m - plenty) 0 l ∙ grown-past (m - plenty) (grown_by plenty 0 l) l (grown-enough plenty 0 l (omega arith))

pub grown-orders : (n l : ℕ) → grown_by (factorial n) 0 l ≡ grown_by (some_orders n) 0 l
grown-orders n l = go (dec_le n 7)
  where
    go : Dec (n ≤ 7) → grown_by (factorial n) 0 l ≡ grown_by (some_orders n) 0 l
    go (yes p) = ap (λ i. grown_by i 0 l) (few-orders n refl refl p)
    go (no p) = grown-plenty (factorial n) l (orders-many n (omega arith)) ∙ ap (λ i. grown_by i 0 l) (many-orders (omega arith))

-- ---- measured

module _ (k : List ℕ) (r : Recipe) where
  abbrev rows : ℕ → ℕ → List (List ℕ)
  rows i m = map (numbered k r 0) (numbers i m)

  from-alike : (m i n : ℕ) → length (made k r 0) ≤ desk.question → sized_from n (rows i m) ≡ Some (grown_by m n (length (made k r 0)))
  from-alike zero i n h = refl
  from-alike (suc m) i n h =
      let e = numbered-length k r 0 i in
      ap (λ l. pick (leb l desk.question) (sized_from (grown n l) (rows (suc i) m)) None) e
      ∙ ap (λ b. pick b (sized_from (grown n (length (made k r 0))) (rows (suc i) m)) None) (le-leb (length (made k r 0)) desk.question h)
      ∙ from-alike m (suc i) (grown n (length (made k r 0))) h

  -- m results of one length
  pub sized-alike : (m : ℕ) → length (made k r 0) ≤ desk.question → sized (rows 0 m) ≡ Some (grown_by m 0 (length (made k r 0)))
  unfolding sized
  sized-alike m h = from-alike m 0 0 h

  -- one of them too long, where there is one
  pub over-alike : (m : ℕ) → (m ≡ 0 → ⊥) → desk.question < length (made k r 0) → sized (rows 0 m) ≡ None
  unfolding sized
  over-alike zero nz h = absurd (nz refl)
  over-alike (suc m) nz h = ap (λ b. pick b (sized_from (grown 0 (length (made k r 0))) (rows 1 m)) None) (lt-leb (length (made k r 0)) desk.question h)

  -- all orders are measured by those that are counted
  pub sized-orders : (n : ℕ) → sized (rows 0 (some_orders n)) ≡ sized (rows 0 (factorial n))
  sized-orders n = go (dec_le n 7) (dec_le (length (made k r 0)) desk.question)
    where
      some : desk.question < length (made k r 0) → (m : ℕ) → 0 < m → sized (rows 0 m) ≡ None
      some h m p = over-alike m (λ z. omega arith) h

      go : Dec (n ≤ 7) → Dec (length (made k r 0) ≤ desk.question) → sized (rows 0 (some_orders n)) ≡ sized (rows 0 (factorial n))
      go (yes p) d = ap (λ m. sized (rows 0 m)) (sym (few-orders n refl refl p))
      go (no p) (yes d) = sized-alike (some_orders n) d ∙ ap Some (sym (grown-orders n (length (made k r 0)))) ∙ sym (sized-alike (factorial n) d)
      go (no p) (no d) =
          let s = orders-many n (omega arith) in
          let t = many-orders {n = n} (omega arith) in
          some (omega arith) (some_orders n) (omega arith) ∙ sym (some (omega arith) (factorial n) (omega arith))
