-- The last kind for each place, and the call.
use Prim.Native.Nat.{ℕ, suc, ◌+◌, ◌-◌, ◌<◌, ◌≤◌}
use mathlib.Core.Path.{◌≡◌, refl, sym, ◌∙◌, ap}
use mathlib.Core.Logic.{◌↔◌}
use mathlib.Core.Bool.{Bool, true, false}
use mathlib.Core.List.{List, [], ◌∷◌}
use native.Mathlib.Omega.{arith}
use native.Mathlib.Decide.{ℕ_discrete}
use lib.ListN.{length, get_or, set, length-set, replicate, length-replicate, get_or-replicate, get_or-eq_default}
use lib.Dec.{leb}
use borrow.Author.Tests.{leb-true, leb-false}
use lib.Seq.{get_or-set_same, get_or-set_other}
use Rattle.language.specs.Trees.{Expr}
use Rattle.rules.specs.Each.{Each}
use Rattle.rules.proofs.Each.{each-imp}
use Rattle.any_order.specs.Places.{At}
use Rattle.any_order.specs.Sharing.{Kind, Rest, Going, Good, none, Records, total}
use Rattle.any_order.specs.Searching.{counts, Ready, left, Noted, Heads, Placed, Markable, Marked, Listed, NotedFrom, Headed, Asked, Shared}
use Rattle.any_order.proofs.Shares.{Like, good-like, rest-like}
use Rattle.any_order.proofs.Recording.{records-le}
use Rattle.any_order.proofs.Placing.{in-at, each_at}

-- ---- one kind

module _ {w : List ℕ} {kind : ℕ} {l : List ℕ} where
  pub mark-starts : {end : ℕ} → Markable w kind end l → Marked w kind (kind + 2) l l
  mark-starts m = record { len = refl; grows = λ q. omega arith; most = m.most; hits = λ j z u. absurd (omega arith) }

  pub mark-more : {i p : ℕ} {k k' : List ℕ} → Marked w kind i l k → p ≡ get_or w i 0 → p < length l → k' ≡ set k p (kind + 1) → Marked w kind (i + 1) l k'
  mark-more {i} {p} {k} {k'} m e lt d = rw d (record {
    len = length-set k p (kind + 1) ∙ m.len;
    grows = λ q. omega (arith, m.grows q, up q);
    most = λ q. most q (ℕ_discrete q p);
    hits = λ j z u. hits j z u (ℕ_discrete j i);
  })
    where
      lt' : p < length k
      lt' = omega (arith, m.len)

      up : (q : ℕ) → get_or k q 0 ≤ get_or (set k p (kind + 1)) q 0
      up q = by (ℕ_discrete q p)
        where
          by : Dec (q ≡ p) → get_or k q 0 ≤ get_or (set k p (kind + 1)) q 0
          by (yes z) = let y : get_or (set k p (kind + 1)) q 0 ≡ kind + 1 = rw z (get_or-set_same k p (kind + 1) 0 (omega (arith, m.len))) in omega (arith, m.most q)
          by (no z) = omega (arith, get_or-set_other k p q (kind + 1) 0 z)

      most : (q : ℕ) → Dec (q ≡ p) → get_or (set k p (kind + 1)) q 0 ≤ kind + 1
      most q (yes z) = let y : get_or (set k p (kind + 1)) q 0 ≡ kind + 1 = rw z (get_or-set_same k p (kind + 1) 0 (omega (arith, m.len))) in omega arith
      most q (no z) = omega (arith, get_or-set_other k p q (kind + 1) 0 z, m.most q)

      hits : (j : ℕ) → kind + 2 ≤ j → j < i + 1 → Dec (j ≡ i) → kind + 1 ≤ get_or (set k p (kind + 1)) (get_or w j 0) 0
      hits j z u (yes y) =
          let h : get_or w j 0 ≡ p = ap (λ x. get_or w x 0) y ∙ sym e in
          let g : get_or (set k p (kind + 1)) (get_or w j 0) 0 ≡ kind + 1 = rw h (get_or-set_same k p (kind + 1) 0 (omega (arith, m.len))) in
          omega arith
      hits j z u (no y) = omega (arith, m.hits j z (omega arith), up (get_or w j 0))

  pub mark-ends : {i end : ℕ} {k : List ℕ} → Marked w kind i l k → end ≤ i → Marked w kind end l k
  mark-ends m z = record { len = m.len; grows = m.grows; most = m.most; hits = λ j u v. m.hits j u (omega arith) }

-- ---- all kinds

module _ {w : List ℕ} {kind top : ℕ} {l : List ℕ} where
  pub listed_le : Listed w kind top l → kind ≤ top
  listed_le s = records-le w kind s.ks top s.records

  -- where one stands
  pub listed-fits : Listed w kind top l → kind < top → kind + 2 + get_or w (kind + 1) 0 ≤ top
  listed-fits s z = go s.ks s.records
    where
      go : (ks : List Kind) → Records w kind ks top → kind + 2 + get_or w (kind + 1) 0 ≤ top
      go [] y = absurd (omega arith)
      go (k ∷ ks) y = omega (arith, records-le w (kind + 2 + length k.places) ks top y.1, y.0.count)

  pub listed-mark : {n : ℕ} → Listed w kind top l → kind < top → n ≡ get_or w (kind + 1) 0 → Markable w kind (kind + 2 + n) l
  listed-mark {n} s z e = record {
    fits = omega (arith, listed-fits s z, s.fits);
    bounded = omega (arith, listed-fits s z, s.bounded);
    inside = λ j u v. go s.ks s.records s.within j u v;
    most = λ q. omega (arith, s.most q);
  }
    where
      go : (ks : List Kind) → Records w kind ks top → Each (λ (k : Kind). Each (λ p. p < length l) k.places) ks → (j : ℕ) → kind + 2 ≤ j → j < kind + 2 + n → get_or w j 0 < length l
      go [] y v j u t = absurd (omega arith)
      go (k ∷ ks) y v j u t =
          let lt : j - (kind + 2) < length k.places = omega (arith, y.0.count) in
          let h = y.0.places (j - (kind + 2)) lt in
          let g : kind + 2 + (j - (kind + 2)) ≡ j = omega arith in
          let h' : get_or w j 0 ≡ get_or k.places (j - (kind + 2)) 0 = rw g at h in
          omega (arith, each_at (λ p. p < length l) k.places (get_or k.places (j - (kind + 2)) 0) v.0 (in-at k.places (j - (kind + 2)) lt))

  pub listed-on : {n : ℕ} {k : List ℕ} → Listed w kind top l → kind < top → n ≡ get_or w (kind + 1) 0 → Marked w kind (kind + 2 + n) l k → Listed w (kind + 2 + n) top k
  listed-on {n = n} {k = k₁} s z e m = go s.ks s.records s.within
    where
      go : (ks : List Kind) → Records w kind ks top → Each (λ (k : Kind). Each (λ p. p < length l) k.places) ks → Listed w (kind + 2 + n) top k₁
      go [] y v = absurd (omega arith)
      go (k ∷ ks) y v =
          let g : kind + 2 + n ≡ kind + 2 + length k.places = omega (arith, y.0.count) in
          record {
            ks = ks;
            records = rw g y.1;
            fits = s.fits;
            bounded = s.bounded;
            within = rw m.len v.1;
            most = λ q. omega (arith, m.most q);
          }

  pub noted-none : Listed w kind top l → top ≤ kind → NotedFrom w kind top l l
  noted-none s z = record {
    len = refl;
    grows = λ q. omega arith;
    most = λ q. omega (arith, s.most q, listed_le s);
    noted = λ ks y. go ks y;
  }
    where
      go : (ks : List Kind) → Records w kind ks top → Noted l kind ks
      go [] y = tt
      go (k ∷ ks) y = absurd (omega (arith, records-le w (kind + 2 + length k.places) ks top y.1))

  pub noted_more : {n : ℕ} {k k' : List ℕ} → kind < top → n ≡ get_or w (kind + 1) 0 → Marked w kind (kind + 2 + n) l k → NotedFrom w (kind + 2 + n) top k k' → NotedFrom w kind top l k'
  noted_more {n = n} {k = k₁} {k' = k₂} z e m d = record {
    len = d.len ∙ m.len;
    grows = λ q. omega (arith, m.grows q, d.grows q);
    most = d.most;
    noted = λ ks y. go ks y;
  }
    where
      all : (L : List ℕ) → ((j : ℕ) → j < length L → kind + 1 ≤ get_or k₂ (get_or L j 0) 0) → Each (λ p. kind + 1 ≤ get_or k₂ p 0) L
      all [] h = tt
      all (x ∷ L) h = (h 0 (omega arith), all L (λ j u. h (suc j) (omega arith)))

      go : (ks : List Kind) → Records w kind ks top → Noted k₂ kind ks
      go [] y = tt
      go (k ∷ ks) y =
          let g : kind + 2 + n ≡ kind + 2 + length k.places = omega (arith, y.0.count) in (
            all k.places (λ j u.
                let h = m.hits (kind + 2 + j) (omega arith) (omega arith) in
                let p = y.0.places j u in
                let h' : kind + 1 ≤ get_or k₁ (get_or k.places j 0) 0 = rw p at h in
                omega (arith, d.grows (get_or k.places j 0))),
            rw g at (d.noted ks (rw g y.1)),
          )

-- ---- the first kind

module _ {w : List ℕ} {kind top : ℕ} where
  pub headed : {r : ℕ} → kind < top → r ≡ get_or w kind 0 → Headed w kind top r
  headed {r} z e = record { each = λ ks y. go ks y }
    where
      go : (ks : List Kind) → Records w kind ks top → Heads r ks
      go [] y = absurd (omega arith)
      go (k ∷ ks) y = e ∙ y.0.times

  pub headed-none : top ≤ kind → Headed w kind top 0
  headed-none z = record { each = λ ks y. go ks y }
    where
      go : (ks : List Kind) → Records w kind ks top → Heads 0 ks
      go [] y = refl
      go (k ∷ ks) y = absurd (omega (arith, records-le w (kind + 2 + length k.places) ks top y.1))

-- ---- the call

-- nothing is put down: n noughts
pub record Blank (n : ℕ) (c : List ℕ) : Type 0 where
  pub long : length c ≡ n
  pub none : (q : ℕ) → get_or c q 0 ≡ 0

pub blank : (n : ℕ) → Blank n (replicate {A = ℕ} n 0)
blank n = record { long = length-replicate {A = ℕ} n 0; none = λ q. by q (leb (q + 1) n) refl }
  where
    by : (q : ℕ) (b : Bool) → leb (q + 1) n ≡ b → get_or (replicate {A = ℕ} n 0) q 0 ≡ 0
    by q true z = get_or-replicate {A = ℕ} n q 0 0 (omega (arith, leb-true (q + 1) n z))
    by q false z = get_or-eq_default (replicate {A = ℕ} n 0) 0 {n = q} (omega (arith, leb-false (q + 1) n z, length-replicate {A = ℕ} n 0))

left-heads : (n : ℕ) (ks : List Kind) → Heads n ks → left n ks ≡ total ks
left-heads n [] h = refl
left-heads n (k ∷ ks) h = rw h refl

module _ {e : List ℕ} {at : ℕ} {w : List ℕ} {base top : ℕ} where
  pub asked-fits : Asked e at w base top → top ≤ length w
  asked-fits a = a.fits

module _ {e : List ℕ} {at : ℕ} {w : List ℕ} {base top : ℕ} {c : List ℕ} {n : ℕ} (z : Blank n c) where
  pub blank-holds : Asked e at w base top → length e ≤ n → length e ≤ length c
  blank-holds a le = omega (arith, z.long)

  pub noted-holds : {l : List ℕ} → Asked e at w base top → length e ≤ n → NotedFrom w base top c l → length e ≤ length l
  noted-holds a le d = omega (arith, d.len, z.long)

  pub asked-listed : Asked e at w base top → length e ≤ n → Listed w base top c
  asked-listed a le = record {
    ks = a.ks;
    records = a.records;
    fits = a.fits;
    bounded = a.bounded;
    within = each-imp (λ (k : Kind). Each (λ p. p < length e) k.places) (λ (k : Kind). Each (λ p. p < length c) k.places)
        (λ k y. each-imp (λ p. p < length e) (λ p. p < length c) (λ p u. omega (arith, z.long)) k.places y) a.ks a.within;
    most = λ q. omega (arith, z.none q);
  }

  pub asked-ready : {l : List ℕ} {times : ℕ} → Asked e at w base top → length e ≤ n → NotedFrom w base top c l → Headed w base top times
      → Ready w base top c l times
  asked-ready {l} {times} a le d h = record {
    ks = a.ks;
    records = a.records;
    fits = a.fits;
    bounded = a.bounded;
    within = each-imp (λ (k : Kind). Each (λ p. p < length e) k.places) (λ (k : Kind). Each (λ p. (p < length c) × (p < length l)) k.places)
        (λ k y. each-imp (λ p. p < length e) (λ p. (p < length c) × (p < length l))
        (λ p u. (omega (arith, z.long), omega (arith, d.len, z.long))) k.places y) a.ks a.within;
    room = λ p. omega (arith, z.none p, left-heads times a.ks (h.each a.ks a.records), a.room);
    some = λ u. go a.ks a.records (h.each a.ks a.records) u;
  }
    where
      go : (ks : List Kind) → Records w base ks top → Heads times ks → base < top → 0 < times
      go [] y d u = absurd (omega arith)
      go (k ∷ ks) y d u = omega (arith, y.0.some, d)

  pub shared : {l : List ℕ} {times : ℕ} {r : Bool} → NotedFrom w base top c l → Headed w base top times → Placed e at w c l base times 0 top r → Shared e at w base top r
  shared {l} {times} {r} d h p = record { means = λ R x ks y. go R x ks y (p.means R x ks y (d.noted ks y) d.most) (h.each ks y) }
    where
      like : Like (counts c) none
      like q = z.none q

      go : (R : Expr) → At e at R → (ks : List Kind) → Records w base ks top → (r ≡ true) ↔ Going (Good R at) ks times 0 (counts c) → Heads times ks → (r ≡ true) ↔ Rest (Good R at) ks none
      go R x ks y m d =
          let g = rest-like (Good R at) (good-like R at) ks in
          (λ t. g (counts c) none like ((whole R ks d).0 (m.0 t)), λ s. m.1 ((whole R ks d).1 (g none (counts c) (λ q. sym (like q)) s)))
        where
          whole : (R : Expr) (ks : List Kind) → Heads times ks → Going (Good R at) ks times 0 (counts c) ↔ Rest (Good R at) ks (counts c)
          whole R [] hd = (λ s. s, λ s. s)
          whole R (k ∷ ks) hd = (λ s. rw hd at s, λ s. rw hd s)
