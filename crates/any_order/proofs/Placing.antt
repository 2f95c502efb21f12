-- The search: what is tried is all there is to try.
use Prim.Native.Nat.{ℕ, zero, suc, ◌+◌, ◌-◌, ◌*◌, ◌<◌, ◌≤◌}
use mathlib.Core.Path.{◌≡◌, refl, sym, subst, ◌∙◌, ap}
use mathlib.Core.Logic.{inl, inr, ◌↔◌}
use mathlib.Core.Bool.{Bool, true, false, not}
use mathlib.Core.List.{List, [], ◌∷◌}
use native.Mathlib.Omega.{arith}
use native.Mathlib.Decide.{ℕ_discrete}
use lib.Dec.{leb}
use lib.ListN.{length, get_or, set, length-set}
use lib.Seq.{get_or-set_same, get_or-set_other, set-set, set-get_or}
use borrow.Author.Tests.{leb-true, leb-false, not-true}
use Rattle.language.specs.Trees.{Expr}
use Rattle.rules.specs.Each.{Each}
use Rattle.rules.proofs.Each.{some-each}
use Rattle.any_order.specs.declared.Next.{Next}
use Rattle.any_order.specs.Places.{At}
use Rattle.any_order.specs.Sharing.{Counts, bump, Kind, In, Ways, Rest, Going, Good, Records, Recorded, total}
use Rattle.any_order.specs.Searching.{counts, Open, Few, Possible, Ready, left, Some, Noted, Heads, Onward, Trying, Placed, Attempted}
use Rattle.any_order.proofs.Ranges.{not-both}
use Rattle.any_order.proofs.Shares.{Like, good-like, bump-same, bump-other, ways-like, rest-like, Leftmost, leftmost, from-leftmost, ways-reach, rest-reach}
use Rattle.any_order.proofs.Recording.{records-le, some_fits}

-- ---- places of a list

pub index_of : (p : ℕ) (L : List ℕ) → In p L → (j : ℕ) × (j < length L) × (p ≡ get_or L j 0)
index_of p [] i = absurd i
index_of p (x ∷ L) (inl e) = (0, omega arith, e)
index_of p (x ∷ L) (inr i) = let (j, l, e) = index_of p L i in (suc j, omega arith, e)

pub in-at : (L : List ℕ) (j : ℕ) → j < length L → In (get_or L j 0) L
in-at [] j l = absurd (omega arith)
in-at (x ∷ L) zero l = inl refl
in-at (x ∷ L) (suc j) l = inr (in-at L j (omega arith))

pub each_at : (Q : ℕ → Type 0) (L : List ℕ) (p : ℕ) → Each Q L → In p L → Q p
each_at Q L p y i = let (x, e, q) = some-each (λ z. p ≡ z) Q L i y in rw e q

-- ---- what is noted is open

noted-later : (l : List ℕ) (kind f : ℕ) (ks : List Kind) (next : ℕ) → kind < next → Noted l next ks → Each (λ (k : Kind). (p : ℕ) → In p k.places → Open l kind f p) ks
noted-later l kind f [] next z y = tt
noted-later l kind f (k ∷ ks) next z (y, r) = (
  λ p i. inl (omega (arith, each_at (λ q. next + 1 ≤ get_or l q 0) k.places p y i)),
  noted-later l kind f ks (next + 2 + length k.places) (omega arith) r,
)

noted_here : (l : List ℕ) (kind f : ℕ) (L : List ℕ) → Each (λ p. kind + 1 ≤ get_or l p 0) L → (p : ℕ) → In p L → f ≤ p → Open l kind f p
noted_here l kind f L y p i z = by (leb (get_or l p 0) (kind + 1)) refl
  where
    by : (b : Bool) → leb (get_or l p 0) (kind + 1) ≡ b → Open l kind f p
    by true e = inr (omega (arith, leb-true (get_or l p 0) (kind + 1) e, each_at (λ q. kind + 1 ≤ get_or l q 0) L p y i), z)
    by false e = inl (omega (arith, leb-false (get_or l p 0) (kind + 1) e))

module _ {e : List ℕ} {at : ℕ} {c l : List ℕ} {kind f : ℕ} {r : Bool} where
  -- where the search can go on, the numbers pass the test
  pub must-be : Possible e at c l kind f r → (R : Expr) → At e at R → (k : Kind) (ks : List Kind) → Noted l kind (k ∷ ks) → (n : ℕ)
      → Ways (Rest (Good R at) ks) (counts c) n f k.places → r ≡ true
  must-be p R x k ks (y, z) n s =
      let g = ways-reach (Good R at) (Rest (Good R at) ks) (Open l kind f) (rest-reach (Good R at) (Open l kind f) ks (noted-later l kind f ks (kind + 2 + length k.places) (omega arith) z))
      (counts c) n f k.places (noted_here l kind f k.places y) s in
      p.sound R x g.d (record { least = g.least; rest = g.rest }) g.good

-- ---- the end of the kinds

pub placed-top : {e : List ℕ} {at : ℕ} {w c l : List ℕ} {kind times f top : ℕ} {r : Bool} → kind ≡ top → Possible e at c l top 0 r → Placed e at w c l kind times f top r
placed-top {e} {at} {w} {c} {l} {kind} {times} {f} {top} {r} z p = record { means = λ R x ks y n b. go R x ks y b }
  where
    go : (R : Expr) → At e at R → (ks : List Kind) → Records w kind ks top → ((q : ℕ) → get_or l q 0 ≤ top) → (r ≡ true) ↔ Going (Good R at) ks times f (counts c)
    go R x [] y b = (
      λ t. p.exact R x (λ q o. elim o [ inl u ↦ omega (arith, b q) | inr u ↦ omega (arith, b q, u.0) ]) t,
      λ g. p.sound R x (counts c) (record { least = λ q. omega arith; rest = λ q. inr refl }) g,
    )
    go R x (k ∷ ks) y b = absurd (omega (arith, records-le w (kind + 2 + length k.places) ks top y.1))

-- ---- one place after another

module _ {e : List ℕ} {at : ℕ} {w c l : List ℕ} {kind times f top : ℕ} where
  pub trying-starts : Trying e at w c l kind times f top (kind + 2)
  trying-starts = record { from = omega arith; none = λ R x k ks y n b j z u v s. absurd (omega arith) }

  module _ {i p : ℕ} (q : p ≡ get_or w i 0) (t : Trying e at w c l kind times f top i) where
    pub trying-passed : p < f → Trying e at w c l kind times f top (i + 1)
    trying-passed z = record {
      from = omega (arith, t.from);
      none = λ R x k ks y n b j u v o s. by R x k ks y n b j u v o s (ℕ_discrete (kind + 2 + j) i);
    }
      where
        by : (R : Expr) → At e at R → (k : Kind) (ks : List Kind) → Records w kind (k ∷ ks) top → Noted l kind (k ∷ ks) → ((p : ℕ) → get_or l p 0 ≤ top)
            → (j : ℕ) → kind + 2 + j < i + 1 → j < length k.places → f ≤ get_or k.places j 0
            → Ways (Rest (Good R at) ks) (bump (counts c) (get_or k.places j 0)) (times - 1) (get_or k.places j 0) k.places → Dec (kind + 2 + j ≡ i) → ⊥
        by R x k ks y n b j u v o s (yes d) = let h = y.0.places j v in let g : get_or w i 0 ≡ get_or k.places j 0 = rw d at h in omega arith
        by R x k ks y n b j u v o s (no d) = t.none R x k ks y n b j (omega arith) v o s

    pub trying-failed : {r : Bool} → Attempted e at w c l kind (times - 1) p top r → r ≡ false → Trying e at w c l kind times f top (i + 1)
    trying-failed {r} a z = record {
      from = omega (arith, t.from);
      none = λ R x k ks y n b j u v o s. by R x k ks y n b j u v o s (ℕ_discrete (kind + 2 + j) i);
    }
      where
        by : (R : Expr) → At e at R → (k : Kind) (ks : List Kind) → Records w kind (k ∷ ks) top → Noted l kind (k ∷ ks) → ((p : ℕ) → get_or l p 0 ≤ top)
            → (j : ℕ) → kind + 2 + j < i + 1 → j < length k.places → f ≤ get_or k.places j 0
            → Ways (Rest (Good R at) ks) (bump (counts c) (get_or k.places j 0)) (times - 1) (get_or k.places j 0) k.places → Dec (kind + 2 + j ≡ i) → ⊥
        by R x k ks y n b j u v o s (yes d) =
            let h = y.0.places j v in
            let g : p ≡ get_or k.places j 0 = q ∙ rw d at h in
            not-both ((a.means R x k ks y n b).1 (rw g s)) z
        by R x k ks y n b j u v o s (no d) = t.none R x k ks y n b j (omega arith) v o s

-- ---- what is returned

moved : (G : Counts → Type 0) (c : Counts) (f : ℕ) (L : List ℕ) (n m : ℕ) → n ≡ m → Ways G c n f L → Ways G c m f L
moved G c f L n m e w = rw e at w

module _ {e : List ℕ} {at : ℕ} {w c l : List ℕ} {kind times f top : ℕ} where
  -- nothing is found where no place of the first kind will do
  placed-no : (kind ≡ top → ⊥) → 0 < times
      → ((R : Expr) → At e at R → (k : Kind) (ks : List Kind) → Records w kind (k ∷ ks) top → Noted l kind (k ∷ ks) → ((q : ℕ) → get_or l q 0 ≤ top) → Leftmost (Rest (Good R at) ks) (counts c) (times - 1) f k.places → ⊥)
      → Placed e at w c l kind times f top false
  placed-no z o none = record { means = λ R x ks y n b. go R x ks y n b }
    where
      go : (R : Expr) → At e at R → (ks : List Kind) → Records w kind ks top → Noted l kind ks → ((q : ℕ) → get_or l q 0 ≤ top) → (false ≡ true) ↔ Going (Good R at) ks times f (counts c)
      go R x [] y n b = absurd (z y)
      go R x (k ∷ ks) y n b = (
        λ t. absurd (not-both t refl),
        λ g. absurd (none R x k ks y n b
            (leftmost (Rest (Good R at) ks) (rest-like (Good R at) (good-like R at) ks) (counts c) (times - 1) f k.places
            (moved (Rest (Good R at) ks) (counts c) f k.places times (suc (times - 1)) (omega arith) g))),
      )

  pub placed-none : {i n : ℕ} → (kind ≡ top → ⊥) → 0 < times → n ≡ get_or w (kind + 1) 0 → kind + 2 + n ≤ i → Trying e at w c l kind times f top i → Placed e at w c l kind times f top false
  placed-none z o a u t = placed-no z o (λ R x k ks y n b (p, q, v, s).
      let (j, m, d) = index_of p k.places q in
      t.none R x k ks y n b j (omega (arith, y.0.count)) m (omega arith) (rw d at s))

  module _ {i p n : ℕ} (q : p ≡ get_or w i 0) (a : n ≡ get_or w (kind + 1) 0) (u : i < kind + 2 + n) (t : Trying e at w c l kind times f top i) where
    at_place : (k : Kind) → Recorded w kind k → (i - (kind + 2) < length k.places) × (p ≡ get_or k.places (i - (kind + 2)) 0)
    at_place k y =
        let l : i - (kind + 2) < length k.places = omega (arith, y.count, t.from) in
        let h = y.places (i - (kind + 2)) l in
        let g : kind + 2 + (i - (kind + 2)) ≡ i = omega (arith, t.from) in
        (l, q ∙ rw g at h)

    pub placed-stuck : {r : Bool} → (kind ≡ top → ⊥) → 0 < times → Possible e at c l kind p r → not r ≡ true → Placed e at w c l kind times f top false
    placed-stuck {r} z o g d = placed-no z o (λ R x k ks y n b (p', q', v, s).
        let (j, m, h) = index_of p' k.places q' in
        by R x k ks y n b p' q' v s j m h (leb i (kind + 2 + j)) refl)
      where
        by : (R : Expr) → At e at R → (k : Kind) (ks : List Kind) → Records w kind (k ∷ ks) top → Noted l kind (k ∷ ks) → ((q : ℕ) → get_or l q 0 ≤ top)
            → (p' : ℕ) → In p' k.places → f ≤ p' → Ways (Rest (Good R at) ks) (bump (counts c) p') (times - 1) p' k.places
            → (j : ℕ) → j < length k.places → p' ≡ get_or k.places j 0 → (b : Bool) → leb i (kind + 2 + j) ≡ b → ⊥
        by R x k ks y n b p' q' v s j m h true le =
            let (l', g') = at_place k y.0 in
            let up = y.0.ascending (i - (kind + 2)) j (omega (arith, leb-true i (kind + 2 + j) le)) m in
            not-both (must-be g R x k ks n (suc (times - 1)) (from-leftmost (Rest (Good R at) ks) (counts c) (times - 1) p k.places (p', q', omega arith, s))) (not-true r d)
        by R x k ks y n b p' q' v s j m h false le = t.none R x k ks y n b j (omega (arith, leb-false i (kind + 2 + j) le)) m (omega arith) (rw h at s)

    pub placed-found : {r : Bool} → (kind ≡ top → ⊥) → 0 < times → f ≤ p → Attempted e at w c l kind (times - 1) p top r → r ≡ true → Placed e at w c l kind times f top true
    placed-found {r} z o v g d = record { means = λ R x ks y n b. go R x ks y n b }
      where
        go : (R : Expr) → At e at R → (ks : List Kind) → Records w kind ks top → Noted l kind ks → ((q : ℕ) → get_or l q 0 ≤ top) → (true ≡ true) ↔ Going (Good R at) ks times f (counts c)
        go R x [] y n b = absurd (z y)
        go R x (k ∷ ks) y n b =
            let (l', g') = at_place k y.0 in (
              λ _. moved (Rest (Good R at) ks) (counts c) f k.places (suc (times - 1)) times (omega arith)
                  (from-leftmost (Rest (Good R at) ks) (counts c) (times - 1) f k.places (p, rw g' (in-at k.places (i - (kind + 2)) l'), v, (g.means R x k ks y n b).0 d)),
              λ _. refl,
            )

-- ---- one more

counts-set : (c : List ℕ) (p : ℕ) → p < length c → Like (counts (set c p (get_or c p 0 + 1))) (bump (counts c) p)
counts-set c p l q = by (ℕ_discrete q p)
  where
    by : Dec (q ≡ p) → get_or (set c p (get_or c p 0 + 1)) q 0 ≡ bump (counts c) p q
    by (yes e) = rw e (get_or-set_same c p (get_or c p 0 + 1) 0 l ∙ (let z : get_or c p 0 + 1 ≡ suc (get_or c p 0) = omega arith in z) ∙ sym (bump-same (counts c) p))
    by (no n) = get_or-set_other c p q (get_or c p 0 + 1) 0 n ∙ sym (bump-other (counts c) p q n)

like-sym : {c d : Counts} → Like c d → Like d c
like-sym h q = sym (h q)

pub restored : (c : List ℕ) {k : List ℕ} {p : ℕ} → k ≡ set c p (get_or c p 0 + 1) → p < length c → set k p (get_or k p 0 - 1) ≡ c
restored c {k} {p} e l =
    let z : get_or (set c p (get_or c p 0 + 1)) p 0 - 1 ≡ get_or c p 0 = omega (arith, get_or-set_same c p (get_or c p 0 + 1) 0 l) in
    rw (e, z) (set-set c p (get_or c p 0 + 1) (get_or c p 0) ∙ set-get_or c p 0)

pub restored-long : (c : List ℕ) {k : List ℕ} {p : ℕ} → k ≡ set c p (get_or c p 0 + 1) → p < length c → length (set k p (get_or k p 0 - 1)) ≡ length c
restored-long c e l = ap length (restored c e l)

module _ {e : List ℕ} {at : ℕ} {w c l : List ℕ} {kind times p top : ℕ} where
  pub attempted : {n : Next} {k : List ℕ} {r : Bool} → p < length c → k ≡ set c p (get_or c p 0 + 1) → Onward w kind times p top n
      → Placed e at w k l n.kind n.times n.floor top r → Attempted e at w c l kind times p top r
  attempted {n = n} {k = k₁} {r = r} lt d on pl = record { means = λ R x k ks y z b. by R x k ks y z b (leb 1 times) refl }
    where
      like : Like (counts k₁) (bump (counts c) p)
      like = rw d (counts-set c p lt)

      by : (R : Expr) → At e at R → (k : Kind) (ks : List Kind) → Records w kind (k ∷ ks) top → Noted l kind (k ∷ ks) → ((q : ℕ) → get_or l q 0 ≤ top)
          → (t : Bool) → leb 1 times ≡ t → (r ≡ true) ↔ Ways (Rest (Good R at) ks) (bump (counts c) p) times p k.places
      by R x k ks y z b true o =
          let (a₁, a₂, a₃) = on.more (leb-true 1 times o) in
          let m = pl.means R x (k ∷ ks) (rw a₁ y) (rw a₁ z) b in
          let G = Rest (Good R at) ks in
          let g = rest-like (Good R at) (good-like R at) ks in (
            λ t. ways-like G g times p k.places (counts k₁) (bump (counts c) p) like (rw (a₂, a₃) at (m.0 t)),
            λ s. m.1 (rw (a₂, a₃) (ways-like G g times p k.places (bump (counts c) p) (counts k₁) (like-sym like) s)),
          )
      by R x k ks y z b false o =
          let zero-times : times ≡ 0 = omega (arith, leb-false 1 times o) in
          let (a₁, a₂, a₃) = on.next zero-times k ks y in
          let m = pl.means R x ks (rw a₁ y.1) (rw a₁ z.1) b in
          let G = Rest (Good R at) ks in
          let g = rest-like (Good R at) (good-like R at) ks in (
            λ t. moved G (bump (counts c) p) p k.places 0 times (sym zero-times) (g (counts k₁) (bump (counts c) p) like ((whole R ks a₂ a₃).0 (m.0 t))),
            λ s. m.1 ((whole R ks a₂ a₃).1 (g (bump (counts c) p) (counts k₁) (like-sym like) (moved G (bump (counts c) p) p k.places times 0 zero-times s))),
          )
        where
          whole : (R : Expr) (ks : List Kind) → n.floor ≡ 0 → Heads n.times ks → Going (Good R at) ks n.times n.floor (counts k₁) ↔ Rest (Good R at) ks (counts k₁)
          whole R [] f₀ hd = (λ s. s, λ s. s)
          whole R (k ∷ ks) f₀ hd = (λ s. rw (f₀, hd) at s, λ s. rw (f₀, hd) s)

-- ---- there is room

bumped-le : (c : List ℕ) (p q : ℕ) → p < length c → get_or (set c p (get_or c p 0 + 1)) q 0 ≤ get_or c q 0 + 1
bumped-le c p q lt = by (ℕ_discrete q p)
  where
    by : Dec (q ≡ p) → get_or (set c p (get_or c p 0 + 1)) q 0 ≤ get_or c q 0 + 1
    by (yes e) = let z : get_or (set c p (get_or c p 0 + 1)) q 0 ≡ get_or c q 0 + 1 = rw e (get_or-set_same c p (get_or c p 0 + 1) 0 lt) in omega arith
    by (no n) = omega (arith, get_or-set_other c p q (get_or c p 0 + 1) 0 n)

module _ {w : List ℕ} {kind top : ℕ} {c l : List ℕ} {times : ℕ} where
  pub few-of : Ready w kind top c l times → Few c
  few-of r = record { all = λ p. omega (arith, r.room p) }

  pub ready-le : Ready w kind top c l times → (kind ≤ top) × (top ≤ length w) × (top < 65536)
  ready-le r = (records-le w kind r.ks top r.records, r.fits, r.bounded)

  pub ready-lt : Ready w kind top c l times → (kind ≡ top → ⊥) → kind < top
  ready-lt r n = omega (arith, ready-le r)

  pub ready-some : Ready w kind top c l times → kind < top → Some w kind top
  ready-some r n = go r.ks r.records
    where
      go : (ks : List Kind) → Records w kind ks top → Some w kind top
      go [] y = absurd (omega arith)
      go (k ∷ ks) y = record { k = k; ks = ks; records = y; fits = r.fits }

  pub ready-bound : Ready w kind top c l times → top < 65536
  ready-bound r = r.bounded

  pub ready_read : Ready w kind top c l times → (kind ≡ top → ⊥) → (kind + 2 + get_or w (kind + 1) 0 ≤ length w) × (kind < 65536)
  ready_read r n = (some_fits (ready-some r (ready-lt r n)), omega (arith, ready-lt r n, r.bounded))

  pub ready-place : {i n p : ℕ} → Ready w kind top c l times → kind < top → kind + 2 ≤ i → n ≡ get_or w (kind + 1) 0 → i < kind + 2 + n → p ≡ get_or w i 0 → p < length c
  ready-place {i} {n} {p} r z f e u q = go r.ks r.records r.within
    where
      go : (ks : List Kind) → Records w kind ks top → Each (λ (k : Kind). Each (λ p. (p < length c) × (p < length l)) k.places) ks → p < length c
      go [] y v = absurd (omega arith)
      go (k ∷ ks) y v =
          let lt : i - (kind + 2) < length k.places = omega (arith, y.0.count) in
          let h = y.0.places (i - (kind + 2)) lt in
          let g : kind + 2 + (i - (kind + 2)) ≡ i = omega arith in
          let h' : get_or w i 0 ≡ get_or k.places (i - (kind + 2)) 0 = rw g at h in
          omega (arith, (each_at (λ p. (p < length c) × (p < length l)) k.places (get_or k.places (i - (kind + 2)) 0) v.0 (in-at k.places (i - (kind + 2)) lt)).0)

  pub ready-room : (p : ℕ) → Ready w kind top c l times → kind < top → get_or c p 0 + 1 < 65536
  ready-room p r z = go r.ks r.records r.room
    where
      go : (ks : List Kind) → Records w kind ks top → ((p : ℕ) → get_or c p 0 + left times ks < 65536) → get_or c p 0 + 1 < 65536
      go [] y v = absurd (omega arith)
      go (k ∷ ks) y v = omega (arith, v p, r.some z)

  pub ready_on : {n : Next} {p : ℕ} → Ready w kind top c l times → kind < top → p < length c → Onward w kind (times - 1) p top n
      → Ready w n.kind top (set c p (get_or c p 0 + 1)) l n.times
  ready_on {n} {p} r z lt on = go r.ks r.records r.within r.room
    where
      left-heads : (ks : List Kind) → Heads n.times ks → left n.times ks ≡ total ks
      left-heads [] h = refl
      left-heads (k ∷ ks) h = rw h refl

      starts : (ks : List Kind) → Records w n.kind ks top → Heads n.times ks → n.kind < top → 0 < n.times
      starts [] y h u = absurd (omega arith)
      starts (k ∷ ks) y h u = omega (arith, y.0.some, h)

      go : (ks : List Kind) → Records w kind ks top → Each (λ (k : Kind). Each (λ p. (p < length c) × (p < length l)) k.places) ks → ((p : ℕ) → get_or c p 0 + left times ks < 65536)
          → Ready w n.kind top (set c p (get_or c p 0 + 1)) l n.times
      go [] y v o = absurd (omega arith)
      go (k ∷ ks) y v o = by (leb 1 (times - 1)) refl
        where
          by : (b : Bool) → leb 1 (times - 1) ≡ b → Ready w n.kind top (set c p (get_or c p 0 + 1)) l n.times
          by true e =
              let (a₁, a₂, a₃) = on.more (leb-true 1 (times - 1) e) in
              record {
                ks = k ∷ ks;
                records = rw a₁ y;
                fits = r.fits;
                bounded = r.bounded;
                within = subst (λ (m : ℕ). Each (λ (k : Kind). Each (λ p. (p < m) × (p < length l)) k.places) (k ∷ ks)) (sym (length-set c p (get_or c p 0 + 1))) v;
                room = λ q. omega (arith, o q, bumped-le c p q lt, r.some z);
                some = λ _. omega (arith, leb-true 1 (times - 1) e);
              }
          by false e =
              let (a₁, a₂, a₃) = on.next (omega (arith, leb-false 1 (times - 1) e)) k ks y in
              record {
                ks = ks;
                records = rw a₁ y.1;
                fits = r.fits;
                bounded = r.bounded;
                within = rw (length-set c p (get_or c p 0 + 1)) v.1;
                room = λ q. omega (arith, o q, bumped-le c p q lt, r.some z, left-heads ks a₃);
                some = λ u. starts ks (rw a₁ y.1) a₃ u;
              }

  pub on-less : {n : Next} {p t : ℕ} → Ready w kind top c l times → kind < top → Onward w kind (times - 1) p top n → 2 * ((top - kind) * 65536 + times) ≡ t
      → 2 * ((top - n.kind) * 65536 + n.times) + 1 < t
  on-less {n} {p} {t} r z on m = go r.ks r.records r.room
    where
      few : (ks : List Kind) → Heads n.times ks → n.times ≤ total ks
      few [] h = omega arith
      few (k ∷ ks) h = omega (arith, h)

      go : (ks : List Kind) → Records w kind ks top → ((p : ℕ) → get_or c p 0 + left times ks < 65536) → 2 * ((top - n.kind) * 65536 + n.times) + 1 < t
      go [] y o = absurd (omega arith)
      go (k ∷ ks) y o = by (leb 1 (times - 1)) refl
        where
          by : (b : Bool) → leb 1 (times - 1) ≡ b → 2 * ((top - n.kind) * 65536 + n.times) + 1 < t
          by true e = let (a₁, a₂, a₃) = on.more (leb-true 1 (times - 1) e) in omega (arith, a₁, a₂, r.some z)
          by false e =
              let (a₁, a₂, a₃) = on.next (omega (arith, leb-false 1 (times - 1) e)) k ks y in
              omega (arith, a₁, few ks a₃, o 0, r.some z, records-le w (kind + 2 + length k.places) ks top y.1)

pub bumped-one : (c : List ℕ) {k : List ℕ} {p : ℕ} → k ≡ set c p (get_or c p 0 + 1) → p < length c → (p < length k) × (0 < get_or k p 0)
bumped-one c {k} {p} e l = rw e (omega (arith, length-set c p (get_or c p 0 + 1)), omega (arith, get_or-set_same c p (get_or c p 0 + 1) 0 l))

-- ---- the loop

pub record Loop (e : List ℕ) (at : ℕ) (w c₀ c l : List ℕ) (kind times f top i : ℕ) : Type 0 where
  pub same : c ≡ c₀
  pub ready : Ready w kind top c l times
  pub long : length e ≤ length c
  pub trying : Trying e at w c l kind times f top i

module _ {e : List ℕ} {at : ℕ} {w c l : List ℕ} {kind times f top : ℕ} where
  pub loop-starts : Ready w kind top c l times → length e ≤ length c → Loop e at w c c l kind times f top (kind + 2)
  loop-starts r z = record { same = refl; ready = r; long = z; trying = trying-starts }

  module _ {c₀ : List ℕ} {i p : ℕ} (q : p ≡ get_or w i 0) (t : Loop e at w c₀ c l kind times f top i) where
    pub loop-passed : p < f → Loop e at w c₀ c l kind times f top (i + 1)
    loop-passed z = record { same = t.same; ready = t.ready; long = t.long; trying = trying-passed q t.trying z }

    pub loop-failed : {r : Bool} {k : List ℕ} → Attempted e at w c l kind (times - 1) p top r → r ≡ false → k ≡ c → Loop e at w c₀ k l kind times f top (i + 1)
    loop-failed a z d = rw d (record { same = t.same; ready = t.ready; long = t.long; trying = trying-failed q t.trying a z })

    module _ {n : ℕ} (a : n ≡ get_or w (kind + 1) 0) (u : i < kind + 2 + n) (z : kind ≡ top → ⊥) where
      pub loop-stuck : {r : Bool} → Possible e at c l kind p r → not r ≡ true → Placed e at w c₀ l kind times f top false × (c ≡ c₀)
      loop-stuck g d = (rw t.same at (placed-stuck q a u t.trying z (t.ready.some (ready-lt t.ready z)) g d), t.same)

      pub loop-found : {r : Bool} {k : List ℕ} → f ≤ p → Attempted e at w c l kind (times - 1) p top r → k ≡ c → r ≡ true → Placed e at w c₀ l kind times f top true × (k ≡ c₀)
      loop-found v g s d = (rw t.same at (placed-found q a u t.trying z (t.ready.some (ready-lt t.ready z)) v g d), s ∙ t.same)

      pub loop-place : p < length c
      loop-place = ready-place t.ready (ready-lt t.ready z) t.trying.from a u q

  pub loop-none : {c₀ : List ℕ} {i n : ℕ} → Loop e at w c₀ c l kind times f top i → n ≡ get_or w (kind + 1) 0 → kind + 2 + n ≤ i → (kind ≡ top → ⊥) → Placed e at w c₀ l kind times f top false × (c ≡ c₀)
  loop-none t a u z = (rw t.same at (placed-none z (t.ready.some (ready-lt t.ready z)) a u t.trying), t.same)
