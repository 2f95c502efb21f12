-- Kinds of terms: one term more of a kind, and a kind more, are one more term at the end.
use Prim.Native.Nat.{ℕ, zero, suc, ◌+◌, ◌<◌, ◌≤◌}
use mathlib.Core.Path.{◌≡◌, sym, ◌∙◌, ap, subst}
use mathlib.Core.Logic.{inl, inr, ◌↔◌}
use mathlib.Core.List.{List, [], ◌∷◌, ◌++◌}
use native.Mathlib.Omega.{arith}
use lib.ListN.{length, get_or, set}
use lib.Seq.{get_or-set_same, get_or-set_other}
use Rattle.rules.specs.Each.{Each}
use Rattle.any_order.specs.Sharing.{Counts, bump, Kind, In, Ways, Rest, Recorded, Records, total}
use Rattle.any_order.proofs.Shares.{Respects, bump-swap, ways-like, rest-like}
use Rattle.any_order.proofs.Recording.{records-le}
use Rattle.member.specs.Gathering.{Raised}

-- ---- what comes after the kinds

ways-imp : (G H : Counts → Type 0) → ((c : Counts) → G c → H c) → (c : Counts) (n f : ℕ) (L : List ℕ) → Ways G c n f L → Ways H c n f L
ways-imp G H h c zero f L w = h c w
ways-imp G H h c (suc n) f L (p, i, l, w) = (p, i, l, ways-imp G H h (bump c p) n f L w)

pub rest-imp : (G H : Counts → Type 0) → ((c : Counts) → G c → H c) → (ks : List Kind) (c : Counts) → Rest G ks c → Rest H ks c
rest-imp G H h [] c w = h c w
rest-imp G H h (k ∷ ks) c w = ways-imp (Rest G ks) (Rest H ks) (rest-imp G H h ks) c k.times 0 k.places w

-- what is chosen at the end can be chosen first
abbrev pub Chosen : (ℕ → Type 0) → (ℕ → Counts → Type 0) → Counts → Type 0
Chosen P H c = (q : ℕ) × P q × H q c

ways-out : (P : ℕ → Type 0) (H : ℕ → Counts → Type 0) (c : Counts) (n f : ℕ) (L : List ℕ) → Ways (Chosen P H) c n f L → (q : ℕ) × P q × Ways (H q) c n f L
ways-out P H c zero f L w = w
ways-out P H c (suc n) f L (p, i, l, w) = let (q, y, v) = ways-out P H (bump c p) n f L w in (q, y, (p, i, l, v))

pub rest_out : (P : ℕ → Type 0) (H : ℕ → Counts → Type 0) (ks : List Kind) (c : Counts) → Rest (Chosen P H) ks c ↔ ((q : ℕ) × P q × Rest (H q) ks c)
rest_out P H [] c = (λ w. w, λ w. w)
rest_out P H (k ∷ ks) c = (
  λ w. ways-out P (λ q. Rest (H q) ks) c k.times 0 k.places (ways-imp (Rest (Chosen P H) ks) (Chosen P (λ q. Rest (H q) ks)) (λ d. (rest_out P H ks d).0) c k.times 0 k.places w),
  λ (q, y, w). ways-imp (Rest (H q) ks) (Rest (Chosen P H) ks) (λ d v. (rest_out P H ks d).1 (q, y, v)) c k.times 0 k.places w,
)

-- a term put down before or after
ways-bump : (A B : Counts → Type 0) (q : ℕ) → Respects B → ((d : Counts) → A d ↔ B (bump d q)) → (c : Counts) (n f : ℕ) (L : List ℕ) → Ways A c n f L ↔ Ways B (bump c q) n f L
ways-bump A B q b h c zero f L = h c
ways-bump A B q b h c (suc n) f L = (
  λ (p, i, l, w). (p, i, l, ways-like B b n f L (bump (bump c p) q) (bump (bump c q) p) (bump-swap c p q) ((ways-bump A B q b h (bump c p) n f L).0 w)),
  λ (p, i, l, w). (p, i, l, (ways-bump A B q b h (bump c p) n f L).1 (ways-like B b n f L (bump (bump c q) p) (bump (bump c p) q) (bump-swap c q p) w)),
)

rest-bump : (G : Counts → Type 0) → Respects G → (q : ℕ) (ks : List Kind) (c : Counts) → Rest (λ d. G (bump d q)) ks c ↔ Rest G ks (bump c q)
rest-bump G g q [] c = (λ w. w, λ w. w)
rest-bump G g q (k ∷ ks) c = ways-bump (Rest (λ d. G (bump d q)) ks) (Rest G ks) q (rest-like G g ks) (rest-bump G g q ks) c k.times 0 k.places

-- one term more, on one of the places of L
abbrev pub One : List ℕ → (Counts → Type 0) → Counts → Type 0
One L G = Chosen (λ q. In q L) (λ q c. G (bump c q))

moved : (G : Counts → Type 0) (c : Counts) (f : ℕ) (L : List ℕ) (n m : ℕ) → n ≡ m → Ways G c n f L → Ways G c m f L
moved G c f L n m e w = rw e at w

-- a new kind
pub snoc-rest : (G : Counts → Type 0) (L : List ℕ) (ks : List Kind) (c : Counts) → Rest G (ks ++ (record { times = 1; places = L } ∷ [])) c ↔ Rest (One L G) ks c
snoc-rest G L [] c = (λ (q, i, l, w). (q, i, w), λ (q, i, w). (q, i, omega arith, w))
snoc-rest G L (k ∷ ks) c = (
  λ w. ways-imp (Rest G (ks ++ (record { times = 1; places = L } ∷ []))) (Rest (One L G) ks) (λ d. (snoc-rest G L ks d).0) c k.times 0 k.places w,
  λ w. ways-imp (Rest (One L G) ks) (Rest G (ks ++ (record { times = 1; places = L } ∷ []))) (λ d. (snoc-rest G L ks d).1) c k.times 0 k.places w,
)

-- a kind that is there
one-first : (G : Counts → Type 0) → Respects G → (L : List ℕ) (n : ℕ) (c : Counts) → Ways (One L G) c n 0 L ↔ Ways G c (suc n) 0 L
one-first G g L n c = (
  λ w. let (q, i, v) = ways-out (λ q. In q L) (λ q d. G (bump d q)) c n 0 L w in (q, i, omega arith, (ways-bump (λ d. G (bump d q)) G q g (λ d. (λ x. x, λ x. x)) c n 0 L).0 v),
  λ (q, i, l, v). ways-imp (λ d. G (bump d q)) (One L G) (λ d x. (q, i, x)) c n 0 L ((ways-bump (λ d. G (bump d q)) G q g (λ d. (λ x. x, λ x. x)) c n 0 L).1 v),
)

one_out : (G : Counts → Type 0) → Respects G → (L : List ℕ) (ks : List Kind) (c : Counts) → Rest (One L G) ks c ↔ One L (Rest G ks) c
one_out G g L ks c = (
  λ w. let (q, i, v) = (rest_out (λ q. In q L) (λ q d. G (bump d q)) ks c).0 w in (q, i, (rest-bump G g q ks c).0 v),
  λ (q, i, v). (rest_out (λ q. In q L) (λ q d. G (bump d q)) ks c).1 (q, i, (rest-bump G g q ks c).1 v),
)

pub raised-rest : (G : Counts → Type 0) → Respects G → (L : List ℕ) (ks : List Kind) (at o : ℕ) (ks' : List Kind) → Raised ks at o L ks' → (c : Counts) → Rest G ks' c ↔ Rest (One L G) ks c
raised-rest G g L [] at o ks' z c = absurd z
raised-rest G g L (k ∷ ks) at o ks' (inl (e, p, d)) c = go
  where
    A : List ℕ → Type 0
    A M = Ways (Rest G ks) c (k.times + 1) 0 M ↔ Ways (Rest (One L G) ks) c k.times 0 M

    there : A L
    there = (
      λ w. ways-imp (One L (Rest G ks)) (Rest (One L G) ks) (λ x. (one_out G g L ks x).1) c k.times 0 L
          ((one-first (Rest G ks) (rest-like G g ks) L k.times c).1 (moved (Rest G ks) c 0 L (k.times + 1) (suc k.times) (omega arith) w)),
      λ w. moved (Rest G ks) c 0 L (suc k.times) (k.times + 1) (omega arith)
          ((one-first (Rest G ks) (rest-like G g ks) L k.times c).0 (ways-imp (Rest (One L G) ks) (One L (Rest G ks)) (λ x. (one_out G g L ks x).0) c k.times 0 L w)),
    )

    here : A k.places
    here = rw p there

    go : Rest G ks' c ↔ Rest (One L G) (k ∷ ks) c
    go = rw d here
raised-rest G g L (k ∷ ks) at o ks' (inr (rest, d, z)) c = go (raised-rest G g L ks (at + 2 + length k.places) o rest z)
  where
    go : ((d : Counts) → Rest G rest d ↔ Rest (One L G) ks d) → Rest G ks' c ↔ Rest (One L G) (k ∷ ks) c
    go h = rw d (
      λ w. ways-imp (Rest G rest) (Rest (One L G) ks) (λ x. (h x).0) c k.times 0 k.places w,
      λ w. ways-imp (Rest (One L G) ks) (Rest G rest) (λ x. (h x).1) c k.times 0 k.places w,
    )

-- ---- in words

pub records-same : (w w' : List ℕ) (at : ℕ) (ks : List Kind) (top : ℕ) → ((q : ℕ) → at ≤ q → q < top → get_or w' q 0 ≡ get_or w q 0) → Records w at ks top → Records w' at ks top
records-same w w' at [] top h r = r
records-same w w' at (k ∷ ks) top h (r, s) =
    let le = records-le w (at + 2 + length k.places) ks top s in (
      record {
        times = h at (omega arith) (omega arith) ∙ r.times;
        some = r.some;
        count = h (at + 1) (omega arith) (omega arith) ∙ r.count;
        places = λ i l. h (at + 2 + i) (omega arith) (omega arith) ∙ r.places i l;
        ascending = r.ascending;
      },
      records-same w w' (at + 2 + length k.places) ks top (λ q l u. h q (omega arith) u) s,
    )

pub records-snoc : (w : List ℕ) (at : ℕ) (ks : List Kind) (top : ℕ) (k : Kind) (t : ℕ) → Records w at ks top → Recorded w top k → t ≡ top + 2 + length k.places → Records w at (ks ++ (k ∷ [])) t
records-snoc w at [] top k t r n e = (rw r n, rw r (sym e))
records-snoc w at (m ∷ ks) top k t (r, s) n e = (r, records-snoc w (at + 2 + length m.places) ks top k t s n e)

pub raised-within : (ks : List Kind) (at o : ℕ) (L : List ℕ) (ks' : List Kind) (w : List ℕ) (top : ℕ) → Records w at ks top → Raised ks at o L ks' → (at ≤ o) × (o < top)
raised-within [] at o L ks' w top r z = absurd z
raised-within (k ∷ ks) at o L ks' w top r (inl (e, p, d)) = (omega arith, omega (arith, records-le w (at + 2 + length k.places) ks top r.1))
raised-within (k ∷ ks) at o L ks' w top r (inr (m, d, z)) = let (l, u) = raised-within ks (at + 2 + length k.places) o L m w top r.1 z in (omega arith, u)

pub raised-total : (ks : List Kind) (at o : ℕ) (L : List ℕ) (ks' : List Kind) → Raised ks at o L ks' → total ks' ≡ total ks + 1
raised-total [] at o L ks' z = absurd z
raised-total (k ∷ ks) at o L ks' (inl (e, p, d)) = rw d (omega arith)
raised-total (k ∷ ks) at o L ks' (inr (m, d, z)) = let y = raised-total ks (at + 2 + length k.places) o L m z in rw d (omega arith)

pub raised-each : (P : List ℕ → Type 0) (ks : List Kind) (at o : ℕ) (L : List ℕ) (ks' : List Kind) → Raised ks at o L ks' → Each (λ (k : Kind). P k.places) ks → Each (λ (k : Kind). P k.places) ks'
raised-each P [] at o L ks' z y = absurd z
raised-each P (k ∷ ks) at o L ks' (inl (e, p, d)) (y, r) = rw d (y, r)
raised-each P (k ∷ ks) at o L ks' (inr (m, d, z)) (y, r) = let s = raised-each P ks (at + 2 + length k.places) o L m z r in rw d (y, s)

pub records-raised : (w : List ℕ) (top : ℕ) (ks : List Kind) (at o : ℕ) (L : List ℕ) (ks' : List Kind) → Records w at ks top → top ≤ length w → Raised ks at o L ks'
    → Records (set w o (get_or w o 0 + 1)) at ks' top
records-raised w top [] at o L ks' r f z = absurd z
records-raised w top (k ∷ ks) at o L ks' (r, s) f (inl (e, p, d)) = rw (d, e) (
  record {
    times = get_or-set_same w at (get_or w at 0 + 1) 0 (omega (arith, records-le w (at + 2 + length k.places) ks top s)) ∙ ap (λ x. x + 1) r.times;
    some = omega arith;
    count = get_or-set_other w at (at + 1) (get_or w at 0 + 1) 0 (omega arith) ∙ r.count;
    places = λ i l. get_or-set_other w at (at + 2 + i) (get_or w at 0 + 1) 0 (omega arith) ∙ r.places i l;
    ascending = r.ascending;
  },
  subst (λ (x : ℕ). Records (set w x (get_or w x 0 + 1)) (at + 2 + length k.places) ks top) (sym e) (records-same w (set w at (get_or w at 0 + 1)) (at + 2 + length k.places) ks top (λ q l u. get_or-set_other w at q (get_or w at 0 + 1) 0 (omega arith)) s),
)
records-raised w top (k ∷ ks) at o L ks' (r, s) f (inr (m, d, z)) =
    let (l, u) = raised-within ks (at + 2 + length k.places) o L m w top s z in
    rw d (
      record {
        times = get_or-set_other w o at (get_or w o 0 + 1) 0 (omega arith) ∙ r.times;
        some = r.some;
        count = get_or-set_other w o (at + 1) (get_or w o 0 + 1) 0 (omega arith) ∙ r.count;
        places = λ i v. get_or-set_other w o (at + 2 + i) (get_or w o 0 + 1) 0 (omega arith) ∙ r.places i v;
        ascending = r.ascending;
      },
      records-raised w top ks (at + 2 + length k.places) o L m s f z,
    )

-- the number of a kind's terms is at most that of all
pub raised-times : (w : List ℕ) (top : ℕ) (ks : List Kind) (at o : ℕ) (L : List ℕ) (ks' : List Kind) → Records w at ks top → Raised ks at o L ks' → get_or w o 0 ≤ total ks
raised-times w top [] at o L ks' r z = absurd z
raised-times w top (k ∷ ks) at o L ks' (r, s) (inl (e, p, d)) = let y : get_or w o 0 ≡ k.times = rw e r.times in omega arith
raised-times w top (k ∷ ks) at o L ks' (r, s) (inr (m, d, z)) = omega (arith, raised-times w top ks (at + 2 + length k.places) o L m s z)
