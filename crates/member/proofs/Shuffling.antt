-- Under an unordered symbol: the terms go to their kinds, one after another, and at the end the kinds are shared out.
use Prim.Native.Nat.{ℕ, ◌+◌, ◌-◌, ◌*◌, ◌<◌, ◌≤◌}
use mathlib.Core.Path.{◌≡◌, refl, ◌∙◌}
use mathlib.Core.Logic.{◌⊎◌, inl, inr, ◌↔◌}
use mathlib.Core.Bool.{Bool, true, false}
use mathlib.Core.List.{List, [], ◌∷◌, ◌++◌}
use native.Mathlib.Omega.{arith}
use native.Mathlib.Decide.{ℕ_discrete}
use lib.ListN.{length, get_or, set, length-set}
use lib.Seq.{get_or-set_same, get_or-set_other}
use Rattle.language.specs.declared.Sym.{Sym}
use Rattle.language.specs.declared.Signature.{Signature}
use Rattle.language.specs.Trees.{Expr}
use Rattle.meaning.specs.Complete.{Complete, nil, tree}
use Rattle.rules.specs.Each.{Each}
use Rattle.rules.proofs.Each.{each-++}
use Rattle.any_order.specs.Places.{size_e, At, Expression}
use Rattle.any_order.specs.Sharing.{bump, Kind, In, Rest, Good, none, Recorded, Records, Ascending, total}
use Rattle.any_order.specs.Searching.{Asked, Shared}
use Rattle.any_order.proofs.Shares.{Respects, good-like}
use Rattle.any_order.proofs.Ranges.{not-both}
use Rattle.member.specs.declared.Fitted.{Fitted}
use Rattle.member.specs.declared.Joined.{Joined}
use Rattle.member.specs.declared.Tried.{Tried}
use Rattle.member.specs.Marks.{tests, of_term}
use Rattle.member.specs.Leaves.{Fits, Terms}
use Rattle.passing.specs.Places.{size_c, Holds, Hedge, Skipped, Beside}
use Rattle.member.specs.Gathering.{row_of, Lists, Spared, Kinds, Spacious, Lent, Gathered, FittedAll, Shuffles, ShufflesBy, Raised, Found, Countable, Joins, Undone, Roomy}
use Rattle.member.proofs.Decides.{tests-decide, of-term→, of-term←}
use Rattle.member.proofs.Sharing.{terms-like}
use Rattle.member.proofs.Kindred.{rest-imp, rest_out, One, snoc-rest, raised-rest, records-same, records-snoc, raised-total, raised-each, raised-times, records-raised}
use Rattle.member.proofs.Rowing.{row_in, row_within, row-ascending}
use Rattle.passing.proofs.Standing.{holds-lt, by-nil, by-tree}
use Rattle.any_order.proofs.Standing.{at-fits}
use Rattle.passing.proofs.Beside.{beside-refl, beside_trans}
use Rattle.member.proofs.Asking.{spared-refl, spared-trans, spared-less, spared-set}

-- ---- the row of a term has the symbols that it can be

fits-row : (σ : Signature) (R : Expr) (at : ℕ) (f : Sym) (c : Complete) (q : ℕ) → In q (row_of (of_term σ f (tests σ c)) R at) ↔ Fits σ R at f c q
fits-row σ R at f c q =
    let r = row_in (of_term σ f (tests σ c)) R at q in (
      λ i. let (g, S, x, t) = r.0 i in (g, S, x, of-term→ σ f c (tests σ c) (tests-decide σ c) g S t),
      λ (g, S, x, m). r.1 (g, S, x, of-term← σ f c (tests σ c) (tests-decide σ c) g S m),
    )

-- one more term at the end is one more of its row
one_more : (σ : Signature) (R : Expr) (at : ℕ) (f : Sym) (c rest : Complete) (ks : List Kind)
    → Rest (One (row_of (of_term σ f (tests σ c)) R at) (Terms (Fits σ R at) (Good R at) rest)) ks none ↔ Rest (Terms (Fits σ R at) (Good R at) (tree f c rest)) ks none
one_more σ R at f c rest ks =
    let L = row_of (of_term σ f (tests σ c)) R at in
    let G = Terms (Fits σ R at) (Good R at) rest in (
      λ w. rest-imp (One L G) (Terms (Fits σ R at) (Good R at) (tree f c rest)) (λ d (q, i, x). (q, (fits-row σ R at f c q).0 i, x)) ks none w,
      λ w. rest-imp (Terms (Fits σ R at) (Good R at) (tree f c rest)) (One L G) (λ d (q, y, x). (q, (fits-row σ R at f c q).1 y, x)) ks none w,
    )

pub iff-trans : {A B C : Type 0} → A ↔ B → B ↔ C → A ↔ C
iff-trans f g = (λ a. g.0 (f.0 a), λ c. f.1 (g.1 c))

pub spared-by : {w w' v : List ℕ} {t t' : ℕ} → w ≡ w' → t ≡ t' → Spared w v t → Spared w' v t'
spared-by d z s = rw (d, z) at s

shuffles-by : {σ : Signature} {e : List ℕ} {at : ℕ} {h : List ℕ} {j : ℕ} {k k' : List Bool} {w w₁ v v₁ : List ℕ} {base t t₁ : ℕ} {r : Bool}
    → w ≡ w₁ → t ≡ t₁ → v₁ ≡ v → Shuffles σ e at h j k k' w v base t r → Shuffles σ e at h j k k' w₁ v₁ base t₁ r
shuffles-by d z y m = rw y (rw (d, z) at m)

gathered-by : {e h : List ℕ} {j : ℕ} {w w₁ : List ℕ} {base t t₁ : ℕ} → w₁ ≡ w → t₁ ≡ t → Gathered e h j w base t → Gathered e h j w₁ base t₁
gathered-by d z g = rw (d, z) g

-- ---- the end

module _ {σ : Signature} {e : List ℕ} {at : ℕ} {h : List ℕ} {j : ℕ} {k : List Bool} {w : List ℕ} {base top : ℕ} where
  pub any-end : {r : Bool} → get_or h j 0 ≡ 0 → Shared e at w base top r → Shuffles σ e at h j k k w w base top r
  any-end {r} z s = record {
    spared = spared-refl;
    len = refl;
    beside = λ R x. beside-refl;
    each = λ R g ks x y rec. by-nil (λ g. (r ≡ true) ↔ Rest (Terms (Fits σ R at) (Good R at) g) ks none) z (none_left R ks (s.means R x ks rec)) g y;
  }
    where
      none_left : (R : Expr) (ks : List Kind) → (r ≡ true) ↔ Rest (Good R at) ks none → (r ≡ true) ↔ Rest (Terms (Fits σ R at) (Good R at) nil) ks none
      none_left R ks m = iff-trans m (rest-imp (Good R at) (Terms (Fits σ R at) (Good R at) nil) (λ c x. x) ks none, rest-imp (Terms (Fits σ R at) (Good R at) nil) (Good R at) (λ c x. x) ks none)

-- ---- what is still to be gathered

pub some_words : (g : Complete) → 1 ≤ size_c g
some_words nil = omega arith
some_words (tree f c r) = omega arith

module _ {e h : List ℕ} {j : ℕ} {w : List ℕ} {base top : ℕ} where
  pub gathered-asks : {at : ℕ} → Expression e at → Gathered e h j w base top → Asked e at w base top
  gathered-asks p g = record {
    expression = p;
    ks = g.ks;
    records = g.records;
    fits = omega (arith, g.room);
    bounded = omega (arith, g.room, g.bounded);
    within = g.within;
    room = omega (arith, g.few);
  }

  pub gathered-lt : Gathered e h j w base top → j < length h
  gathered-lt g = holds-lt g.here

  pub gathered-hedge : Gathered e h j w base top → Hedge h j
  gathered-hedge g = record { g = g.g; here = g.here }

  pub gathered-kinds : Gathered e h j w base top → Kinds w base top
  gathered-kinds g = record { ks = g.ks; records = g.records; fits = omega (arith, g.room) }

  pub gathered-spared : {v : List ℕ} → Gathered e h j w base top → Spared w v top → Gathered e h j v base top
  gathered-spared {v} g s = record {
    g = g.g;
    here = g.here;
    ks = g.ks;
    records = records-same w v base g.ks top (λ q l u. s.low q u) g.records;
    within = g.within;
    few = g.few;
    room = omega (arith, g.room, s.len);
    bounded = omega (arith, g.bounded, s.len);
  }

  -- room for six words more
  pub gathered-six : Gathered e h j w base top → (get_or h j 0 ≡ 0 → ⊥) → (top + 6 ≤ length w) × (length w < 65536)
  gathered-six g n = (by-tree (λ x. top + 2 * size_c x ≤ length w → top + 6 ≤ length w) n (λ f c r v x y z. omega (arith, some_words c, some_words r)) g.g g.here g.room, g.bounded)

  pub gathered-lent : {σ : Signature} → Gathered e h j w base top → (get_or h j 0 ≡ 0 → ⊥) → Lent σ h (j + 1) w top
  gathered-lent g n = record {
    room = λ _. by-tree (λ x. top + 2 * size_c x ≤ length w → Spacious h (j + 1) w top) n
        (λ f c r v x y z. record { g = c; here = x; room = omega arith; bounded = g.bounded }) g.g g.here g.room;
  }

  module _ {stop cap : ℕ} (g : Gathered e h j w base top) (n : get_or h j 0 ≡ 0 → ⊥) (s : Skipped h j stop) (z : cap ≡ length w + 4 - 2 * (stop - j)) where
    -- how many words there are
    abbrev Size : Complete → Type 0
    Size x = (top + 2 * size_c x ≤ length w) × (stop ≡ j + size_c x)

    size : Size g.g
    size = (g.room, s.each g.g g.here)

    pub cap-within : (top + 2 ≤ cap) × (cap ≤ length w)
    cap-within = by-tree (λ x. Size x → (top + 2 ≤ cap) × (cap ≤ length w)) n (λ f c r v x y (a, b). (omega (arith, some_words c, some_words r), omega (arith, some_words c, some_words r))) g.g g.here size

    cap-sub : (2 * (stop - j) ≤ length w + 4) × (j ≤ stop)
    cap-sub = (omega (arith, size), omega (arith, size))

    pub cap-lent : {σ : Signature} → Lent σ h (j + 1) w cap
    cap-lent = record {
      room = λ _. by-tree (λ x. Size x → Spacious h (j + 1) w cap) n
          (λ f c r v x y (a, b). record { g = c; here = x; room = omega (arith, some_words c, some_words r); bounded = g.bounded }) g.g g.here size;
    }

  pub gathered-roomy : Gathered e h j w base top → (get_or h j 0 ≡ 0 → ⊥) → Roomy h j (length w)
  gathered-roomy g n = record { bounded = g.bounded; enough = λ stop s. cap-sub g n s refl }

  -- the next term
  pub gathered_next : {next : ℕ} {v : List ℕ} {t : ℕ} (g : Gathered e h j w base top) → (get_or h j 0 ≡ 0 → ⊥) → Skipped h (j + 1) next → length v ≡ length w
      → (ks : List Kind) → Records v base ks t → Each (λ (k : Kind). Each (λ p. p < length e) k.places) ks → total ks ≡ total g.ks + 1
      → ((f : Sym) (c r : Complete) → g.g ≡ tree f c r → t + 2 * size_c r ≤ length w) → Gathered e h next v base t
  gathered_next {next} {v} {t} g n s l ks rec wi to room = by-tree (λ x. g.g ≡ x → total g.ks + size_c x < 65536 → Gathered e h next v base t) n
      (λ f c r u x y z few. record {
        g = r;
        here = rw (s.each c x) y;
        ks = ks;
        records = rec;
        within = wi;
        few = omega (arith, to, some_words c);
        room = omega (arith, room f c r z, l);
        bounded = omega (arith, g.bounded, l);
      }) g.g g.here refl g.few

-- ---- one term more

-- the words of a new kind
new-recorded : (w : List ℕ) (top t : ℕ) (L : List ℕ) → Lists w (top + 2) L t → Ascending L → top + 2 ≤ length w
    → Recorded (set (set w top 1) (top + 1) (t - top - 2)) top (record { times = 1; places = L })
new-recorded w top t L l a z = record {
  times = get_or-set_other (set w top 1) (top + 1) top (t - top - 2) 0 (omega arith) ∙ get_or-set_same w top 1 0 (omega arith);
  some = omega arith;
  count = get_or-set_same (set w top 1) (top + 1) (t - top - 2) 0 (omega (arith, length-set w top 1)) ∙ (let y : t - top - 2 ≡ length L = omega (arith, l.end) in y);
  places = λ i u. get_or-set_other (set w top 1) (top + 1) (top + 2 + i) (t - top - 2) 0 (omega arith) ∙ get_or-set_other w top (top + 2 + i) 1 0 (omega arith) ∙ l.each i u;
  ascending = a;
}

-- a new kind is written behind `top`
pub new-spared : {w : List ℕ} (v : List ℕ) (top x : ℕ) {t : ℕ} → Spared w v t → top ≤ t → Spared w (set (set v top 1) (top + 1) x) top
new-spared v top x s l =
    let a = spared-less s l in
    let b = spared-set v top 1 a (omega arith) refl in
    spared-set (set v top 1) (top + 1) x b (omega arith) refl

within-row : (σ : Signature) (R : Expr) (e : List ℕ) (at : ℕ) (f : Sym) (c : Complete) → At e at R → Each (λ p. p < length e) (row_of (of_term σ f (tests σ c)) R at)
within-row σ R e at f c x = go (row_of (of_term σ f (tests σ c)) R at) (λ q i. omega (arith, (row_within (of_term σ f (tests σ c)) R at q i).1, at-fits x))
  where
    go : (L : List ℕ) → ((q : ℕ) → In q L → q < length e) → Each (λ p. p < length e) L
    go [] y = tt
    go (q ∷ L) y = (y q (inl refl), go L (λ p i. y p (inr i)))

pub total-snoc : (ks : List Kind) (k : Kind) → total (ks ++ (k ∷ [])) ≡ total ks + k.times
total-snoc [] k = omega arith
total-snoc (m ∷ ks) k = omega (arith, total-snoc ks k)

terms-respect : (σ : Signature) (R : Expr) (at : ℕ) (g : Complete) → Respects (Terms (Fits σ R at) (Good R at) g)
terms-respect σ R at g = terms-like (Fits σ R at) (Good R at) (good-like R at) g

fit-beside : {σ : Signature} {e : List ℕ} {at : ℕ} {h : List ℕ} {j : ℕ} {k k₁ : List Bool} {w w₁ : List ℕ} {t cap : ℕ} {f : Fitted} → FittedAll σ e at h j k k₁ w w₁ t cap f
    → (R : Expr) → At e at R → Beside k k₁ at (at + size_e R)
fit-beside a R x = rw (a.sized R x) at a.beside

records-fit : (w w₁ : List ℕ) (base top : ℕ) → Spared w w₁ (top + 2) → (ks : List Kind) → Records w base ks top → Records w₁ base ks top
records-fit w w₁ base top s ks r = records-same w w₁ base ks top (λ q l u. s.low q (omega arith)) r

module _ {σ : Signature} {e : List ℕ} {at : ℕ} {h : List ℕ} {j : ℕ} {w : List ℕ} {base top : ℕ} where
  -- after the row was written
  module _ {k k₁ : List Bool} {w₁ : List ℕ} {cap : ℕ} {f : Fitted} (n : get_or h j 0 ≡ 0 → ⊥) (a : FittedAll σ e at h j k k₁ w w₁ (top + 2) cap f) where
    -- no symbol
    pub any_none : f.full ≡ false → f.top ≡ top + 2 → Shuffles σ e at h j k k₁ w w₁ base top false
    any_none z t = record {
      spared = spared-less a.spared (omega arith);
      len = a.beside.len;
      beside = fit-beside a;
      each = λ R g ks x y rec. by-tree (λ g. Holds h j g → (false ≡ true) ↔ Rest (Terms (Fits σ R at) (Good R at) g) ks none) n
          (λ u c rest v x' y' hh. (λ b. absurd (not-both b refl), λ s. absurd (nothing R x u c rest hh ks s))) g y y;
    }
      where
        nothing : (R : Expr) → At e at R → (u : Sym) (c rest : Complete) → Holds h j (tree u c rest) → (ks : List Kind) → Rest (Terms (Fits σ R at) (Good R at) (tree u c rest)) ks none → ⊥
        nothing R x u c rest hh ks s =
            let (q, i, v) = (rest_out (λ q. In q (row_of (of_term σ u (tests σ c)) R at)) (λ q d. Terms (Fits σ R at) (Good R at) rest (bump d q)) ks none).0 ((one_more σ R at u c rest ks).1 s) in
            let l = a.each R u c rest x hh z in
            empty-row (row_of (of_term σ u (tests σ c)) R at) q i (omega (arith, l.end))
          where
            empty-row : (L : List ℕ) (q : ℕ) → In q L → length L ≡ 0 → ⊥
            empty-row [] q i d = i
            empty-row (x ∷ L) q i d = omega arith

    -- no room: each symbol alone
    pub any-crowd : {k₂ : List Bool} {w₂ : List ℕ} {r : Tried} → ShufflesBy σ e at at h j k₁ k₂ w₁ w₂ base top r → Shuffles σ e at h j k k₂ w w₂ base top r.yes
    any-crowd {k₂} {w₂} {r} s = record {
      spared = spared-trans (spared-less a.spared (omega arith)) s.spared;
      len = s.len ∙ a.beside.len;
      beside = λ R x. beside_trans (fit-beside a R x) (s.beside R x);
      each = λ R g ks x y rec. by-tree (λ g. Holds h j g → (r.yes ≡ true) ↔ Rest (Terms (Fits σ R at) (Good R at) g) ks none) n
          (λ u c rest v x' y' hh. by-symbols R u c rest ks (s.each R R u c rest ks x x hh (records-fit w w₁ base top a.spared ks rec))) g y y;
    }
      where
        by-symbols : (R : Expr) (u : Sym) (c rest : Complete) (ks : List Kind)
            → (r.yes ≡ true) ↔ ((p : ℕ) × Fits σ R at u c p × Rest (λ d. Terms (Fits σ R at) (Good R at) rest (bump d p)) ks none)
            → (r.yes ≡ true) ↔ Rest (Terms (Fits σ R at) (Good R at) (tree u c rest)) ks none
        by-symbols R u c rest ks m =
            let o = rest_out (Fits σ R at u c) (λ p d. Terms (Fits σ R at) (Good R at) rest (bump d p)) ks none in
            (λ t. o.1 (m.0 t), λ s. m.1 (o.0 s))

    module _ {next : ℕ} (z : f.full ≡ false) (s : Skipped h (j + 1) next) where
      -- a new kind
      pub any-new : {k₂ : List Bool} {w₂ : List ℕ} {r : Bool} → top + 2 ≤ length w → Shuffles σ e at h next k₁ k₂ (set (set w₁ top 1) (top + 1) (f.top - top - 2)) w₂ base f.top r
          → Shuffles σ e at h j k k₂ w w₂ base top r
      any-new {k₂} {w₂} {r} le m = record {
        spared = spared-trans (new-spared w₁ top (f.top - top - 2) a.spared (omega arith)) (spared-less m.spared (omega (arith, a.within.0)));
        len = m.len ∙ a.beside.len;
        beside = λ R x. beside_trans (fit-beside a R x) (m.beside R x);
        each = λ R g ks x y rec. by-tree (λ g. Holds h j g → (r ≡ true) ↔ Rest (Terms (Fits σ R at) (Good R at) g) ks none) n
            (λ u c rest v x' y' hh.
            let L = row_of (of_term σ u (tests σ c)) R at in
            let w₃ = set (set w₁ top 1) (top + 1) (f.top - top - 2) in
            let l = a.each R u c rest x hh z in
            let rec₃ = records-same w w₃ base ks top (λ q lo hi. (new-spared w₁ top (f.top - top - 2) a.spared (omega arith)).low q hi) rec in
            let recs = records-snoc w₃ base ks top (record { times = 1; places = L }) f.top rec₃ (new-recorded w₁ top f.top L l (row-ascending (of_term σ u (tests σ c)) R at) (omega (arith, a.spared.len))) l.end in
            iff-trans (m.each R rest (ks ++ (record { times = 1; places = L } ∷ [])) x (rw (s.each c x') y') recs)
            (iff-trans (snoc-rest (Terms (Fits σ R at) (Good R at) rest) L ks none) (one_more σ R at u c rest ks)))
            g y y;
      }

      any-new-at : {k₂ : List Bool} {w₂ w₃ : List ℕ} {r : Bool} → top + 2 ≤ length w → w₃ ≡ set (set w₁ top 1) (top + 1) (f.top - top - 2) → Shuffles σ e at h next k₁ k₂ w₃ w₂ base f.top r
          → Shuffles σ e at h j k k₂ w w₂ base top r
      any-new-at le d m = any-new le (rw d at m)

      -- a kind that is there
      any-old : {k₂ : List Bool} {w₂ w₃ : List ℕ} {o : ℕ} {r : Bool} → top ≤ length w → Found w₁ base top f.top o → (o ≡ top → ⊥) → o < top
          → Shuffles σ e at h next k₁ k₂ (set w₁ o (get_or w₁ o 0 + 1)) w₂ base top r → w₃ ≡ set w₂ o (get_or w₂ o 0 - 1) → Shuffles σ e at h j k k₂ w w₃ base top r
      any-old {k₂} {w₂} {w₃} {o} {r} le fd ne lt m d = record {
        spared = rw d (record {
          len = length-set w₂ o (get_or w₂ o 0 - 1) ∙ m.spared.len ∙ length-set w₁ o (get_or w₁ o 0 + 1) ∙ a.spared.len;
          low = λ q u. back q u (ℕ_discrete q o);
        });
        len = m.len ∙ a.beside.len;
        beside = λ R x. beside_trans (fit-beside a R x) (m.beside R x);
        each = λ R g ks x y rec. by-tree (λ g. Holds h j g → (r ≡ true) ↔ Rest (Terms (Fits σ R at) (Good R at) g) ks none) n
            (λ u c rest v x' y' hh. with-found R ks x u c rest (records-fit w w₁ base top a.spared ks rec) (rw (s.each c x') y')
            (fd.each ks (row_of (of_term σ u (tests σ c)) R at) (records-fit w w₁ base top a.spared ks rec) (a.each R u c rest x hh z))) g y y;
      }
        where
          back : (q : ℕ) → q < top → Dec (q ≡ o) → get_or (set w₂ o (get_or w₂ o 0 - 1)) q 0 ≡ get_or w q 0
          back q u (yes y) =
              let l₁ : o < length w₁ = omega (arith, a.spared.len) in
              let l₂ : o < length w₂ = omega (arith, m.spared.len, length-set w₁ o (get_or w₁ o 0 + 1)) in
              let g₂ : get_or w₂ o 0 ≡ get_or w₁ o 0 + 1 = m.spared.low o lt ∙ get_or-set_same w₁ o (get_or w₁ o 0 + 1) 0 l₁ in
              let g₁ : get_or w₁ o 0 ≡ get_or w o 0 = a.spared.low o (omega arith) in
              let g₃ : get_or (set w₂ o (get_or w₂ o 0 - 1)) o 0 ≡ get_or w o 0 = get_or-set_same w₂ o (get_or w₂ o 0 - 1) 0 l₂ ∙ (let i : get_or w₂ o 0 - 1 ≡ get_or w o 0 = omega arith in i) in
              rw y g₃
          back q u (no y) = get_or-set_other w₂ o q (get_or w₂ o 0 - 1) 0 y ∙ m.spared.low q u ∙ get_or-set_other w₁ o q (get_or w₁ o 0 + 1) 0 y ∙ a.spared.low q (omega arith)

          with-found : (R : Expr) (ks : List Kind) → At e at R → (u : Sym) (c rest : Complete) → Records w₁ base ks top → Holds h next rest
              → (o ≡ top) ⊎ ((ks' : List Kind) × Raised ks base o (row_of (of_term σ u (tests σ c)) R at) ks') → (r ≡ true) ↔ Rest (Terms (Fits σ R at) (Good R at) (tree u c rest)) ks none
          with-found R ks x u c rest rec hr (inl y) = absurd (ne y)
          with-found R ks x u c rest rec hr (inr (ks', y)) =
              let L = row_of (of_term σ u (tests σ c)) R at in
              let recs = records-raised w₁ top ks base o L ks' rec (omega (arith, a.spared.len)) y in
              iff-trans (m.each R rest ks' x hr recs)
              (iff-trans (raised-rest (Terms (Fits σ R at) (Good R at) rest) (terms-respect σ R at rest) L ks base o ks' y none) (one_more σ R at u c rest ks))

      -- whichever it is
      pub any-joined : {k₂ : List Bool} {w₂ w₃ w₄ : List ℕ} {o : Joined} {r : Bool} → top + 2 ≤ length w → Joins w₁ base top f.top w₃ o
          → Shuffles σ e at h next k₁ k₂ w₃ w₂ base o.top r → Undone w₂ o.at top w₄ → Shuffles σ e at h j k k₂ w w₄ base top r
      any-joined {k₂} {w₂} {w₃} {w₄} {o} {r} le i m u = go (ℕ_discrete o.at top)
        where
          go : Dec (o.at ≡ top) → Shuffles σ e at h j k k₂ w w₄ base top r
          go (yes d) = shuffles-by refl refl (u.new d) (any-new-at le (i.new d).1 (shuffles-by refl (i.new d).0 refl m))
          go (no d) = any-old (omega arith) i.found d (omega (arith, i.found.within.1, d)) (shuffles-by (i.old d).1 (i.old d).0 refl m) (u.old d)

  -- ---- what the next call finds

  module _ {k k₁ : List Bool} {w₁ : List ℕ} {stop cap next : ℕ} {f : Fitted} (p : Expression e at) (g : Gathered e h j w base top) (n : get_or h j 0 ≡ 0 → ⊥)
      (a : FittedAll σ e at h j k k₁ w w₁ (top + 2) cap f) (z : f.full ≡ false) (s : Skipped h (j + 1) next) (st : Skipped h j stop) (cz : cap ≡ length w + 4 - 2 * (stop - j)) where
    room-left : (u : Sym) (c r : Complete) → g.g ≡ tree u c r → f.top + 2 * size_c r ≤ length w
    room-left u c r d =
        let hh : Holds h j (tree u c r) = rw d at g.here in
        let rr : top + 2 * size_c (tree u c r) ≤ length w = rw d at g.room in
        omega (arith, st.each (tree u c r) hh, a.within.1, some_words c, cz)

    pub gathered-new : Gathered e h next (set (set w₁ top 1) (top + 1) (f.top - top - 2)) base f.top
    gathered-new = by-tree (λ x. g.g ≡ x → Gathered e h next (set (set w₁ top 1) (top + 1) (f.top - top - 2)) base f.top) n (λ u c r v x y d. go u c r d (rw d at g.here)) g.g g.here refl
      where
        go : (u : Sym) (c r : Complete) → g.g ≡ tree u c r → Holds h j (tree u c r) → Gathered e h next (set (set w₁ top 1) (top + 1) (f.top - top - 2)) base f.top
        go u c r d hh =
            let L = row_of (of_term σ u (tests σ c)) p.R at in
            let w₃ = set (set w₁ top 1) (top + 1) (f.top - top - 2) in
            let l = a.each p.R u c r p.here hh z in
            let sp = new-spared w₁ top (f.top - top - 2) a.spared (omega arith) in
            let rec₃ = records-same w w₃ base g.ks top (λ q lo hi. sp.low q hi) g.records in
            let recs = records-snoc w₃ base g.ks top (record { times = 1; places = L }) f.top rec₃
            (new-recorded w₁ top f.top L l (row-ascending (of_term σ u (tests σ c)) p.R at) (omega (arith, a.spared.len, (gathered-six g n).0))) l.end in
            gathered_next g n s sp.len (g.ks ++ (record { times = 1; places = L } ∷ [])) recs
            (each-++ (λ (k : Kind). Each (λ q. q < length e) k.places) g.ks (record { times = 1; places = L } ∷ []) g.within (within-row σ p.R e at u c p.here, tt))
            (total-snoc g.ks (record { times = 1; places = L })) room-left

    gathered-old : {o : ℕ} → Found w₁ base top f.top o → (o ≡ top → ⊥) → Gathered e h next (set w₁ o (get_or w₁ o 0 + 1)) base top
    gathered-old {o} fd ne = by-tree (λ x. g.g ≡ x → Gathered e h next (set w₁ o (get_or w₁ o 0 + 1)) base top) n (λ u c r v x y d. go u c r d (rw d at g.here)) g.g g.here refl
      where
        go : (u : Sym) (c r : Complete) → g.g ≡ tree u c r → Holds h j (tree u c r) → Gathered e h next (set w₁ o (get_or w₁ o 0 + 1)) base top
        go u c r d hh = with-found (fd.each g.ks (row_of (of_term σ u (tests σ c)) p.R at) (records-fit w w₁ base top a.spared g.ks g.records) (a.each p.R u c r p.here hh z))
          where
            with-found : (o ≡ top) ⊎ ((ks' : List Kind) × Raised g.ks base o (row_of (of_term σ u (tests σ c)) p.R at) ks') → Gathered e h next (set w₁ o (get_or w₁ o 0 + 1)) base top
            with-found (inl y) = absurd (ne y)
            with-found (inr (ks', y)) =
                let L = row_of (of_term σ u (tests σ c)) p.R at in
                gathered_next g n s (length-set w₁ o (get_or w₁ o 0 + 1) ∙ a.spared.len) ks'
                (records-raised w₁ top g.ks base o L ks' (records-fit w w₁ base top a.spared g.ks g.records) (omega (arith, a.spared.len, (gathered-six g n).0)) y)
                (raised-each (λ M. Each (λ q. q < length e) M) g.ks base o L ks' y g.within)
                (raised-total g.ks base o L ks' y) (λ u c r d. omega (arith, room-left u c r d, a.within.0))

    -- the number of terms of a kind fits in a word
    kind-few : {o : ℕ} → Found w₁ base top f.top o → (o ≡ top → ⊥) → get_or w₁ o 0 + 1 < 65536
    kind-few {o} fd ne = by-tree (λ x. g.g ≡ x → get_or w₁ o 0 + 1 < 65536) n (λ u c r v x y d. go u c r (rw d at g.here)) g.g g.here refl
      where
        go : (u : Sym) (c r : Complete) → Holds h j (tree u c r) → get_or w₁ o 0 + 1 < 65536
        go u c r hh = with-found (fd.each g.ks (row_of (of_term σ u (tests σ c)) p.R at) (records-fit w w₁ base top a.spared g.ks g.records) (a.each p.R u c r p.here hh z))
          where
            with-found : (o ≡ top) ⊎ ((ks' : List Kind) × Raised g.ks base o (row_of (of_term σ u (tests σ c)) p.R at) ks') → get_or w₁ o 0 + 1 < 65536
            with-found (inl y) = absurd (ne y)
            with-found (inr (ks', y)) =
                omega (arith, raised-times w₁ top g.ks base o (row_of (of_term σ u (tests σ c)) p.R at) ks' (records-fit w w₁ base top a.spared g.ks g.records) y, g.few, some_words g.g)

    pub kinds-countable : Countable w₁ base top f.top
    kinds-countable = record { few = λ o fd ne. kind-few fd ne }

    pub gathered-joined : {w₃ : List ℕ} {o : Joined} → Joins w₁ base top f.top w₃ o → Gathered e h next w₃ base o.top
    gathered-joined {w₃} {o} i = go (ℕ_discrete o.at top)
      where
        go : Dec (o.at ≡ top) → Gathered e h next w₃ base o.top
        go (yes d) = gathered-by (i.new d).1 (i.new d).0 gathered-new
        go (no d) = gathered-by (i.old d).1 (i.old d).0 (gathered-old i.found d)
