-- The verdict of a walk that is whole.
use Prim.Native.Nat.{ℕ, zero, suc, ◌+◌, ◌*◌, ◌<◌, ◌≤◌}
use mathlib.Core.Path.{◌≡◌, refl, sym, ◌∙◌, ap, subst}
use mathlib.Core.Logic.{inl, inr, ◌↔◌}
use mathlib.Core.Bool.{Bool, true, false, ◌&&◌}
use mathlib.Core.List.{List, [], ◌∷◌, Memᴰ}
use native.Mathlib.Omega.{arith}
use native.Mathlib.Decide.{dec_lt, dec_le, ℕ_discrete}
use borrow.Author.Tests.{le-ltb}
use lib.Dec.{T}
use lib.ListN.{length, get_or, set, replicate, length-replicate}
use lib.Seq.{get_or-set_same}
use Rattle.language.specs.Limits.{walked_pairs}
use Rattle.language.specs.Kinds.{pick}
use Rattle.language.specs.Trees.{Expr}
use Rattle.rules.specs.Expressions.{nullable}
use Rattle.rules.specs.Walk.{Pair, onward, long_walk, common_hedge, common_term}
use Rattle.rules.proofs.Tests.{test-true, and_parts, and_both, true-test}
use Rattle.walk.specs.Reach.{Reach, start, Once, Shares, empty, SharesTerm}
use Rattle.walk.proofs.Onward.{in-onward}
use Rattle.walk.proofs.Listed.{Listed, Whole, too_long, long-by-number, Marked, all-marked}
use Rattle.walk.proofs.Sharing.{hedge-exact, term-exact}
use Rattle.walk.specs.Spots.{Spot, inner_at, rest_at}
use Rattle.clash.specs.declared.walking.Places.{Places}
use Rattle.clash.specs.declared.Verdict.TheVariants.{Clashes, Long}
use Rattle.clash.specs.declared.Verdict.TheVariants as verdict
use Rattle.state_classes.specs.States.{Spotted, Means, itself, inside, after}
use Rattle.state_classes.specs.Classes.{FirstState, Tabled, KeptTo}
use Rattle.expressions.specs.declared.Part.{Part}
use Rattle.expressions.specs.Standing.{Here, Parted}
use Rattle.expressions.proofs.Standing.{past_end}
use Rattle.language.specs.Writing.{expr_words}
use Rattle.clash.specs.Chains.{Chained, Found, stops}
use Rattle.clash.specs.Walking.{Stand, Stop, Lists, Walked, Gone}
use Rattle.clash.specs.Sweeping.{Says, Flagged, TwinsFlagged, Settled, FirstShares}
use Rattle.clash.specs.Judging.{verdict_of}
use Rattle.state_classes.proofs.Classing.{place-from, state-from}
use Rattle.clash.proofs.Going.{stop-at, first_one}
use Rattle.state_classes.proofs.Peeling.{differ}

-- ---- a state means one expression

spotted-one : (at : ℕ) (R : Expr) (j l m : ℕ) (p q : Spot) → Spotted at R j l p → Spotted at R j m q → p ≡ q
spotted-one at R j l m p q (inl (a, b)) (inl (c, d)) = let e = sym b ∙ d in cc
spotted-one at R j l m p q (inl (a, b)) (inr d) = absurd (let e = sym b ∙ d in let z : ◌≡◌ {A = ℕ} 0 1 = cc in omega arith)
spotted-one at R j l m p q (inr b) (inl (c, d)) = absurd (let e = sym b ∙ d in let z : ◌≡◌ {A = ℕ} 0 1 = cc in omega arith)
spotted-one at R j l m p q (inr b) (inr d) = let e = sym b ∙ d in cc

means-one : (at : ℕ) (R : Expr) (s : ℕ) (X Y : Expr) → Means at R s X → Means at R s Y → X ≡ Y
means-one at R s X Y (itself e d) (itself f c) = d ∙ sym c
means-one at R s X Y (itself e d) (inside j l p t f c) = let x = place-from at R j l p t in absurd (omega arith)
means-one at R s X Y (itself e d) (after j l p t f c) = absurd (omega arith)
means-one at R s X Y (inside j l p t e d) (itself f c) = let x = place-from at R j l p t in absurd (omega arith)
means-one at R s X Y (inside j l p t e d) (inside i m q u f c) =
    let z : i ≡ j = omega arith in d ∙ ap inner_at (spotted-one at R j l m p q t (subst (λ i. Spotted at R i m q) z u)) ∙ sym c
means-one at R s X Y (inside j l p t e d) (after i m q u f c) = absurd (omega arith)
means-one at R s X Y (after j l p t e d) (itself f c) = absurd (omega arith)
means-one at R s X Y (after j l p t e d) (inside i m q u f c) = absurd (omega arith)
means-one at R s X Y (after j l p t e d) (after i m q u f c) =
    let z : i ≡ j = omega arith in d ∙ ap rest_at (spotted-one at R j l m p q t (subst (λ i. Spotted at R i m q) z u)) ∙ sym c

stop-one : {at : Places} {R S : Expr} {a b : ℕ} {p q : Pair} → Stop at R S a b p → Stop at R S a b q → p ≡ q
stop-one {at} {R} {S} {a} {b} {p} {q} s t =
    ap (λ x. (x, p.1)) (means-one at.at R a p.0 q.0 s.one.means t.one.means) ∙ ap (λ y. (q.0, y)) (means-one at.other S b p.1 q.1 s.two.means t.two.means)

-- ---- the first pair

first-state : (at : ℕ) (R : Expr) → FirstState at R (2 * at) R
first-state at R = record { means = itself refl refl; least = λ t l m. let x = state-from at R t R m in omega arith }

pub first-stop : (at : Places) (R S : Expr) {a b : ℕ} → a ≡ 2 * at.at → b ≡ 2 * at.other → Stop at R S a b (R, S)
first-stop at R S e d = stop-at (sym e) (sym d) (record { one = first-state at.at R; two = first-state at.other S })

pub first-walked : {at : Places} {R S : Expr} {left right : List ℕ} → get_or left 0 0 ≡ 2 * at.at → get_or right 0 0 ≡ 2 * at.other → Walked at R S left right 1
first-walked {at} {R} {S} {left} {right} e d =
    record {
      each = λ i l.
          let z : i ≡ 0 = omega arith in
          ((R, S), first-stop at R S (ap (λ i. get_or left i 0) z ∙ e) (ap (λ i. get_or right i 0) z ∙ d), start refl);
    }

-- ---- all pairs

pub strict : {m n : ℕ} → suc m ≤ n → m < n
strict h = omega arith

pub weaker : {m n : ℕ} → suc m ≤ n → m ≤ n
weaker h = omega arith

pub itself-le : (n : ℕ) → n ≤ n
itself-le n = omega arith

module _ {at : Places} {R S : Expr} {left right links heads : List ℕ} {n : ℕ} (C : Chained left right links heads n) (w : Walked at R S left right n) where
  abbrev rows : (m : ℕ) → m ≤ n → List Pair
  rows zero h = []
  rows (suc m) h = (w.each m (strict h)).0 ∷ rows m (weaker h)

  rows_long : (m : ℕ) (h : m ≤ n) → length (rows m h) ≡ m
  rows_long zero h = refl
  rows_long (suc m) h = ap suc (rows_long m (weaker h))

  -- the pair i
  pub record At (q : Pair) (m : ℕ) : Type 0 where
    pub place : ℕ
    pub low : place < m
    pub stop : Stop at R S (get_or left place 0) (get_or right place 0) q

  rows_at : (m : ℕ) (h : m ≤ n) (q : Pair) → Memᴰ q (rows m h) → At q m
  rows_at zero h q i = elim i [ ]
  rows_at (suc m) h q (Memᴰ.head e) =
      record { place = m; low = omega arith; stop = subst (Stop at R S (get_or left m 0) (get_or right m 0)) (sym e) (w.each m (strict h)).1 }
  rows_at (suc m) h q (Memᴰ.tail i) = let r = rows_at m (weaker h) q i in let z = r.low in record { place = r.place; low = omega arith; stop = r.stop }

  at_rows : (m : ℕ) (h : m ≤ n) (q : Pair) → At q m → Memᴰ q (rows m h)
  at_rows zero h q r = let z = r.low in absurd (omega arith)
  at_rows (suc m) h q r = go (ℕ_discrete r.place m) (λ l. at_rows m (weaker h) q (record { place = r.place; low = l; stop = r.stop }))
    where
      go : Dec (r.place ≡ m) → (r.place < m → Memᴰ q (rows m (weaker h))) → Memᴰ q (rows (suc m) h)
      go (yes e) on =
          Memᴰ.head (stop-one (stop-at (ap (λ i. get_or left i 0) e) (ap (λ i. get_or right i 0) e) r.stop) (w.each m (strict h)).1)
      go (no e) on = let z = r.low in Memᴰ.tail (on (omega arith))

  rows-once : (m : ℕ) (h : m ≤ n) → Once (rows m h)
  rows-once zero h = tt
  rows-once (suc m) h = (λ i. again (rows_at m (weaker h) (w.each m (strict h)).0 i), rows-once m (weaker h))
    where
      again : At (w.each m (strict h)).0 m → ⊥
      again r =
          let s = (w.each m (strict h)).1 in
          C.apart r.place m r.low (omega arith) (record { one = first_one s.one r.stop.one; other = first_one s.two r.stop.two })

  abbrev all : List Pair
  all = rows n (itself-le n)

  pub all_listed : Listed R S all
  all_listed = record { once = rows-once n (itself-le n); met = λ q m. reach q (rows_at n (itself-le n) q m) }
    where
      reach : (q : Pair) → At q n → Reach R S q
      reach q r = let (p, s, h) = w.each r.place r.low in subst (Reach R S) (stop-one s r.stop) h

  pub verdict-long : (term : Bool) → walked_pairs < n → verdict_of term R S ≡ Long
  unfolding verdict_of
  verdict-long term l =
      ap (λ b. elim b [ true ↦ Long | false ↦ elim (pick term (common_term R S) (common_hedge R S)) [ true ↦ verdict.Shares | false ↦ Clashes ] ])
      (too_long R S walked_pairs all all_listed (subst (λ m. walked_pairs < m) (sym (rows_long n (itself-le n))) l))

  -- ---- nothing is left out

  module _ (some : 0 < n) (e : get_or left 0 0 ≡ 2 * at.at) (d : get_or right 0 0 ≡ 2 * at.other)
      (on : (i : ℕ) → i < n → (p : Pair) → Stop at R S (get_or left i 0) (get_or right i 0) p → (q : Pair) → Memᴰ q (onward p) → Lists at R S left right n q) where
    first-at : Stop at R S (get_or left 0 0) (get_or right 0 0) (R, S)
    first-at = first-stop at R S e d

    on-all : (p q : Pair) → Memᴰ p all → Memᴰ q (onward p) → Memᴰ q all
    on-all p q m h =
        let r = rows_at n (itself-le n) p m in
        let l = on r.place r.low p r.stop q h in
        at_rows n (itself-le n) q (record { place = l.place; low = l.low; stop = l.stop })

    all_whole : Whole R S all
    all_whole = record { first = at_rows n (itself-le n) (R, S) (record { place = 0; low = some; stop = first-at }); on = on-all }

    not-long : n ≤ walked_pairs → long_walk walked_pairs R S ≡ false
    not-long l = long-by-number R S walked_pairs all all_listed all_whole ∙ le-ltb walked_pairs (length all) (let z = rows_long n (itself-le n) in omega arith)

    pub verdict-by : (term b : Bool) → n ≤ walked_pairs → pick term (common_term R S) (common_hedge R S) ≡ b → verdict_of term R S ≡ elim b [ true ↦ verdict.Shares | false ↦ Clashes ]
    unfolding verdict_of
    verdict-by term b l h =
        ap (λ b. elim b [ true ↦ Long | false ↦ elim (pick term (common_term R S) (common_hedge R S)) [ true ↦ verdict.Shares | false ↦ Clashes ] ]) (not-long l)
        ∙ ap (λ b. elim b [ true ↦ verdict.Shares | false ↦ Clashes ]) h

    -- ---- what is marked

    module _ {k classes : List ℕ} (st : Stand k classes at R S) (empties marks : List Bool)
        (null : (i : ℕ) → i < n → (p : Pair) → Stop at R S (get_or left i 0) (get_or right i 0) p → get_or empties i false ≡ (nullable p.0 && nullable p.1))
        (settled : Settled k classes at left right n empties marks) where
      -- the empty hedge
      both-null : (i : ℕ) → i < n → (p : Pair) → Stop at R S (get_or left i 0) (get_or right i 0) p → get_or empties i false ≡ true → T (nullable p.0) × T (nullable p.1)
      both-null i l p s h = and_parts (nullable p.0) (nullable p.1) (true-test (nullable p.0 && nullable p.1) (sym (null i l p s) ∙ h))

      null-both : (i : ℕ) → i < n → (p : Pair) → Stop at R S (get_or left i 0) (get_or right i 0) p → T (nullable p.0) → T (nullable p.1) → get_or empties i false ≡ true
      null-both i l p s x y = null i l p s ∙ (test-true (nullable p.0 && nullable p.1)).0 (and_both (nullable p.0) (nullable p.1) x y)

      abbrev Flag : Pair → Type 0
      Flag p = Flagged at R S left right n marks p

      flag-here : (p : Pair) (r : At p n) → get_or marks r.place false ≡ true → Flag p
      flag-here p r h = record { place = r.place; low = r.low; stop = r.stop; mark = h }

      marked : Marked all Flag
      marked =
          record {
            sound = λ p f.
                settled.swelled.sound R S st (λ i l q s h. let (x, y) = both-null i l q s h in empty x y) f.place f.low p f.stop f.mark;
            both-empty = λ p m x y.
                let r = rows_at n (itself-le n) p m in
                flag-here p r (settled.swelled.keeps r.place (null-both r.place r.low p r.stop x y));
            by-twins = λ p m o u t f g.
                let r = rows_at n (itself-le n) p m in
                flag-here p r (settled.closed R S st r.place (omega arith) r.low p r.stop (record { one = o; other = u; twins = t; inside = f; after = g }));
          }

      shares-flag : (p : Pair) → Memᴰ p all → Shares p ↔ Flag p
      shares-flag p m = all-marked all Flag marked on-all p m

      first-in : Memᴰ (R, S) all
      first-in = all_whole.first

      -- the first pair stands at 0 only
      first-mark : Flag (R, S) → get_or marks 0 false ≡ true
      first-mark f = go (dec_lt 0 f.place)
        where
          go : Dec (0 < f.place) → get_or marks 0 false ≡ true
          go (yes l) =
              absurd (C.apart 0 f.place l f.low (record { one = first_one f.stop.one first-at.one; other = first_one f.stop.two first-at.two }))
          go (no l) = let z : f.place ≡ 0 = omega arith in sym (ap (λ i. get_or marks i false) z) ∙ f.mark

      hedge-shared : (b : Bool) → get_or marks 0 false ≡ b → common_hedge R S ≡ b
      hedge-shared true h =
          (test-true (common_hedge R S)).0
          ((hedge-exact R S).1 ((shares-flag (R, S) first-in).1 (record { place = 0; low = some; stop = first-at; mark = h })))
      hedge-shared false h = go (common_hedge R S) refl
        where
          go : (b : Bool) → common_hedge R S ≡ b → b ≡ false
          go false c = refl
          go true c = differ (sym (first-mark ((shares-flag (R, S) first-in).0 ((hedge-exact R S).0 (true-test (common_hedge R S) c)))) ∙ h)

      -- a term
      term-flags : SharesTerm (R, S) → TwinsFlagged at R S left right n marks empties (R, S)
      term-flags t =
          let m = t.monomial in
          let o = t.twin in
          let i = on-all (R, S) (m.inner, o.inner) first-in (in-onward (R, S) (m, o, t.twins, inl refl)) in
          let r = rows_at n (itself-le n) (m.rest, o.rest) (on-all (R, S) (m.rest, o.rest) first-in (in-onward (R, S) (m, o, t.twins, inr refl))) in
          record {
            one = m;
            other = o;
            twins = t.twins;
            inside = (shares-flag (m.inner, o.inner) i).0 t.inside;
            after = record { place = r.place; low = r.low; stop = r.stop; mark = null-both r.place r.low (m.rest, o.rest) r.stop t.ends t.twin-ends };
          }

      flags-term : TwinsFlagged at R S left right n marks empties (R, S) → SharesTerm (R, S)
      flags-term f =
          let i = on-all (R, S) (f.one.inner, f.other.inner) first-in (in-onward (R, S) (f.one, f.other, f.twins, inl refl)) in
          let (x, y) = both-null f.after.place f.after.low (f.one.rest, f.other.rest) f.after.stop f.after.mark in
          record { monomial = f.one; twin = f.other; twins = f.twins; inside = (shares-flag (f.one.inner, f.other.inner) i).1 f.inside; ends = x; twin-ends = y }

      term-shared : (b : Bool) → Says (TwinsFlagged at R S left right n marks empties (R, S)) b → common_term R S ≡ b
      term-shared true h = (test-true (common_term R S)).0 ((term-exact R S).1 (flags-term (h.yes refl)))
      term-shared false h = go (common_term R S) refl
        where
          go : (b : Bool) → common_term R S ≡ b → b ≡ false
          go false c = refl
          go true c = absurd (h.not refl (term-flags ((term-exact R S).0 (true-test (common_term R S) c))))

      pub shared-by : (term b : Bool) → FirstShares k classes at left right n marks empties term b → pick term (common_term R S) (common_hedge R S) ≡ b
      shared-by true b f = term-shared b ((f.by-term refl).each R S st (R, S) first-at)
      shared-by false b f = hedge-shared b (sym (f.by-hedge refl))

-- ---- as the code has it

module _ {k classes : List ℕ} {at : Places} {left₁ right₁ left right links heads : List ℕ} {empties : List Bool} {n : ℕ} (e : get_or left₁ 0 0 ≡ 2 * at.at) (d : get_or right₁ 0 0 ≡ 2 * at.other)
    (g : Gone k classes at left₁ right₁ left right empties n) (C : Chained left right links heads n) (term : Bool) where
  pub judged-long : walked_pairs < n → (R S : Expr) → Stand k classes at R S → Long ≡ verdict_of term R S
  judged-long l R S st = sym (verdict-long C (g.walked R S st (first-walked e d)) term l)

  pub judged : (b : Bool) {marks : List Bool} → n ≤ walked_pairs → Settled k classes at left right n empties marks → FirstShares k classes at left right n marks empties term b
      → (R S : Expr) → Stand k classes at R S → elim b [ true ↦ verdict.Shares | false ↦ Clashes ] ≡ verdict_of term R S
  judged b {marks} l s f R S st =
      let v : Walked at R S left₁ right₁ 1 = first-walked e d in
      let w = g.walked R S st v in
      let some = g.some in
      let e' = g.kept.lefts 0 (omega arith) ∙ e in
      let d' = g.kept.rights 0 (omega arith) ∙ d in
      sym (verdict-by C w some e' d' (g.on R S st v l) term b l (shared-by C w some e' d' (g.on R S st v l) st empties marks (g.null R S st v l) s term b f))

zeros : (n i : ℕ) → ◌≡◌ {A = ℕ} (get_or (replicate n 0) i 0) 0
zeros zero i = refl
zeros (suc n) zero = refl
zeros (suc n) (suc i) = zeros n i

-- no pairs
pub chained-none : (m h : ℕ) → m ≡ stops → h ≡ 4093 → Chained (replicate m 0) (replicate m 0) (replicate m 0) (replicate h 0) 0
chained-none m h e d =
    record {
      few = omega arith;
      lefts = length-replicate {A = ℕ} m 0 ∙ e;
      rights = length-replicate {A = ℕ} m 0 ∙ e;
      linked = length-replicate {A = ℕ} m 0 ∙ e;
      room = length-replicate {A = ℕ} h 0 ∙ d;
      apart = λ i j l n. absurd (omega arith);
      head-past = λ j l. absurd (omega arith);
      head_in = λ i. let z = zeros h i in omega arith;
      head-chain = λ i j f. let z = zeros h i in absurd (omega arith);
      link-past = λ i j l. absurd (omega arith);
      link-in = λ i l. absurd (omega arith);
      link-chain = λ i j l. absurd (omega arith);
    }

pub found_none : {left right : List ℕ} {a b : ℕ} → Found left right 0 a b 0
found_none = record { here = λ i e. absurd (omega arith); nowhere = λ e i l. absurd (omega arith) }

pub first-set : (m x y : ℕ) {new : List ℕ} → m ≡ stops → new ≡ set (replicate m 0) 0 x → x ≡ y → get_or new 0 0 ≡ y
first-set m x y e d f = ap (λ l. get_or l 0 0) d ∙ get_or-set_same (replicate m 0) 0 x 0 (let z = length-replicate {A = ℕ} m 0 in omega arith) ∙ f

-- ---- where the two stand

pub here-low : {k : List ℕ} {at : ℕ} {R : Expr} {w : List ℕ} → Here k at R w → at ≤ length k
here-low {k} {at} {R} {w} h = go (dec_le (length k) at)
  where
    go : Dec (length k ≤ at) → at ≤ length k
    go (yes l) = past_end (λ R w. at ≤ length k) l R w h
    go (no l) = omega arith

pub part-bounds : {k : List ℕ} {at : ℕ} {R : Expr} {w : List ℕ} {p : Part} → Here k at R w → Parted k at p → (p.end ≡ at + length (expr_words R)) × (p.end ≤ length k)
part-bounds {R = R} {w} h p = ((p.each R w h).end, p.within (here-low h))

pub tabled-kept : {k old new : List ℕ} {at to m : ℕ} → to ≤ m → KeptTo m old new → Tabled k at to old → Tabled k at to new
tabled-kept {at = at} l e t =
    record { each = λ R w h s i X n. subst (λ c. FirstState at R c X) (sym (e.same s (omega arith))) (t.each R w h s i X n) }
