-- Marks on the pairs of a walk: what leads to marked pairs, and sweep after sweep.
use Prim.Native.Nat.{ℕ, zero, suc, ◌+◌, ◌<◌, ◌≤◌}
use mathlib.Core.Path.{◌≡◌, refl, sym, ◌∙◌, ap, subst}
use mathlib.Core.Bool.{Bool, true, false, ◌||◌}
use mathlib.Core.List.{List, [], ◌∷◌}
use native.Mathlib.Omega.{arith}
use native.Mathlib.Decide.{ℕ_discrete}
use lib.ListN.{length, get_or, set, length-set}
use lib.Seq.{get_or-set_same, get_or-set_other}
use Rattle.language.specs.Kinds.{pick}
use Rattle.language.specs.Trees.{Expr}
use Rattle.rules.specs.Walk.{Pair}
use Rattle.walk.specs.Reach.{Shares, more}
use Rattle.clash.specs.declared.symbols.Symbols.{Symbols}
use Rattle.clash.specs.declared.walking.Places.{Places}
use Rattle.clash.specs.Symbols.{Reads, Symboled}
use Rattle.clash.specs.Walking.{Stand, Stop}
use Rattle.clash.specs.Sweeping.{Says, Marked, SomeOf, Flagged, TwinsFlagged, LeadsFrom, Sound, ClosedFrom, unmarked, Swelled, SweptAt, SweptTo, Settled}
use Rattle.clash.proofs.Going.{stop-at, first_one, stop-inside, stop-after, names-one, words-one}
use Rattle.state_classes.proofs.Peeling.{differ}

-- ---- marked pairs of states are marked pairs of expressions

module _ {at : Places} {R S : Expr} {left right : List ℕ} {n : ℕ} {marks : List Bool} {a b : ℕ} {p : Pair} (s : Stop at R S a b p) where
  flag : Marked left right n marks a b → Flagged at R S left right n marks p
  flag m = record { place = m.place; low = m.low; stop = stop-at (sym m.pair.one) (sym m.pair.other) s; mark = m.mark }

  unflag : Flagged at R S left right n marks p → Marked left right n marks a b
  unflag f = record { place = f.place; low = f.low; pair = record { one = first_one f.stop.one s.one; other = first_one f.stop.two s.two }; mark = f.mark }

module _ {k classes left right ps qs : List ℕ} {at : Places} {n ones others : ℕ} {inner rest : List Bool} {a b : ℕ} {x y : Symbols} {r : Bool} (i : ℕ)
    (ea : a ≡ get_or left i 0) (eb : b ≡ get_or right i 0)
    (sx : Symboled k at.at at.end a ps x) (sy : Symboled k at.other at.last b qs y)
    (ex : ones ≡ x.count) (ey : others ≡ y.count)
    (g : Says (SomeOf k classes left right n inner rest ps ones qs others) r) where
  module _ (R S : Expr) (st : Stand k classes at R S) (p : Pair) (s : Stop at R S a b p) where
    one : Reads at.at R p.0 ps x.count
    one = sx.reads R st.beyond st.one st.one_end p.0 s.one.means

    two : Reads at.other S p.1 qs y.count
    two = sy.reads S st.further st.two st.two-end p.1 s.two.means

    to : SomeOf k classes left right n inner rest ps ones qs others → TwinsFlagged at R S left right n inner rest p
    to h =
        let l = h.low in
        let l2 = h.leads.low in
        let (m, u, t) = one.sound h.place (omega arith) in
        let (o, v, w) = two.sound h.leads.place (omega arith) in
        record {
          one = m;
          other = o;
          twins = record { one = u; other = v; name = names-one st t w h.leads.leads.same };
          inside = flag (stop-inside st t w) h.leads.leads.inside;
          after = flag (stop-after st t w) h.leads.leads.after;
        }

    from : TwinsFlagged at R S left right n inner rest p → SomeOf k classes left right n inner rest ps ones qs others
    from f =
        let (u, l, t) = one.whole f.one f.twins.one in
        let (v, h, w) = two.whole f.other f.twins.other in
        record {
          place = u;
          low = omega arith;
          leads = record {
            place = v;
            low = omega arith;
            leads = record { same = words-one st t w f.twins.name; inside = unflag (stop-inside st t w) f.inside; after = unflag (stop-after st t w) f.after };
          };
        }

    says : Says (TwinsFlagged at R S left right n inner rest p) r
    says = record { yes = λ e. to (g.yes e); not = λ e f. g.not e (from f) }

  pub leads-from : LeadsFrom k classes at left right n inner rest i r
  leads-from = record { each = λ R S st p s. says R S st p (stop-at (sym ea) (sym eb) s) }

-- ---- what is shared

shares-by : {at : Places} {R S : Expr} {left right : List ℕ} {n : ℕ} {marks : List Bool} {p : Pair} → Sound at R S left right n marks
    → TwinsFlagged at R S left right n marks marks p → Shares p
shares-by h f =
    more f.twins (h f.inside.place f.inside.low _ f.inside.stop f.inside.mark) (h f.after.place f.after.low _ f.after.stop f.after.mark)

-- ---- how many are not marked

set-true : (marks : List Bool) (i j : ℕ) → get_or marks j false ≡ true → get_or (set marks i true) j false ≡ true
set-true marks i j e = go (ℕ_discrete j i)
  where
    same : (f : List Bool) (i : ℕ) → get_or f i false ≡ true → get_or (set f i true) i false ≡ true
    same [] i e = e
    same (b ∷ f) ℕ.zero e = refl
    same (b ∷ f) (ℕ.suc i) e = same f i e

    go : Dec (j ≡ i) → get_or (set marks i true) j false ≡ true
    go (yes d) = subst (λ i. get_or (set marks i true) j false ≡ true) d (same marks j e)
    go (no d) = get_or-set_other marks i j true false d ∙ e

-- one that is not marked counts one
abbrev bit : Bool → ℕ
bit b = pick b 0 1

unmarked-same : (n : ℕ) (marks : List Bool) (i : ℕ) → n ≤ i → unmarked n (set marks i true) ≡ unmarked n marks
unmarked-same zero marks i h = refl
unmarked-same (suc n) marks i h =
    ap (λ b. bit b + unmarked n (set marks i true)) (get_or-set_other marks i n true false (omega arith)) ∙ ap (λ m. pick (get_or marks n false) 0 1 + m) (unmarked-same n marks i (omega arith))

unmarked-fewer : (n : ℕ) (marks : List Bool) (i : ℕ) → i < n → i < length marks → get_or marks i false ≡ false → unmarked n (set marks i true) < unmarked n marks
unmarked-fewer zero marks i h l e = absurd (omega arith)
unmarked-fewer (suc n) marks i h l e = go (ℕ_discrete i n) (λ m. unmarked-fewer n marks i m l e)
  where
    go : Dec (i ≡ n) → (i < n → unmarked n (set marks i true) < unmarked n marks) → pick (get_or (set marks i true) n false) 0 1 + unmarked n (set marks i true) < pick (get_or marks n false) 0 1 + unmarked n marks
    go (yes d) on =
        let x : bit (get_or (set marks i true) n false) ≡ 0 = ap bit (ap (λ j. get_or (set marks i true) j false) (sym d) ∙ get_or-set_same marks i true false l) in
        let y : bit (get_or marks n false) ≡ 1 = ap bit (ap (λ j. get_or marks j false) (sym d) ∙ e) in
        let z = unmarked-same n marks i (omega arith) in
        omega arith
    go (no d) on =
        let x = ap bit (get_or-set_other marks i n true false (omega arith)) in
        let z = on (omega arith) in
        omega arith

-- ---- a pair

swelled-none : {k classes : List ℕ} {at : Places} {left right : List ℕ} {n : ℕ} {marks : List Bool} → Swelled k classes at left right n marks marks
swelled-none = record { long = refl; keeps = λ i e. e; sound = λ R S st h. h }

module _ {k classes : List ℕ} {at : Places} {left right : List ℕ} {n i : ℕ} {marks : List Bool} where
  pub swept-old : get_or marks i false ≡ true → SweptAt k classes at left right n i marks marks false
  swept-old e = record { swelled = swelled-none; fewer = λ d. differ (sym d); quiet = λ d. refl; closed = λ d R S st p s f. e }

  pub swept_none : LeadsFrom k classes at left right n marks marks i false → SweptAt k classes at left right n i marks marks false
  swept_none g = record { swelled = swelled-none; fewer = λ d. differ (sym d); quiet = λ d. refl; closed = λ d R S st p s f. absurd ((g.each R S st p s).not refl f) }

  pub swept-new : i < n → i < length marks → get_or marks i false ≡ false → LeadsFrom k classes at left right n marks marks i true → SweptAt k classes at left right n i marks (set marks i true) true
  swept-new l h e g =
      record {
        swelled = record {
          long = length-set marks i true;
          keeps = λ j d. set-true marks i j d;
          sound = λ R S st w j m p s d. sound R S st w j m p s d (ℕ_discrete j i);
        };
        fewer = λ d. unmarked-fewer n marks i l h e;
        quiet = λ d. differ d;
        closed = λ d. differ d;
      }
    where
      sound : (R S : Expr) → Stand k classes at R S → Sound at R S left right n marks → (j : ℕ) → j < n → (p : Pair) → Stop at R S (get_or left j 0) (get_or right j 0) p
          → get_or (set marks i true) j false ≡ true → Dec (j ≡ i) → Shares p
      sound R S st w j m p s d (yes c) =
          shares-by w ((g.each R S st p (stop-at (ap (λ j. get_or left j 0) c) (ap (λ j. get_or right j 0) c) s)).yes refl)
      sound R S st w j m p s d (no c) = w j m p s (sym (get_or-set_other marks i j true false c) ∙ d)

-- ---- a sweep

-- sweep after sweep: where the last one was quiet, nothing more is to be marked
pub record Sweeping (k classes : List ℕ) (at : Places) (left right : List ℕ) (n : ℕ) (old marks : List Bool) (more : Bool) : Type 0 where
  pub swelled : Swelled k classes at left right n old marks
  pub closed : more ≡ false → (R S : Expr) → Stand k classes at R S → ClosedFrom 0 at R S left right n marks

module _ {k classes : List ℕ} {at : Places} {left right : List ℕ} {n : ℕ} where
  swelled-then : {old mid new : List Bool} → Swelled k classes at left right n old mid → Swelled k classes at left right n mid new → Swelled k classes at left right n old new
  swelled-then a b = record { long = b.long ∙ a.long; keeps = λ i e. b.keeps i (a.keeps i e); sound = λ R S st h. b.sound R S st (a.sound R S st h) }

  pub sweep-start : {marks : List Bool} → SweptTo n k classes at left right n marks marks false
  sweep-start =
      record {
        swelled = record { long = refl; keeps = λ i e. e; sound = λ R S st h. h };
        less = omega arith;
        fewer = λ d. differ (sym d);
        quiet = λ d. refl;
        closed = λ d R S st i l h. absurd (omega arith);
      }

  pub sweep-more : {i j : ℕ} {old mid new : List Bool} (r s : Bool) {t : Bool} → j ≡ i + 1 → SweptTo j k classes at left right n old mid r → SweptAt k classes at left right n i mid new s → t ≡ (r || s)
      → SweptTo i k classes at left right n old new t
  sweep-more {i} {j} {old} {mid} {new} true true d a b e =
      record {
        swelled = swelled-then a.swelled b.swelled;
        less = let x = a.fewer refl in let y = b.fewer refl in omega arith;
        fewer = λ c. let x = a.fewer refl in let y = b.fewer refl in omega arith;
        quiet = λ c. differ (sym e ∙ c);
        closed = λ c. differ (sym e ∙ c);
      }
  sweep-more {i} {j} {old} {mid} {new} true false d a b e =
      let z = ap (unmarked n) (b.quiet refl) in
      record {
        swelled = swelled-then a.swelled b.swelled;
        less = let x = a.fewer refl in omega arith;
        fewer = λ c. let x = a.fewer refl in omega arith;
        quiet = λ c. differ (sym e ∙ c);
        closed = λ c. differ (sym e ∙ c);
      }
  sweep-more {i} {j} {old} {mid} {new} false true d a b e =
      record {
        swelled = swelled-then a.swelled b.swelled;
        less = let x = a.less in let y = b.fewer refl in omega arith;
        fewer = λ c. let x = a.less in let y = b.fewer refl in omega arith;
        quiet = λ c. differ (sym e ∙ c);
        closed = λ c. differ (sym e ∙ c);
      }
  sweep-more {i} {j} {old} {mid} {new} false false d a b e =
      let z = ap (unmarked n) (b.quiet refl) in
      record {
        swelled = swelled-then a.swelled b.swelled;
        less = let x = a.less in omega arith;
        fewer = λ c. differ (sym c ∙ e);
        quiet = λ c. b.quiet refl ∙ a.quiet refl;
        closed = λ c R S st u l h p s f. go R S st u l h p s f (ℕ_discrete u i);
      }
    where
      go : (R S : Expr) → Stand k classes at R S → (u : ℕ) → i ≤ u → u < n → (p : Pair) → Stop at R S (get_or left u 0) (get_or right u 0) p
          → TwinsFlagged at R S left right n new new p → Dec (u ≡ i) → get_or new u false ≡ true
      go R S st u l h p s f (yes c) =
          ap (λ u. get_or new u false) c ∙ b.closed refl R S st p (stop-at (ap (λ u. get_or left u 0) c) (ap (λ u. get_or right u 0) c) s) f
      go R S st u l h p s f (no c) =
          ap (λ m. get_or m u false) (b.quiet refl) ∙ a.closed refl R S st u (omega arith) h p s (subst (λ m. TwinsFlagged at R S left right n m m p) (b.quiet refl) f)

  pub swept_all : {i : ℕ} {old new : List Bool} {r : Bool} → i ≡ 0 → SweptTo i k classes at left right n old new r → SweptTo 0 k classes at left right n old new r
  swept_all {i} {old} {new} {r} e s = subst (λ i. SweptTo i k classes at left right n old new r) e s

  pub sweeping-start : {marks : List Bool} → Sweeping k classes at left right n marks marks true
  sweeping-start = record { swelled = record { long = refl; keeps = λ i e. e; sound = λ R S st h. h }; closed = λ e. differ e }

  pub sweeping-more : {old mid new : List Bool} {m r : Bool} → Sweeping k classes at left right n old mid m → SweptTo 0 k classes at left right n mid new r → Sweeping k classes at left right n old new r
  sweeping-more a b = record { swelled = swelled-then a.swelled b.swelled; closed = b.closed }

  pub sweeping-less : {mid new : List Bool} (m r : Bool) → m ≡ true → SweptTo 0 k classes at left right n mid new r → unmarked n new + pick r 1 0 < unmarked n mid + pick m 1 0
  sweeping-less true true e s = let x = s.fewer refl in omega arith
  sweeping-less true false e s = let x = s.less in omega arith
  sweeping-less false r e s = differ (sym e)

  pub settled : {old new : List Bool} {m : Bool} → Sweeping k classes at left right n old new m → m ≡ false → Settled k classes at left right n old new
  settled s e = record { swelled = s.swelled; closed = s.closed e }
