-- From a pair of states on: the pairs that the code lists are those that the walk goes on to.
use Prim.Native.Nat.{ℕ, ◌+◌, ◌*◌, ◌<◌, ◌≤◌}
use mathlib.Core.Path.{◌≡◌, refl, sym, ◌∙◌, ap, subst}
use mathlib.Core.Logic.{inl, inr}
use mathlib.Core.Bool.{Bool, false, ◌&&◌}
use mathlib.Core.List.{List, Memᴰ}
use native.Mathlib.Omega.{arith}
use native.Mathlib.Decide.{dec_lt, ℕ_discrete}
use lib.ListN.{length, get_or, set}
use lib.Seq.{get_or-set_same, get_or-set_other}
use Rattle.language.specs.Limits.{walked_pairs}
use Rattle.language.specs.declared.Sym.{Sym}
use Rattle.language.specs.Trees.{Expr}
use Rattle.language.specs.Writing.{expr_words}
use Rattle.rules.specs.Expressions.{nullable, Monomial}
use Rattle.rules.specs.Walk.{Pair, onward}
use Rattle.walk.specs.Reach.{Twins, Reach}
use Rattle.walk.proofs.Onward.{On, of-onward, in-onward}
use Rattle.walk.proofs.Reached.{reach-on}
use Rattle.expressions.specs.Standing.{Here}
use Rattle.clash.specs.declared.symbols.Symbols.{Symbols}
use Rattle.clash.specs.declared.walking.Places.{Places}
use Rattle.state_classes.specs.States.{Means, inside, after}
use Rattle.state_classes.specs.Classes.{FirstState, Tabled}
use Rattle.clash.specs.Symbols.{Takes, Reads, Symboled}
use Rattle.clash.specs.Chains.{Kept, Grown}
use Rattle.clash.specs.Walking.{Step, TwinOf, Stand, Stop, Lists, Walked, Went, Gone}
use Rattle.state_classes.proofs.Meanings.{spot-word, spotted-place, spotted-stands}
use Rattle.state_classes.proofs.Classing.{place-to}

-- ---- a symbol that takes a monomial

module _ {at : ℕ} {R : Expr} {j : ℕ} {m : Monomial} (t : Takes at R j m) where
  takes-inside : Means at R (2 * j + 2) m.inner
  takes-inside = inside j t.level t.spot t.spotted (omega arith) (ap (λ m. m.inner) t.is)

  takes-after : Means at R (2 * j + 1) m.rest
  takes-after = after j t.level t.spot t.spotted (omega arith) (ap (λ m. m.rest) t.is)

  takes_low : j < at + length (expr_words R)
  takes_low = place-to at R j t.level t.spot t.spotted

  takes-word : (k w : List ℕ) → Here k at R w → get_or k j 0 ≡ 3000 + m.name.0
  takes-word k w h =
      ap (λ i. get_or k i 0) (sym (spotted-place at R j t.level t.spot t.spotted))
      ∙ spot-word k t.level t.spot (spotted-stands at R j t.level t.spot t.spotted k (w, h))
      ∙ ap (λ m. 3000 + m.name.0) (sym t.is)

  first-inside : {k w classes : List ℕ} {end : ℕ} → Here k at R w → end ≡ at + length (expr_words R) → Tabled k at (2 * end + 1) classes → FirstState at R (get_or classes (2 * j + 2) 0) m.inner
  first-inside {w = w} h e c = let l = takes_low in c.each R w h (2 * j + 2) (omega arith) m.inner takes-inside

  first-after : {k w classes : List ℕ} {end : ℕ} → Here k at R w → end ≡ at + length (expr_words R) → Tabled k at (2 * end + 1) classes → FirstState at R (get_or classes (2 * j + 1) 0) m.rest
  first-after {w = w} h e c = let l = takes_low in c.each R w h (2 * j + 1) (omega arith) m.rest takes-after

one_name : (f g : Sym) → f.0 ≡ g.0 → f ≡ g
one_name f g e = ap (λ n. record { 0 = n }) e

-- the first state is one
pub first_one : {at : ℕ} {R : Expr} {c d : ℕ} {X : Expr} → FirstState at R c X → FirstState at R d X → c ≡ d
first_one {c = c} {d} x y = go (dec_lt c d) (dec_lt d c)
  where
    go : Dec (c < d) → Dec (d < c) → c ≡ d
    go (yes l) m = absurd (y.least c l x.means)
    go (no l) (yes m) = absurd (x.least d m y.means)
    go (no l) (no m) = omega arith

-- ---- two symbols

module _ {k classes : List ℕ} {at : Places} {R S : Expr} (st : Stand k classes at R S) where
  -- the pair of what is inside them, and that of what is left
  module _ {i j : ℕ} {m n : Monomial} (x : Takes at.at R i m) (y : Takes at.other S j n) where
    pub stop-inside : Stop at R S (get_or classes (2 * i + 2) 0) (get_or classes (2 * j + 2) 0) (m.inner, n.inner)
    stop-inside = record { one = first-inside x st.one st.one_end st.one-classes; two = first-inside y st.two st.two-end st.two-classes }

    pub stop-after : Stop at R S (get_or classes (2 * i + 1) 0) (get_or classes (2 * j + 1) 0) (m.rest, n.rest)
    stop-after = record { one = first-after x st.one st.one_end st.one-classes; two = first-after y st.two st.two-end st.two-classes }

    pub names-one : get_or k i 0 ≡ get_or k j 0 → m.name ≡ n.name
    names-one e =
        let a = takes-word x k st.beyond st.one in
        let b = takes-word y k st.further st.two in
        one_name m.name n.name (omega arith)

    pub words-one : m.name ≡ n.name → get_or k i 0 ≡ get_or k j 0
    words-one e = takes-word x k st.beyond st.one ∙ ap (λ f. 3000 + f.0) e ∙ sym (takes-word y k st.further st.two)

  module _ (p : Pair) (ps qs : List ℕ) (ones others : ℕ) (x : Reads at.at R p.0 ps ones) (y : Reads at.other S p.1 qs others) where
    -- what is listed is gone on to
    twin-stop : (a b : ℕ) → TwinOf k classes ps ones qs others a b → (q : Pair) × Stop at R S a b q × Memᴰ q (onward p)
    twin-stop a b t =
        let (m, i, u) = x.sound t.place t.low in
        let (n, j, v) = y.sound t.twin.place t.twin.low in
        let w : Twins p m n = record { one = i; other = j; name = names-one u v t.twin.twin.same } in
        elim t.twin.twin.pair [
          | inl (e, d) ↦ ((m.inner, n.inner), subst (λ a. Stop at R S a b (m.inner, n.inner)) (sym e) (subst (λ b. Stop at R S (get_or classes (2 * get_or ps t.place 0 + 2) 0) b (m.inner, n.inner)) (sym d) (stop-inside u v)), in-onward p (m, n, w, inl refl))
          | inr (e, d) ↦ ((m.rest, n.rest), subst (λ a. Stop at R S a b (m.rest, n.rest)) (sym e) (subst (λ b. Stop at R S (get_or classes (2 * get_or ps t.place 0 + 1) 0) b (m.rest, n.rest)) (sym d) (stop-after u v)), in-onward p (m, n, w, inr refl))
        ]

    -- and the other way round
    twin-listed : (q : Pair) → Memᴰ q (onward p) → (a : ℕ) × (b : ℕ) × TwinOf k classes ps ones qs others a b × Stop at R S a b q
    twin-listed q h = go (of-onward p h)
      where
        go : On p q → (a : ℕ) × (b : ℕ) × TwinOf k classes ps ones qs others a b × Stop at R S a b q
        go (m, n, t, inl e) =
            let (i, l, u) = x.whole m t.one in
            let (j, h, v) = y.whole n t.other in (
              get_or classes (2 * get_or ps i 0 + 2) 0,
              get_or classes (2 * get_or qs j 0 + 2) 0,
              record { place = i; low = l; twin = record { place = j; low = h; twin = record { same = words-one u v t.name; pair = inl (refl, refl) } } },
              subst (Stop at R S (get_or classes (2 * get_or ps i 0 + 2) 0) (get_or classes (2 * get_or qs j 0 + 2) 0)) (sym e) (stop-inside u v),
            )
        go (m, n, t, inr e) =
            let (i, l, u) = x.whole m t.one in
            let (j, h, v) = y.whole n t.other in (
              get_or classes (2 * get_or ps i 0 + 1) 0,
              get_or classes (2 * get_or qs j 0 + 1) 0,
              record { place = i; low = l; twin = record { place = j; low = h; twin = record { same = words-one u v t.name; pair = inr (refl, refl) } } },
              subst (Stop at R S (get_or classes (2 * get_or ps i 0 + 1) 0) (get_or classes (2 * get_or qs j 0 + 1) 0)) (sym e) (stop-after u v),
            )

pub stop-at : {at : Places} {R S : Expr} {a b c d : ℕ} {p : Pair} → a ≡ c → b ≡ d → Stop at R S a b p → Stop at R S c d p
stop-at {at} {R} {S} {a} {b} {c} {d} {p} e f s = subst (λ a. Stop at R S a d p) e (subst (λ b. Stop at R S a b p) f s)

-- ---- one step of the walk

module _ {k classes : List ℕ} {at : Places} {a b : ℕ} {left right left' right' ps qs : List ℕ} {n m : ℕ} {x y : Symbols}
    (sx : Symboled k at.at at.end a ps x) (sy : Symboled k at.other at.last b qs y)
    (g : Grown (TwinOf k classes ps x.count qs y.count) left right n left' right' (m)) where
  module _ (R S : Expr) (st : Stand k classes at R S) (p : Pair) (s : Stop at R S a b p) where
    read_one : Reads at.at R p.0 ps x.count
    read_one = sx.reads R st.beyond st.one st.one_end p.0 s.one.means

    read-two : Reads at.other S p.1 qs y.count
    read-two = sy.reads S st.further st.two st.two-end p.1 s.two.means

    walked_on : Reach R S p → Walked at R S left right n → Walked at R S left' right' (m)
    walked_on h w = record { each = λ i l. go i l (dec_lt i n) }
      where
        go : (i : ℕ) → i < m → Dec (i < n) → (q : Pair) × Stop at R S (get_or left' i 0) (get_or right' i 0) q × Reach R S q
        go i l (yes z) = let (q, u, v) = w.each i z in (q, stop-at (sym (g.kept.lefts i z)) (sym (g.kept.rights i z)) u, v)
        go i l (no z) =
            let (q, u, v) = twin-stop st p ps qs x.count y.count read_one read-two (get_or left' i 0) (get_or right' i 0) (g.new i (omega arith) l) in
            (q, u, reach-on R S p q h v)

    listed-on : m ≤ walked_pairs → (q : Pair) → Memᴰ q (onward p) → Lists at R S left' right' (m) q
    listed-on l q h =
        let (c, d, t, u) = twin-listed st p ps qs x.count y.count read_one read-two q h in
        let (i, z, w) = g.there l c d t in
        record { place = i; low = z; stop = stop-at (sym w.one) (sym w.other) u }

  pub went : {z : Bool} → z ≡ (x.null && y.null) → Went k classes at a b left right n left' right' (record { count = m; null = z })
  went e =
      record {
        more = g.more;
        kept = g.kept;
        walked = λ R S st p s h w. walked_on R S st p s h w;
        on = λ R S st p s l q h. listed-on R S st p s l q h;
        null = λ R S st p s.
            let u = sx.null R st.beyond st.one p.0 s.one.means in
            let v = sy.null S st.further st.two p.1 s.two.means in
            e ∙ ap (λ z. z && y.null) u ∙ ap (λ z. nullable p.0 && z) v;
      }

-- ---- the whole walk

-- the pairs before i are gone on from
pub record Walks (k classes : List ℕ) (at : Places) (left₀ right₀ left right : List ℕ) (empty : List Bool) (n i : ℕ) : Type 0 where
  pub low : i ≤ n
  pub some : 1 ≤ n
  pub kept : Kept left₀ right₀ 1 left right
  pub walked : (R S : Expr) → Stand k classes at R S → Walked at R S left₀ right₀ 1 → Walked at R S left right n
  pub on : (R S : Expr) → Stand k classes at R S → Walked at R S left₀ right₀ 1 → n ≤ walked_pairs → (j : ℕ) → j < i → (p : Pair) → Stop at R S (get_or left j 0) (get_or right j 0) p
      → (q : Pair) → Memᴰ q (onward p) → Lists at R S left right n q
  pub null : (R S : Expr) → Stand k classes at R S → Walked at R S left₀ right₀ 1 → (j : ℕ) → j < i → (p : Pair) → Stop at R S (get_or left j 0) (get_or right j 0) p
      → get_or empty j false ≡ (nullable p.0 && nullable p.1)

walks-start : {k classes : List ℕ} {at : Places} {left right : List ℕ} {empty : List Bool} → Walks k classes at left right left right empty 1 0
walks-start =
    record {
      low = omega arith;
      some = omega arith;
      kept = record { lefts = λ i l. refl; rights = λ i l. refl };
      walked = λ R S st w. w;
      on = λ R S st w l j z. absurd (omega arith);
      null = λ R S st w j z. absurd (omega arith);
    }

-- where the first pair alone is met
pub walks-first : {k classes : List ℕ} {at : Places} {left right : List ℕ} {empty : List Bool} {n : ℕ} → n ≡ 1 → Walks k classes at left right left right empty n 0
walks-first {k} {classes} {at} {left} {right} {empty} e = subst (λ n. Walks k classes at left right left right empty n 0) (sym e) walks-start

module _ {k classes : List ℕ} {at : Places} {left₀ right₀ left right left' right' : List ℕ} {empty : List Bool} {n i a b : ℕ} {r : Step}
    (w : Walks k classes at left₀ right₀ left right empty n i) (l : i < n) (ea : a ≡ get_or left i 0) (eb : b ≡ get_or right i 0) (g : Went k classes at a b left right n left' right' r)
    (room : i < length empty) where
  back : (R S : Expr) (j : ℕ) → j < n → {p : Pair} → Stop at R S (get_or left' j 0) (get_or right' j 0) p → Stop at R S (get_or left j 0) (get_or right j 0) p
  back R S j h s = stop-at (g.kept.lefts j h) (g.kept.rights j h) s

  here : (R S : Expr) (j : ℕ) → j ≡ i → {p : Pair} → Stop at R S (get_or left' j 0) (get_or right' j 0) p → Stop at R S a b p
  here R S j e s = stop-at (ap (λ j. get_or left j 0) e ∙ sym ea) (ap (λ j. get_or right j 0) e ∙ sym eb) (back R S j (omega arith) s)

  pub walks_more : Walks k classes at left₀ right₀ left' right' (set empty i r.null) r.count (i + 1)
  walks_more =
      record {
        low = let x = g.more in omega arith;
        some = let x = g.more in let y = w.some in omega arith;
        kept = let y = w.some in record {
          lefts = λ j h. g.kept.lefts j (omega arith) ∙ w.kept.lefts j h;
          rights = λ j h. g.kept.rights j (omega arith) ∙ w.kept.rights j h;
        };
        walked = λ R S st v.
            let u = w.walked R S st v in
            let (p, s, h) = u.each i l in
            g.walked R S st p (stop-at (sym ea) (sym eb) s) h u;
        on = λ R S st v z j h p s q m. on R S st v z j h p s q m (ℕ_discrete j i);
        null = λ R S st v j h p s. null R S st v j h p s (ℕ_discrete j i);
      }
    where
      on : (R S : Expr) → Stand k classes at R S → Walked at R S left₀ right₀ 1 → r.count ≤ walked_pairs → (j : ℕ) → j < i + 1 → (p : Pair)
          → Stop at R S (get_or left' j 0) (get_or right' j 0) p → (q : Pair) → Memᴰ q (onward p) → Dec (j ≡ i) → Lists at R S left' right' r.count q
      on R S st v z j h p s q m (yes e) = g.on R S st p (here R S j e s) z q m
      on R S st v z j h p s q m (no e) =
          let x = g.more in
          let u = w.on R S st v (omega arith) j (omega arith) p (back R S j (omega arith) s) q m in
          let y = u.low in
          record { place = u.place; low = omega arith; stop = stop-at (sym (g.kept.lefts u.place u.low)) (sym (g.kept.rights u.place u.low)) u.stop }

      null : (R S : Expr) → Stand k classes at R S → Walked at R S left₀ right₀ 1 → (j : ℕ) → j < i + 1 → (p : Pair)
          → Stop at R S (get_or left' j 0) (get_or right' j 0) p → Dec (j ≡ i) → get_or (set empty i r.null) j false ≡ (nullable p.0 && nullable p.1)
      null R S st v j h p s (yes e) =
          ap (λ j. get_or (set empty i r.null) j false) e ∙ get_or-set_same empty i r.null false room ∙ g.null R S st p (here R S j e s)
      null R S st v j h p s (no e) = get_or-set_other empty i j r.null false e ∙ w.null R S st v j (omega arith) p (back R S j (omega arith) s)

-- too many, or all
module _ {k classes : List ℕ} {at : Places} {left₀ right₀ left right : List ℕ} {empty : List Bool} {n i : ℕ} (w : Walks k classes at left₀ right₀ left right empty n i) where
  pub gone_long : walked_pairs < n → Gone k classes at left₀ right₀ left right empty n
  gone_long h =
      record {
        kept = w.kept;
        some = w.some;
        walked = w.walked;
        on = λ R S st v l. absurd (omega arith);
        null = λ R S st v l. absurd (omega arith);
      }

  pub gone-all : n ≤ i → Gone k classes at left₀ right₀ left right empty n
  gone-all h =
      record {
        kept = w.kept;
        some = w.some;
        walked = w.walked;
        on = λ R S st v l j m. w.on R S st v l j (omega arith);
        null = λ R S st v l j m. w.null R S st v j (omega arith);
      }
