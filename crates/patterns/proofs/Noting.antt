-- Numbers in the order in which they first appear, and the table that is kept of them.
use Prim.Native.Nat.{ℕ, zero, suc, ◌+◌, ◌<◌, ◌≤◌}
use mathlib.Core.Path.{◌≡◌, refl, sym, ap, subst, ◌∙◌}
use mathlib.Core.Bool.{Bool, true, false, ◌||◌}
use mathlib.Core.List.{List, [], ◌∷◌, ◌++◌}
use native.Mathlib.Omega.{arith}
use native.Mathlib.Numerals.{add-one}
use borrow.Author.Tests.{eq-eqb, ne_eqb, eqb-true, eqb-false}
use lib.Dec.{eqb}
use lib.ListN.{length, get_or, set, take, length-append, length-set}
use lib.Seq.{get_or-set_same, get_or-set_other, take-suc, take_all}
use Rattle.language.specs.declared.Kind.{Kind}
use Rattle.language.specs.declared.Kind.TheVariants.{End, Term, Run, Symbol, Function, Equation, Membership, Eps, Cat, Alt, Star, Other}
use Rattle.language.specs.declared.TermVar.{TermVar}
use Rattle.language.specs.declared.HedgeVar.{HedgeVar}
use Rattle.language.specs.declared.FunVar.{FunVar}
use Rattle.language.specs.Limits.{desk}
use Rattle.language.specs.Kinds.{pick, kind_of}
use Rattle.language.proofs.Arms.{Among, each-kind}
use Rattle.language.proofs.Words.{Is, term, run, function, is}
use Rattle.patterns.specs.declared.Numbers.{Numbers}
use Rattle.patterns.specs.Blanks.{among, before, noted, Blanks, no_blanks, noted_on, blanks_from, blanks_in}
use Rattle.patterns.specs.Tables.{at_hedges, at_functions, entry, Tabled, NotedAs, Noted}

-- ---- one more

among-more : (y x : ℕ) (xs : List ℕ) → among y (xs ++ (x ∷ [])) ≡ (among y xs || eqb x y)
among-more y x [] = or-false (eqb x y)
  where
    or-false : (b : Bool) → (b || false) ≡ (false || b)
    or-false true = refl
    or-false false = refl
among-more y x (z ∷ zs) = ap (λ b. eqb z y || b) (among-more y x zs) ∙ sym (or_assoc (eqb z y))
  where
    or_assoc : (b : Bool) → ((b || among y zs) || eqb x y) ≡ (b || (among y zs || eqb x y))
    or_assoc true = refl
    or_assoc false = refl

false≢true : {A : Type 0} → ◌≡◌ {A = Bool} false true → A
false≢true e = absurd (let z : ◌≡◌ {A = ℕ} 0 1 = cc in omega arith)

before-old : (y x : ℕ) (xs : List ℕ) → among y xs ≡ true → before y (xs ++ (x ∷ [])) ≡ before y xs
before-old y x [] e = false≢true e
before-old y x (z ∷ zs) e = go (before-old y x zs) (eqb z y) e
  where
    go : (among y zs ≡ true → before y (zs ++ (x ∷ [])) ≡ before y zs) → (b : Bool) → (b || among y zs) ≡ true → pick b 0 (suc (before y (zs ++ (x ∷ [])))) ≡ pick b 0 (suc (before y zs))
    go rest true e = refl
    go rest false e = ap suc (rest e)

before-new : (x : ℕ) (xs : List ℕ) → among x xs ≡ false → before x (xs ++ (x ∷ [])) ≡ length xs
before-new x [] e = rw (eq-eqb x x refl) refl
before-new x (z ∷ zs) e = go (before-new x zs) (eqb z x) e
  where
    go : (among x zs ≡ false → before x (zs ++ (x ∷ [])) ≡ length zs) → (b : Bool) → (b || among x zs) ≡ false → pick b 0 (suc (before x (zs ++ (x ∷ [])))) ≡ suc (length zs)
    go rest true e = false≢true (sym e)
    go rest false e = ap suc (rest e)

entry_of : (y : ℕ) (xs : List ℕ) (b : Bool) → among y xs ≡ b → entry y xs ≡ pick b (suc (before y xs)) 0
entry_of y xs b e = ap (λ b. pick b (suc (before y xs)) 0) e

-- a number that stands there has fewer before it than there are
fewer : (y : ℕ) (xs : List ℕ) → among y xs ≡ true → before y xs < length xs
fewer y [] e = false≢true e
fewer y (z ∷ zs) e = go (fewer y zs) (eqb z y) e
  where
    go : (among y zs ≡ true → before y zs < length zs) → (b : Bool) → (b || among y zs) ≡ true → pick b 0 (suc (before y zs)) < suc (length zs)
    go rest true e = omega arith
    go rest false e = let h = rest e in omega arith

pub there : (y : ℕ) (xs : List ℕ) → among y xs ≡ true → (entry y xs ≡ suc (before y xs)) × (before y xs < length xs)
there y xs e = (entry_of y xs true e, fewer y xs e)

-- and stands at that place
pub found_back : (y : ℕ) (xs : List ℕ) → among y xs ≡ true → get_or xs (before y xs) 0 ≡ y
found_back y [] e = false≢true e
found_back y (z ∷ zs) e = go (found_back y zs) (eqb z y) refl e
  where
    go : (among y zs ≡ true → get_or zs (before y zs) 0 ≡ y) → (b : Bool) → eqb z y ≡ b → (b || among y zs) ≡ true → get_or (z ∷ zs) (pick b 0 (suc (before y zs))) 0 ≡ y
    go rest true d e = eqb-true z y d
    go rest false d e = rest e

-- what a new one changes
entry_new : (x : ℕ) (xs : List ℕ) → among x xs ≡ false → entry x (xs ++ (x ∷ [])) ≡ suc (length xs)
entry_new x xs e =
    let a : among x (xs ++ (x ∷ [])) ≡ true = among-more x x xs ∙ rw (e, eq-eqb x x refl) refl in
    entry_of x (xs ++ (x ∷ [])) true a ∙ ap suc (before-new x xs e)

entry_other : (y x : ℕ) (xs : List ℕ) → (y ≡ x → ⊥) → entry y (xs ++ (x ∷ [])) ≡ entry y xs
entry_other y x xs n = go (among y xs) refl
  where
    off : eqb x y ≡ false
    off = ne_eqb x y (λ e. n (sym e))

    go : (b : Bool) → among y xs ≡ b → entry y (xs ++ (x ∷ [])) ≡ entry y xs
    go true e = entry_of y (xs ++ (x ∷ [])) true (among-more y x xs ∙ rw e refl) ∙ ap suc (before-old y x xs e) ∙ sym (entry_of y xs true e)
    go false e = entry_of y (xs ++ (x ∷ [])) false (among-more y x xs ∙ rw (e, off) refl) ∙ sym (entry_of y xs false e)

-- ---- the places of one kind, each by its number

module _ (t : List ℕ) (at : ℕ → ℕ) (x count : ℕ) (xs : List ℕ) (rows : (y : ℕ) → y < desk.each → get_or t (at y) 0 ≡ entry y xs) (p : x < desk.each) (inside : at x < length t)
    (own : (y : ℕ) → at y ≡ at x → y ≡ x) (e : count ≡ length xs) (r : ℕ) (t' : List ℕ)
    (er : r ≡ pick (eqb (get_or t (at x) 0) 0) (count + 1) count) (et : t' ≡ pick (eqb (get_or t (at x) 0) 0) (set t (at x) (count + 1)) t) where
  -- what the empty place says
  abbrev Comes : List ℕ → Type 0
  Comes ys = (r ≡ length ys) × ((y : ℕ) → y < desk.each → get_or t' (at y) 0 ≡ entry y ys) × (length t' ≡ length t)

  old : among x xs ≡ true → Comes xs
  old a =
      let z : eqb (get_or t (at x) 0) 0 ≡ false = ne_eqb _ _ (λ n. let h = rows x p ∙ (there x xs a).0 in let m : suc (before x xs) ≡ 0 = sym h ∙ n in omega arith) in
      let f : t' ≡ t = et ∙ rw z refl in
      (er ∙ rw z e, λ y q. ap (λ t. get_or t (at y) 0) f ∙ rows y q, ap length f)

  new : among x xs ≡ false → Comes (xs ++ (x ∷ []))
  new a =
      let z : eqb (get_or t (at x) 0) 0 ≡ true = eq-eqb _ _ (rows x p ∙ entry_of x xs false a) in
      let f : t' ≡ set t (at x) (count + 1) = et ∙ rw z refl in
      let n : length (xs ++ (x ∷ [])) ≡ length xs + 1 = length-append xs (x ∷ []) in
      (er ∙ rw z (omega arith), λ y q. ap (λ t. get_or t (at y) 0) f ∙ row y q (eqb y x) refl, ap length f ∙ length-set t (at x) (count + 1))
    where
      row : (y : ℕ) → y < desk.each → (b : Bool) → eqb y x ≡ b → get_or (set t (at x) (count + 1)) (at y) 0 ≡ entry y (xs ++ (x ∷ []))
      row y q true b =
          let same = eqb-true y x b in
          ap (λ y. get_or (set t (at x) (count + 1)) (at y) 0) same ∙ get_or-set_same t (at x) (count + 1) 0 inside ∙ (let s : count + 1 ≡ suc (length xs) = omega arith in s) ∙ sym (entry_new x xs a)
          ∙ ap (λ y. entry y (xs ++ (x ∷ []))) (sym same)
      row y q false b =
          let off = eqb-false y x b in
          get_or-set_other t (at x) (at y) (count + 1) 0 (λ s. off (own y s)) ∙ rows y q ∙ sym (entry_other y x xs off)

  pub row-noted : Comes (noted x xs)
  row-noted = go (among x xs) refl
    where
      go : (b : Bool) → among x xs ≡ b → Comes (pick b xs (xs ++ (x ∷ [])))
      go true a = old a
      go false a = new a

  -- and the places of the other kinds stay
  pub row_stays : (j : ℕ) → (j ≡ at x → ⊥) → get_or t' j 0 ≡ get_or t j 0
  row_stays j n = go (eqb (get_or t (at x) 0) 0) et
    where
      go : (b : Bool) → t' ≡ pick b (set t (at x) (count + 1)) t → get_or t' j 0 ≡ get_or t j 0
      go true f = ap (λ t. get_or t j 0) f ∙ get_or-set_other t (at x) j (count + 1) 0 n
      go false f = ap (λ t. get_or t j 0) f

-- ---- every blank among words is noted

abbrev pub AmongOn : Blanks → Kind → Type 0
AmongOn c (Term x) = among x.0 c.terms ≡ true
AmongOn c (Run p) = among p.0 c.hedges ≡ true
AmongOn c (Function X) = among X.0 c.functions ≡ true
AmongOn c (Symbol f) = Unit {0}
AmongOn c End = Unit {0}
AmongOn c Equation = Unit {0}
AmongOn c Membership = Unit {0}
AmongOn c Eps = Unit {0}
AmongOn c Cat = Unit {0}
AmongOn c Alt = Unit {0}
AmongOn c Star = Unit {0}
AmongOn c Other = Unit {0}

abbrev pub AllIn : Blanks → List ℕ → Type 0
AllIn c [] = Unit {0}
AllIn c (w ∷ ws) = AmongOn c (kind_of desk w) × AllIn c ws

pub all-at : (c : Blanks) (ws : List ℕ) → AllIn c ws → (i : ℕ) → i < length ws → AmongOn c (kind_of desk (get_or ws i 0))
all-at c [] a i p = absurd (omega arith)
all-at c (w ∷ ws) a zero p = a.0
all-at c (w ∷ ws) a (suc i) p = all-at c ws a.1 i (omega arith)

pub all-parts : (c : Blanks) (us vs : List ℕ) → AllIn c (us ++ vs) → AllIn c us × AllIn c vs
all-parts c [] vs a = (tt, a)
all-parts c (u ∷ us) vs a = let (p, q) = all-parts c us vs a.1 in ((a.0, p), q)

-- what is noted stays, and what is to be noted is
stays-noted : (y x : ℕ) (xs : List ℕ) → among y xs ≡ true → among y (noted x xs) ≡ true
stays-noted y x xs e = go (among x xs)
  where
    go : (b : Bool) → among y (pick b xs (xs ++ (x ∷ []))) ≡ true
    go true = e
    go false = among-more y x xs ∙ rw e refl

is-noted : (x : ℕ) (xs : List ℕ) → among x (noted x xs) ≡ true
is-noted x xs = go (among x xs) refl
  where
    or-true : (b : Bool) → (b || true) ≡ true
    or-true true = refl
    or-true false = refl

    go : (b : Bool) → among x xs ≡ b → among x (pick b xs (xs ++ (x ∷ []))) ≡ true
    go true e = e
    go false e = among-more x x xs ∙ rw (eq-eqb x x refl) (or-true (among x xs))

pub record In (b c : Blanks) : Type 0 where
  pub terms : (x : ℕ) → among x b.terms ≡ true → among x c.terms ≡ true
  pub hedges : (x : ℕ) → among x b.hedges ≡ true → among x c.hedges ≡ true
  pub functions : (x : ℕ) → among x b.functions ≡ true → among x c.functions ≡ true

in_on : (b c : Blanks) → In b c → (k : Kind) → AmongOn b k → AmongOn c k
in_on b c i (Term x) a = i.terms x.0 a
in_on b c i (Run p) a = i.hedges p.0 a
in_on b c i (Function X) a = i.functions X.0 a
in_on b c i (Symbol f) a = tt
in_on b c i End a = tt
in_on b c i Equation a = tt
in_on b c i Membership a = tt
in_on b c i Eps a = tt
in_on b c i Cat a = tt
in_on b c i Alt a = tt
in_on b c i Star a = tt
in_on b c i Other a = tt

in-self : (b : Blanks) → In b b
in-self b = record { terms = λ x e. e; hedges = λ x e. e; functions = λ x e. e }

in_then : (a b c : Blanks) → In a b → In b c → In a c
in_then a b c i j = record { terms = λ x e. j.terms x (i.terms x e); hedges = λ x e. j.hedges x (i.hedges x e); functions = λ x e. j.functions x (i.functions x e) }

in-noted : (b : Blanks) (k : Kind) → In b (noted_on k b) × AmongOn (noted_on k b) k
in-noted b (Term x) = (record { terms = λ y e. stays-noted y x.0 b.terms e; hedges = λ y e. e; functions = λ y e. e }, is-noted x.0 b.terms)
in-noted b (Run x) = (record { terms = λ y e. e; hedges = λ y e. stays-noted y x.0 b.hedges e; functions = λ y e. e }, is-noted x.0 b.hedges)
in-noted b (Function x) = (record { terms = λ y e. e; hedges = λ y e. e; functions = λ y e. stays-noted y x.0 b.functions e }, is-noted x.0 b.functions)
in-noted b (Symbol f) = (in-self b, tt)
in-noted b End = (in-self b, tt)
in-noted b Equation = (in-self b, tt)
in-noted b Membership = (in-self b, tt)
in-noted b Eps = (in-self b, tt)
in-noted b Cat = (in-self b, tt)
in-noted b Alt = (in-self b, tt)
in-noted b Star = (in-self b, tt)
in-noted b Other = (in-self b, tt)

from_in : (b : Blanks) (ws : List ℕ) → In b (blanks_from b ws) × AllIn (blanks_from b ws) ws
unfolding blanks_from
from_in b [] = (in-self b, tt)
from_in b (w ∷ ws) =
    let c = noted_on (kind_of desk w) b in
    let (i, a) = in-noted b (kind_of desk w) in
    let (j, rest) = from_in c ws in
    (in_then b c _ i j, (in_on c _ j (kind_of desk w) a, rest))

pub blanks-in : (ws : List ℕ) → AllIn (blanks_in ws) ws
blanks-in ws = (from_in no_blanks ws).1

-- ---- the blanks of words

blanks-more : (b : Blanks) (ws : List ℕ) (w : ℕ) → blanks_from b (ws ++ (w ∷ [])) ≡ noted_on (kind_of desk w) (blanks_from b ws)
unfolding blanks_from
blanks-more b [] w = refl
blanks-more b (v ∷ ws) w = blanks-more (noted_on (kind_of desk v) b) ws w

pub none-noted : (t : List ℕ) → Tabled no_blanks t → Noted [] (record { terms = 0; hedges = 0; functions = 0 }) t
unfolding blanks_from
none-noted t e = record { table = e; terms = refl; hedges = refl; functions = refl }

-- one more at most
pub one_more : (t : List ℕ) (place count r i : ℕ) → r ≡ pick (eqb (get_or t place 0) 0) (count + 1) count → count ≤ i → r ≤ i + 1
one_more t place count r i e h = on (eqb (get_or t place 0) 0) e
  where
    on : (b : Bool) → r ≡ pick b (count + 1) count → r ≤ i + 1
    on true e = omega arith
    on false e = omega arith

module _ (ws : List ℕ) (i : ℕ) (p : i < length ws) (r : Numbers) (t : List ℕ) (n : Noted (take i ws) r t) (k : Kind) (e : k ≡ kind_of desk (get_or ws i 0)) where
  abbrev b : Blanks
  b = blanks_in (take i ws)

  step : (j : Kind) → k ≡ j → blanks_in (take (i + 1) ws) ≡ noted_on j b
  step j g = ap (λ m. blanks_in (take m ws)) (add-one i) ∙ ap blanks_in (take-suc ws i 0 p) ∙ blanks-more no_blanks (take i ws) (get_or ws i 0) ∙ ap (λ k. noted_on k b) (sym e ∙ g)

  range : (j : Kind) → k ≡ j → Is desk (get_or ws i 0) j
  range j g = subst (Is desk (get_or ws i 0)) (sym e ∙ g) (is desk (get_or ws i 0))

  pub term-range : {x : TermVar} → k ≡ Term x → x.0 < desk.each
  term-range {x} g = on (range (Term x) g)
    where
      on : Is desk (get_or ws i 0) (Term x) → x.0 < desk.each
      on (term y h d) = h

  pub run-range : {x : HedgeVar} → k ≡ Run x → x.0 < desk.each
  run-range {x} g = on (range (Run x) g)
    where
      on : Is desk (get_or ws i 0) (Run x) → x.0 < desk.each
      on (run y h d) = h

  pub function-range : {x : FunVar} → k ≡ Function x → x.0 < desk.each
  function-range {x} g = on (range (Function x) g)
    where
      on : Is desk (get_or ws i 0) (Function x) → x.0 < desk.each
      on (function y h d) = h

  -- one that is noted, by its kind
  module _ (m : ℕ) (t' : List ℕ) where
    abbrev Goes : Numbers → Type 0
    Goes r = Noted (take (i + 1) ws) r t'

    goes : (j : Kind) (r : Numbers) → k ≡ j → NotedAs (noted_on j b) r t' → Goes r
    goes j r g = subst (λ b. NotedAs b r t') (sym (step j g))

    abbrev Count : ℕ → ℕ → Type 0
    Count place count = m ≡ pick (eqb (get_or t place 0) 0) (count + 1) count

    abbrev Left : ℕ → ℕ → Type 0
    Left place count = t' ≡ pick (eqb (get_or t place 0) 0) (set t place (count + 1)) t

    pub term-noted : {x : TermVar} → k ≡ Term x → (place : ℕ) → place ≡ x.0 → Count (place) r.terms → Left (place) r.terms → Goes (record { terms = m; hedges = r.hedges; functions = r.functions })
    term-noted {x} g place d cm ct =
        let em = subst (λ p. Count (p) r.terms) d cm in
        let et = subst (λ p. Left (p) r.terms) d ct in
        let h = term-range g in
        let s = n.table.size in
        let c = row-noted t (λ y. y) x.0 r.terms b.terms n.table.terms h (omega arith) (λ y e. e) n.terms m t' em et in
        let stays = row_stays t (λ y. y) x.0 r.terms b.terms n.table.terms h (omega arith) (λ y e. e) n.terms m t' em et in
        goes (Term x) _ g (record {
          table = record { size = c.2 ∙ s; terms = c.1; hedges = λ y q. stays _ (λ z. omega arith) ∙ n.table.hedges y q; functions = λ y q. stays _ (λ z. omega arith) ∙ n.table.functions y q };
          terms = c.0;
          hedges = n.hedges;
          functions = n.functions;
        })

    pub run-noted : {x : HedgeVar} → k ≡ Run x → (place : ℕ) → place ≡ x.0 → Count (at_hedges + place) r.hedges → Left (at_hedges + place) r.hedges → Goes (record { terms = r.terms; hedges = m; functions = r.functions })
    run-noted {x} g place d cm ct =
        let em = subst (λ p. Count (at_hedges + p) r.hedges) d cm in
        let et = subst (λ p. Left (at_hedges + p) r.hedges) d ct in
        let h = run-range g in
        let s = n.table.size in
        let c = row-noted t (λ y. at_hedges + y) x.0 r.hedges b.hedges n.table.hedges h (omega arith) (λ y e. omega arith) n.hedges m t' em et in
        let stays = row_stays t (λ y. at_hedges + y) x.0 r.hedges b.hedges n.table.hedges h (omega arith) (λ y e. omega arith) n.hedges m t' em et in
        goes (Run x) _ g (record {
          table = record { size = c.2 ∙ s; terms = λ y q. stays _ (λ z. omega arith) ∙ n.table.terms y q; hedges = c.1; functions = λ y q. stays _ (λ z. omega arith) ∙ n.table.functions y q };
          terms = n.terms;
          hedges = c.0;
          functions = n.functions;
        })

    pub function-noted : {x : FunVar} → k ≡ Function x → (place : ℕ) → place ≡ x.0 → Count (at_functions + place) r.functions → Left (at_functions + place) r.functions → Goes (record { terms = r.terms; hedges = r.hedges; functions = m })
    function-noted {x} g place d cm ct =
        let em = subst (λ p. Count (at_functions + p) r.functions) d cm in
        let et = subst (λ p. Left (at_functions + p) r.functions) d ct in
        let h = function-range g in
        let s = n.table.size in
        let c = row-noted t (λ y. at_functions + y) x.0 r.functions b.functions n.table.functions h (omega arith) (λ y e. omega arith) n.functions m t' em et in
        let stays = row_stays t (λ y. at_functions + y) x.0 r.functions b.functions n.table.functions h (omega arith) (λ y e. omega arith) n.functions m t' em et in
        goes (Function x) _ g (record {
          table = record { size = c.2 ∙ s; terms = λ y q. stays _ (λ z. omega arith) ∙ n.table.terms y q; hedges = λ y q. stays _ (λ z. omega arith) ∙ n.table.hedges y q; functions = c.1 };
          terms = n.terms;
          hedges = n.hedges;
          functions = c.0;
        })

  pub other-noted : Among (0 ∷ 3 ∷ 5 ∷ 6 ∷ 7 ∷ 8 ∷ 9 ∷ 10 ∷ 11 ∷ []) k → Noted (take (i + 1) ws) r t
  other-noted o =
      subst (λ b. NotedAs b r t)
      (sym (step k refl ∙ each-kind (0 ∷ 3 ∷ 5 ∷ 6 ∷ 7 ∷ 8 ∷ 9 ∷ 10 ∷ 11 ∷ []) (λ j. noted_on j b ≡ b) refl tt tt (λ f. refl) tt refl refl refl refl refl refl refl k o))
      n

pub all_noted : (ws : List ℕ) (i : ℕ) (r : Numbers) (t : List ℕ) → length ws ≤ i → Noted (take i ws) r t → Noted ws r t
all_noted ws i r t h n = subst (λ l. Noted l r t) (take_all i ws h) n
