-- The numbers of a class in a question's words are those of its trees; and what counting them finds.
use Prim.Native.Nat.{ℕ, zero, suc, ◌+◌, ◌-◌, ◌%◌, ◌/◌, ◌<◌, ◌≤◌}
use mathlib.Core.Path.{◌≡◌, refl, sym, ap, ◌∙◌}
use mathlib.Core.Bool.{Bool, true, false, ◌&&◌}
use mathlib.Core.List.{List, [], ◌∷◌, ◌++◌, map, append_assoc}
use mathlib.Core.Option.{Option, none, some}
use native.Mathlib.Omega.{arith}
use native.Mathlib.Numerals.{add-one}
use lib.Dec.{leb, ltb, eqb}
use lib.ListN.{length, get_or, drop, drop_of_length-le}
use borrow.Author.Tests.{le-leb, lt-leb, lt-ltb, le-ltb, eq-eqb, ne_eqb, leb-true, ltb-true, eqb-true}
use Rattle.language.specs.Kinds.{pick}
use Rattle.language.specs.Limits.{desk}
use Rattle.language.specs.Trees.{Functor, symbol, fvar, Hedge, ε, tvar, hvar, node, Expr, eps, cat, alt, star, over, Literal, eqn, mem, Conj, Question}
use Rattle.language.specs.Writing.{functor_word, hedge_words, expr_words, literal_words, conj_words}
use Rattle.language.specs.Fine.{fine_functor, fine_hedge, fine_expr, fine_literal, fine_conj}
use Rattle.language.specs.Question.{alternatives_of, asks, parts, read_question}
use Rattle.language.specs.Between.{between}
use Rattle.language.proofs.Offsets.{laid-rises, parts-start}
use Rattle.language.proofs.Alternatives.{fine_all, all_words, read-all, parts_join}
use Rattle.language.proofs.Asking.{passed}
use Rattle.texts.specs.Numbering.{Class, symbols, terms, hedges, functions, at_s, at_t, at_h, at_x, at_f, in_hedge, in_expr, in_literal, in_conj, in_all, in_order}
use Rattle.texts.specs.Outcomes.{count_is, symbols_are, as_read}
use Rattle.words.proofs.Parts.{drop_here}
use Rattle.write_text.specs.Numbers.{is_in, numbers_in, step_of, counted_as}
use Rattle.write_text.specs.Standing.{Numbered}

-- ---- a word, of a class or of none

numbers-cons : (base x : ℕ) (ws : List ℕ) → numbers_in base (x ∷ ws) ≡ pick (is_in base x) ((x - base) ∷ numbers_in base ws) (numbers_in base ws)
unfolding numbers_in
numbers-cons base x ws = refl

module _ (base : ℕ) (ws : List ℕ) where
  here : (x n : ℕ) → n < 1000 → x ≡ base + n → numbers_in base (x ∷ ws) ≡ n ∷ numbers_in base ws
  here x n p e =
      numbers-cons base x ws ∙ ap (λ b. pick (b && ltb x (base + 1000)) ((x - base) ∷ numbers_in base ws) (numbers_in base ws)) (le-leb base x (omega arith))
      ∙ ap (λ b. pick b ((x - base) ∷ numbers_in base ws) (numbers_in base ws)) (lt-ltb x (base + 1000) (omega arith))
      ∙ ap (λ n. n ∷ numbers_in base ws) (let z : x - base ≡ n = omega arith in z)

  below : (x : ℕ) → x < base → numbers_in base (x ∷ ws) ≡ numbers_in base ws
  below x p = numbers-cons base x ws ∙ ap (λ b. pick (b && ltb x (base + 1000)) ((x - base) ∷ numbers_in base ws) (numbers_in base ws)) (lt-leb base x p)

  above : (x : ℕ) → base + 1000 ≤ x → numbers_in base (x ∷ ws) ≡ numbers_in base ws
  above x p =
      numbers-cons base x ws ∙ ap (λ b. pick (b && ltb x (base + 1000)) ((x - base) ∷ numbers_in base ws) (numbers_in base ws)) (le-leb base x (omega arith))
      ∙ ap (λ b. pick b ((x - base) ∷ numbers_in base ws) (numbers_in base ws)) (le-ltb x (base + 1000) p)

abbrev base_of : Class → ℕ
base_of symbols = 3000
base_of terms = 1000
base_of hedges = 2000
base_of functions = 4000

abbrev In : Class → List ℕ → List ℕ
In c ws = numbers_in (base_of c) ws

term_in : (c : Class) (n : ℕ) (ws : List ℕ) → n < desk.each → In c ((1000 + n) ∷ ws) ≡ at_t c n (In c ws)
term_in symbols n ws p = below 3000 ws (1000 + n) (omega arith)
term_in terms n ws p = here 1000 ws (1000 + n) n (omega arith) refl
term_in hedges n ws p = below 2000 ws (1000 + n) (omega arith)
term_in functions n ws p = below 4000 ws (1000 + n) (omega arith)

run_in : (c : Class) (n : ℕ) (ws : List ℕ) → n < desk.each → In c ((2000 + n) ∷ ws) ≡ at_h c n (In c ws)
run_in symbols n ws p = below 3000 ws (2000 + n) (omega arith)
run_in terms n ws p = above 1000 ws (2000 + n) (omega arith)
run_in hedges n ws p = here 2000 ws (2000 + n) n (omega arith) refl
run_in functions n ws p = below 4000 ws (2000 + n) (omega arith)

symbol-in : (c : Class) (n : ℕ) (ws : List ℕ) → n < desk.each → In c ((3000 + n) ∷ ws) ≡ at_s c n (In c ws)
symbol-in symbols n ws p = here 3000 ws (3000 + n) n (omega arith) refl
symbol-in terms n ws p = above 1000 ws (3000 + n) (omega arith)
symbol-in hedges n ws p = above 2000 ws (3000 + n) (omega arith)
symbol-in functions n ws p = below 4000 ws (3000 + n) (omega arith)

function-in : (c : Class) (n : ℕ) (ws : List ℕ) → n < desk.each → In c ((4000 + n) ∷ ws) ≡ at_x c n (In c ws)
function-in symbols n ws p = above 3000 ws (4000 + n) (omega arith)
function-in terms n ws p = above 1000 ws (4000 + n) (omega arith)
function-in hedges n ws p = above 2000 ws (4000 + n) (omega arith)
function-in functions n ws p = here 4000 ws (4000 + n) n (omega arith) refl

end-in : (c : Class) (ws : List ℕ) → In c (0 ∷ ws) ≡ In c ws
end-in symbols ws = below 3000 ws 0 (omega arith)
end-in terms ws = below 1000 ws 0 (omega arith)
end-in hedges ws = below 2000 ws 0 (omega arith)
end-in functions ws = below 4000 ws 0 (omega arith)

other-in : (c : Class) (x : ℕ) (ws : List ℕ) → 5000 ≤ x → In c (x ∷ ws) ≡ In c ws
other-in symbols x ws p = above 3000 ws x (omega arith)
other-in terms x ws p = above 1000 ws x (omega arith)
other-in hedges x ws p = above 2000 ws x (omega arith)
other-in functions x ws p = above 4000 ws x (omega arith)

functor-in : (c : Class) (f : Functor) (ws : List ℕ) → fine_functor desk f → In c (functor_word f ∷ ws) ≡ at_f c f (In c ws)
functor-in c (symbol f) ws p = symbol-in c f.0 ws p
functor-in c (fvar X) ws p = function-in c X.0 ws p

-- ---- trees

module _ (c : Class) where
  hedge-in : (h : Hedge) (ws : List ℕ) → fine_hedge desk h → In c (hedge_words h ++ ws) ≡ in_hedge c h (In c ws)
  hedge-in ε ws i = end-in c ws
  hedge-in (tvar x r) ws i = term_in c x.0 (hedge_words r ++ ws) i.0 ∙ ap (at_t c x.0) (hedge-in r ws i.1)
  hedge-in (hvar p r) ws i = run_in c p.0 (hedge_words r ++ ws) i.0 ∙ ap (at_h c p.0) (hedge-in r ws i.1)
  hedge-in (node f a r) ws i =
      functor-in c f ((hedge_words a ++ hedge_words r) ++ ws) i.0
      ∙ ap (at_f c f) (ap (In c) (append_assoc (hedge_words a) (hedge_words r) ws) ∙ hedge-in a (hedge_words r ++ ws) i.1 ∙ ap (in_hedge c a) (hedge-in r ws i.2))

  expr-in : (R : Expr) (ws : List ℕ) → fine_expr desk R → In c (expr_words R ++ ws) ≡ in_expr c R (In c ws)
  expr-in eps ws i = other-in c 7000 ws (omega arith)
  expr-in (cat a b) ws i =
      other-in c 7001 ((expr_words a ++ expr_words b) ++ ws) (omega arith)
      ∙ ap (In c) (append_assoc (expr_words a) (expr_words b) ws) ∙ expr-in a (expr_words b ++ ws) i.0 ∙ ap (in_expr c a) (expr-in b ws i.1)
  expr-in (alt a b) ws i =
      other-in c 7002 ((expr_words a ++ expr_words b) ++ ws) (omega arith)
      ∙ ap (In c) (append_assoc (expr_words a) (expr_words b) ws) ∙ expr-in a (expr_words b ++ ws) i.0 ∙ ap (in_expr c a) (expr-in b ws i.1)
  expr-in (star a) ws i = other-in c 7003 (expr_words a ++ ws) (omega arith) ∙ expr-in a ws i
  expr-in (over f a) ws i = symbol-in c f.0 (expr_words a ++ ws) i.0 ∙ ap (at_s c f.0) (expr-in a ws i.1)

  literal-in : (l : Literal) (ws : List ℕ) → fine_literal desk l → In c (literal_words l ++ ws) ≡ in_literal c l (In c ws)
  literal-in (eqn l r) ws i =
      other-in c 5000 ((hedge_words l ++ hedge_words r) ++ ws) (omega arith)
      ∙ ap (In c) (append_assoc (hedge_words l) (hedge_words r) ws) ∙ hedge-in l (hedge_words r ++ ws) i.0 ∙ ap (in_hedge c l) (hedge-in r ws i.1)
  literal-in (mem h R) ws i =
      other-in c 6000 ((hedge_words h ++ expr_words R) ++ ws) (omega arith)
      ∙ ap (In c) (append_assoc (hedge_words h) (expr_words R) ws) ∙ hedge-in h (expr_words R ++ ws) i.0 ∙ ap (in_hedge c h) (expr-in R ws i.1)

  conj-in : (k : Conj) (ws : List ℕ) → fine_conj desk k → In c (conj_words k ++ ws) ≡ in_conj c k (In c ws)
  conj-in [] ws i = refl
  conj-in (l ∷ k) ws i =
      ap (In c) (append_assoc (literal_words l) (conj_words k) ws) ∙ literal-in l (conj_words k ++ ws) i.0 ∙ ap (in_literal c l) (conj-in k ws i.1)

  all_in : (ks : List Conj) → fine_all desk ks → In c (all_words (map conj_words ks)) ≡ in_all c ks
  all_in [] i = unfold numbers_in in refl
  all_in (k ∷ ks) i = conj-in k (all_words (map conj_words ks)) i.0 ∙ ap (in_conj c k) (all_in ks i.1)

  question-in : (ws : List ℕ) (q : Question) → read_question desk ws ≡ asks q → (from : ℕ) → from ≡ alternatives_of ws + 6 → In c (drop from ws) ≡ in_all c q.alternatives
  question-in ws q e from p =
      let n = alternatives_of ws in
      let o = passed desk ws q e in
      let r = read-all desk (parts 5 n ws) q.alternatives o.words o.read in
      ap (λ m. In c (drop m ws)) (let z : from ≡ 5 + n + 1 = omega arith in z)
      ∙ ap (In c) (sym (parts_join (5 + n + 1) (between 6 (5 + n + 1) ws) ws (laid-rises 5 n ws o.laid_out)) ∙ ap all_words (sym (parts-start 5 n ws o.laid_out) ∙ r.1))
      ∙ all_in q.alternatives r.0

-- ---- counting

module _ (base n x : ℕ) (ws : List ℕ) where
  abbrev Whole : Option ℕ
  Whole = in_order n (numbers_in base (x ∷ ws))

  -- a number m of the class
  order-on : is_in base x ≡ true → Whole ≡ pick (ltb (x - base) n) (in_order n (numbers_in base ws)) (pick (eqb (x - base) n) (in_order (suc n) (numbers_in base ws)) none)
  order-on e = ap (in_order n) (numbers-cons base x ws ∙ ap (λ b. pick b ((x - base) ∷ numbers_in base ws) (numbers_in base ws)) e)

  passes-by : is_in base x ≡ false → Whole ≡ in_order n (numbers_in base ws)
  passes-by e = ap (in_order n) (numbers-cons base x ws ∙ ap (λ b. pick b ((x - base) ∷ numbers_in base ws) (numbers_in base ws)) e)

  -- what the count is then
  abbrev Steps : ℕ → Type 0
  Steps k = (k ≤ 1000 → in_order k (numbers_in base ws) ≡ Whole) × (1000 < k → none ≡ Whole)

  step : n ≤ 1000 → (a b c : Bool) → is_in base x ≡ a → ltb (x - base) n ≡ b → eqb (x - base) n ≡ c → Steps (pick a (pick b n (pick c (n + 1) 1001)) n)
  step p false b c ea eb ec = (λ l. sym (passes-by ea), λ l. absurd (omega arith))
  step p true true c ea eb ec = (λ l. sym (order-on ea ∙ ap (λ b. pick b (in_order n (numbers_in base ws)) (pick (eqb (x - base) n) (in_order (suc n) (numbers_in base ws)) none)) eb), λ l. absurd (omega arith))
  step p true false true ea eb ec =
      let o = order-on ea ∙ ap (λ b. pick b (in_order n (numbers_in base ws)) (pick (eqb (x - base) n) (in_order (suc n) (numbers_in base ws)) none)) eb ∙ ap (λ b. pick b (in_order (suc n) (numbers_in base ws)) none) ec in
      (λ l. ap (λ m. in_order m (numbers_in base ws)) (add-one n) ∙ sym o, λ l. absurd (let z = eqb-true (x - base) n ec in let y = is-small ea in omega arith))
    where
      is-small : is_in base x ≡ true → x - base < 1000
      is-small e = on (leb base x) (ltb x (base + 1000)) refl refl e
        where
          on : (a b : Bool) → leb base x ≡ a → ltb x (base + 1000) ≡ b → (a && b) ≡ true → x - base < 1000
          on true true p q e = let y = ltb-true x (base + 1000) q in let z = leb-true base x p in omega arith
          on true false p q e = absurd (let z : ◌≡◌ {A = ℕ} 0 1 = cc in omega arith)
          on false b p q e = absurd (let z : ◌≡◌ {A = ℕ} 0 1 = cc in omega arith)
  step p true false false ea eb ec =
      let o = order-on ea ∙ ap (λ b. pick b (in_order n (numbers_in base ws)) (pick (eqb (x - base) n) (in_order (suc n) (numbers_in base ws)) none)) eb ∙ ap (λ b. pick b (in_order (suc n) (numbers_in base ws)) none) ec in
      (λ l. absurd (omega arith), λ l. sym o)

  steps : n ≤ 1000 → Steps (step_of base n x)
  steps p = step p (is_in base x) (ltb (x - base) n) (eqb (x - base) n) refl refl refl

-- the loop keeps what is to be found
pub record Counting (w : List ℕ) (from base i n : ℕ) : Type 0 where
  pub small : n ≤ 1000
  pub left : in_order n (numbers_in base (drop i w)) ≡ in_order 0 (numbers_in base (drop from w))

module _ {w : List ℕ} {from base i n : ℕ} (g : Counting w from base i n) where
  pub counting-on : {m : ℕ} → i < length w → m ≡ step_of base n (get_or w i 0) → m ≤ 1000 → Counting w from base (i + 1) m
  counting-on {m} p e l =
      record {
        small = l;
        left =
            ap (λ k. in_order k (numbers_in base (drop (i + 1) w))) e ∙ (steps base n (get_or w i 0) (drop (i + 1) w) g.small).0 (let z = e in omega arith)
            ∙ ap (λ ws. in_order n (numbers_in base ws)) (sym (drop_here w i p)) ∙ g.left;
      }

  pub out_of_order : {m : ℕ} (least d : ℕ) → i < length w → m ≡ step_of base n (get_or w i 0) → 1000 < m → false ≡ counted_as least d (in_order 0 (numbers_in base (drop from w)))
  out_of_order {m} least d p e l =
      none-counts least d ∙ ap (counted_as least d) ((steps base n (get_or w i 0) (drop (i + 1) w) g.small).1 (let z = e in omega arith) ∙ ap (λ ws. in_order n (numbers_in base ws)) (sym (drop_here w i p)) ∙ g.left)
    where
      none-counts : (least d : ℕ) → false ≡ counted_as least d none
      none-counts least d = unfold counted_as in refl

  all-counted : length w ≤ i → some n ≡ in_order 0 (numbers_in base (drop from w))
  all-counted p = sym (ap (in_order n) (ap (numbers_in base) (drop_of_length-le w {i = i} p) ∙ none_left)) ∙ g.left
    where
      none_left : numbers_in base [] ≡ []
      none_left = unfold numbers_in in refl

  some-counts : (least d : ℕ) → counted_as least d (some n) ≡ eqb (pick (ltb n least) least n) d
  unfolding counted_as
  some-counts least d = refl

  pub too_few : (least d : ℕ) → length w ≤ i → n < least → eqb least d ≡ counted_as least d (in_order 0 (numbers_in base (drop from w)))
  too_few least d p l = sym (some-counts least d ∙ ap (λ b. eqb (pick b least n) d) (lt-ltb n least l)) ∙ ap (counted_as least d) (all-counted p)

  pub enough : (least d : ℕ) → length w ≤ i → least ≤ n → eqb n d ≡ counted_as least d (in_order 0 (numbers_in base (drop from w)))
  enough least d p l = sym (some-counts least d ∙ ap (λ b. eqb (pick b least n) d) (le-ltb n least l)) ∙ ap (counted_as least d) (all-counted p)

-- ---- all four classes

counts-any : (d : ℕ) (o : Option ℕ) → counted_as 0 d o ≡ count_is o d
unfolding counted_as
counts-any d none = refl
counts-any d (some n) = ap (λ b. eqb (pick b 0 n) d) (le-ltb n 0 (omega arith))

counts-symbols : (d : ℕ) (o : Option ℕ) → counted_as 1 d o ≡ symbols_are o d
unfolding counted_as
counts-symbols d none = refl
counts-symbols d (some zero) = refl
counts-symbols d (some (suc n)) = ap (λ b. eqb (pick b 1 (suc n)) d) (le-ltb (suc n) 1 (omega arith))

-- whether those of a class are counted as declared, in the words
abbrev pub counted : List ℕ → ℕ → ℕ → ℕ → ℕ → Bool
counted w from base least d = counted_as least d (in_order 0 (numbers_in base (drop from w)))

module _ (w : List ℕ) (from : ℕ) (p : from ≡ alternatives_of w + 6) where
  as_read_lem : (q : Question) → read_question desk w ≡ asks q
      → (eqb (get_or w 0 0 / 256) 0 && (counted w from 3000 1 (get_or w 0 0 % 256) && (counted w from 1000 0 (get_or w 1 0) && (counted w from 2000 0 (get_or w 2 0) && counted w from 4000 0 (get_or w 3 0))))) ≡ as_read q
  unfolding as_read
  as_read_lem q e =
      rw (
        question-in symbols w q e from p,
        question-in terms w q e from p,
        question-in hedges w q e from p,
        question-in functions w q e from p,
        (passed desk w q e).counts,
        counts-symbols (get_or w 0 0 % 256) (in_order 0 (in_all symbols q.alternatives)),
        counts-any (get_or w 1 0) (in_order 0 (in_all terms q.alternatives)),
        counts-any (get_or w 2 0) (in_order 0 (in_all hedges q.alternatives)),
        counts-any (get_or w 3 0) (in_order 0 (in_all functions q.alternatives)),
      )

  pub some-unordered : (get_or w 0 0 / 256 ≡ 0 → ⊥) → Numbered w false
  some-unordered n q e = sym (ap (λ b. b && (counted w from 3000 1 (get_or w 0 0 % 256) && (counted w from 1000 0 (get_or w 1 0) && (counted w from 2000 0 (get_or w 2 0) && counted w from 4000 0 (get_or w 3 0))))) (ne_eqb _ 0 n)) ∙ as_read_lem q e

  module _ (u : get_or w 0 0 / 256 ≡ 0) where
    pub other-symbols : counted w from 3000 1 (get_or w 0 0 % 256) ≡ false → Numbered w false
    other-symbols a q e = rw (eq-eqb (get_or w 0 0 / 256) 0 u, a) at (as_read_lem q e)

    module _ (s : counted w from 3000 1 (get_or w 0 0 % 256) ≡ true) where
      pub other-terms : counted w from 1000 0 (get_or w 1 0) ≡ false → Numbered w false
      other-terms a q e = rw (eq-eqb (get_or w 0 0 / 256) 0 u, s, a) at (as_read_lem q e)

      module _ (t : counted w from 1000 0 (get_or w 1 0) ≡ true) where
        pub other-hedges : counted w from 2000 0 (get_or w 2 0) ≡ false → Numbered w false
        other-hedges a q e = rw (eq-eqb (get_or w 0 0 / 256) 0 u, s, t, a) at (as_read_lem q e)

        pub other-functions : {r : Bool} → counted w from 2000 0 (get_or w 2 0) ≡ true → r ≡ counted w from 4000 0 (get_or w 3 0) → Numbered w r
        other-functions h a q e = a ∙ rw (eq-eqb (get_or w 0 0 / 256) 0 u, s, t, h) at (as_read_lem q e)
