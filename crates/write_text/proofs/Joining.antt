-- The pieces in a row are the text that the definition of writing gives.
use Prim.Native.Nat.{ℕ, ◌+◌, ◌%◌, ◌<◌}
use mathlib.Core.Path.{◌≡◌, refl, sym, ap, ◌∙◌}
use mathlib.Core.Bool.{true, false, ◌||◌}
use mathlib.Core.List.{List, [], ◌∷◌, ◌++◌, append_assoc, append-nil}
use native.Mathlib.Omega.{arith}
use lib.Dec.{eqb}
use borrow.Author.Tests.{ne_eqb, lt-ltb, le-ltb}
use Rattle.language.specs.Kinds.{pick}
use Rattle.language.specs.Limits.{desk}
use Rattle.language.specs.Trees.{Functor, symbol, fvar, Hedge, ε, tvar, hvar, node, Expr, eps, cat, alt, star, over, Literal, eqn, mem, Conj}
use Rattle.language.specs.Writing.{functor_word}
use Rattle.language.specs.Fine.{fine_functor, fine_hedge, fine_expr, fine_literal, fine_conj}
use Rattle.texts.specs.Numbering.{symbols, terms, hedges, functions}
use Rattle.texts.specs.Writer.{digits, name_text, functor_text, sep_text, child_text, inside_text, side_text, starred, chosen, listed, inner_text, expr_text, literal_text, more_text, literals_text, line_text}
use Rattle.write_text.specs.Pieces.{given, four, first_of, second_of, closing_of, mark_of, letter_in, word_text, behind, elements, unless, side_piece, head_piece, tail_piece, shape, literal_piece, literals_piece}

-- ---- words

module _ (s x n : ℕ) (z : x ≡ 0 → ⊥) (e : x % 1000 ≡ n) where
  word-is : word_text s x ≡ four (first_of s) (second_of s) (mark_of x) (letter_in x) ++ digits n
  unfolding word_text
  word-is =
      ap (λ b. pick b (given (closing_of s)) (four (first_of s) (second_of s) (mark_of x) (letter_in x) ++ digits (x % 1000))) (ne_eqb x 0 z)
      ∙ ap (λ n. four (first_of s) (second_of s) (mark_of x) (letter_in x) ++ digits n) e

module _ (s n : ℕ) (p : n < desk.each) where
  abbrev Row : ℕ → ℕ → List ℕ
  Row m l = four (first_of s) (second_of s) m l ++ digits n

  term-row : word_text s (1000 + n) ≡ Row 63 120
  term-row = word-is s (1000 + n) n (omega arith) (omega arith) ∙ rw (lt-ltb (1000 + n) 2000 (omega arith))

  run_row : word_text s (2000 + n) ≡ Row 42 112
  run_row = word-is s (2000 + n) n (omega arith) (omega arith) ∙ rw (le-ltb (2000 + n) 2000 (omega arith), lt-ltb (2000 + n) 3000 (omega arith))

  symbol-row : word_text s (3000 + n) ≡ Row 0 97
  symbol-row = word-is s (3000 + n) n (omega arith) (omega arith) ∙ rw (le-ltb (3000 + n) 2000 (omega arith), le-ltb (3000 + n) 3000 (omega arith), lt-ltb (3000 + n) 4000 (omega arith))

  function-row : word_text s (4000 + n) ≡ Row 37 88
  function-row = word-is s (4000 + n) n (omega arith) (omega arith) ∙ rw (le-ltb (4000 + n) 2000 (omega arith), le-ltb (4000 + n) 3000 (omega arith), le-ltb (4000 + n) 4000 (omega arith))

-- what stands before a name
module _ (m l n : ℕ) where
  opened : four (first_of 1) (second_of 1) m l ++ digits n ≡ 40 ∷ (four (first_of 0) (second_of 0) m l ++ digits n)
  unfolding given four
  opened = refl

  parted : four (first_of 2) (second_of 2) m l ++ digits n ≡ 44 ∷ 32 ∷ (four (first_of 0) (second_of 0) m l ++ digits n)
  unfolding given four
  parted = refl

term-name : (n : ℕ) → n < desk.each → word_text 0 (1000 + n) ≡ 63 ∷ name_text terms n
unfolding given four
term-name n p = term-row 0 n p

run-name : (n : ℕ) → n < desk.each → word_text 0 (2000 + n) ≡ 42 ∷ name_text hedges n
unfolding given four
run-name n p = run_row 0 n p

pub symbol-name : (n : ℕ) → n < desk.each → word_text 0 (3000 + n) ≡ name_text symbols n
unfolding given four
symbol-name n p = symbol-row 0 n p

function-name : (n : ℕ) → n < desk.each → word_text 0 (4000 + n) ≡ 37 ∷ name_text functions n
unfolding given four
function-name n p = function-row 0 n p

functor-name : (f : Functor) (k : List ℕ) → fine_functor desk f → functor_text f k ≡ word_text 0 (functor_word f) ++ k
functor-name (symbol f) k p = ap (λ l. l ++ k) (sym (symbol-name f.0 p))
functor-name (fvar X) k p = ap (λ l. l ++ k) (sym (function-name X.0 p))

-- a word that begins an element
record Begins (x : ℕ) : Type 0 where
  opened-by : word_text 1 x ≡ 40 ∷ word_text 0 x
  parted-by : word_text 2 x ≡ 44 ∷ 32 ∷ word_text 0 x

term-begins : (n : ℕ) → n < desk.each → Begins (1000 + n)
term-begins n p = record { opened-by = term-row 1 n p ∙ opened 63 120 n ∙ ap (λ l. 40 ∷ l) (sym (term-row 0 n p)); parted-by = term-row 2 n p ∙ parted 63 120 n ∙ ap (λ l. 44 ∷ 32 ∷ l) (sym (term-row 0 n p)) }

run-begins : (n : ℕ) → n < desk.each → Begins (2000 + n)
run-begins n p = record { opened-by = run_row 1 n p ∙ opened 42 112 n ∙ ap (λ l. 40 ∷ l) (sym (run_row 0 n p)); parted-by = run_row 2 n p ∙ parted 42 112 n ∙ ap (λ l. 44 ∷ 32 ∷ l) (sym (run_row 0 n p)) }

functor-begins : (f : Functor) → fine_functor desk f → Begins (functor_word f)
functor-begins (symbol f) p = record { opened-by = symbol-row 1 f.0 p ∙ opened 0 97 f.0 ∙ ap (λ l. 40 ∷ l) (sym (symbol-row 0 f.0 p)); parted-by = symbol-row 2 f.0 p ∙ parted 0 97 f.0 ∙ ap (λ l. 44 ∷ 32 ∷ l) (sym (symbol-row 0 f.0 p)) }
functor-begins (fvar X) p = record { opened-by = function-row 1 X.0 p ∙ opened 37 88 X.0 ∙ ap (λ l. 40 ∷ l) (sym (function-row 0 X.0 p)); parted-by = function-row 2 X.0 p ∙ parted 37 88 X.0 ∙ ap (λ l. 44 ∷ 32 ∷ l) (sym (function-row 0 X.0 p)) }

-- ---- sides

sep-is : (r : Hedge) (t : List ℕ) → fine_hedge desk r → sep_text r (elements 0 r ++ t) ≡ elements 2 r ++ t
sep-is ε t i = refl
sep-is (tvar x r) t i = ap (λ l. (l ++ elements 2 r) ++ t) (sym (term-begins x.0 i.0).parted-by)
sep-is (hvar p r) t i = ap (λ l. (l ++ elements 2 r) ++ t) (sym (run-begins p.0 i.0).parted-by)
sep-is (node f c r) t i = ap (λ l. (l ++ ((elements 1 c ++ given (closing_of (behind 1 c))) ++ elements 2 r)) ++ t) (sym (functor-begins f i.0).parted-by)

abbrev kids : Hedge → List ℕ
kids c = elements 1 c ++ given (closing_of (behind 1 c))

-- brackets opened and closed
wrapped : (a : List ℕ) (b : List ℕ) (t : List ℕ) → b ≡ 40 ∷ a → 40 ∷ (a ++ (41 ∷ t)) ≡ (b ++ given (closing_of 2)) ++ t
unfolding given
wrapped a b t e = sym (append_assoc (40 ∷ a) (41 ∷ []) t) ∙ ap (λ l. (l ++ (41 ∷ [])) ++ t) (sym e)

none-wrapped : (t : List ℕ) → t ≡ ([] ++ given (closing_of 1)) ++ t
unfolding given
none-wrapped t = refl

child-is : (c : Hedge) (t : List ℕ) → fine_hedge desk c → child_text c (elements 0 c ++ (41 ∷ t)) t ≡ kids c ++ t
child-is ε t i = none-wrapped t
child-is (tvar x r) t i = wrapped (elements 0 (tvar x r)) (elements 1 (tvar x r)) t (ap (λ l. l ++ elements 2 r) (term-begins x.0 i.0).opened-by)
child-is (hvar p r) t i = wrapped (elements 0 (hvar p r)) (elements 1 (hvar p r)) t (ap (λ l. l ++ elements 2 r) (run-begins p.0 i.0).opened-by)
child-is (node f c r) t i = wrapped (elements 0 (node f c r)) (elements 1 (node f c r)) t (ap (λ l. l ++ (kids c ++ elements 2 r)) (functor-begins f i.0).opened-by)

-- what follows an element
follows_is : (r : Hedge) (k : List ℕ) → fine_hedge desk r → inside_text r k ≡ elements 0 r ++ (41 ∷ k) → sep_text r (inside_text r k) ≡ elements 2 r ++ (41 ∷ k)
follows_is r k i e = ap (sep_text r) e ∙ sep-is r (41 ∷ k) i

-- a functor with its children
node-is : (f : Functor) (c : Hedge) (t : List ℕ) → fine_functor desk f → fine_hedge desk c → inside_text c t ≡ elements 0 c ++ (41 ∷ t) → functor_text f (child_text c (inside_text c t) t) ≡ word_text 0 (functor_word f) ++ (kids c ++ t)
node-is f c t p i e = functor-name f (child_text c (inside_text c t) t) p ∙ ap (λ l. word_text 0 (functor_word f) ++ l) (ap (λ l. child_text c l t) e ∙ child-is c t i)

inside_is : (h : Hedge) (k : List ℕ) → fine_hedge desk h → inside_text h k ≡ elements 0 h ++ (41 ∷ k)
inside_is ε k i = refl
inside_is (tvar x r) k i =
    ap (λ l. (63 ∷ name_text terms x.0) ++ l) (follows_is r k i.1 (inside_is r k i.1))
    ∙ ap (λ l. l ++ (elements 2 r ++ (41 ∷ k))) (sym (term-name x.0 i.0)) ∙ sym (append_assoc (word_text 0 (1000 + x.0)) (elements 2 r) (41 ∷ k))
inside_is (hvar p r) k i =
    ap (λ l. (42 ∷ name_text hedges p.0) ++ l) (follows_is r k i.1 (inside_is r k i.1))
    ∙ ap (λ l. l ++ (elements 2 r ++ (41 ∷ k))) (sym (run-name p.0 i.0)) ∙ sym (append_assoc (word_text 0 (2000 + p.0)) (elements 2 r) (41 ∷ k))
inside_is (node f c r) k i =
    node-is f c (sep_text r (inside_text r k)) i.0 i.1 (inside_is c (sep_text r (inside_text r k)) i.1)
    ∙ ap (λ l. word_text 0 (functor_word f) ++ (kids c ++ l)) (follows_is r k i.2 (inside_is r k i.2))
    ∙ ap (λ l. word_text 0 (functor_word f) ++ l) (sym (append_assoc (kids c) (elements 2 r) (41 ∷ k)))
    ∙ sym (append_assoc (word_text 0 (functor_word f)) (kids c ++ elements 2 r) (41 ∷ k))

-- in brackets, and alone
in-brackets : (e k : List ℕ) → 40 ∷ (e ++ (41 ∷ k)) ≡ (given (unless false 40) ++ (e ++ given (unless false 41))) ++ k
unfolding given
in-brackets e k = ap (λ l. 40 ∷ l) (sym (append_assoc e (41 ∷ []) k))

by_itself : (e k : List ℕ) → (e ++ []) ++ k ≡ (given (unless true 40) ++ ((e ++ []) ++ given (unless true 41))) ++ k
unfolding given
by_itself e k = ap (λ l. l ++ k) (sym (append-nil (e ++ [])))

pub side-is : (h : Hedge) (k : List ℕ) → fine_hedge desk h → side_text h k ≡ side_piece h ++ k
side-is ε k i = in-brackets [] k
side-is (tvar x ε) k i = ap (λ l. l ++ k) (sym (term-name x.0 i.0) ∙ sym (append-nil (word_text 0 (1000 + x.0)))) ∙ by_itself (word_text 0 (1000 + x.0)) k
side-is (tvar x (tvar y q)) k i = ap (λ l. 40 ∷ l) (inside_is (tvar x (tvar y q)) k i) ∙ in-brackets (elements 0 (tvar x (tvar y q))) k
side-is (tvar x (hvar y q)) k i = ap (λ l. 40 ∷ l) (inside_is (tvar x (hvar y q)) k i) ∙ in-brackets (elements 0 (tvar x (hvar y q))) k
side-is (tvar x (node g d q)) k i = ap (λ l. 40 ∷ l) (inside_is (tvar x (node g d q)) k i) ∙ in-brackets (elements 0 (tvar x (node g d q))) k
side-is (hvar p ε) k i = ap (λ l. l ++ k) (sym (run-name p.0 i.0) ∙ sym (append-nil (word_text 0 (2000 + p.0)))) ∙ by_itself (word_text 0 (2000 + p.0)) k
side-is (hvar p (tvar y q)) k i = ap (λ l. 40 ∷ l) (inside_is (hvar p (tvar y q)) k i) ∙ in-brackets (elements 0 (hvar p (tvar y q))) k
side-is (hvar p (hvar y q)) k i = ap (λ l. 40 ∷ l) (inside_is (hvar p (hvar y q)) k i) ∙ in-brackets (elements 0 (hvar p (hvar y q))) k
side-is (hvar p (node g d q)) k i = ap (λ l. 40 ∷ l) (inside_is (hvar p (node g d q)) k i) ∙ in-brackets (elements 0 (hvar p (node g d q))) k
side-is (node f c ε) k i =
    node-is f c k i.0 i.1 (inside_is c k i.1) ∙ sym (append_assoc (word_text 0 (functor_word f)) (kids c) k)
    ∙ ap (λ l. (word_text 0 (functor_word f) ++ l) ++ k) (sym (append-nil (kids c))) ∙ alone (word_text 0 (functor_word f) ++ (kids c ++ [])) k
  where
    alone : (e k : List ℕ) → e ++ k ≡ (given (unless true 40) ++ (e ++ given (unless true 41))) ++ k
    alone e k = unfold given in ap (λ l. l ++ k) (sym (append-nil e))
side-is (node f c (tvar y q)) k i = ap (λ l. 40 ∷ l) (inside_is (node f c (tvar y q)) k i) ∙ in-brackets (elements 0 (node f c (tvar y q))) k
side-is (node f c (hvar y q)) k i = ap (λ l. 40 ∷ l) (inside_is (node f c (hvar y q)) k i) ∙ in-brackets (elements 0 (node f c (hvar y q))) k
side-is (node f c (node g d q)) k i = ap (λ l. 40 ∷ l) (inside_is (node f c (node g d q)) k i) ∙ in-brackets (elements 0 (node f c (node g d q))) k

-- ---- expressions

glue : (X M Y T k : List ℕ) → X ++ (M ++ (Y ++ (T ++ k))) ≡ (X ++ (M ++ (Y ++ T))) ++ k
glue X M Y T k = sym (append_assoc X (M ++ (Y ++ T)) k ∙ ap (λ l. X ++ l) (append_assoc M (Y ++ T) k ∙ ap (λ l. M ++ l) (append_assoc Y T k)))

record Spelt (R : Expr) : Type 0 where
  tight : (k : List ℕ) → expr_text R starred k ≡ shape 0 R ++ k
  mid : (k : List ℕ) → expr_text R chosen k ≡ shape 1 R ++ k
  loose : (k : List ℕ) → expr_text R listed k ≡ shape 2 R ++ k
  under : (k : List ℕ) → inner_text R (expr_text R listed (41 ∷ k)) k ≡ shape 3 R ++ k

spelt-eps : Spelt eps
unfolding given four
spelt-eps = record { tight = λ k. refl; mid = λ k. refl; loose = λ k. refl; under = λ k. refl }

module _ (a b : Expr) (p : Spelt a) (q : Spelt b) where
  -- a list, with what closes it
  list-is : (T k : List ℕ) → expr_text a chosen (44 ∷ 32 ∷ expr_text b listed (T ++ k)) ≡ (shape 1 a ++ (44 ∷ 32 ∷ (shape 2 b ++ T))) ++ k
  list-is T k = p.mid (44 ∷ 32 ∷ expr_text b listed (T ++ k)) ∙ ap (λ l. shape 1 a ++ (44 ∷ 32 ∷ l)) (q.loose (T ++ k)) ∙ glue (shape 1 a) (44 ∷ 32 ∷ []) (shape 2 b) T k

  spelt-cat : Spelt (cat a b)
  unfolding given four
  spelt-cat = record {
    tight = λ k. ap (λ l. 40 ∷ l) (list-is (41 ∷ []) k);
    mid = λ k. ap (λ l. 40 ∷ l) (list-is (41 ∷ []) k);
    loose = λ k. list-is [] k;
    under = λ k. ap (λ l. 40 ∷ l) (list-is (41 ∷ []) k);
  }

  choice-is : (T k : List ℕ) → expr_text a starred (32 ∷ 43 ∷ 32 ∷ expr_text b chosen (T ++ k)) ≡ (shape 0 a ++ (32 ∷ 43 ∷ 32 ∷ (shape 1 b ++ T))) ++ k
  choice-is T k = p.tight (32 ∷ 43 ∷ 32 ∷ expr_text b chosen (T ++ k)) ∙ ap (λ l. shape 0 a ++ (32 ∷ 43 ∷ 32 ∷ l)) (q.mid (T ++ k)) ∙ glue (shape 0 a) (32 ∷ 43 ∷ 32 ∷ []) (shape 1 b) T k

  spelt-alt : Spelt (alt a b)
  unfolding given four
  spelt-alt = record {
    tight = λ k. ap (λ l. 40 ∷ l) (choice-is (41 ∷ []) k);
    mid = λ k. choice-is [] k;
    loose = λ k. choice-is [] k;
    under = λ k. ap (λ l. 40 ∷ l) (choice-is (41 ∷ []) k);
  }

module _ (a : Expr) (p : Spelt a) where
  star-is : (T k : List ℕ) → expr_text a starred (42 ∷ (T ++ k)) ≡ (shape 0 a ++ (42 ∷ T)) ++ k
  star-is T k = p.tight (42 ∷ (T ++ k)) ∙ sym (append_assoc (shape 0 a) (42 ∷ T) k)

  spelt-star : Spelt (star a)
  unfolding given four
  spelt-star = record { tight = λ k. star-is [] k; mid = λ k. star-is [] k; loose = λ k. star-is [] k; under = λ k. ap (λ l. 40 ∷ l) (star-is (41 ∷ []) k) }

  module _ (n : ℕ) (i : n < desk.each) where
    head-is : (t : ℕ) → head_piece t (3000 + n) ≡ given (pick (eqb t 3 || false) 40 0) ++ name_text symbols n
    head-is t = rw (ne_eqb (3000 + n) 7001 (omega arith), ne_eqb (3000 + n) 7002 (omega arith), lt-ltb (3000 + n) 7000 (omega arith), symbol-name n i)

    tail-is : (t : ℕ) → tail_piece t (3000 + n) ≡ four 0 (pick (eqb t 3 || false) 41 0) 0 0
    tail-is t = rw (ne_eqb (3000 + n) 7001 (omega arith), ne_eqb (3000 + n) 7002 (omega arith), ne_eqb (3000 + n) 7003 (omega arith))

    over-is : (t : ℕ) → head_piece t (3000 + n) ++ (shape 3 a ++ tail_piece t (3000 + n)) ≡ (given (pick (eqb t 3 || false) 40 0) ++ name_text symbols n) ++ (shape 3 a ++ four 0 (pick (eqb t 3 || false) 41 0) 0 0)
    over-is t = ap (λ l. l ++ (shape 3 a ++ tail_piece t (3000 + n))) (head-is t) ∙ ap (λ l. (given (pick (eqb t 3 || false) 40 0) ++ name_text symbols n) ++ (shape 3 a ++ l)) (tail-is t)

    name-is : (T k : List ℕ) → name_text symbols n ++ inner_text a (expr_text a listed (41 ∷ (T ++ k))) (T ++ k) ≡ (name_text symbols n ++ (shape 3 a ++ T)) ++ k
    name-is T k = ap (λ l. name_text symbols n ++ l) (p.under (T ++ k)) ∙ glue (name_text symbols n) [] (shape 3 a) T k

    plain-is : (t : ℕ) → (eqb t 3 || false) ≡ false → (k : List ℕ) → name_text symbols n ++ inner_text a (expr_text a listed (41 ∷ k)) k ≡ (head_piece t (3000 + n) ++ (shape 3 a ++ tail_piece t (3000 + n))) ++ k
    unfolding given four
    plain-is t e k = name-is [] k ∙ ap (λ l. l ++ k) (sym (over-is t ∙ ap (λ b. (given (pick b 40 0) ++ name_text symbols n) ++ (shape 3 a ++ four 0 (pick b 41 0) 0 0)) e))

    under-is : (k : List ℕ) → 40 ∷ (name_text symbols n ++ inner_text a (expr_text a listed (41 ∷ (41 ∷ k))) (41 ∷ k)) ≡ (head_piece 3 (3000 + n) ++ (shape 3 a ++ tail_piece 3 (3000 + n))) ++ k
    unfolding given four
    under-is k = ap (λ l. 40 ∷ l) (name-is (41 ∷ []) k) ∙ ap (λ l. l ++ k) (sym (over-is 3))

spelt : (R : Expr) → fine_expr desk R → Spelt R
spelt eps i = spelt-eps
spelt (cat a b) i = spelt-cat a b (spelt a i.0) (spelt b i.1)
spelt (alt a b) i = spelt-alt a b (spelt a i.0) (spelt b i.1)
spelt (star a) i = spelt-star a (spelt a i)
spelt (over f a) i =
    let p = spelt a i.1 in
    record { tight = plain-is a p f.0 i.0 0 refl; mid = plain-is a p f.0 i.0 1 refl; loose = plain-is a p f.0 i.0 2 refl; under = under-is a p f.0 i.0 }

-- ---- literals and lines

equals-is : four 32 61 32 0 ≡ 32 ∷ 61 ∷ 32 ∷ []
unfolding given four
equals-is = refl

member_is : four 32 105 110 32 ≡ 32 ∷ 105 ∷ 110 ∷ 32 ∷ []
unfolding given four
member_is = refl

pub literal-is : (l : Literal) (k : List ℕ) → fine_literal desk l → literal_text l k ≡ literal_piece l ++ k
literal-is (eqn l r) k i =
    side-is l (32 ∷ 61 ∷ 32 ∷ side_text r k) i.0 ∙ ap (λ t. side_piece l ++ (32 ∷ 61 ∷ 32 ∷ t)) (side-is r k i.1)
    ∙ ap (λ m. side_piece l ++ (m ++ (side_piece r ++ k))) (sym equals-is)
    ∙ sym (append_assoc (side_piece l) (four 32 61 32 0 ++ side_piece r) k ∙ ap (λ l'. side_piece l ++ l') (append_assoc (four 32 61 32 0) (side_piece r) k))
literal-is (mem h R) k i =
    side-is h (32 ∷ 105 ∷ 110 ∷ 32 ∷ expr_text R chosen k) i.0 ∙ ap (λ t. side_piece h ++ (32 ∷ 105 ∷ 110 ∷ 32 ∷ t)) ((spelt R i.1).mid k)
    ∙ ap (λ m. side_piece h ++ (m ++ (shape 1 R ++ k))) (sym member_is)
    ∙ sym (append_assoc (side_piece h) (four 32 105 110 32 ++ shape 1 R) k ∙ ap (λ l. side_piece h ++ l) (append_assoc (four 32 105 110 32) (shape 1 R) k))

first-is : four (first_of 0) (second_of 0) 0 0 ≡ []
unfolding given four
first-is = refl

next-is : four (first_of 2) (second_of 2) 0 0 ≡ 44 ∷ 32 ∷ []
unfolding given four
next-is = refl

more-is : (ls : Conj) → fine_conj desk ls → more_text ls (literals_text ls) ≡ literals_piece 2 ls
more-is [] i = refl
more-is (l ∷ ls) i =
    ap (λ t. 44 ∷ 32 ∷ t) (literal-is l (more_text ls (literals_text ls)) i.0 ∙ ap (λ t. literal_piece l ++ t) (more-is ls i.1))
    ∙ ap (λ m. m ++ (literal_piece l ++ literals_piece 2 ls)) (sym next-is)

pub line-is : (l : Literal) (ls : Conj) → fine_conj desk (l ∷ ls) → line_text (l ∷ ls) ≡ literals_piece 0 (l ∷ ls)
line-is l ls i =
    literal-is l (more_text ls (literals_text ls)) i.0 ∙ ap (λ t. literal_piece l ++ t) (more-is ls i.1)
    ∙ ap (λ m. m ++ (literal_piece l ++ literals_piece 2 ls)) (sym first-is)
