-- A text is short: at most 13 bytes for a word of the question, and 3 for a line.
use Prim.Native.Nat.{ℕ, ◌+◌, ◌*◌, ◌/◌, ◌%◌, ◌≤◌}
use mathlib.Core.Path.{◌≡◌, refl, sym, ap, ◌∙◌}
use mathlib.Core.Bool.{Bool, true, false}
use mathlib.Core.List.{List, [], ◌∷◌, ◌++◌, map}
use native.Mathlib.Omega.{arith}
use lib.Dec.{eqb, leb, ltb}
use lib.ListN.{length, length-append, length-drop}
use Rattle.language.specs.Kinds.{pick}
use Rattle.language.specs.Limits.{desk}
use Rattle.language.specs.Trees.{Hedge, ε, tvar, hvar, node, Expr, eps, cat, alt, star, over, Literal, eqn, mem, Conj, Question}
use Rattle.language.specs.Writing.{functor_word, hedge_words, expr_words, literal_words, conj_words}
use Rattle.language.specs.Fine.{fine_conj}
use Rattle.language.specs.Question.{Asked, asks, refuses, alternatives_of, parts, read_question}
use Rattle.language.specs.Between.{between}
use Rattle.language.specs.declared.Refusal.{Refusal}
use Rattle.language.specs.declared.Refusal.TheVariants.{LongText, OtherNumbers}
use Rattle.language.proofs.Offsets.{laid-rises, parts-start}
use Rattle.language.proofs.Alternatives.{fine_all, all_words, read-all, parts_join}
use Rattle.language.proofs.Asking.{passed, ranges, how-many}
use Rattle.texts.specs.Writer.{digits, line_text, all_text}
use Rattle.texts.specs.Outcomes.{gives, denies, as_read, lent, writes_text}
use Rattle.write_text.specs.Pieces.{given, four, first_of, second_of, closing_of, mark_of, letter_in, word_text, behind, elements, is_one, unless, side_piece, brace_of, head_piece, between_piece, star_of, tail_piece, elsewhere, shape, literal_piece, literals_piece}
use Rattle.write_text.proofs.Joining.{line-is}
use Rattle.write_text.proofs.Verdicts.{denied, wrote}

-- one of two short ones
either : (b : Bool) (n : ℕ) (us vs : List ℕ) → length us ≤ n → length vs ≤ n → length (pick b us vs) ≤ n
either true n us vs p q = p
either false n us vs p q = q

given-short : (x : ℕ) → length (given x) ≤ 1
unfolding given
given-short x = either (eqb x 0) 1 [] (x ∷ []) (omega arith) (omega arith)

four-short : (a b c d : ℕ) → length (four a b c d) ≤ 4
unfolding four
four-short a b c d =
    omega (arith, length-append (given a) (given b ++ (given c ++ given d)), length-append (given b) (given c ++ given d), length-append (given c) (given d), given-short a, given-short b, given-short c, given-short d)

digits-short : (n : ℕ) → length (digits n) ≤ 3
unfolding digits
digits-short n =
    either (ltb n 10) 3 ((48 + n) ∷ []) (pick (ltb n 100) ((48 + n / 10) ∷ (48 + n % 10) ∷ []) ((48 + n / 10 / 10) ∷ (48 + n / 10 % 10) ∷ (48 + n % 10) ∷ [])) (omega arith)
    (either (ltb n 100) 3 ((48 + n / 10) ∷ (48 + n % 10) ∷ []) ((48 + n / 10 / 10) ∷ (48 + n / 10 % 10) ∷ (48 + n % 10) ∷ []) (omega arith) (omega arith))

word-short : (s x : ℕ) → length (word_text s x) ≤ 7
unfolding word_text
word-short s x =
    either (eqb x 0) 7 (given (closing_of s)) (four (first_of s) (second_of s) (mark_of x) (letter_in x) ++ digits (x % 1000)) (let g = given-short (closing_of s) in omega arith)
    (omega (arith, length-append (four (first_of s) (second_of s) (mark_of x) (letter_in x)) (digits (x % 1000)), four-short (first_of s) (second_of s) (mark_of x) (letter_in x), digits-short (x % 1000)))

elements-short : (h : Hedge) (s : ℕ) → length (elements s h) + 7 ≤ 7 * length (hedge_words h)
elements-short ε s = omega arith
elements-short (tvar x r) s = omega (arith, length-append (word_text s (1000 + x.0)) (elements 2 r), word-short s (1000 + x.0), elements-short r 2)
elements-short (hvar p r) s = omega (arith, length-append (word_text s (2000 + p.0)) (elements 2 r), word-short s (2000 + p.0), elements-short r 2)
elements-short (node f c r) s =
    let k = elements 1 c ++ given (closing_of (behind 1 c)) in
    omega (arith, length-append (word_text s (functor_word f)) (k ++ elements 2 r), length-append k (elements 2 r), length-append (elements 1 c) (given (closing_of (behind 1 c))), word-short s (functor_word f), given-short (closing_of (behind 1 c)), elements-short c 1, elements-short r 2, length-append (hedge_words c) (hedge_words r))

side-short : (h : Hedge) → length (side_piece h) ≤ 7 * length (hedge_words h)
side-short h =
    let a = given (unless (is_one h) 40) in
    let b = given (unless (is_one h) 41) in
    omega (arith, length-append a (elements 0 h ++ b), length-append (elements 0 h) b, given-short (unless (is_one h) 40), given-short (unless (is_one h) 41), elements-short h 0)

head-short : (t x : ℕ) → length (head_piece t x) ≤ 8
head-short t x =
    let l = pick (ltb x 7000) (word_text 0 x) [] in
    omega (arith, length-append (given (brace_of t x 40)) l, given-short (brace_of t x 40), either (ltb x 7000) 7 (word_text 0 x) [] (word-short 0 x) (omega arith))

between-short : (x : ℕ) → length (between_piece x) ≤ 4
between-short x = either (eqb x 7001) 4 (four 44 32 0 0) (four 32 43 32 0) (four-short 44 32 0 0) (four-short 32 43 32 0)

module _ (t x u v : ℕ) (a b : Expr) where
  two-short : length (shape u a) ≤ 13 * length (expr_words a) → length (shape v b) ≤ 13 * length (expr_words b)
      → length (head_piece t x ++ (shape u a ++ (between_piece x ++ (shape v b ++ given (brace_of t x 41))))) ≤ 13 * length (x ∷ (expr_words a ++ expr_words b))
  two-short p q =
      let c = given (brace_of t x 41) in
      omega (
        arith,
        length-append (head_piece t x) (shape u a ++ (between_piece x ++ (shape v b ++ c))),
        length-append (shape u a) (between_piece x ++ (shape v b ++ c)),
        length-append (between_piece x) (shape v b ++ c),
        length-append (shape v b) c,
        head-short t x,
        between-short x,
        given-short (brace_of t x 41),
        length-append (expr_words a) (expr_words b),
      )

  one-short : length (shape u a) ≤ 13 * length (expr_words a) → length (head_piece t x ++ (shape u a ++ tail_piece t x)) ≤ 13 * length (x ∷ expr_words a)
  one-short p = omega (arith, length-append (head_piece t x) (shape u a ++ tail_piece t x), length-append (shape u a) (tail_piece t x), head-short t x, four-short (star_of x) (brace_of t x 41) 0 0)

shape-short : (R : Expr) (t : ℕ) → length (shape t R) ≤ 13 * length (expr_words R)
shape-short eps t = let f = four-short (elsewhere t 40) (elsewhere t 41) 0 0 in omega arith
shape-short (cat a b) t = two-short t 7001 1 2 a b (shape-short a 1) (shape-short b 2)
shape-short (alt a b) t = two-short t 7002 0 1 a b (shape-short a 0) (shape-short b 1)
shape-short (star a) t = one-short t 7003 0 0 a a (shape-short a 0)
shape-short (over f a) t = one-short t (3000 + f.0) 3 0 a a (shape-short a 3)

literal-short : (l : Literal) → length (literal_piece l) + 9 ≤ 13 * length (literal_words l)
literal-short (eqn l r) =
    omega (arith, length-append (side_piece l) (four 32 61 32 0 ++ side_piece r), length-append (four 32 61 32 0) (side_piece r), four-short 32 61 32 0, side-short l, side-short r, length-append (hedge_words l) (hedge_words r))
literal-short (mem h R) =
    omega (arith, length-append (side_piece h) (four 32 105 110 32 ++ shape 1 R), length-append (four 32 105 110 32) (shape 1 R), four-short 32 105 110 32, side-short h, shape-short R 1, length-append (hedge_words h) (expr_words R))

literals-short : (k : Conj) (s : ℕ) → length (literals_piece s k) ≤ 13 * length (conj_words k)
literals-short [] s = omega arith
literals-short (l ∷ k) s =
    let f = four (first_of s) (second_of s) 0 0 in
    omega (arith, length-append f (literal_piece l ++ literals_piece 2 k), length-append (literal_piece l) (literals_piece 2 k), four-short (first_of s) (second_of s) 0 0, literal-short l, literals-short k 2, length-append (literal_words l) (conj_words k))

line-short : (k : Conj) → fine_conj desk k → length (line_text k) ≤ 13 * length (conj_words k) + 2
line-short [] i = omega arith
line-short (l ∷ k) i = let e = ap length (line-is l k i) in let s = literals-short (l ∷ k) 0 in omega arith

all_short : (ks : List Conj) → fine_all desk ks → length (all_text ks) ≤ 13 * length (all_words (map conj_words ks)) + 3 * length ks
all_short [] i = omega arith
all_short (k ∷ ks) i =
    omega (arith, length-append (line_text k) (10 ∷ all_text ks), line-short k i.0, all_short ks i.1, length-append (conj_words k) (all_words (map conj_words ks)))

-- the most bytes that a question's text has
abbrev pub most_text : ℕ
most_text = 13 * desk.question + 3 * desk.alternatives

question-short : (ws : List ℕ) (q : Question) → read_question desk ws ≡ asks q → length (all_text q.alternatives) ≤ most_text
question-short ws q e =
    let n = alternatives_of ws in
    let o = passed desk ws q e in
    let r = read-all desk (parts 5 n ws) q.alternatives o.words o.read in
    let g = ranges desk ws q e in
    let long = g.short in
    let many = g.alternatives in
    let h = how-many desk ws q e in
    let w = ap length (sym (parts_join (5 + n + 1) (between 6 (5 + n + 1) ws) ws (laid-rises 5 n ws o.laid_out)) ∙ ap all_words (sym (parts-start 5 n ws o.laid_out) ∙ r.1)) in
    omega (arith, all_short q.alternatives r.0, w, length-drop (5 + n + 1) ws)

not-given : {A : Type 0} (r : Refusal) (text : List ℕ) → denies r ≡ gives text → A
not-given r text e = absurd (let z : ◌≡◌ {A = ℕ} 0 1 = cc in omega arith)

lent_is : (room : ℕ) (t text : List ℕ) (b : Bool) → pick b (gives t) (denies LongText) ≡ gives text → t ≡ text
lent_is room t text true e = cc
lent_is room t text false e = not-given LongText text e

-- a text that is given is the question's
given_is : (room : ℕ) (q : Question) (text : List ℕ) (b : Bool) → pick b (lent room (all_text q.alternatives)) (denies OtherNumbers) ≡ gives text → all_text q.alternatives ≡ text
unfolding lent
given_is room q text true e = lent_is room (all_text q.alternatives) text (leb (length (all_text q.alternatives)) room) e
given_is room q text false e = not-given OtherNumbers text e

pub text-short : (room : ℕ) (ws text : List ℕ) → writes_text desk room ws ≡ gives text → length text ≤ most_text
text-short room ws text e = on (read_question desk ws) refl
  where
    on : (a : Asked) → read_question desk ws ≡ a → length text ≤ most_text
    on (refuses r) i = not-given r text (sym (denied ws room r i) ∙ e)
    on (asks q) i = let t = ap length (given_is room q text (as_read q) (sym (wrote ws room q i) ∙ e)) in let m = question-short ws q i in omega arith
