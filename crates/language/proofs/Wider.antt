-- Desks of different limits: where both read a question, they read the same; what one reads and the other not, the other refuses with 2 or 3.
use mathlib.Core.Path.{◌≡◌, refl, sym, ap, ◌∙◌}
use mathlib.Core.Logic.{◌⊎◌, inl, inr}
use mathlib.Core.Bool.{Bool, true, false}
use mathlib.Core.List.{List, [], ◌∷◌, map}
use Prim.Native.Nat.{ℕ, ◌<◌, ◌≤◌}
use native.Mathlib.Omega.{arith}
use lib.ListN.{length, length-append}
use lib.Dec.{leb, ltb}
use borrow.Author.Tests.{leb-true, ltb-true, le-leb}
use Rattle.language.specs.declared.Refusal.TheVariants.{QuestionLength, CountRange}
use Rattle.language.specs.Limits.{Limits, desk, first_desk, Within}
use Rattle.language.specs.Trees.{Functor, symbol, fvar, Hedge, ε, tvar, hvar, node, Expr, eps, cat, alt, star, over, Literal, eqn, mem, Conj, Counts, Question}
use Rattle.language.specs.Writing.{conj_words}
use Rattle.language.specs.Fine.{fine_functor, fine_hedge, fine_expr, fine_literal, fine_conj}
use Rattle.language.specs.Reading.{got}
use Rattle.language.specs.Question.{parts, counts_of, alternatives_of, length_fits, counts_fit, declared_f, declared, declared_e, declared_l, declared_c, declared_q, read_all, asks, refuses, read_question}
use Rattle.language.proofs.Bools.{both_true}
use Rattle.language.proofs.Laws.{conjunctions-read}
use Rattle.language.proofs.Questions.{bad-length, bad-counts, asked}
use Rattle.language.proofs.Alternatives.{fine_all, all_words, read-all}
use Rattle.language.proofs.Asking.{passed}

-- ---- what is declared by counts within the limits has words under these limits

pub record CountsWithin (L : Limits) (n : Counts) (c : ℕ) : Type 0 where
  pub symbol : 1 ≤ n.symbols
  pub symbols : n.symbols ≤ L.each
  pub unordered : n.unordered ≤ n.symbols
  pub terms : n.terms ≤ L.each
  pub hedges : n.hedges ≤ L.each
  pub functions : n.functions ≤ L.each
  pub alternatives : c ≤ L.alternatives

pub counts-within : (L : Limits) (n : Counts) (c : ℕ) → counts_fit L n c ≡ true → CountsWithin L n c
unfolding counts_fit
counts-within L n c e =
    let a = both_true _ _ e in
    let f = both_true _ _ a.0 in
    let h = both_true _ _ f.0 in
    let t = both_true _ _ h.0 in
    let u = both_true _ _ t.0 in
    let s = both_true _ _ u.0 in
    record {
      symbol = leb-true _ _ s.0;
      symbols = leb-true _ _ s.1;
      unordered = leb-true _ _ u.1;
      terms = leb-true _ _ t.1;
      hedges = leb-true _ _ h.1;
      functions = leb-true _ _ f.1;
      alternatives = leb-true _ _ a.1;
    }

pub within-counts : (L : Limits) (n : Counts) (c : ℕ) → CountsWithin L n c → counts_fit L n c ≡ true
unfolding counts_fit
within-counts L n c w =
    rw (le-leb 1 n.symbols w.symbol, le-leb n.symbols L.each w.symbols, le-leb n.unordered n.symbols w.unordered, le-leb n.terms L.each w.terms, le-leb n.hedges L.each w.hedges, le-leb n.functions L.each w.functions) (le-leb c L.alternatives w.alternatives)

module _ (L : Limits) (n : Counts) (c : ℕ) (w : CountsWithin L n c) where
  below : (i m : ℕ) → m ≤ L.each → ltb i m ≡ true → i < L.each
  below i m h e = omega (arith, ltb-true i m e)

  fine-functor : (f : Functor) → declared_f n f ≡ true → fine_functor L f
  fine-functor (symbol f) d = below f.0 n.symbols w.symbols d
  fine-functor (fvar X) d = below X.0 n.functions w.functions d

  fine-hedge : (h : Hedge) → declared n h ≡ true → fine_hedge L h
  fine-hedge ε d = tt
  fine-hedge (tvar x r) d = let (a, b) = both_true _ (declared n r) d in (below x.0 n.terms w.terms a, fine-hedge r b)
  fine-hedge (hvar p r) d = let (a, b) = both_true _ (declared n r) d in (below p.0 n.hedges w.hedges a, fine-hedge r b)
  fine-hedge (node f k r) d =
      let (a, b) = both_true _ (declared n r) d in
      let (e, g) = both_true (declared_f n f) (declared n k) a in
      (fine-functor f e, fine-hedge k g, fine-hedge r b)

  fine-expr : (R : Expr) → declared_e n R ≡ true → fine_expr L R
  fine-expr eps d = tt
  fine-expr (cat a b) d = let (p, q) = both_true (declared_e n a) (declared_e n b) d in (fine-expr a p, fine-expr b q)
  fine-expr (alt a b) d = let (p, q) = both_true (declared_e n a) (declared_e n b) d in (fine-expr a p, fine-expr b q)
  fine-expr (star a) d = fine-expr a d
  fine-expr (over f a) d = let (p, q) = both_true _ (declared_e n a) d in (below f.0 n.symbols w.symbols p, fine-expr a q)

  fine-literal : (l : Literal) → declared_l n l ≡ true → fine_literal L l
  fine-literal (eqn l r) d = let (p, q) = both_true (declared n l) (declared n r) d in (fine-hedge l p, fine-hedge r q)
  fine-literal (mem h R) d = let (p, q) = both_true (declared n h) (declared_e n R) d in (fine-hedge h p, fine-expr R q)

  pub fine-conj : (k : Conj) → declared_c n k ≡ true → fine_conj L k
  fine-conj [] d = tt
  fine-conj (l ∷ k) d = let (p, q) = both_true (declared_l n l) (declared_c n k) d in (fine-literal l p, fine-conj k q)

  pub fine-all : (ks : List Conj) → declared_q n ks ≡ true → fine_all L ks
  fine-all [] d = tt
  fine-all (k ∷ ks) d = let (p, q) = both_true (declared_c n k) (declared_q n ks) d in (fine-conj k p, fine-all ks q)

-- what was written is read back
all_back : (L : Limits) (ks : List Conj) → fine_all L ks → read_all L (map conj_words ks) ≡ got ks (length (all_words (map conj_words ks)))
all_back L [] f = refl
all_back L (k ∷ ks) f =
    rw ((conjunctions-read L).read_back k f.0, all_back L ks f.1) (ap (got (k ∷ ks)) (sym (length-append (conj_words k) (all_words (map conj_words ks)))))

-- ---- two desks

-- A question that a desk reads, and that is not too long and has no count too high for another, is read by the other as the same.
pub read_alike : (L M : Limits) (ws : List ℕ) (q : Question) → read_question M ws ≡ asks q
    → length_fits L ws ≡ true → counts_fit L (counts_of ws) (alternatives_of ws) ≡ true → read_question L ws ≡ asks q
read_alike L M ws q e l c =
    let p = passed M ws q e in
    let ps = parts 5 (alternatives_of ws) ws in
    let fine = fine-all L (counts_of ws) (alternatives_of ws) (counts-within L (counts_of ws) (alternatives_of ws) c) q.alternatives p.declared in
    let words = length (all_words (map conj_words q.alternatives)) in
    let back : read_all L ps ≡ got q.alternatives words = ap (read_all L) (read-all M ps q.alternatives p.words p.read).1 ∙ all_back L q.alternatives fine in
    asked L ws l c p.laid_out q.alternatives words back p.declared ∙ ap (λ (n : Counts). asks (record { counts = n; alternatives = q.alternatives })) (sym p.counts)

-- "an old desk refuses a question past its limits with 2 or 3 and never misreads it"
pub read-or-refused : (L M : Limits) (ws : List ℕ) (q : Question) → read_question M ws ≡ asks q
    → (read_question L ws ≡ asks q) ⊎ ((read_question L ws ≡ refuses QuestionLength) ⊎ (read_question L ws ≡ refuses CountRange))
read-or-refused L M ws q e = on (length_fits L ws) (counts_fit L (counts_of ws) (alternatives_of ws)) refl refl
  where
    on : (a b : Bool) → length_fits L ws ≡ a → counts_fit L (counts_of ws) (alternatives_of ws) ≡ b
        → (read_question L ws ≡ asks q) ⊎ ((read_question L ws ≡ refuses QuestionLength) ⊎ (read_question L ws ≡ refuses CountRange))
    on true true l c = inl (read_alike L M ws q e l c)
    on true false l c = inr (inr (bad-counts L ws l c))
    on false b l c = inr (inl (bad-length L ws l))

-- ---- wider limits

length-wider : (L M : Limits) → Within L M → (ws : List ℕ) → length_fits L ws ≡ true → length_fits M ws ≡ true
unfolding length_fits
length-wider L M i ws e =
    let (a, b) = both_true (leb 6 (length ws)) (leb (length ws) L.question) e in rw a (le-leb (length ws) M.question (omega (arith, leb-true (length ws) L.question b, i.question)))

counts-wider : (L M : Limits) → Within L M → (n : Counts) (c : ℕ) → CountsWithin L n c → CountsWithin M n c
counts-wider L M i n c w = record {
  symbol = w.symbol;
  symbols = omega (arith, w.symbols, i.each);
  unordered = w.unordered;
  terms = omega (arith, w.terms, i.each);
  hedges = omega (arith, w.hedges, i.each);
  functions = omega (arith, w.functions, i.each);
  alternatives = omega (arith, w.alternatives, i.alternatives);
}

-- "Stored questions still read", and as the same.
pub read-wider : (L M : Limits) → Within L M → (ws : List ℕ) (q : Question) → read_question L ws ≡ asks q → read_question M ws ≡ asks q
read-wider L M i ws q e =
    let p = passed L ws q e in
    let n = counts_of ws in
    let c = alternatives_of ws in
    read_alike M L ws q e (length-wider L M i ws p.length-fits) (within-counts M n c (counts-wider L M i n c (counts-within L n c p.counts-fit)))

-- ---- the first desk and the one of "Bigger sheets"

pub first-within : Within first_desk desk
first-within = omega arith

-- "Stored questions still read."
pub stored-read : (ws : List ℕ) (q : Question) → read_question first_desk ws ≡ asks q → read_question desk ws ≡ asks q
stored-read = read-wider first_desk desk first-within

-- "an old desk refuses a question past its limits with 2 or 3 and never misreads it"
pub never-misread : (ws : List ℕ) (q : Question) → read_question desk ws ≡ asks q
    → (read_question first_desk ws ≡ asks q) ⊎ ((read_question first_desk ws ≡ refuses QuestionLength) ⊎ (read_question first_desk ws ≡ refuses CountRange))
never-misread = read-or-refused first_desk desk
