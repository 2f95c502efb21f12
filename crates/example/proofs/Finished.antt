-- The lines of an answered question: they fit, their words are words of the desk, and no rule applies to them.
use Prim.Native.Nat.{ℕ, ◌+◌, ◌≤◌}
use mathlib.Core.Path.{◌≡◌, refl}
use mathlib.Core.Bool.{true, ◌&&◌}
use mathlib.Core.List.{List, [], ◌∷◌}
use native.Mathlib.Omega.{arith}
use lib.Dec.{leb}
use lib.ListN.{length}
use borrow.Author.Tests.{ltb-true, leb-true}
use Rattle.language.specs.Limits.{desk}
use Rattle.language.specs.Trees.{Functor, symbol, fvar, Hedge, ε, tvar, hvar, node, Expr, eps, cat, alt, star, over, Literal, eqn, mem, Conj, Counts, signature, Question}
use Rattle.language.specs.Fine.{fine_functor, fine_hedge, fine_expr, fine_literal, fine_conj}
use Rattle.language.specs.Question.{asks, read_question, counts_of, declared_s, declared_t, declared_h, declared_f, declared, declared_e, declared_l, declared_c}
use Rattle.language.proofs.Bools.{both_true}
use Rattle.language.proofs.Asking.{ranges, passed}
use Rattle.rules.specs.Reply.{nothing}
use Rattle.rules.specs.Step.{step}
use Rattle.rules.specs.Run.{Numbered, EachLine, lines_size, lines_at, lines_fit}
use Rattle.rules.specs.Answer.{solving, answered}
use Rattle.rules.proofs.Invariant.{answered-run}
use Rattle.exact.proofs.Exact.{lines-settled, lines-all-declared}
use Rattle.exact.proofs.Declared.{read-declared}
use Rattle.exact.proofs.Wider.{lines_fit_lem}
use Rattle.answer_example.specs.Answers.{Good, Ranged}
use Rattle.example.proofs.Settling.{settled-line}

-- ---- what is declared has words

module _ (n : Counts) (s : n.symbols ≤ desk.each) (t : n.terms ≤ desk.each) (h : n.hedges ≤ desk.each) (f : n.functions ≤ desk.each) where
  functor-fine : (F : Functor) → declared_f n F ≡ true → fine_functor desk F
  functor-fine (symbol g) e = let i = ltb-true g.0 n.symbols e in omega arith
  functor-fine (fvar X) e = let i = ltb-true X.0 n.functions e in omega arith

  hedge-fine : (k : Hedge) → declared n k ≡ true → fine_hedge desk k
  hedge-fine ε e = tt
  hedge-fine (tvar x r) e = let (a, b) = both_true (declared_t n x) (declared n r) e in let i = ltb-true x.0 n.terms a in (omega arith, hedge-fine r b)
  hedge-fine (hvar p r) e = let (a, b) = both_true (declared_h n p) (declared n r) e in let i = ltb-true p.0 n.hedges a in (omega arith, hedge-fine r b)
  hedge-fine (node F c r) e =
      let (a, b) = both_true (declared_f n F && declared n c) (declared n r) e in
      let (u, v) = both_true (declared_f n F) (declared n c) a in
      (functor-fine F u, hedge-fine c v, hedge-fine r b)

  expr-fine : (R : Expr) → declared_e n R ≡ true → fine_expr desk R
  expr-fine eps e = tt
  expr-fine (cat a b) e = let (u, v) = both_true (declared_e n a) (declared_e n b) e in (expr-fine a u, expr-fine b v)
  expr-fine (alt a b) e = let (u, v) = both_true (declared_e n a) (declared_e n b) e in (expr-fine a u, expr-fine b v)
  expr-fine (star a) e = expr-fine a e
  expr-fine (over g a) e = let (u, v) = both_true (declared_s n g) (declared_e n a) e in let i = ltb-true g.0 n.symbols u in (omega arith, expr-fine a v)

  literal-fine : (l : Literal) → declared_l n l ≡ true → fine_literal desk l
  literal-fine (eqn l r) e = let (u, v) = both_true (declared n l) (declared n r) e in (hedge-fine l u, hedge-fine r v)
  literal-fine (mem k R) e = let (u, v) = both_true (declared n k) (declared_e n R) e in (hedge-fine k u, expr-fine R v)

  conj-fine : (c : Conj) → declared_c n c ≡ true → fine_conj desk c
  conj-fine [] e = tt
  conj-fine (l ∷ c) e = let (u, v) = both_true (declared_l n l) (declared_c n c) e in (literal-fine l u, conj-fine c v)

-- ---- an answered question

pub record Ends (question : List ℕ) (ls : List Numbered) : Type 0 where
  pub ranged : Ranged question
  pub few : length ls ≤ desk.lines
  pub size : lines_at desk + lines_size ls ≤ desk.room
  pub lines : EachLine Good ls

each-good : (n : Counts) → n.symbols ≤ desk.each → n.terms ≤ desk.each → n.hedges ≤ desk.each → n.functions ≤ desk.each → (ls : List Numbered) → EachLine (λ k. declared_c n k ≡ true) ls → EachLine (λ k. step (signature n) k ≡ nothing) ls → EachLine Good ls
each-good n s t h f [] d q = tt
each-good n s t h f (l ∷ ls) d q = (record { fine = conj-fine n s t h f l.literals d.0; settled = settled-line (signature n) l.literals q.0 }, each-good n s t h f ls d.1 q.1)

-- a question that was read, and lines that fit, are declared, and that no rule applies to
pub ends_of : (question : List ℕ) (q : Question) → read_question desk question ≡ asks q → (ls : List Numbered) → lines_fit desk ls ≡ true
    → EachLine (λ k. declared_c q.counts k ≡ true) ls → EachLine (λ k. step (signature q.counts) k ≡ nothing) ls → Ends question ls
ends_of question q asked ls fit d quiet =
    let r = ranges desk question q asked in
    let f = both_true (leb (length ls) desk.lines) (leb (lines_at desk + lines_size ls) desk.room) fit in
    let l = r.long in
    let counts = (passed desk question q asked).counts in
    record {
      ranged = record { header = omega arith; named = r.symbol; symbols = r.symbols; terms = r.terms; hedges = r.hedges; functions = r.functions };
      few = leb-true _ _ f.0;
      size = leb-true _ _ f.1;
      lines = each-good (counts_of question) r.symbols r.terms r.hedges r.functions ls (rw counts at d) (rw counts at quiet);
    }

pub lines_end : (work answer : ℕ) (question : List ℕ) (ls : List Numbered) (n : ℕ) → solving desk work answer question ≡ answered ls n → Ends question ls
lines_end work answer question ls n e =
    let (q, asked, ran) = answered-run desk work answer question ls n e in
    let σ = signature q.counts in
    ends_of question q asked ls (lines_fit_lem desk refl σ q.alternatives ls n ran)
    (lines-all-declared q.counts desk q.alternatives ls n ran (read-declared desk question q asked).1) (lines-settled σ desk q.alternatives ls n ran)
