-- What it takes for an example to be shown, and what is known then: the question was read, its run finished, and the line asked for is solved.
use Prim.Native.Nat.{ℕ, suc, ◌≤◌}
use mathlib.Core.Path.{◌≡◌, refl}
use mathlib.Core.Logic.{inl, inr}
use mathlib.Core.Bool.{Bool, true, false, ◌||◌}
use mathlib.Core.List.{List, [], ◌∷◌}
use mathlib.Core.Option.{Option, none, some}
use native.Mathlib.Omega.{arith}
use borrow.Author.Tests.{ltb-false}
use lib.Dec.{ltb}
use lib.ListN.{length}
use Rattle.language.specs.declared.Refusal.TheVariants.{QuestionLength, CountRange, BadOffset, LongExample, OpenLine}
use Rattle.language.specs.Limits.{Limits}
use Rattle.language.specs.declared.Signature.{Signature}
use Rattle.language.specs.Trees.{Conj, Counts, Question}
use Rattle.language.specs.Question.{counts_of, alternatives_of, length_fits, counts_fit, laid_out, parts, read_all, declared_q, asks, read_question}
use Rattle.meaning.specs.Meaning.{Filling, MeetsAll, MeetsOne}
use Rattle.meaning.specs.Values.{filling_words}
use Rattle.rules.specs.Solved.{solved}
use Rattle.rules.specs.Run.{Numbered, EachLine, unnumbered}
use Rattle.rules.specs.Answer.{Solving, answered, unread, given-up, solving}
use Rattle.rules.specs.Example.{default_symbol, example}
use Rattle.rules.specs.Calls.{line_at, Showing, shows, denied, fitted, shown, showing_of, showing}
use Rattle.rules.proofs.Tests.{test-true}
use Rattle.exact.proofs.Declared.{Asks, passes, reads}
use Rattle.lines.specs.Fillings.{WordsMeet}

-- ---- a line of a list

pub each_line : (P : Conj → Type 0) (i : ℕ) (ls : List Numbered) (k : Numbered) → line_at i ls ≡ some k → EachLine P ls → P k.literals
each_line P i [] k e p = absurd (let z : ◌≡◌ {A = ℕ} 0 1 = cc in omega arith)
each_line P ℕ.zero (l ∷ ls) k e p = let d : l ≡ k = cc in rw d at p.0
each_line P (ℕ.suc i) (l ∷ ls) k e p = each_line P i ls k e p.1

-- what meets a line meets the lines
pub meets-lines : (σ : Signature) (ρ : Filling) (i : ℕ) (ls : List Numbered) (k : Numbered) → line_at i ls ≡ some k → MeetsAll σ ρ k.literals → MeetsOne σ ρ (unnumbered ls)
meets-lines σ ρ i [] k e m = absurd (let z : ◌≡◌ {A = ℕ} 0 1 = cc in omega arith)
meets-lines σ ρ ℕ.zero (l ∷ ls) k e m = let d : l ≡ k = cc in inl (rw d m)
meets-lines σ ρ (ℕ.suc i) (l ∷ ls) k e m = inr (meets-lines σ ρ i ls k e m)

-- ---- an example that is shown

-- the words fs are those of the example of this line of an answered question, and fit
pub record Shows (L : Limits) (old : Bool) (n : Counts) (room line : ℕ) (s : Solving) (fs : List ℕ) : Type 0 where
  pub lines : List Numbered
  pub steps : ℕ
  pub number : ℕ
  pub literals : Conj
  pub was-answered : s ≡ answered lines steps
  pub there : line_at line lines ≡ some (record { number = number; literals = literals })
  pub is-solved : solved literals ≡ true
  pub written : fs ≡ filling_words n (example (default_symbol old n) literals)
  pub fits : length fs ≤ L.filling
  pub fits-room : length fs ≤ room

module _ (L : Limits) (old : Bool) (n : Counts) (room line : ℕ) (fs : List ℕ) where
  -- the words fit
  fit : (a b : Bool) (ws : List ℕ) → elim (a || b) [ true ↦ denied LongExample | false ↦ shows ws ] ≡ shows fs → (a ≡ false) × (b ≡ false) × (ws ≡ fs)
  fit true b ws e = absurd (let z : ◌≡◌ {A = ℕ} 0 1 = cc in omega arith)
  fit false true ws e = absurd (let z : ◌≡◌ {A = ℕ} 0 1 = cc in omega arith)
  fit false false ws e = (refl, refl, cc)

  -- the line is solved
  open-denied : (b : Bool) (o : Showing) → elim b [ true ↦ o | false ↦ denied OpenLine ] ≡ shows fs → (b ≡ true) × (o ≡ shows fs)
  open-denied true o e = (refl, e)
  open-denied false o e = absurd (let z : ◌≡◌ {A = ℕ} 0 1 = cc in omega arith)

  of-line : (ls : List Numbered) (m : ℕ) (l : Option Numbered) → line_at line ls ≡ l → shown L old n room l ≡ shows fs → Shows L old n room line (answered ls m) fs
  of-line ls m none d e = absurd (let z : ◌≡◌ {A = ℕ} 0 1 = cc in omega arith)
  of-line ls m (some k) d e =
      let (s, f) = open-denied (solved k.literals) (fitted L room (filling_words n (example (default_symbol old n) k.literals))) e in
      let (a, b, w) = fit (ltb L.filling (length (filling_words n (example (default_symbol old n) k.literals)))) (ltb room (length (filling_words n (example (default_symbol old n) k.literals)))) (filling_words n (example (default_symbol old n) k.literals)) f in
      record {
        lines = ls;
        steps = m;
        number = k.number;
        literals = k.literals;
        was-answered = refl;
        there = d;
        is-solved = s;
        written = cc;
        fits = rw w at (ltb-false L.filling (length (filling_words n (example (default_symbol old n) k.literals))) a);
        fits-room = rw w at (ltb-false room (length (filling_words n (example (default_symbol old n) k.literals))) b);
      }

  pub of-solving : (s : Solving) → showing_of L old n room line s ≡ shows fs → Shows L old n room line s fs
  of-solving (answered ls m) e = of-line ls m (line_at line ls) refl e
  of-solving (unread r) e = absurd (let z : ◌≡◌ {A = ℕ} 0 1 = cc in omega arith)
  of-solving (given-up r) e = absurd (let z : ◌≡◌ {A = ℕ} 0 1 = cc in omega arith)

pub shown-is : (L : Limits) (old : Bool) (work answer room line : ℕ) (ws fs : List ℕ) → showing L old work answer room line ws ≡ shows fs
    → Shows L old (counts_of ws) room line (solving L work answer ws) fs
unfolding showing
shown-is L old work answer room line ws fs e = of-solving L old (counts_of ws) room line fs (solving L work answer ws) e

-- the words shown are those of the example by the question's own counts
pub words-meet : (L : Limits) (old : Bool) (n m : Counts) (fs : List ℕ) (k : Conj) (w : List Conj) → n ≡ m
    → fs ≡ filling_words m (example (default_symbol old m) k) → length fs ≤ L.filling
    → (length (filling_words n (example (default_symbol old n) k)) ≤ L.filling → WordsMeet L n (filling_words n (example (default_symbol old n) k)) w)
    → WordsMeet L n fs w
words-meet L old n m fs k w c e s h = rw (e, ← c) (h (rw (e, ← c) at s))

-- ---- the counts of a question that is read

asked-counts : (L : Limits) (ws : List ℕ) → Asks (λ q. counts_fit L (counts_of ws) (alternatives_of ws) ≡ true) (read_question L ws)
unfolding read_question
asked-counts L ws =
    let Fit : Question → Type 0 = λ q. counts_fit L (counts_of ws) (alternatives_of ws) ≡ true in
    passes Fit (length_fits L ws) QuestionLength _ λ _.
    passes Fit (counts_fit L (counts_of ws) (alternatives_of ws)) CountRange _ λ t.
    passes Fit (laid_out 5 (alternatives_of ws) ws) BadOffset _ λ _.
    reads Fit (read_all L (parts 5 (alternatives_of ws) ws)) _ _ λ ks.
    passes Fit (declared_q (counts_of ws) ks) _ _ λ _. (test-true (counts_fit L (counts_of ws) (alternatives_of ws))).0 t

pub read-counts : (L : Limits) (ws : List ℕ) (q : Question) → read_question L ws ≡ asks q → counts_fit L (counts_of ws) (alternatives_of ws) ≡ true
read-counts L ws q e = rw e at (asked-counts L ws)
