-- A test and those behind it, one after another: what the passed ones come to.
use Prim.Native.Nat.{ℕ, ◌+◌, ◌<◌, ◌≤◌}
use mathlib.Core.Path.{◌≡◌, refl, sym, ap, ◌∙◌}
use mathlib.Core.Bool.{Bool, true, false, false≢true}
use mathlib.Core.List.{List, [], ◌∷◌, ◌++◌, append_assoc, append-nil}
use native.Mathlib.Omega.{arith}
use lib.ListN.{length, drop, length-append}
use Rattle.language.specs.declared.Signature.{Signature}
use Rattle.language.specs.Limits.{desk}
use Rattle.language.specs.Kinds.{pick}
use Rattle.language.specs.Trees.{Hedge, Expr, Literal, eqn, mem, Conj}
use Rattle.language.specs.Writing.{hedge_words, expr_words, literal_words, conj_words}
use Rattle.language.specs.Fine.{fine_conj}
use Rattle.rules.proofs.FineParts.{fine-append}
use Rattle.words.specs.Places.{until_literal}
use Rattle.words.proofs.Parts.{drop_of}
use Rattle.views.specs.Standing.{LiteralAt}
use Rattle.views.proofs.Words.{words_append}
use Rattle.views.proofs.Seen.{literal-next}
use Rattle.views.proofs.LiteralWalks.{Walked, walk_here, walk-to, walk_ends}
use Rattle.expressions.specs.Standing.{Here}
use Rattle.clash.specs.declared.Verdict.{Verdict}
use Rattle.clash.specs.declared.Verdict.TheVariants.{Shares, Clashes, Long}
use Rattle.clash.specs.Judging.{Two}
use Rattle.clashes.specs.declared.Lone.{Lone}
use Rattle.clashes.specs.Pairs.{lone_in, lone_of, is_term, same_lone, test_of, Tested, then_of, behind_of, reply_of}
use Rattle.clashes.proofs.Alone.{hedge-here, nothing-same, first_two, second-two}

-- ---- the expression of a lone variable's test

module _ {k : List ℕ} {at : ℕ} {before : Conj} {h : Hedge} {R : Expr} {behind : Conj} (p : LiteralAt k at before (mem h R) behind) (two : length (hedge_words h) ≡ 2) where
  test-here : Here k (at + 3) R (conj_words behind)
  test-here = record {
    fine = p.fine.1;
    words = drop_of k (at + 1) (at + 3) (hedge_words h) (expr_words R ++ conj_words behind) (hedge-here p) (omega arith);
  }

  test-ends : at + length (literal_words (mem h R)) ≡ at + 3 + length (expr_words R)
  test-ends = omega (arith, length-append (hedge_words h) (expr_words R))

-- ---- two literals

module _ {k : List ℕ} {at : ℕ} {before behind : Conj} {j : ℕ} {done rest : Conj} where
  -- both are tests
  two-of : (l m : Literal) → LiteralAt k at before l behind → LiteralAt k j done m rest → same_lone (lone_of l) (lone_of m) ≡ true → at + length (literal_words l) ≤ j → Two k (at + 3) (j + 3)
  two-of (eqn a b) m p q e le = absurd (false≢true e)
  two-of (mem h R) (eqn a b) p q e le = absurd (false≢true (sym (nothing-same (lone_in h)) ∙ e))
  two-of (mem h R) (mem g S) p q e le =
      let x = first_two h (lone_in g) e in
      record {
        first = R;
        beyond = conj_words behind;
        one = test-here p x;
        second = S;
        further = conj_words rest;
        two = test-here q (second-two (lone_in h) g e);
        apart = let z = test-ends p x in omega arith;
      }

  -- and what they come to stands before what the others do
  judged-of : (σ : Signature) (l m : Literal) (end next : ℕ) (term : Bool) (r : Verdict) → LiteralAt k at before l behind → LiteralAt k j done m rest
      → same_lone (lone_of l) (lone_of m) ≡ true → end ≡ at + length (literal_words l) → next ≡ j + length (literal_words m) → term ≡ is_term (lone_of l)
      → Tested k (at + 3) end (j + 3) next term σ r → reply_of σ l (m ∷ rest) ≡ then_of r (reply_of σ l rest)
  judged-of σ (eqn a b) m end next term r p q e a' b' t d = absurd (false≢true e)
  judged-of σ (mem h R) (eqn a b) end next term r p q e a' b' t d = absurd (false≢true (sym (nothing-same (lone_in h)) ∙ e))
  judged-of σ (mem h R) (mem g S) end next term r p q e a b t d =
      let x = first_two h (lone_in g) e in
      let y = second-two (lone_in h) g e in
      let v : r ≡ test_of σ (is_term (lone_in h)) R S =
      d.each R S (conj_words behind) (conj_words rest) (test-here p x) (test-here q y) (a ∙ test-ends p x) (b ∙ test-ends q y) ∙ ap (λ u. test_of σ u R S) t in
      ap (λ u. pick u (then_of (test_of σ (is_term (lone_in h)) R S) (behind_of σ (lone_in h) R rest)) (behind_of σ (lone_in h) R rest)) e
      ∙ ap (λ u. then_of u (behind_of σ (lone_in h) R rest)) (sym v)

-- where they are not of one variable, the others decide
passed-of : (σ : Signature) (l m : Literal) (rest : Conj) → same_lone (lone_of l) (lone_of m) ≡ false → reply_of σ l (m ∷ rest) ≡ reply_of σ l rest
passed-of σ (eqn a b) m rest e = refl
passed-of σ (mem h R) (eqn a b) rest e = refl
passed-of σ (mem h R) (mem g S) rest e =
    ap (λ u. pick u (then_of (test_of σ (is_term (lone_in h)) R S) (behind_of σ (lone_in h) R rest)) (behind_of σ (lone_in h) R rest)) e

no_more : (σ : Signature) (l : Literal) → reply_of σ l [] ≡ Shares
no_more σ (eqn a b) = refl
no_more σ (mem h R) = refl

-- ---- the walk over those behind

-- those passed share something with l, so that the others decide
abbrev pub Known : Signature → Literal → Conj → Conj → Conj → Type 0
Known σ l behind done rest = reply_of σ l behind ≡ reply_of σ l rest

module _ {k : List ℕ} {at : ℕ} {before : Conj} {l : Literal} {behind : Conj} (p : LiteralAt k at before l behind) (σ : Signature) {end : ℕ}
    (d : end ≡ at + 1 + until_literal (drop (at + 1) k)) where
  fine : fine_conj desk (before ++ (l ∷ behind))
  fine = fine-append desk before (l ∷ behind) p.fine_before (p.fine, p.fine_behind)

  words : k ≡ conj_words (before ++ (l ∷ behind))
  words = p.words ∙ sym (words_append before (l ∷ behind))

  ends : end ≡ at + length (literal_words l)
  ends = d ∙ literal-next p

  pub behind-starts : Walked (Known σ l behind) (before ++ (l ∷ behind)) end
  behind-starts = record {
    done = before ++ (l ∷ []);
    rest = behind;
    whole = sym (append_assoc before (l ∷ []) behind);
    place =
        let a = ap length (words_append before (l ∷ [])) ∙ length-append (conj_words before) (conj_words (l ∷ [])) in
        let b = ap length (append-nil (literal_words l)) in
        let e = ends in
        let z = p.place in
        omega arith;
    known = refl;
  }

  module _ {j : ℕ} (w : Walked (Known σ l behind) (before ++ (l ∷ behind)) j) where
    pub behind-ends : length k ≤ j → Shares ≡ reply_of σ l behind
    behind-ends h = sym (walk_ends k (before ++ (l ∷ behind)) fine words j (Known σ l behind) w h ∙ no_more σ l)

    pub next-within : j < length k → {next : ℕ} → next ≡ j + 1 + until_literal (drop (j + 1) k) → next ≤ length k
    next-within lt {next} n =
        walk_here k (before ++ (l ∷ behind)) fine words j (Known σ l behind) (next ≤ length k) w lt
        λ done m rest q z.
        let e = n ∙ literal-next q in
        let a = ap length q.words ∙ length-append (conj_words done) (literal_words m ++ conj_words rest) in
        let b = length-append (literal_words m) (conj_words rest) in
        let y = q.place in
        omega arith

    module _ (lt : j < length k) {x y : Lone} (ex : x ≡ lone_of l) (ey : (done : Conj) (m : Literal) (rest : Conj) → LiteralAt k j done m rest → y ≡ lone_of m) where
      same_of : {b : Bool} → same_lone x y ≡ b → (done : Conj) (m : Literal) (rest : Conj) → LiteralAt k j done m rest → same_lone (lone_of l) (lone_of m) ≡ b
      same_of e done m rest q = ap (λ u. same_lone u (lone_of m)) (sym ex) ∙ ap (same_lone x) (sym (ey done m rest q)) ∙ e

      pub two-tests : same_lone x y ≡ true → end ≤ j → Two k (at + 3) (j + 3)
      two-tests e le =
          walk_here k (before ++ (l ∷ behind)) fine words j (Known σ l behind) (Two k (at + 3) (j + 3)) w lt
          λ done m rest q z. let n = ends in two-of l m p q (same_of e done m rest q) (omega arith)

      module _ {next : ℕ} (n : next ≡ j + 1 + until_literal (drop (j + 1) k)) where
        pub behind-passed : same_lone x y ≡ false → Walked (Known σ l behind) (before ++ (l ∷ behind)) next
        behind-passed e =
            walk-to k (before ++ (l ∷ behind)) fine words j (Known σ l behind) (Known σ l behind) next w lt
            λ done m rest q z. (n ∙ literal-next q, z ∙ passed-of σ l m rest (same_of e done m rest q))

        module _ {term : Bool} (t : term ≡ is_term x) {r : Verdict} (e : same_lone x y ≡ true) (v : Tested k (at + 3) end (j + 3) next term σ r) where
          judged : (done : Conj) (m : Literal) (rest : Conj) → LiteralAt k j done m rest → reply_of σ l behind ≡ reply_of σ l (m ∷ rest) → reply_of σ l behind ≡ then_of r (reply_of σ l rest)
          judged done m rest q z = z ∙ judged-of σ l m end next term r p q (same_of e done m rest q) ends (n ∙ literal-next q) (t ∙ ap is_term ex) v

          pub behind-shares : Shares ≡ r → Walked (Known σ l behind) (before ++ (l ∷ behind)) next
          behind-shares s =
              walk-to k (before ++ (l ∷ behind)) fine words j (Known σ l behind) (Known σ l behind) next w lt
              λ done m rest q z. (n ∙ literal-next q, judged done m rest q z ∙ ap (λ u. then_of u (reply_of σ l rest)) (sym s))

          pub behind-clashes : Clashes ≡ r → Clashes ≡ reply_of σ l behind
          behind-clashes s =
              walk_here k (before ++ (l ∷ behind)) fine words j (Known σ l behind) (Clashes ≡ reply_of σ l behind) w lt
              λ done m rest q z. sym (judged done m rest q z ∙ ap (λ u. then_of u (reply_of σ l rest)) (sym s))

          pub behind-long : Long ≡ r → Long ≡ reply_of σ l behind
          behind-long s =
              walk_here k (before ++ (l ∷ behind)) fine words j (Known σ l behind) (Long ≡ reply_of σ l behind) w lt
              λ done m rest q z. sym (judged done m rest q z ∙ ap (λ u. then_of u (reply_of σ l rest)) (sym s))
