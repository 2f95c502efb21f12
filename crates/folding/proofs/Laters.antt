-- A walk over the literals behind one: those passed have other words.
use mathlib.Core.Path.{◌≡◌, sym, ap, ◌∙◌}
use mathlib.Core.Bool.{true, false}
use mathlib.Core.List.{List, [], ◌∷◌, ◌++◌, append_assoc, append-nil}
use Prim.Native.Nat.{ℕ, ◌+◌, ◌<◌, ◌≤◌}
use native.Mathlib.Omega.{arith}
use lib.ListN.{length, drop, length-append}
use lib.Seq.{slice}
use Rattle.language.specs.Limits.{desk}
use Rattle.language.specs.Kinds.{pick}
use Rattle.language.specs.Trees.{Literal, Conj, same_literal}
use Rattle.language.specs.Writing.{literal_words, conj_words}
use Rattle.language.specs.Fine.{fine_conj}
use Rattle.rules.proofs.FineParts.{fine-append}
use Rattle.words.specs.Places.{until_literal, same_list}
use Rattle.views.specs.Standing.{LiteralAt}
use Rattle.views.proofs.Words.{words_append}
use Rattle.views.proofs.Seen.{literal-next}
use Rattle.views.proofs.LiteralWalks.{Walked, walk_here, walk-to, walk_ends}
use Rattle.folding.specs.Twice.{until_same}
use Rattle.folding.proofs.Same.{literal-words, same-words}

-- the first that has the same words is so many words behind j as among those to come
abbrev pub Passed : ℕ → Literal → Conj → ℕ → Conj → Conj → Type 0
Passed at l behind j done rest = at + length (literal_words l) + until_same l behind ≡ j + until_same l rest

module _ {k : List ℕ} {at : ℕ} {before : Conj} {l : Literal} {behind : Conj} (s : LiteralAt k at before l behind) (end : ℕ) (d : end ≡ at + 1 + until_literal (drop (at + 1) k)) where
  abbrev pub whole : Conj
  whole = before ++ (l ∷ behind)

  fine : fine_conj desk (before ++ (l ∷ behind))
  fine = fine-append desk before (l ∷ behind) s.fine_before (s.fine, s.fine_behind)

  words : k ≡ conj_words (before ++ (l ∷ behind))
  words = s.words ∙ sym (words_append before (l ∷ behind))

  ends : end ≡ at + length (literal_words l)
  ends = d ∙ literal-next s

  pub later-starts : Walked (Passed at l behind end) (before ++ (l ∷ behind)) end
  later-starts = record {
    done = before ++ (l ∷ []);
    rest = behind;
    whole = sym (append_assoc before (l ∷ []) behind);
    place =
        let a = ap length (words_append before (l ∷ [])) ∙ length-append (conj_words before) (conj_words (l ∷ [])) in
        let b = ap length (append-nil (literal_words l)) in
        let e = ends in
        let p = s.place in
        omega arith;
    known = ap (λ n. n + until_same l behind) (sym ends);
  }

  module _ (j : ℕ) (w : Walked (Passed at l behind j) (before ++ (l ∷ behind)) j) where
    -- the words of the two literals, compared
    compared : (after : ℕ) → after ≡ j + 1 + until_literal (drop (j + 1) k) → (done : Conj) (m : Literal) (rest : Conj) → LiteralAt k j done m rest
        → same_list (slice at end k) (slice j after k) ≡ same_literal l m
    compared after e done m rest p =
        ap (λ us. same_list us (slice j after k)) (literal-words s end ends) ∙ ap (same_list (literal_words l)) (literal-words p after (e ∙ literal-next p))
        ∙ same-words l m s.fine p.fine

    pub later-found : (after : ℕ) → after ≡ j + 1 + until_literal (drop (j + 1) k) → j < length k → same_list (slice at end k) (slice j after k) ≡ true
        → j ≡ at + length (literal_words l) + until_same l behind
    later-found after e h t =
        walk_here k (before ++ (l ∷ behind)) fine words j (Passed at l behind j) (j ≡ at + length (literal_words l) + until_same l behind) w h
        λ done m rest p q.
        let z = ap (λ b. pick b 0 (length (literal_words m) + until_same l rest)) (sym (compared after e done m rest p) ∙ t) in omega arith

    pub later-on : (after : ℕ) → after ≡ j + 1 + until_literal (drop (j + 1) k) → j < length k → same_list (slice at end k) (slice j after k) ≡ false
        → Walked (Passed at l behind after) (before ++ (l ∷ behind)) after
    later-on after e h t =
        walk-to k (before ++ (l ∷ behind)) fine words j (Passed at l behind j) (Passed at l behind after) after w h
        λ done m rest p q.
        let n = e ∙ literal-next p in
        let z = ap (λ b. pick b 0 (length (literal_words m) + until_same l rest)) (sym (compared after e done m rest p) ∙ t) in
        (n, omega arith)

    pub later-ends : length k ≤ j → j ≡ at + length (literal_words l) + until_same l behind
    later-ends h = let z = walk_ends k (before ++ (l ∷ behind)) fine words j (Passed at l behind j) w h in omega arith
