-- A walk over the literals of a conjunction in its words: where it stands, the literal that stands there, and the next place.
use Prim.Native.Nat.{ℕ, ◌+◌, ◌<◌, ◌≤◌}
use native.Mathlib.Omega.{arith}
use mathlib.Core.Path.{◌≡◌, refl, sym, ap, ◌∙◌, subst}
use mathlib.Core.List.{List, [], ◌∷◌, ◌++◌, append_assoc, append-nil}
use lib.ListN.{length, get_or, drop, length-append}
use Rattle.language.specs.Limits.{desk}
use Rattle.language.specs.Trees.{Hedge, Expr, Literal, eqn, mem, Conj}
use Rattle.language.specs.Writing.{literal_words, conj_words}
use Rattle.language.specs.Fine.{fine_conj}
use Rattle.words.specs.Places.{until_literal}
use Rattle.views.specs.Standing.{LiteralAt}
use Rattle.views.proofs.Words.{words_append}
use Rattle.words.proofs.Parts.{word-of}
use Rattle.views.proofs.Seen.{literal-here, literal-next}
use Rattle.rules.proofs.FineParts.{fine-split}

-- the literals `done` are passed, those of `rest` are to come, and P says what the walk knows
pub record Walked (P : Conj → Conj → Type 0) (c : Conj) (i : ℕ) : Type 0 where
  pub done : Conj
  pub rest : Conj
  pub whole : c ≡ done ++ rest
  pub place : i ≡ length (conj_words done)
  pub known : P done rest

pub walk-starts : (P : Conj → Conj → Type 0) (c : Conj) → P [] c → Walked P c 0
walk-starts P c p = record { done = []; rest = c; whole = refl; place = refl; known = p }

pub literal-some : (l : Literal) → 0 < length (literal_words l)
literal-some (eqn l r) = omega arith
literal-some (mem h R) = omega arith

-- ---- which literal stands at a place, by the word there

module _ (k : List ℕ) (at : ℕ) (Q : Conj → Literal → Conj → Type 0) where
  pub at-equation : get_or k at 0 ≡ 5000 → ((before : Conj) (l r : Hedge) (behind : Conj) → LiteralAt k at before (eqn l r) behind → Q before (eqn l r) behind)
      → (before : Conj) (l : Literal) (behind : Conj) → LiteralAt k at before l behind → Q before l behind
  at-equation e f before (eqn l r) behind p = f before l r behind p
  at-equation e f before (mem h R) behind p = absurd (let z = word-of k at (literal_words (mem h R) ++ conj_words behind) (literal-here p) in omega arith)

  pub at-membership : (get_or k at 0 ≡ 5000 → ⊥) → ((before : Conj) (h : Hedge) (R : Expr) (behind : Conj) → LiteralAt k at before (mem h R) behind → Q before (mem h R) behind)
      → (before : Conj) (l : Literal) (behind : Conj) → LiteralAt k at before l behind → Q before l behind
  at-membership e f before (eqn l r) behind p = absurd (e (word-of k at (literal_words (eqn l r) ++ conj_words behind) (literal-here p)))
  at-membership e f before (mem h R) behind p = f before h R behind p

module _ (k : List ℕ) (c : Conj) (fine : fine_conj desk c) (words : k ≡ conj_words c) (i : ℕ) where
  pub stands_here : (done : Conj) (l : Literal) (rest : Conj) → c ≡ done ++ (l ∷ rest) → i ≡ length (conj_words done) → LiteralAt k i done l rest
  stands_here done l rest e p =
      let f = fine-split desk done (l ∷ rest) (subst (fine_conj desk) e fine) in
      record {
        words = words ∙ ap conj_words e ∙ words_append done (l ∷ rest);
        place = p;
        fine_before = f.0;
        fine = f.1.0;
        fine_behind = f.1.1;
      }

  -- the length of the whole, by what is passed and what is to come
  lengths : (done rest : Conj) → c ≡ done ++ rest → length k ≡ length (conj_words done) + length (conj_words rest)
  lengths done rest e = ap length (words ∙ ap conj_words e ∙ words_append done rest) ∙ length-append (conj_words done) (conj_words rest)

  module _ (P : Conj → Conj → Type 0) where
    -- what is shown of the literal that stands here
    pub walk_here : (Q : Type 0) → Walked P c i → i < length k → ((done : Conj) (l : Literal) (rest : Conj) → LiteralAt k i done l rest → P done (l ∷ rest) → Q) → Q
    walk_here Q w h f = go w.done w.rest w.whole w.place w.known
      where
        go : (done rest : Conj) → c ≡ done ++ rest → i ≡ length (conj_words done) → P done rest → Q
        go done [] e p q = absurd (let z = lengths done [] e in omega arith)
        go done (l ∷ rest) e p q = f done l rest (stands_here done l rest e p) q

    pub walk_ends : Walked P c i → length k ≤ i → P c []
    walk_ends w h = go w.done w.rest w.whole w.place w.known
      where
        go : (done rest : Conj) → c ≡ done ++ rest → i ≡ length (conj_words done) → P done rest → P c []
        go done [] e p q = subst (λ d. P d []) (sym (append-nil done) ∙ sym e) q
        go done (l ∷ rest) e p q =
            absurd (let z = lengths done (l ∷ rest) e in let y = length-append (literal_words l) (conj_words rest) in let x = literal-some l in omega arith)

    -- the literal that stands here is passed
    pub walk-to : (P' : Conj → Conj → Type 0) (j : ℕ) → Walked P c i → i < length k
        → ((done : Conj) (l : Literal) (rest : Conj) → LiteralAt k i done l rest → P done (l ∷ rest) → (j ≡ i + length (literal_words l)) × P' (done ++ (l ∷ [])) rest)
        → Walked P' c j
    walk-to P' j w h f = go w.done w.rest w.whole w.place w.known
      where
        go : (done rest : Conj) → c ≡ done ++ rest → i ≡ length (conj_words done) → P done rest → Walked P' c j
        go done [] e p q = absurd (let z = lengths done [] e in omega arith)
        go done (l ∷ rest) e p q =
            let s = f done l rest (stands_here done l rest e p) q in
            record {
              done = done ++ (l ∷ []);
              rest = rest;
              whole = e ∙ sym (append_assoc done (l ∷ []) rest);
              place =
                  s.0
                  ∙ (let a = ap length (words_append done (l ∷ [])) ∙ length-append (conj_words done) (conj_words (l ∷ [])) in
                  let b = ap length (append-nil (literal_words l)) in
                  let z : i + length (literal_words l) ≡ length (conj_words (done ++ (l ∷ []))) = omega arith in z);
              known = s.1;
            }

    pub walk-on : (P' : Conj → Conj → Type 0) (j : ℕ) → Walked P c i → i < length k → j ≡ i + 1 + until_literal (drop (i + 1) k)
        → ((done : Conj) (l : Literal) (rest : Conj) → LiteralAt k i done l rest → P done (l ∷ rest) → P' (done ++ (l ∷ [])) rest) → Walked P' c j
    walk-on P' j w h n f = walk-to P' j w h (λ done l rest s q. (n ∙ literal-next s, f done l rest s q))
