-- What a walk finds of a variable: its expression, and the literal that holds it.
use Prim.Native.Nat.{ℕ, ◌+◌, ◌<◌, ◌≤◌}
use mathlib.Core.Path.{◌≡◌, refl, sym, ap, ◌∙◌}
use mathlib.Core.Bool.{Bool, true, false}
use mathlib.Core.List.{List, [], ◌∷◌, ◌++◌, append_assoc}
use mathlib.Core.Option.{some}
use native.Mathlib.Omega.{arith}
use lib.ListN.{length, drop, get_or}
use Rattle.std.specs.Prelude.{Some, None}
use lib.Seq.{slice}
use Rattle.language.specs.Kinds.{pick}
use Rattle.language.specs.Trees.{Hedge, Expr, Literal, eqn, mem, Conj, Var, holds, in_literal}
use Rattle.language.specs.Writing.{hedge_words, expr_words, literal_words, conj_words}
use Rattle.rules.specs.Solved.{solves}
use Rattle.rules.specs.Example.{expression_of, binds, bound}
use Rattle.words.specs.Spans.{member}
use Rattle.views.specs.Views.{Sided}
use Rattle.views.specs.declared.Side.{Side}
use Rattle.expressions.specs.Standing.{Here}
use Rattle.words.specs.Places.{until_literal}
use Rattle.views.specs.Variables.{variable_word}
use Rattle.values.specs.declared.Variable.{Variable}
use Rattle.views.specs.Standing.{Stands, LiteralAt}
use Rattle.words.proofs.Parts.{part_of, drop_of, word-of}
use Rattle.views.proofs.Members.{member-hedge, member-literal}
use Rattle.values.specs.Lines.{var_of, Named, Line, Word, Told, Expressed, expressed, unexpressed, Held, held, unheld, Walk}
use Rattle.values.proofs.Walks.{literal-here, literal-ends, walk-literal, walk-next, walk_end}

-- ---- at one literal

-- what is told of a side at a place
abbrev pub Sides : List ℕ → ℕ → Side → Type 0
Sides k i s = (h : Hedge) (beyond : List ℕ) → Stands k i h beyond → Sided k s h

-- what is told of the literal at a place
abbrev pub ShownAt : List ℕ → ℕ → Var → ℕ → Type 0
ShownAt k at v r = (before : Conj) (l : Literal) (behind : Conj) → LiteralAt k at before l behind → Told k l behind v r

module _ {k : List ℕ} {at : ℕ} {before behind : Conj} where
  first-word : {l : Literal} → LiteralAt k at before l behind → get_or k at 0 ≡ get_or (literal_words l ++ conj_words behind) 0 0
  first-word {l} a = word-of k at (literal_words l ++ conj_words behind) (literal-here a)

  not-membership : (l : Literal) (v : Var) → LiteralAt k at before l behind → (get_or k at 0 ≡ 6000 → ⊥) → expression_of v (l ∷ behind) ≡ expression_of v behind
  not-membership (eqn l r) v a n = refl
  not-membership (mem h R) v a n = absurd (n (first-word a))

  -- the hedge of a membership, and its expression
  hedge-stands : {h : Hedge} {R : Expr} → LiteralAt k at before (mem h R) behind → Stands k (at + 1) h (expr_words R ++ conj_words behind)
  hedge-stands {h} {R} a = record {
    fine = a.fine.0;
    here = drop_of k at (at + 1) (6000 ∷ []) ((hedge_words h ++ expr_words R) ++ conj_words behind) (literal-here a) refl
        ∙ append_assoc (hedge_words h) (expr_words R) (conj_words behind);
  }

  expression-here : {h : Hedge} {R : Expr} {e : ℕ} → LiteralAt k at before (mem h R) behind → e ≡ at + 1 + length (hedge_words h) → Here k e R (conj_words behind)
  expression-here {h} {R} {e} a d = record {
    fine = a.fine.1;
    words = drop_of k (at + 1) e (hedge_words h) (expr_words R ++ conj_words behind) (hedge-stands a).here d;
  }

  module _ {v : Var} {x : ℕ} (w : Word v x) where
    in-hedge : {h : Hedge} {R : Expr} {e : ℕ} → LiteralAt k at before (mem h R) behind → e ≡ at + 1 + length (hedge_words h) → member x (slice (at + 1) e k) ≡ holds v h
    in-hedge {h} {R} {e} a d =
        ap (member x) (part_of k (at + 1) e (hedge_words h) (expr_words R ++ conj_words behind) (hedge-stands a).here d)
        ∙ ap (λ y. member y (hedge_words h)) w.is ∙ member-hedge v w.fine h a.fine.0

    pub in-literal : {l : Literal} {next : ℕ} → LiteralAt k at before l behind → next ≡ at + 1 + until_literal (drop (at + 1) k) → member x (slice at next k) ≡ in_literal v l
    in-literal {l} {next} a d =
        ap (member x) (part_of k at next (literal_words l) (conj_words behind) (literal-here a) (d ∙ literal-ends a))
        ∙ ap (λ y. member y (literal_words l)) w.is ∙ member-literal v w.fine l a.fine

  pub shown-other : {l : Literal} {v : Var} → LiteralAt k at before l behind → (get_or k at 0 ≡ 6000 → ⊥) → Told k l behind v 0
  shown-other {l} {v} a n = record { missing = λ _. not-membership l v a n; there = λ z. absurd (z refl) }

  pub shown-held : {s : Side} (l : Literal) {v : Var} {x : ℕ} {b : Bool} → LiteralAt k at before l behind → Word v x → get_or k at 0 ≡ 6000 → (s.from ≡ at + 1) × Sides k (at + 1) s → b ≡ member x (slice (at + 1) s.to k) → b ≡ true → Told k l behind v s.to
  shown-held {s} (eqn l r) a w z t q m = absurd (let y = first-word a in omega arith)
  shown-held {s} (mem h R) {v} {x} a w z t q m =
      let d : s.to ≡ at + 1 + length (hedge_words h) = (t.1 h _ (hedge-stands a)).to ∙ ap (λ i. i + length (hedge_words h)) t.0 in
      let p : holds v h ≡ true = sym (in-hedge w a d) ∙ sym q ∙ m in
      record {
        missing = λ y. absurd (omega arith);
        there = λ _. record { R = R; beyond = conj_words behind; is = ap (λ b. pick b (some R) (expression_of v behind)) p; here = expression-here a d };
      }

  pub shown-unheld : {s : Side} (l : Literal) {v : Var} {x : ℕ} {b : Bool} → LiteralAt k at before l behind → Word v x → get_or k at 0 ≡ 6000 → (s.from ≡ at + 1) × Sides k (at + 1) s → b ≡ member x (slice (at + 1) s.to k) → b ≡ false → Told k l behind v 0
  shown-unheld {s} (eqn l r) a w z t q m = absurd (let y = first-word a in omega arith)
  shown-unheld {s} (mem h R) {v} {x} a w z t q m =
      let d : s.to ≡ at + 1 + length (hedge_words h) = (t.1 h _ (hedge-stands a)).to ∙ ap (λ i. i + length (hedge_words h)) t.0 in
      let p : holds v h ≡ false = sym (in-hedge w a d) ∙ sym q ∙ m in
      record { missing = λ _. ap (λ b. pick b (some R) (expression_of v behind)) p; there = λ z. absurd (z refl) }

-- ---- on the way

-- a variable by its word
pub worded : {v : Var} {x : Variable} {w : ℕ} → Named v x → w ≡ variable_word (var_of x) → Word v w
worded n e = record { fine = n.fine; is = e ∙ ap variable_word n.is }

abbrev pub Seeking : Conj → Var → Conj → Conj → Type 0
Seeking c v before behind = expression_of v c ≡ expression_of v behind

abbrev pub Binding : Conj → Var → Conj → Conj → Type 0
Binding c v before behind = bound v [] c ≡ bound v before behind

module _ {k : List ℕ} {at : ℕ} {c : Conj} {v : Var} {x : ℕ} (s : Line k c) (w : Word v x) where
  pub expressed-here : {e : ℕ} → Walk k at c (Seeking c v) → at < length k → ShownAt k at v e → (e ≡ 0 → ⊥) → Expressed k c v (Some e)
  expressed-here {e} t i g n = walk-literal s t i (λ before l behind a p.
      let f = (g before l behind a).there n in
      expressed (record { R = f.R; beyond = f.beyond; is = p ∙ f.is; here = f.here }))

  pub seeking-on : {e next : ℕ} → Walk k at c (Seeking c v) → at < length k → ShownAt k at v e → e ≡ 0 → next ≡ at + 1 + until_literal (drop (at + 1) k) → Walk k next c (Seeking c v)
  seeking-on {e} {next} t i g z n = walk-next s t i n (λ before l behind a p. p ∙ (g before l behind a).missing z)

  pub expressed-nowhere : Walk k at c (Seeking c v) → length k ≤ at → Expressed k c v None
  expressed-nowhere t i = walk_end s t i (λ before p. unexpressed p)

  pub held-here : {next : ℕ} {b : Bool} → Walk k at c (Binding c v) → at < length k → next ≡ at + 1 + until_literal (drop (at + 1) k) → b ≡ member x (slice at next k) → b ≡ true → Held k c v (Some at)
  held-here {next} t i n q m = walk-literal s t i (λ before l behind a p.
      held before l behind a (p ∙ ap (λ b. pick b (binds v (solves (before ++ behind) l)) (bound v (before ++ (l ∷ [])) behind)) (sym (in-literal w a n) ∙ sym q ∙ m)))

  pub binding-on : {next : ℕ} {b : Bool} → Walk k at c (Binding c v) → at < length k → next ≡ at + 1 + until_literal (drop (at + 1) k) → b ≡ member x (slice at next k) → b ≡ false → Walk k next c (Binding c v)
  binding-on {next} t i n q m = walk-next s t i n (λ before l behind a p.
      p ∙ ap (λ b. pick b (binds v (solves (before ++ behind) l)) (bound v (before ++ (l ∷ [])) behind)) (sym (in-literal w a n) ∙ sym q ∙ m))

  pub held-nowhere : Walk k at c (Binding c v) → length k ≤ at → Held k c v None
  held-nowhere t i = walk_end s t i (λ before p. unheld p)
