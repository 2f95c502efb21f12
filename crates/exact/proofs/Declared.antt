-- Every line is made of declared symbols and variables, since a question is and the rules make no new names.
use Prim.Native.Nat.{ℕ}
use mathlib.Core.Path.{◌≡◌, refl}
use mathlib.Core.Logic.{◌↔◌}
use mathlib.Core.Bool.{Bool, true, false, ◌&&◌}
use mathlib.Core.List.{List, [], ◌∷◌}
use lib.Dec.{T, lt→ltb}
use Rattle.language.specs.Limits.{Limits}
use Rattle.language.specs.declared.Refusal.{Refusal}
use Rattle.language.specs.declared.Refusal.TheVariants.{QuestionLength, CountRange, BadOffset}
use Rattle.language.specs.Trees.{Functor, symbol, fvar, Hedge, ε, tvar, hvar, node, Expr, eps, cat, alt, star, over, Literal, eqn, mem, Conj, Counts, signature, Question, tv, hv, fv}
use Rattle.language.specs.Reading.{Got, got, stop}
use Rattle.language.specs.Question.{counts_of, alternatives_of, length_fits, counts_fit, laid_out, parts, read_all, declared_s, declared_t, declared_h, declared_x, declared_f, declared, declared_e, declared_l, declared_c, declared_q, Asked, asks, refuses, read_question}
use Rattle.rules.specs.Reply.{results}
use Rattle.rules.specs.Step.{Spot, step_at}
use Rattle.rules.specs.Run.{Numbered, EachLine, finished, run}
use Rattle.rules.specs.Each.{Each}
use Rattle.rules.proofs.Each.{each-imp}
use Rattle.rules.proofs.Tests.{and_parts, and_both, test-true}
use Rattle.rules.proofs.Invariant.{lines_keep}
use Rattle.rules.proofs.Steps.{Kept, named-at-sides}
use Rattle.exact.specs.Made.{Name, a_symbol, a_variable, MadeF, Made, MadeE, MadeL, MadeC}
use Rattle.exact.proofs.MadeByRules.{each-rule-makes, step-made}

-- ---- declared is made of declared names

module _ (n : Counts) where
  abbrev Declared : Name → Type 0
  Declared (a_symbol f) = T (declared_s n f)
  Declared (a_variable (tv x)) = T (declared_t n x)
  Declared (a_variable (hv p)) = T (declared_h n p)
  Declared (a_variable (fv X)) = T (declared_x n X)

  -- two tests that stand for two facts
  both-are : {P Q : Type 0} (a b : Bool) → T a ↔ P → T b ↔ Q → T (a && b) ↔ (P × Q)
  both-are a b p q = (λ t. let (s, u) = and_parts a b t in (p.0 s, q.0 u), λ m. and_both a b (p.1 m.0) (q.1 m.1))

  declared_f-made : (f : Functor) → T (declared_f n f) ↔ MadeF Declared f
  declared_f-made (symbol f) = (λ t. t, λ t. t)
  declared_f-made (fvar X) = (λ t. t, λ t. t)

  declared-made : (h : Hedge) → T (declared n h) ↔ Made Declared h
  declared-made ε = (λ t. t, λ t. t)
  declared-made (tvar x r) = both-are (declared_t n x) (declared n r) (λ t. t, λ t. t) (declared-made r)
  declared-made (hvar p r) = both-are (declared_h n p) (declared n r) (λ t. t, λ t. t) (declared-made r)
  declared-made (node f c r) =
      let e = both-are (declared_f n f && declared n c) (declared n r) (both-are (declared_f n f) (declared n c) (declared_f-made f) (declared-made c)) (declared-made r) in
      (λ t. let (m, k) = e.0 t in (m.0, m.1, k), λ m. e.1 ((m.0, m.1), m.2))

  declared_e-made : (R : Expr) → T (declared_e n R) ↔ MadeE Declared R
  declared_e-made eps = (λ t. t, λ t. t)
  declared_e-made (cat a b) = both-are (declared_e n a) (declared_e n b) (declared_e-made a) (declared_e-made b)
  declared_e-made (alt a b) = both-are (declared_e n a) (declared_e n b) (declared_e-made a) (declared_e-made b)
  declared_e-made (star a) = declared_e-made a
  declared_e-made (over f a) = both-are (declared_s n f) (declared_e n a) (λ t. t, λ t. t) (declared_e-made a)

  declared_l-made : (l : Literal) → T (declared_l n l) ↔ MadeL Declared l
  declared_l-made (eqn l r) = both-are (declared n l) (declared n r) (declared-made l) (declared-made r)
  declared_l-made (mem h R) = both-are (declared n h) (declared_e n R) (declared-made h) (declared_e-made R)

  declared_c-made : (k : Conj) → T (declared_c n k) ↔ MadeC Declared k
  declared_c-made [] = (λ t. t, λ t. t)
  declared_c-made (l ∷ k) = both-are (declared_l n l) (declared_c n k) (declared_l-made l) (declared_c-made k)

  -- a conjunction of declared names
  abbrev pub DeclaredC : Conj → Type 0
  DeclaredC k = declared_c n k ≡ true

  to_made : (k : Conj) → DeclaredC k → MadeC Declared k
  to_made k e = (declared_c-made k).0 ((test-true (declared_c n k)).1 e)

  from-made : (k : Conj) → MadeC Declared k → DeclaredC k
  from-made k m = (test-true (declared_c n k)).0 ((declared_c-made k).1 m)

  -- ---- along the run

  pub lines-declared : (L : Limits) (w : List Conj) (ls : List Numbered) (s : ℕ) → run L (signature n) w ≡ finished ls s → Each DeclaredC w → EachLine DeclaredC ls
  lines-declared L w ls s e p =
      each-imp _ _ (λ (k : Numbered) m. from-made k.literals m) ls
      (lines_keep (signature n) (MadeC Declared) (λ k ks m d. step-made (signature n) Declared (λ _ f i. lt→ltb f.0 n.symbols i) k ks d m) L w ls s e (each-imp DeclaredC (MadeC Declared) to_made w p))

  -- and at any named place
  pub named-declared : (s : Spot) (k : Conj) (ks : List Conj) → DeclaredC k → step_at (signature n) s k ≡ results ks → Each DeclaredC ks
  named-declared s k ks p e =
      each-imp (MadeC Declared) DeclaredC from-made ks
      (named-at-sides (Kept (MadeC Declared)) (signature n) (each-rule-makes (signature n) Declared (λ _ f i. lt→ltb f.0 n.symbols i)) s k ks e (to_made k p))

  pub each-declared : (ks : List Conj) → T (declared_q n ks) → Each DeclaredC ks
  each-declared [] t = tt
  each-declared (k ∷ ks) t =
      let (a, b) = and_parts (declared_c n k) (declared_q n ks) t in
      ((test-true (declared_c n k)).0 a, each-declared ks b)

-- ---- a question that is read

module _ (P : Question → Type 0) where
  -- P of a question that is asked
  abbrev pub Asks : Asked → Type 0
  Asks (asks q) = P q
  Asks (refuses r) = Unit {0}

  -- a refusal, or on
  pub passes : (b : Bool) (r : Refusal) (a : Asked) → (T b → Asks a) → Asks (elim b [ false ↦ refuses r | true ↦ a ])
  passes true r a p = p tt
  passes false r a p = tt

  pub reads : (m : Got (List Conj)) (r : ℕ → Refusal) (a : List Conj → Asked) → ((ks : List Conj) → Asks (a ks)) → Asks (elim m [ stop n ↦ refuses (r n) | got ks n ↦ a ks ])
  reads (stop n) r a p = tt
  reads (got ks n) r a p = p ks

-- The alternatives of a question that is read are declared by its own counts, which are its first words.
abbrev Right : List ℕ → Question → Type 0
Right ws q = (q.counts ≡ counts_of ws) × Each (DeclaredC q.counts) q.alternatives

asked-right : (L : Limits) (ws : List ℕ) → Asks (Right ws) (read_question L ws)
unfolding read_question
asked-right L ws =
    passes (Right ws) (length_fits L ws) QuestionLength _ λ _.
    passes (Right ws) (counts_fit L (counts_of ws) (alternatives_of ws)) CountRange _ λ _.
    passes (Right ws) (laid_out 5 (alternatives_of ws) ws) BadOffset _ λ _.
    reads (Right ws) (read_all L (parts 5 (alternatives_of ws) ws)) _ _ λ ks.
    passes (Right ws) (declared_q (counts_of ws) ks) _ _ λ t. (refl, each-declared (counts_of ws) ks t)

pub read-declared : (L : Limits) (ws : List ℕ) (q : Question) → read_question L ws ≡ asks q
    → (q.counts ≡ counts_of ws) × Each (DeclaredC q.counts) q.alternatives
read-declared L ws q e = rw e at (asked-right L ws)
