-- The values of an example in order are those that each variable is bound to or takes unsolved.
use Prim.Native.Nat.{ℕ, ◌+◌}
use mathlib.Core.Path.{◌≡◌, refl, sym, ap, ◌∙◌}
use mathlib.Core.Bool.{not, ◌&&◌, ◌||◌}
use mathlib.Core.List.{List, [], ◌∷◌, ◌++◌, map, map-append}
use mathlib.Core.Option.{Option, none, some}
use lib.Dec.{T}
use Rattle.language.specs.declared.TermVar.{TermVar}
use Rattle.language.specs.declared.FunVar.{FunVar}
use Rattle.language.specs.declared.Sym.{Sym}
use Rattle.language.specs.Trees.{symbol, fvar, Hedge, ε, tvar, hvar, node, Literal, eqn, mem, Conj, Counts, Var, tv, hv, fv, eq_v, holds, in_literal, in_conj}
use Rattle.meaning.specs.Complete.{Complete, nil, tree, complete_words}
use Rattle.meaning.specs.Meaning.{fill}
use Rattle.meaning.specs.Values.{root_of, children_of, variables, numbers, values_in, offsets_of, joined, filling_words}
use Rattle.rules.specs.Looks.{empty}
use Rattle.rules.specs.Solved.{is_term, is_functor, variable, alone, solves}
use Rattle.rules.specs.Example.{of, unsolved, binds, bound, followed, example}
use Rattle.rules.proofs.Tests.{and_parts, picks}
use Rattle.rules.proofs.Names.{eq_v-is}
use Rattle.rules.proofs.Answers.{or_else-is, Where}
use Rattle.rules.proofs.Looks.{empty-is}
use Rattle.lines.proofs.Tests.{given_is}
use Rattle.values.specs.Values.{Settled, value_words}
use Rattle.line_example.specs.Rows.{values_by}
use Rattle.values.proofs.Following.{single}
use Rattle.line_example.specs.Fillings.{values_of, table_of}

-- ---- what a variable is bound to has the form that the variable takes

abbrev Formed : Var → Hedge → Type 0
Formed (tv x) h = T (is_term h)
Formed (hv p) h = Unit {0}
Formed (fv X) h = T (is_functor h)

abbrev FormedPair : Var × Hedge → Type 0
FormedPair b = Formed b.0 b.1

variable-formed : (l r : Hedge) → Where (λ v. Formed v r) (variable l r)
variable-formed ε r = tt
variable-formed (tvar x s) r = given_is (λ v. Formed v r) (empty s && is_term r) (tv x) (λ t. (and_parts (empty s) (is_term r) t).1)
variable-formed (hvar p s) r = given_is (λ v. Formed v r) (empty s) (hv p) (λ _. tt)
variable-formed (node (symbol f) c s) r = tt
variable-formed (node (fvar X) c s) r = given_is (λ v. Formed v r) ((empty c && empty s) && is_functor r) (fv X) (λ t. (and_parts (empty c && empty s) (is_functor r) t).1)

alone-formed : (K : Conj) (r : Hedge) (m : Option Var) → Where (λ v. Formed v r) m → Where FormedPair (alone K r m)
alone-formed K r none f = tt
alone-formed K r (some v) f = given_is FormedPair (not (holds v r || in_conj v K)) (v, r) (λ _. f)

solves-formed : (K : Conj) (l : Literal) → Where FormedPair (solves K l)
solves-formed K (eqn l r) = or_else-is FormedPair (alone K r (variable l r)) _ (alone-formed K r (variable l r) (variable-formed l r)) (alone-formed K l (variable r l) (variable-formed r l))
solves-formed K (mem h R) = tt

binds-formed : (v : Var) (m : Option (Var × Hedge)) → Where FormedPair m → Where (Formed v) (binds v m)
binds-formed v none f = tt
binds-formed v (some b) f = given_is (Formed v) (eq_v b.0 v) b.1 (λ t. rw (eq_v-is b.0 v t) at f)

bound-formed : (v : Var) (before behind : Conj) → Where (Formed v) (bound v before behind)
bound-formed v before [] = tt
bound-formed v before (l ∷ behind) =
    picks (Where (Formed v)) (in_literal v l) (λ _. binds-formed v (solves (before ++ behind) l) (solves-formed (before ++ behind) l)) (bound-formed v (before ++ (l ∷ [])) behind)

-- ---- and so has its value

module _ (any : Sym) (c : Conj) where
  abbrev One : Complete → Type 0
  One g = g ≡ tree (root_of g) (children_of g) nil

  abbrev Bare : Complete → Type 0
  Bare g = g ≡ tree (root_of g) nil nil

  term-one : (h : Hedge) → T (is_term h) → One (fill (of (unsolved any c)) h)
  term-one ε e = absurd e
  term-one (tvar x r) e = rw (empty-is r e) refl
  term-one (hvar p r) e = absurd e
  term-one (node F d r) e = rw (empty-is r e) refl

  functor-bare : (h : Hedge) → T (is_functor h) → Bare (fill (of (unsolved any c)) h)
  functor-bare ε e = absurd e
  functor-bare (tvar x r) e = absurd e
  functor-bare (hvar p r) e = absurd e
  functor-bare (node F d r) e = let (a, b) = and_parts (empty d) (empty r) e in rw (empty-is d a, empty-is r b) refl

  module _ (t : Settled c) where
    followed-one : (x : TermVar) (m : Option Hedge) → Where (Formed (tv x)) m → One (followed any c (tv x) m)
    followed-one x none f = single any c t x
    followed-one x (some h) f = term-one h f

    followed-bare : (X : FunVar) (m : Option Hedge) → Where (Formed (fv X)) m → Bare (followed any c (fv X) m)
    followed-bare X none f = rw (t.names X) refl
    followed-bare X (some h) f = functor-bare h f

    -- ---- in order

    map_same : {A : Type 0} (f : A → Complete) (g : A → List ℕ) → ((a : A) → complete_words (f a) ≡ g a) → (xs : List A) → map complete_words (map f xs) ≡ map g xs
    map_same f g e [] = refl
    map_same f g e (a ∷ xs) = ap (λ w. w ∷ map complete_words (map f xs)) (e a) ∙ ap (λ l. g a ∷ l) (map_same f g e xs)

    three : (x y z : List Complete) {u v w : List (List ℕ)} → map complete_words x ≡ u → map complete_words y ≡ v → map complete_words z ≡ w → map complete_words (x ++ (y ++ z)) ≡ u ++ (v ++ w)
    three x y z {u} {v} {w} d e f =
        map-append complete_words x (y ++ z) ∙ ap (λ l. l ++ map complete_words (y ++ z)) d ∙ ap (λ l. u ++ l) (map-append complete_words y z ∙ ap (λ l. l ++ map complete_words z) e ∙ ap (λ l. v ++ l) f)

    pub values-example : (n : Counts) → map complete_words (values_in n (example any c)) ≡ values_of any c n
    unfolding example values_of values_by value_words
    values-example n =
        three (map (λ x. tree ((example any c).root (record { 0 = x })) ((example any c).children (record { 0 = x })) nil) (numbers 0 n.terms))
        (map (λ p. (example any c).run (record { 0 = p })) (numbers 0 n.hedges))
        (map (λ X. tree ((example any c).name (record { 0 = X })) nil nil) (numbers 0 n.functions))
        (map_same (λ x. tree ((example any c).root (record { 0 = x })) ((example any c).children (record { 0 = x })) nil) (λ x. value_words any c (tv (record { 0 = x })))
        (λ x. ap complete_words (sym (followed-one (record { 0 = x }) (bound (tv (record { 0 = x })) [] c) (bound-formed (tv (record { 0 = x })) [] c)))) (numbers 0 n.terms))
        (map_same (λ p. (example any c).run (record { 0 = p })) (λ p. value_words any c (hv (record { 0 = p }))) (λ p. refl) (numbers 0 n.hedges))
        (map_same (λ X. tree ((example any c).name (record { 0 = X })) nil nil) (λ X. value_words any c (fv (record { 0 = X })))
        (λ X. ap complete_words (sym (followed-bare (record { 0 = X }) (bound (fv (record { 0 = X })) [] c) (bound-formed (fv (record { 0 = X })) [] c)))) (numbers 0 n.functions))

    pub filling-words : (n : Counts) → filling_words n (example any c) ≡ table_of any c n ++ joined (values_of any c n)
    unfolding filling_words table_of
    filling-words n = ap (λ vs. variables n ∷ (offsets_of (variables n + 2) vs ++ joined vs)) (values-example n)
