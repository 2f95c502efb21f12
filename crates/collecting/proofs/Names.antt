-- In a line of the grammar the names of its tokens are those of its trees, in their order.
use Prim.Native.Nat.{ℕ}
use mathlib.Core.Path.{◌≡◌, refl, sym, ap, ◌∙◌}
use mathlib.Core.Bool.{true, false}
use mathlib.Core.List.{List, [], ◌∷◌, ◌++◌, append_assoc}
use Rattle.language.specs.Trees.{Functor, symbol, fvar, Hedge, ε, tvar, hvar, node, Expr, eps, cat, alt, star, over, Literal, eqn, mem, Conj}
use Rattle.grammar.specs.Tokens.{Token, functor, opens}
use Rattle.grammar.specs.Grammar.{Place, begins, follows, inside, Spells, empty, full, ends, more, alone, brackets, part, parts, leaf, tree, Level, atom, starred, choice, listed, within, Means, single, under, group, once, again, only, either, last, then, no-listed, some-listed, Says, equal, member, Literals, final, another, Line, asks_nothing, asks}
use Rattle.texts.specs.Numbering.{Class, symbols, terms, hedges, functions, at_s, at_t, at_h, at_x, at_f, in_hedge, in_expr, in_literal, in_conj}
use Rattle.collecting.specs.Collecting.{names_in}

module _ (κ : Class) where
  by-functor : (f : Functor) (ts : List Token) → names_in κ false (functor f ∷ ts) ≡ at_f κ f (names_in κ true ts)
  by-functor (symbol f) ts = refl
  by-functor (fvar X) ts = refl

  abbrev Side : Place → Hedge → List Token → List Token → Type 0
  Side (begins b) h ts us = names_in κ false ts ≡ in_hedge κ h (names_in κ true us)
  Side (follows b) h ts us = names_in κ true ts ≡ in_hedge κ h (names_in κ true us)
  Side inside h ts us = names_in κ false ts ≡ in_hedge κ h (names_in κ true us)

  side : {p : Place} {h : Hedge} {ts us : List Token} → Spells p h ts us → Side p h ts us
  side empty = refl
  side (full s) = side s
  side ends = refl
  side (more s) = side s
  side alone = refl
  side (brackets s) = side s
  side (part {b} {x} s) = ap (at_t κ x.0) (side s)
  side (parts {b} {p} s) = ap (at_h κ p.0) (side s)
  side (leaf {b} {f} {r} {ts} s) = by-functor f ts ∙ ap (at_f κ f) (side s)
  side (tree {b} {f} {c} {r} {ts} s t) = by-functor f (opens ∷ ts) ∙ ap (at_f κ f) (side s ∙ ap (in_hedge κ c) (side t))

  -- no name stands first
  abbrev Quiet : List Token → Type 0
  Quiet ts = names_in κ true ts ≡ names_in κ false ts

  abbrev Shape : Level → Expr → List Token → List Token → Type 0
  Shape atom R ts us = Quiet us → names_in κ false ts ≡ in_expr κ R (names_in κ false us)
  Shape starred R ts us = Quiet us → names_in κ false ts ≡ in_expr κ R (names_in κ false us)
  Shape choice R ts us = Quiet us → names_in κ false ts ≡ in_expr κ R (names_in κ false us)
  Shape listed R ts us = names_in κ false ts ≡ in_expr κ R (names_in κ true us)
  Shape within R ts us = names_in κ false ts ≡ in_expr κ R (names_in κ true us)

  shape : {l : Level} {R : Expr} {ts us : List Token} → Means l R ts us → Shape l R ts us
  shape (single {f} {ts}) = λ q. ap (at_s κ f.0) q
  shape (under {f} {R} m) = λ q. ap (at_s κ f.0) (shape m ∙ ap (in_expr κ R) q)
  shape (group {R} m) = λ q. shape m ∙ ap (in_expr κ R) q
  shape (once m) = shape m
  shape (again m) = λ q. shape m refl
  shape (only m) = shape m
  shape (either {a} m n) = λ q. shape m refl ∙ ap (in_expr κ a) (shape n q)
  shape (last m) = shape m refl
  shape (then {a} m n) = shape m refl ∙ ap (in_expr κ a) (shape n)
  shape no-listed = refl
  shape (some-listed m) = shape m

  says : {l : Literal} {ts us : List Token} → Says l ts us → Quiet us → names_in κ false ts ≡ in_literal κ l (names_in κ false us)
  says (equal {l} {r} s t) q = side s ∙ ap (in_hedge κ l) (side t ∙ ap (in_hedge κ r) q)
  says (member {h} s m) q = side s ∙ ap (in_hedge κ h) (shape m q)

  literals : {k : Conj} {ts : List Token} → Literals k ts → names_in κ false ts ≡ in_conj κ k []
  literals (final s) = says s refl
  literals (another {l} s t) = says s refl ∙ ap (in_literal κ l) (literals t)

  pub names-in-line : {k : Conj} {ts : List Token} → Line k ts → names_in κ false ts ≡ in_conj κ k []
  names-in-line asks_nothing = refl
  names-in-line (asks t) = literals t

  -- ---- with more names behind them

  at-s : (n : ℕ) (l k : List ℕ) → at_s κ n (l ++ k) ≡ at_s κ n l ++ k
  at-s n l k = on κ
    where
      on : (c : Class) → at_s c n (l ++ k) ≡ at_s c n l ++ k
      on symbols = refl
      on terms = refl
      on hedges = refl
      on functions = refl

  at-t : (n : ℕ) (l k : List ℕ) → at_t κ n (l ++ k) ≡ at_t κ n l ++ k
  at-t n l k = on κ
    where
      on : (c : Class) → at_t c n (l ++ k) ≡ at_t c n l ++ k
      on symbols = refl
      on terms = refl
      on hedges = refl
      on functions = refl

  at-h : (n : ℕ) (l k : List ℕ) → at_h κ n (l ++ k) ≡ at_h κ n l ++ k
  at-h n l k = on κ
    where
      on : (c : Class) → at_h c n (l ++ k) ≡ at_h c n l ++ k
      on symbols = refl
      on terms = refl
      on hedges = refl
      on functions = refl

  at_x_lem : (n : ℕ) (l k : List ℕ) → at_x κ n (l ++ k) ≡ at_x κ n l ++ k
  at_x_lem n l k = on κ
    where
      on : (c : Class) → at_x c n (l ++ k) ≡ at_x c n l ++ k
      on symbols = refl
      on terms = refl
      on hedges = refl
      on functions = refl

  at_f_lem : (f : Functor) (l k : List ℕ) → at_f κ f (l ++ k) ≡ at_f κ f l ++ k
  at_f_lem (symbol f) l k = at-s f.0 l k
  at_f_lem (fvar X) l k = at_x_lem X.0 l k

  both_behind : (A B : List ℕ → List ℕ) → ((m : List ℕ) → A m ≡ A [] ++ m) → ((m : List ℕ) → B m ≡ B [] ++ m) → (k : List ℕ) → A (B k) ≡ A (B []) ++ k
  both_behind A B a b k = a (B k) ∙ ap (λ l. A [] ++ l) (b k) ∙ sym (append_assoc (A []) (B []) k) ∙ ap (λ l. l ++ k) (sym (a (B [])))

  hedge-behind : (h : Hedge) (k : List ℕ) → in_hedge κ h k ≡ in_hedge κ h [] ++ k
  hedge-behind ε k = refl
  hedge-behind (tvar x r) k = ap (at_t κ x.0) (hedge-behind r k) ∙ at-t x.0 (in_hedge κ r []) k
  hedge-behind (hvar p r) k = ap (at_h κ p.0) (hedge-behind r k) ∙ at-h p.0 (in_hedge κ r []) k
  hedge-behind (node f a r) k = ap (at_f κ f) (both_behind (in_hedge κ a) (in_hedge κ r) (hedge-behind a) (hedge-behind r) k) ∙ at_f_lem f (in_hedge κ a (in_hedge κ r [])) k

  expr-behind : (R : Expr) (k : List ℕ) → in_expr κ R k ≡ in_expr κ R [] ++ k
  expr-behind eps k = refl
  expr-behind (cat a b) k = both_behind (in_expr κ a) (in_expr κ b) (expr-behind a) (expr-behind b) k
  expr-behind (alt a b) k = both_behind (in_expr κ a) (in_expr κ b) (expr-behind a) (expr-behind b) k
  expr-behind (star a) k = expr-behind a k
  expr-behind (over f a) k = ap (at_s κ f.0) (expr-behind a k) ∙ at-s f.0 (in_expr κ a []) k

  literal-behind : (l : Literal) (k : List ℕ) → in_literal κ l k ≡ in_literal κ l [] ++ k
  literal-behind (eqn l r) k = both_behind (in_hedge κ l) (in_hedge κ r) (hedge-behind l) (hedge-behind r) k
  literal-behind (mem h R) k = both_behind (in_hedge κ h) (in_expr κ R) (hedge-behind h) (expr-behind R) k

  pub conj-behind : (j : Conj) (k : List ℕ) → in_conj κ j k ≡ in_conj κ j [] ++ k
  conj-behind [] k = refl
  conj-behind (l ∷ j) k = both_behind (in_literal κ l) (in_conj κ j) (literal-behind l) (conj-behind j) k
