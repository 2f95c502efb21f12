-- The grammar: which tokens spell which literals, by productions. Trees have names' numbers where a question has numbers.
-- `X a ts us`: the tokens ts begin with an X that is a, and us stands behind it.
use Rattle.std.specs.Prelude.{ℕ, ◌≡◌, Bool, true, false, List, [], ◌∷◌, eqb}
use Rattle.std.proofs.Math.Option.{some}
use Rattle.language.specs.Kinds.{pick}
use Rattle.language.specs.declared.TermVar.{TermVar}
use Rattle.language.specs.declared.HedgeVar.{HedgeVar}
use Rattle.language.specs.declared.Sym.{Sym}
use Rattle.language.specs.Trees.{Functor, symbol, Hedge, ε, tvar, hvar, node, Expr, eps, cat, alt, star, over, Literal, eqn, mem, Conj}
use Rattle.grammar.specs.Tokens.{Token, one, run, functor, equals, comma, opens, closes, plus, times, name_of, tokens}

-- Where a part of a hedge stands: elements between brackets (true), or an element that is a side by itself (false).
pub data Place : Type 0 where
  begins : Bool → Place
  follows : Bool → Place
  inside : Place

pub data Spells : Place → Hedge → List Token → List Token → Type 0 where
  -- between brackets: nothing, or elements with commas between them; the closing bracket ends it
  empty : {ts : List Token} → Spells inside ε (closes ∷ ts) ts
  full : {h : Hedge} {ts us : List Token} → Spells (begins true) h ts us → Spells inside h ts us
  ends : {ts : List Token} → Spells (follows true) ε (closes ∷ ts) ts
  more : {r : Hedge} {ts us : List Token} → Spells (begins true) r ts us → Spells (follows true) r (comma ∷ ts) us
  -- a side: one element, or brackets
  alone : {ts : List Token} → Spells (follows false) ε ts ts
  brackets : {h : Hedge} {ts us : List Token} → Spells inside h ts us → Spells (begins false) h (opens ∷ ts) us
  -- an element: ?name, *name, a functor by itself, a functor with brackets
  part : {b : Bool} {x : TermVar} {r : Hedge} {ts us : List Token} → Spells (follows b) r ts us → Spells (begins b) (tvar x r) (one x ∷ ts) us
  parts : {b : Bool} {p : HedgeVar} {r : Hedge} {ts us : List Token} → Spells (follows b) r ts us → Spells (begins b) (hvar p r) (run p ∷ ts) us
  leaf : {b : Bool} {f : Functor} {r : Hedge} {ts us : List Token} → Spells (follows b) r ts us → Spells (begins b) (node f ε r) (functor f ∷ ts) us
  tree : {b : Bool} {f : Functor} {c r : Hedge} {ts us vs : List Token} → Spells inside c ts us → Spells (follows b) r us vs → Spells (begins b) (node f c r) (functor f ∷ opens ∷ ts) vs

-- Expressions: an atom; an atom and its stars; a choice of such; between brackets nothing, or choices with commas between them.
pub data Level : Type 0 where
  atom : Level
  starred : Level
  choice : Level
  listed : Level
  within : Level

pub data Means : Level → Expr → List Token → List Token → Type 0 where
  -- f, f(..), (..)
  single : {f : Sym} {ts : List Token} → Means atom (over f eps) (functor (symbol f) ∷ ts) ts
  under : {f : Sym} {R : Expr} {ts us : List Token} → Means within R ts us → Means atom (over f R) (functor (symbol f) ∷ opens ∷ ts) us
  group : {R : Expr} {ts us : List Token} → Means within R ts us → Means atom R (opens ∷ ts) us
  -- R*
  once : {R : Expr} {ts us : List Token} → Means atom R ts us → Means starred R ts us
  again : {R : Expr} {ts us : List Token} → Means starred R ts (times ∷ us) → Means starred (star R) ts us
  -- R + R
  only : {R : Expr} {ts us : List Token} → Means starred R ts us → Means choice R ts us
  either : {a b : Expr} {ts us vs : List Token} → Means starred a ts (plus ∷ us) → Means choice b us vs → Means choice (alt a b) ts vs
  -- R, R
  last : {R : Expr} {ts us : List Token} → Means choice R ts (closes ∷ us) → Means listed R ts us
  then : {a b : Expr} {ts us vs : List Token} → Means choice a ts (comma ∷ us) → Means listed b us vs → Means listed (cat a b) ts vs
  -- ()
  no-listed : {ts : List Token} → Means within eps (closes ∷ ts) ts
  some-listed : {R : Expr} {ts us : List Token} → Means listed R ts us → Means within R ts us

-- the word `in`, which may be a name too
abbrev pub in_sym : Sym
in_sym = record { 0 = name_of (105 ∷ 110 ∷ []) }

pub data Says : Literal → List Token → List Token → Type 0 where
  equal : {l r : Hedge} {ts us vs : List Token} → Spells (begins false) l ts (equals ∷ us) → Spells (begins false) r us vs → Says (eqn l r) ts vs
  member : {h : Hedge} {R : Expr} {ts us vs : List Token} → Spells (begins false) h ts (functor (symbol in_sym) ∷ us) → Means choice R us vs → Says (mem h R) ts vs

-- literals with commas between them, to the end of the line
pub data Literals : Conj → List Token → Type 0 where
  final : {l : Literal} {ts : List Token} → Says l ts [] → Literals (l ∷ []) ts
  another : {l : Literal} {k : Conj} {ts us : List Token} → Says l ts (comma ∷ us) → Literals k us → Literals (l ∷ k) ts

-- A line is () by itself, the conjunction that asks nothing; or literals.
pub data Line : Conj → List Token → Type 0 where
  asks_nothing : Line [] (opens ∷ closes ∷ [])
  asks : {k : Conj} {ts : List Token} → Literals k ts → Line k ts

-- The lines of a text: a line with no token is none.
pub data Lines : List Conj → List (List ℕ) → Type 0 where
  no_line : Lines [] []
  blank : {ks : List Conj} {l : List ℕ} {ls : List (List ℕ)} → tokens l ≡ some [] → Lines ks ls → Lines ks (l ∷ ls)
  line : {k : Conj} {ks : List Conj} {l : List ℕ} {ls : List (List ℕ)} {ts : List Token} → tokens l ≡ some ts → Line k ts → Lines ks ls → Lines (k ∷ ks) (l ∷ ls)

-- ---- a text

abbrev pub ahead : ℕ → List (List ℕ) → List (List ℕ)
ahead b [] = (b ∷ []) ∷ []
ahead b (l ∷ ls) = (b ∷ l) ∷ ls

-- the bytes between the newlines
unfoldable pub lines_of : List ℕ → List (List ℕ)
lines_of [] = [] ∷ []
lines_of (b ∷ bs) = pick (eqb b 10) ([] ∷ lines_of bs) (ahead b (lines_of bs))

-- The text spells these conjunctions.
abbrev pub TextOf : List Conj → List ℕ → Type 0
TextOf ks text = Lines ks (lines_of text)
