-- Reading tokens, one pass, by the token that comes next; depth stands for the calls.
use Rattle.std.specs.Prelude.{ℕ, zero, suc, ◌+◌, ◌*◌, Bool, true, false, List, [], ◌∷◌, length}
use Rattle.std.proofs.Math.Option.{Option, none, some}
use Rattle.language.specs.Kinds.{pick}
use Rattle.language.specs.Trees.{Functor, symbol, fvar, Hedge, ε, tvar, hvar, node, Expr, eps, cat, alt, star, over, Literal, eqn, mem, Conj, eq_f}
use Rattle.grammar.specs.Tokens.{Token, one, run, functor, equals, comma, opens, closes, plus, times}
use Rattle.grammar.specs.Grammar.{Place, begins, follows, inside, Level, atom, starred, choice, listed, within, in_sym}

pub data Res (A : Type 0) : Type 0 where
  got : A → List Token → Res A
  stop : Res A

abbrev pub mapped : {A B : Type 0} → (A → B) → Res A → Res B
mapped f (got a ts) = got (f a) ts
mapped f stop = stop

abbrev pub bind : {A B : Type 0} → Res A → (A → List Token → Res B) → Res B
bind (got a ts) k = k a ts
bind stop k = stop

-- ---- hedges

abbrev pub Hedges : Type 0
Hedges = Place → List Token → Res Hedge

-- behind a functor: its brackets, or none
abbrev pub functor_on : Hedges → Bool → Functor → List Token → Res Hedge
functor_on rec b f [] = mapped (node f ε) (rec (follows b) [])
functor_on rec b f (one x ∷ ts) = mapped (node f ε) (rec (follows b) (one x ∷ ts))
functor_on rec b f (run p ∷ ts) = mapped (node f ε) (rec (follows b) (run p ∷ ts))
functor_on rec b f (functor g ∷ ts) = mapped (node f ε) (rec (follows b) (functor g ∷ ts))
functor_on rec b f (equals ∷ ts) = mapped (node f ε) (rec (follows b) (equals ∷ ts))
functor_on rec b f (comma ∷ ts) = mapped (node f ε) (rec (follows b) (comma ∷ ts))
functor_on rec b f (opens ∷ ts) = bind (rec inside ts) (λ c us. mapped (node f c) (rec (follows b) us))
functor_on rec b f (closes ∷ ts) = mapped (node f ε) (rec (follows b) (closes ∷ ts))
functor_on rec b f (plus ∷ ts) = mapped (node f ε) (rec (follows b) (plus ∷ ts))
functor_on rec b f (times ∷ ts) = mapped (node f ε) (rec (follows b) (times ∷ ts))

abbrev pub begins_on : Hedges → Bool → List Token → Res Hedge
begins_on rec b [] = stop
begins_on rec b (one x ∷ ts) = mapped (tvar x) (rec (follows b) ts)
begins_on rec b (run p ∷ ts) = mapped (hvar p) (rec (follows b) ts)
begins_on rec b (functor g ∷ ts) = functor_on rec b g ts
begins_on rec b (equals ∷ ts) = stop
begins_on rec b (comma ∷ ts) = stop
begins_on rec b (opens ∷ ts) = elim b [ true ↦ stop | false ↦ rec inside ts ]
begins_on rec b (closes ∷ ts) = stop
begins_on rec b (plus ∷ ts) = stop
begins_on rec b (times ∷ ts) = stop

abbrev pub follows_on : Hedges → List Token → Res Hedge
follows_on rec [] = stop
follows_on rec (one x ∷ ts) = stop
follows_on rec (run p ∷ ts) = stop
follows_on rec (functor g ∷ ts) = stop
follows_on rec (equals ∷ ts) = stop
follows_on rec (comma ∷ ts) = rec (begins true) ts
follows_on rec (opens ∷ ts) = stop
follows_on rec (closes ∷ ts) = got ε ts
follows_on rec (plus ∷ ts) = stop
follows_on rec (times ∷ ts) = stop

abbrev pub inside_on : Hedges → List Token → Res Hedge
inside_on rec [] = stop
inside_on rec (one x ∷ ts) = rec (begins true) (one x ∷ ts)
inside_on rec (run p ∷ ts) = rec (begins true) (run p ∷ ts)
inside_on rec (functor g ∷ ts) = rec (begins true) (functor g ∷ ts)
inside_on rec (equals ∷ ts) = rec (begins true) (equals ∷ ts)
inside_on rec (comma ∷ ts) = rec (begins true) (comma ∷ ts)
inside_on rec (opens ∷ ts) = rec (begins true) (opens ∷ ts)
inside_on rec (closes ∷ ts) = got ε ts
inside_on rec (plus ∷ ts) = rec (begins true) (plus ∷ ts)
inside_on rec (times ∷ ts) = rec (begins true) (times ∷ ts)

unfoldable pub hedge : ℕ → Hedges
hedge zero p ts = stop
hedge (suc n) (begins b) ts = begins_on (hedge n) b ts
hedge (suc n) (follows b) ts = elim b [ true ↦ follows_on (hedge n) ts | false ↦ got ε ts ]
hedge (suc n) inside ts = inside_on (hedge n) ts

-- a side of a literal
unfoldable pub side_of : List Token → Res Hedge
side_of ts = hedge (suc (2 * length ts)) (begins false) ts

-- ---- expressions

abbrev pub Exprs : Type 0
Exprs = Level → List Token → Res Expr

abbrev pub symbol_on : Exprs → Functor → List Token → Res Expr
symbol_on rec (symbol f) [] = got (over f eps) []
symbol_on rec (symbol f) (one x ∷ ts) = got (over f eps) (one x ∷ ts)
symbol_on rec (symbol f) (run p ∷ ts) = got (over f eps) (run p ∷ ts)
symbol_on rec (symbol f) (functor g ∷ ts) = got (over f eps) (functor g ∷ ts)
symbol_on rec (symbol f) (equals ∷ ts) = got (over f eps) (equals ∷ ts)
symbol_on rec (symbol f) (comma ∷ ts) = got (over f eps) (comma ∷ ts)
symbol_on rec (symbol f) (opens ∷ ts) = mapped (over f) (rec within ts)
symbol_on rec (symbol f) (closes ∷ ts) = got (over f eps) (closes ∷ ts)
symbol_on rec (symbol f) (plus ∷ ts) = got (over f eps) (plus ∷ ts)
symbol_on rec (symbol f) (times ∷ ts) = got (over f eps) (times ∷ ts)
symbol_on rec (fvar X) ts = stop

abbrev pub atom_on : Exprs → List Token → Res Expr
atom_on rec [] = stop
atom_on rec (one x ∷ ts) = stop
atom_on rec (run p ∷ ts) = stop
atom_on rec (functor g ∷ ts) = symbol_on rec g ts
atom_on rec (equals ∷ ts) = stop
atom_on rec (comma ∷ ts) = stop
atom_on rec (opens ∷ ts) = rec within ts
atom_on rec (closes ∷ ts) = stop
atom_on rec (plus ∷ ts) = stop
atom_on rec (times ∷ ts) = stop

-- as many stars as there are
abbrev pub stars : Expr → List Token → Res Expr
stars R [] = got R []
stars R (one x ∷ ts) = got R (one x ∷ ts)
stars R (run p ∷ ts) = got R (run p ∷ ts)
stars R (functor g ∷ ts) = got R (functor g ∷ ts)
stars R (equals ∷ ts) = got R (equals ∷ ts)
stars R (comma ∷ ts) = got R (comma ∷ ts)
stars R (opens ∷ ts) = got R (opens ∷ ts)
stars R (closes ∷ ts) = got R (closes ∷ ts)
stars R (plus ∷ ts) = got R (plus ∷ ts)
stars R (times ∷ ts) = stars (star R) ts

abbrev pub choice_on : Exprs → Expr → List Token → Res Expr
choice_on rec a [] = got a []
choice_on rec a (one x ∷ ts) = got a (one x ∷ ts)
choice_on rec a (run p ∷ ts) = got a (run p ∷ ts)
choice_on rec a (functor g ∷ ts) = got a (functor g ∷ ts)
choice_on rec a (equals ∷ ts) = got a (equals ∷ ts)
choice_on rec a (comma ∷ ts) = got a (comma ∷ ts)
choice_on rec a (opens ∷ ts) = got a (opens ∷ ts)
choice_on rec a (closes ∷ ts) = got a (closes ∷ ts)
choice_on rec a (plus ∷ ts) = mapped (alt a) (rec choice ts)
choice_on rec a (times ∷ ts) = got a (times ∷ ts)

abbrev pub listed_on : Exprs → Expr → List Token → Res Expr
listed_on rec a [] = stop
listed_on rec a (one x ∷ ts) = stop
listed_on rec a (run p ∷ ts) = stop
listed_on rec a (functor g ∷ ts) = stop
listed_on rec a (equals ∷ ts) = stop
listed_on rec a (comma ∷ ts) = mapped (cat a) (rec listed ts)
listed_on rec a (opens ∷ ts) = stop
listed_on rec a (closes ∷ ts) = got a ts
listed_on rec a (plus ∷ ts) = stop
listed_on rec a (times ∷ ts) = stop

abbrev pub within_on : Exprs → List Token → Res Expr
within_on rec [] = stop
within_on rec (one x ∷ ts) = rec listed (one x ∷ ts)
within_on rec (run p ∷ ts) = rec listed (run p ∷ ts)
within_on rec (functor g ∷ ts) = rec listed (functor g ∷ ts)
within_on rec (equals ∷ ts) = rec listed (equals ∷ ts)
within_on rec (comma ∷ ts) = rec listed (comma ∷ ts)
within_on rec (opens ∷ ts) = rec listed (opens ∷ ts)
within_on rec (closes ∷ ts) = got eps ts
within_on rec (plus ∷ ts) = rec listed (plus ∷ ts)
within_on rec (times ∷ ts) = rec listed (times ∷ ts)

unfoldable pub expr : ℕ → Exprs
expr zero l ts = stop
expr (suc n) atom ts = atom_on (expr n) ts
expr (suc n) starred ts = bind (expr n atom ts) stars
expr (suc n) choice ts = bind (expr n starred ts) (choice_on (expr n))
expr (suc n) listed ts = bind (expr n choice ts) (listed_on (expr n))
expr (suc n) within ts = within_on (expr n) ts

unfoldable pub expr_of : List Token → Res Expr
expr_of ts = expr (suc (5 * length ts + 2)) choice ts

-- ---- literals, lines

abbrev pub literal_on : Hedge → List Token → Res Literal
literal_on h [] = stop
literal_on h (one x ∷ ts) = stop
literal_on h (run p ∷ ts) = stop
literal_on h (functor g ∷ ts) = pick (eq_f g (symbol in_sym)) (mapped (mem h) (expr_of ts)) stop
literal_on h (equals ∷ ts) = mapped (eqn h) (side_of ts)
literal_on h (comma ∷ ts) = stop
literal_on h (opens ∷ ts) = stop
literal_on h (closes ∷ ts) = stop
literal_on h (plus ∷ ts) = stop
literal_on h (times ∷ ts) = stop

unfoldable pub literal_of : List Token → Res Literal
literal_of ts = bind (side_of ts) literal_on

abbrev pub added : Literal → Option Conj → Option Conj
added l none = none
added l (some k) = some (l ∷ k)

abbrev pub literals_on : (List Token → Option Conj) → Literal → List Token → Option Conj
literals_on rec l [] = some (l ∷ [])
literals_on rec l (one x ∷ ts) = none
literals_on rec l (run p ∷ ts) = none
literals_on rec l (functor g ∷ ts) = none
literals_on rec l (equals ∷ ts) = none
literals_on rec l (comma ∷ ts) = added l (rec ts)
literals_on rec l (opens ∷ ts) = none
literals_on rec l (closes ∷ ts) = none
literals_on rec l (plus ∷ ts) = none
literals_on rec l (times ∷ ts) = none

abbrev pub literals_from : (List Token → Option Conj) → Res Literal → Option Conj
literals_from rec (got l ts) = literals_on rec l ts
literals_from rec stop = none

unfoldable pub literals : ℕ → List Token → Option Conj
literals zero ts = none
literals (suc n) ts = literals_from (literals n) (literal_of ts)

-- exactly one bracket that closes
abbrev pub is_close : List Token → Bool
is_close [] = false
is_close (one x ∷ ts) = false
is_close (run p ∷ ts) = false
is_close (functor g ∷ ts) = false
is_close (equals ∷ ts) = false
is_close (comma ∷ ts) = false
is_close (opens ∷ ts) = false
is_close (closes ∷ ts) = elim ts [ [] ↦ true | ◌∷◌ t us ↦ false ]
is_close (plus ∷ ts) = false
is_close (times ∷ ts) = false

abbrev pub is_nothing : List Token → Bool
is_nothing [] = false
is_nothing (one x ∷ ts) = false
is_nothing (run p ∷ ts) = false
is_nothing (functor g ∷ ts) = false
is_nothing (equals ∷ ts) = false
is_nothing (comma ∷ ts) = false
is_nothing (opens ∷ ts) = is_close ts
is_nothing (closes ∷ ts) = false
is_nothing (plus ∷ ts) = false
is_nothing (times ∷ ts) = false

unfoldable pub line_of : List Token → Option Conj
line_of ts = pick (is_nothing ts) (some []) (literals (suc (length ts)) ts)
