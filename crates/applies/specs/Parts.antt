-- What a test reads off a look, a name and the first word of an expression. Where there is no variable, name or symbol, the first of its kind stands for it.
use Rattle.std.specs.Prelude.{ℕ, Bool, true, false, not, eqb}
use Rattle.language.specs.declared.TermVar.{TermVar}
use Rattle.language.specs.declared.HedgeVar.{HedgeVar}
use Rattle.language.specs.declared.FunVar.{FunVar}
use Rattle.language.specs.declared.Sym.{Sym}
use Rattle.language.specs.declared.Name.{Name}
use Rattle.language.specs.declared.Name.TheVariants.{Symbol, Blank}
use Rattle.language.specs.declared.Kind.{Kind}
use Rattle.language.specs.declared.Kind.TheVariants as kind
use Rattle.language.specs.declared.Signature.{Signature}
use Rattle.language.specs.Trees.{Hedge, ε, tvar, hvar, node, is_unordered, any_unordered, eq_s, eq_x}
use Rattle.views.specs.declared.Look.{Look}
use Rattle.views.specs.declared.Look.TheVariants.{Empty, Term, Run, Node}

-- ---- a look

abbrev pub is_empty : Look → Bool
is_empty Empty = true
is_empty (Term x last) = false
is_empty (Run p last) = false
is_empty (Node f last bare) = false

-- begins with a term
abbrev pub is_term : Look → Bool
is_term Empty = false
is_term (Term x last) = true
is_term (Run p last) = false
is_term (Node f last bare) = true

-- begins with a hedge variable
abbrev pub is_run : Look → Bool
is_run Empty = false
is_run (Term x last) = false
is_run (Run p last) = true
is_run (Node f last bare) = false

-- nothing follows the first element
abbrev pub is_last : Look → Bool
is_last Empty = true
is_last (Term x last) = last
is_last (Run p last) = last
is_last (Node f last bare) = last

-- the first element has no children
abbrev pub is_bare : Look → Bool
is_bare Empty = true
is_bare (Term x last) = true
is_bare (Run p last) = true
is_bare (Node f last bare) = bare

-- one term, one term variable, one hedge variable, one F(H), and nothing else
abbrev pub single : Look → Bool
single Empty = false
single (Term x last) = last
single (Run p last) = false
single (Node f last bare) = last

abbrev pub lone_variable : Look → Bool
lone_variable Empty = false
lone_variable (Term x last) = last
lone_variable (Run p last) = false
lone_variable (Node f last bare) = false

abbrev pub lone_run : Look → Bool
lone_run Empty = false
lone_run (Term x last) = false
lone_run (Run p last) = last
lone_run (Node f last bare) = false

abbrev pub lone_functor : Look → Bool
lone_functor Empty = false
lone_functor (Term x last) = false
lone_functor (Run p last) = false
lone_functor (Node f last bare) = last

-- the variable or name that it begins with
abbrev pub variable_of : Look → TermVar
variable_of Empty = record { 0 = 0 }
variable_of (Term x last) = x
variable_of (Run p last) = record { 0 = 0 }
variable_of (Node f last bare) = record { 0 = 0 }

abbrev pub run_of : Look → HedgeVar
run_of Empty = record { 0 = 0 }
run_of (Term x last) = record { 0 = 0 }
run_of (Run p last) = p
run_of (Node f last bare) = record { 0 = 0 }

abbrev pub name_in : Look → Name
name_in Empty = Symbol (record { 0 = 0 })
name_in (Term x last) = Symbol (record { 0 = 0 })
name_in (Run p last) = Symbol (record { 0 = 0 })
name_in (Node f last bare) = f

-- ---- a name

abbrev pub no_symbol : Sym
no_symbol = record { 0 = 0 }

abbrev pub is_symbol : Name → Bool
is_symbol (Symbol f) = true
is_symbol (Blank X) = false

abbrev pub symbol_of : Name → Sym
symbol_of (Symbol f) = f
symbol_of (Blank X) = no_symbol

abbrev pub blank_of : Name → FunVar
blank_of (Symbol f) = record { 0 = 0 }
blank_of (Blank X) = X

-- the name is that function variable
abbrev pub is_blank : FunVar → Name → Bool
is_blank X (Symbol g) = false
is_blank X (Blank Y) = eq_x X Y

-- and that symbol
abbrev pub is_named : Sym → Name → Bool
is_named f (Symbol g) = eq_s f g
is_named f (Blank Y) = false

abbrev pub same_name : Name → Name → Bool
same_name (Symbol f) b = is_named f b
same_name (Blank X) b = is_blank X b

-- its children stay in order
abbrev pub keeps_name : Signature → Name → Bool
keeps_name σ (Symbol f) = not (is_unordered σ f)
keeps_name σ (Blank X) = not (any_unordered σ)

-- ---- a hedge

-- the children of its first element
abbrev pub children_of : Hedge → Hedge
children_of ε = ε
children_of (tvar x r) = ε
children_of (hvar p r) = ε
children_of (node f c r) = c

-- ---- the first word of an expression

-- one answer for each form, and one for a word that begins none
abbrev pub by_form : {A : Type 0} → Kind → A → A → A → A → (Sym → A) → A → A
by_form kind.End e c a s o d = d
by_form (kind.Term x) e c a s o d = d
by_form (kind.Run p) e c a s o d = d
by_form (kind.Symbol g) e c a s o d = o g
by_form (kind.Function X) e c a s o d = d
by_form kind.Equation e c a s o d = d
by_form kind.Membership e c a s o d = d
by_form kind.Eps e c a s o d = e
by_form kind.Cat e c a s o d = c
by_form kind.Alt e c a s o d = a
by_form kind.Star e c a s o d = s
by_form kind.Other e c a s o d = d

-- its word, and the first of the symbols' for any of them
abbrev pub form_word : Kind → ℕ
form_word first = by_form first 7000 7001 7002 7003 (λ g. 3000) 0

abbrev pub is_form : ℕ → Kind → Bool
is_form x first = eqb (form_word first) x

-- the symbol of g(R)
abbrev pub symbol_in : Kind → Sym
symbol_in first = by_form first no_symbol no_symbol no_symbol no_symbol (λ g. g) no_symbol
