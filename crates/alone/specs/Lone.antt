-- The one variable that a side or a membership's hedge is, read off how the hedges begin.
use Rattle.std.specs.Prelude.{ℕ, ◌+◌, Bool, false, not, ◌&&◌, ◌||◌, List, eqb, take, drop}
use Rattle.std.specs.Prelude as prelude
use Rattle.std.specs.Prelude.{Some, None}
use Rattle.std.proofs.Math.Option.{Option, none, some}
use Rattle.std.proofs.Math.Seq.{slice}
use Rattle.language.specs.Kinds.{pick}
use Rattle.language.specs.Trees.{Var, tv, hv, fv}
use Rattle.language.specs.declared.Name.TheVariants.{Symbol, Blank}
use Rattle.words.specs.Spans.{member}
use Rattle.views.specs.declared.View.{View}
use Rattle.views.specs.declared.Look.{Look}
use Rattle.views.specs.declared.Look.TheVariants.{Empty, Term, Run, Node}
use Rattle.views.specs.Variables.{variable_word}
use Rattle.alone.specs.declared.Variable.{Variable}
use Rattle.alone.specs.declared.Variable.TheVariants as one

-- a variable of the trees, as the code holds it
abbrev pub held : Var → Variable
held (tv x) = one.Term x
held (hv p) = one.Run p
held (fv X) = one.Blank X

abbrev pub lone_of : Option Var → prelude.Option Variable
lone_of none = None
lone_of (some v) = Some (held v)

-- its word, or 0
abbrev pub lone_word : prelude.Option Variable → ℕ
lone_word None = 0
lone_word (Some (one.Term x)) = 1000 + x.0
lone_word (Some (one.Run p)) = 2000 + p.0
lone_word (Some (one.Blank f)) = 4000 + f.0

-- the variable, where the test holds
abbrev pub lone : Bool → Variable → prelude.Option Variable
lone t x = pick t (Some x) None

abbrev pub word_of : Option Var → ℕ
word_of none = 0
word_of (some v) = variable_word v

-- a single term
abbrev pub single_term : Look → Bool
single_term Empty = false
single_term (Term x last) = last
single_term (Run p last) = false
single_term (Node f last bare) = last

-- a functor without children, alone
abbrev pub bare_functor : Look → Bool
bare_functor Empty = false
bare_functor (Term x last) = false
bare_functor (Run p last) = false
bare_functor (Node f last bare) = bare && last

-- the variable that a side is, against the other
abbrev pub side_variable : Look → Look → prelude.Option Variable
side_variable Empty r = None
side_variable (Term x last) r = lone (last && single_term r) (one.Term x)
side_variable (Run p last) r = lone last (one.Run p)
side_variable (Node (Symbol f) last bare) r = None
side_variable (Node (Blank f) last bare) r = lone (bare && (last && bare_functor r)) (one.Blank f)

-- the side that is looked at first is a variable, and its word stands neither in the other side nor in another literal
unfoldable pub alone_side : List ℕ → View → Bool
alone_side k v =
    let x = lone_word (side_variable v.l.look v.r.look) in
    not (eqb x 0) && not (member x (slice v.r.from v.r.to k) || (member x (take v.at k) || member x (drop v.end k)))

-- the variable whose membership it is
abbrev pub lone_variable : Look → prelude.Option Variable
lone_variable Empty = None
lone_variable (Term x last) = lone last (one.Term x)
lone_variable (Run p last) = lone last (one.Run p)
lone_variable (Node f last bare) = None
