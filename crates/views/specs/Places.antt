-- What is read off a conjunction's words whatever stands in them: how a hedge begins, and where its parts are.
use Rattle.std.specs.Prelude.{ℕ, ◌+◌, Bool, List, eqb, length, get_or, drop}
use Rattle.language.specs.declared.Name.{Name}
use Rattle.language.specs.declared.Name.TheVariants.{Symbol, Blank}
use Rattle.language.specs.declared.Kind.{Kind}
use Rattle.language.specs.declared.Kind.TheVariants as kind
use Rattle.language.specs.Limits.{desk}
use Rattle.language.specs.Kinds.{kind_of}
use Rattle.words.specs.Spans.{span, element_end}
use Rattle.views.specs.declared.Look.{Look}
use Rattle.views.specs.declared.Look.TheVariants.{Empty, Term, Run, Node}
use Rattle.views.specs.declared.Side.{Side}
use Rattle.views.specs.declared.View.{View}
use Rattle.views.specs.declared.Shape.{Shape}
use Rattle.words.specs.Places.{until_literal}

-- by what the first word is, whether nothing follows the first element, and whether it has no children
abbrev pub look_by : Kind → Bool → Bool → Look
look_by kind.End last bare = Empty
look_by (kind.Term x) last bare = Term x last
look_by (kind.Run p) last bare = Run p last
look_by (kind.Symbol f) last bare = Node (Symbol f) last bare
look_by (kind.Function X) last bare = Node (Blank X) last bare
look_by kind.Equation last bare = Empty
look_by kind.Membership last bare = Empty
look_by kind.Eps last bare = Empty
look_by kind.Cat last bare = Empty
look_by kind.Alt last bare = Empty
look_by kind.Star last bare = Empty
look_by kind.Other last bare = Empty

unfoldable pub look_at : List ℕ → ℕ → ℕ → Look
look_at k from rest = look_by (kind_of desk (get_or k from 0)) (eqb (get_or k rest 0) 0) (eqb (get_or k (from + 1) 0) 0)

unfoldable pub node_at : List ℕ → ℕ → ℕ → Name → Look
node_at k from rest name = Node name (eqb (get_or k rest 0) 0) (eqb (get_or k (from + 1) 0) 0)

unfoldable pub side_at : List ℕ → ℕ → Side
side_at k i = record { from = i; rest = element_end k i; to = i + span 1 (drop i k); look = look_at k i (element_end k i) }

-- two sides in a row
unfoldable pub view_of : List ℕ → ℕ → Side → Side → View
view_of k at l r = record { at = at; l = l; r = r; end = r.to; len = length k }

unfoldable pub view_at : List ℕ → ℕ → View
view_at k at = view_of k at (side_at k (at + 1)) (side_at k (side_at k (at + 1)).to)

-- a side, and an expression up to the next literal
unfoldable pub shape_of : List ℕ → ℕ → Side → Shape
shape_of k at h = record { at = at; h = h; expr = h.to; first = kind_of desk (get_or k h.to 0); end = at + 1 + until_literal (drop (at + 1) k); len = length k }

unfoldable pub shape_at : List ℕ → ℕ → Shape
shape_at k at = shape_of k at (side_at k (at + 1))

unfoldable pub turned : View → View
turned v = record { at = v.at; l = v.r; r = v.l; end = v.end; len = v.len }
