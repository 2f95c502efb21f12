-- What a view says of the trees that stand in a conjunction's words.
use Rattle.std.specs.Prelude.{ℕ, ◌+◌, ◌≡◌, List, ◌++◌, length, take, drop}
use Rattle.language.specs.Limits.{desk}
use Rattle.language.specs.Trees.{Hedge, Expr, Conj}
use Rattle.language.specs.Writing.{hedge_words, expr_words, conj_words}
use Rattle.language.specs.Fine.{fine_hedge, fine_expr, fine_conj}
use Rattle.views.specs.Looks.{look_of, first_kind, head, body_words}
use Rattle.views.specs.declared.Side.{Side}
use Rattle.views.specs.declared.View.{View}
use Rattle.views.specs.declared.Shape.{Shape}

-- the hedge h stands in k where s says
pub record Sided (k : List ℕ) (s : Side) (h : Hedge) : Type 0 where
  pub fine : fine_hedge desk h
  pub beyond : List ℕ
  pub here : drop s.from k ≡ hedge_words h ++ beyond
  pub rest : s.rest ≡ s.from + length (body_words (head h))
  pub to : s.to ≡ s.from + length (hedge_words h)
  pub look : s.look ≡ look_of h

-- an equation of l and r, written in this order or the other, stands in k between `before` and `behind`
pub record Sees (k : List ℕ) (v : View) (before : Conj) (l r : Hedge) (behind : Conj) : Type 0 where
  pub start : take v.at k ≡ conj_words before
  pub left : Sided k v.l l
  pub right : Sided k v.r r
  pub finish : drop v.end k ≡ conj_words behind
  pub len : v.len ≡ length k
  pub fine_before : fine_conj desk before
  pub fine_behind : fine_conj desk behind

-- the membership of h in R stands in k between `before` and `behind`
pub record Shows (k : List ℕ) (v : Shape) (before : Conj) (h : Hedge) (R : Expr) (behind : Conj) : Type 0 where
  pub start : take v.at k ≡ conj_words before
  pub hedge : Sided k v.h h
  pub fine : fine_expr desk R
  pub here : drop v.expr k ≡ expr_words R ++ conj_words behind
  pub first : v.first ≡ first_kind R
  pub end : v.end ≡ v.expr + length (expr_words R)
  pub len : v.len ≡ length k
  pub fine_before : fine_conj desk before
  pub fine_behind : fine_conj desk behind

-- some equation stands in k where v says
pub record EquationAt (k : List ℕ) (v : View) : Type 0 where
  pub before : Conj
  pub l : Hedge
  pub r : Hedge
  pub behind : Conj
  pub sees : Sees k v before l r behind

-- some membership stands in k where v says
pub record MembershipAt (k : List ℕ) (v : Shape) : Type 0 where
  pub before : Conj
  pub h : Hedge
  pub R : Expr
  pub behind : Conj
  pub shows : Shows k v before h R behind
