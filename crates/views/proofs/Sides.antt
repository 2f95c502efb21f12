-- The parts of a side, of a view and of a shape, as words of the trees that stand there.
use mathlib.Core.Path.{◌≡◌, ap, ◌∙◌}
use mathlib.Core.List.{List, ◌++◌}
use Prim.Native.Nat.{ℕ, ◌+◌}
use native.Mathlib.Omega.{arith}
use lib.ListN.{length, drop, length-append}
use lib.Seq.{slice}
use Rattle.language.specs.Trees.{Hedge, Expr, Conj}
use Rattle.language.specs.Writing.{hedge_words, expr_words, conj_words}
use Rattle.views.specs.Looks.{head, tail, body_words}
use Rattle.views.specs.Views.{Sided, Sees, Shows}
use Rattle.views.specs.declared.Side.{Side}
use Rattle.views.specs.declared.View.{View}
use Rattle.views.specs.declared.Shape.{Shape}
use Rattle.views.specs.Standing.{Stands}
use Rattle.words.proofs.Parts.{part_of, drop_of, part-rest}
use Rattle.views.proofs.Words.{words-split}
use Rattle.views.proofs.Spans.{stands-split, stands-rest}

module _ {k : List ℕ} {s : Side} {h : Hedge} (v : Sided k s h) where
  pub side-stands : Stands k s.from h v.beyond
  side-stands = record { fine = v.fine; here = v.here }

  -- from..to
  pub side-whole : slice s.from s.to k ≡ hedge_words h
  side-whole = part_of k s.from s.to (hedge_words h) v.beyond v.here v.to

  -- from..rest
  pub side-head : slice s.from s.rest k ≡ body_words (head h)
  side-head = part_of k s.from s.rest (body_words (head h)) (hedge_words (tail h) ++ v.beyond) (stands-split side-stands) v.rest

  pub side-rest : Stands k s.rest (tail h) v.beyond
  side-rest = stands-rest side-stands v.rest

  pub side-size : s.to ≡ s.rest + length (hedge_words (tail h))
  side-size = let l = ap length (words-split h) ∙ length-append (body_words (head h)) (hedge_words (tail h)) in let a = v.to in let b = v.rest in omega arith

  -- rest..to
  pub side-tail : slice s.rest s.to k ≡ hedge_words (tail h)
  side-tail = part_of k s.rest s.to (hedge_words (tail h)) v.beyond side-rest.here side-size

module _ {k : List ℕ} {v : View} {before : Conj} {l r : Hedge} {behind : Conj} (s : Sees k v before l r behind) where
  -- 0..at
  pub sees-before : slice 0 v.at k ≡ conj_words before
  sees-before = s.start

  -- end..len
  pub sees-behind : slice v.end v.len k ≡ conj_words behind
  sees-behind = part-rest k v.end v.len s.len ∙ s.finish

module _ {k : List ℕ} {v : Shape} {before : Conj} {h : Hedge} {R : Expr} {behind : Conj} (s : Shows k v before h R behind) where
  pub shows-before : slice 0 v.at k ≡ conj_words before
  shows-before = s.start

  pub shows-finish : drop v.end k ≡ conj_words behind
  shows-finish = drop_of k v.expr v.end (expr_words R) (conj_words behind) s.here s.end

  pub shows-behind : slice v.end v.len k ≡ conj_words behind
  shows-behind = part-rest k v.end v.len s.len ∙ shows-finish

  -- expr..end
  pub shows-expr : slice v.expr v.end k ≡ expr_words R
  shows-expr = part_of k v.expr v.end (expr_words R) (conj_words behind) s.here s.end
