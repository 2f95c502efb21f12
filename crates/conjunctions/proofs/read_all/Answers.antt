use Prim.Native.Nat.{ℕ, ◌+◌}
use mathlib.Core.Path.{◌≡◌, refl, sym, ap, ◌∙◌}
use mathlib.Core.List.{List}
use native.Mathlib.Omega.{arith}
use borrow.Author.Rules.{rules}
use Rattle.std.specs.Prelude.{Err, ◌≤◌}
use Rattle.language.specs.Limits.{desk}
use Rattle.language.specs.Question.{parts, read_all}
use Rattle.language.proofs.Walks.{walk-starts, walk-room, walk-part, walk-on, walk-stops, walk_ends}
use Rattle.trees.specs.Places.{placed}
use Rattle.conjunctions.proofs.Parts.{ok-of, err-of, to_read, part-read, part-within, part-stops, none_left}
use Rattle.conjunctions.proofs.read_all.Goals as goal

-- where the parts begin
from-body : (n : ℕ) (ws : List ℕ) → to_read 0 (5 + n + 1) (parts 5 n ws) ≡ placed (6 + n) (read_all desk (parts 5 n ws))
from-body n ws = ap (λ at. placed at (read_all desk (parts 5 n ws))) (let z : 5 + n + 1 ≡ 6 + n = omega arith in z)

pub loop-i-init : goal.loop-i-init
loop-i-init c = let e = c.from-stop.ensures in
    let w = walk-starts to_read 5 _ _ 6 _ c.requires refl (omega arith) in
    (omega arith, omega (arith, walk-room _ _ _ _ w), w)

pub offset_bounds-w-from : goal.offset_bounds-w-from
offset_bounds-w-from c = let l = c.loop-i in
    let s = walk-part _ _ _ _ l.invariant.2 (omega arith) _ c.from-to.ensures in
    search rules

pub slice_bounds-read_conj-count : goal.slice_bounds-read_conj-count
slice_bounds-read_conj-count c = let l = c.loop-i in
    let s = walk-part _ _ _ _ l.invariant.2 (omega arith) _ c.from-to.ensures in
    search rules

pub slice_bounds-read_conj-start : goal.slice_bounds-read_conj-start
slice_bounds-read_conj-start c = let l = c.loop-i in
    let s = walk-part _ _ _ _ l.invariant.2 (omega arith) _ c.from-to.ensures in
    search rules

pub slice_bounds-read_conj-end : goal.slice_bounds-read_conj-end
slice_bounds-read_conj-end c = let l = c.loop-i in
    let s = walk-part _ _ _ _ l.invariant.2 (omega arith) _ c.from-to.ensures in
    search rules

pub loop-i-preserved : goal.loop-i-preserved
loop-i-preserved c = let l = c.loop-i in
    let e = c.from-to.ensures in
    let s = walk-part _ _ _ _ l.invariant.2 (omega arith) _ e in
    let r = ok-of c.read_conj.result c.in_ok-map_err.ensures.variant in
    (l.invariant.0, l.invariant.1, walk-on _ _ _ _ l.invariant.2 (omega arith) _ e (part-read 0 _ _ _ s _ (sym c.read_conj.ensures ∙ r.1)))

pub map_err-requires : goal.map_err-requires
map_err-requires c = let l = c.loop-i in
    let s = walk-part _ _ _ _ l.invariant.2 (omega arith) _ c.from-to.ensures in
    let h : (more : ℕ) → c.read_conj.result ≡ Err more → l.from + more ≤ c.from-to.result = λ more e. part-within 0 _ _ _ s _ (sym c.read_conj.ensures ∙ e) in
    search (rules, h)

pub returns-in_err-map_err : goal.returns-in_err-map_err
returns-in_err-map_err c = let l = c.loop-i in
    let s = walk-part _ _ _ _ l.invariant.2 (omega arith) _ c.from-to.ensures in
    let (more, e) = err-of c.read_conj.result c.in_err-map_err.ensures.variant in
    let h : c.from_residual.result ≡ Err (l.from + more) = search rules in
    h ∙ walk-stops _ _ _ _ l.invariant.2 (omega arith) _ c.from-to.ensures (part-stops 0 _ _ _ s _ (sym c.read_conj.ensures ∙ e)) ∙ from-body _ _

pub returns : goal.returns
returns c = let l = c.loop-i in none_left _ ∙ walk_ends _ _ _ _ l.invariant.2 (omega arith) ∙ from-body _ _
