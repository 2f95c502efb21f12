use Prim.Native.Nat.{ℕ, ◌+◌, ◌/◌, ◌≤◌}
use native.Mathlib.Omega.{arith}
use mathlib.Core.Path.{◌≡◌, refl, ap, ◌∙◌}
use mathlib.Core.List.{List}
use lib.ListN.{length, length-replicate}
use Rattle.language.specs.Limits.{desk}
use Rattle.language.specs.Writing.{conj_words}
use Rattle.language.proofs.Sizes.{literal-three}
use Rattle.views.proofs.Seen.{literal-next}
use Rattle.views.proofs.LiteralWalks.{walk-starts, walk_here, walk-to, walk_ends}
use Rattle.folding.proofs.Twice.{twice-is}
use Rattle.folding.proofs.Tables.{table_empty}
use Rattle.folding.proofs.Noting.{falls-on, falls-empty, zeros, noted, literal-within}
use Rattle.folding.proofs.first_twice.Invariants.{Known}
use Rattle.folding.proofs.first_twice.Goals as goal

pub loop-i-init : goal.loop-i-init
loop-i-init c = (falls-empty _ _ _ (length-replicate {A = ℕ} 1024 0) (length-replicate {A = ℕ} (desk.question / 3) 0) (zeros 1024) (zeros (desk.question / 3)), λ x f e. walk-starts (Known c.args.k.now _ _ _) x (table_empty _ _ (zeros 1024), refl))

-- a literal's words from a place to its end
abbrev Within : List ℕ → ℕ → ℕ → Type 0
Within k at end = (at + 3 ≤ end) × (end ≤ length k)

pub note-p-requires : goal.note-p-requires
note-p-requires c = let x = c.requires.conjunction in
    let e = c.next_literal-end.ensures in
    let within = walk_here c.args.k.now x.conj x.fine x.words c.loop-i.i (Known c.args.k.now c.loop-i.heads c.loop-i.next c.loop-i.best) (Within c.args.k.now c.loop-i.i c.next_literal-end.result) (c.loop-i.invariant.1 x.conj x.fine x.words) c.loop-i-test.true
    (λ done l rest p d. (let z = e ∙ literal-next p in let y = literal-three l in omega arith, literal-within p _ (e ∙ literal-next p))) in
    (within.0, within.1, c.requires.k_len_bound, c.loop-i.invariant.0)

pub loop-i-smaller : goal.loop-i-smaller
loop-i-smaller c = let z = c.next_literal-end.ensures in omega arith

pub loop-i-preserved : goal.loop-i-preserved
loop-i-preserved c = let e = c.next_literal-end.ensures in (
  falls-on c.note-p.ensures (walk_here c.args.k.now c.requires.conjunction.conj c.requires.conjunction.fine c.requires.conjunction.words c.loop-i.i (Known c.args.k.now c.loop-i.heads c.loop-i.next c.loop-i.best) (c.loop-i.i + 3 ≤ c.next_literal-end.result) (c.loop-i.invariant.1 c.requires.conjunction.conj c.requires.conjunction.fine c.requires.conjunction.words) c.loop-i-test.true (λ done l rest p d. let z = e ∙ literal-next p in let y = literal-three l in omega arith)) c.loop-i.invariant.0,
  λ x f w.
      walk-to c.args.k.now x f w c.loop-i.i (Known c.args.k.now c.loop-i.heads c.loop-i.next c.loop-i.best) (Known c.args.k.now _ _ c.min-best.result) _ (c.loop-i.invariant.1 x f w) c.loop-i-test.true
      (λ done l rest p d.
      let n = noted p _ (e ∙ literal-next p) d.0 c.loop-i.invariant.0 c.loop-i.best d.1 _ _ _ c.note-p.ensures in
      (e ∙ literal-next p, (n.0, c.min-best.ensures ∙ n.1))),
)

pub returns : goal.returns
returns c = λ x f e.
    let k = walk_ends c.args.k.now x f e c.loop-i.i (Known c.args.k.now c.loop-i.heads c.loop-i.next c.loop-i.best) (c.loop-i.invariant.1 x f e) c.loop-i-test.false in
    let t = twice-is (length c.args.k.now) 0 x (ap length e ∙ (let z : length (conj_words x) ≡ 0 + length (conj_words x) = omega arith in z)) in
    let y = k.1 in
    omega arith
