-- An equation whose left side begins with a functor: what each test says of the first rule.
use Prim.Native.Nat.{ℕ}
use mathlib.Core.Path.{◌≡◌, sym, ◌∙◌}
use mathlib.Core.Bool.{Bool, true, false, ◌&&◌}
use Rattle.language.specs.declared.TermVar.{TermVar}
use Rattle.language.specs.declared.HedgeVar.{HedgeVar}
use Rattle.language.specs.declared.Signature.{Signature}
use Rattle.language.specs.Trees.{Functor, Hedge, node, Conj, same_words}
use Rattle.rules.specs.Looks.{empty}
use Rattle.rules.specs.Places.{at_r1, at_d2, no_rule}
use Rattle.views.specs.declared.Look.TheVariants.{Empty, Term, Run}
use Rattle.views.specs.Looks.{look_of}
use Rattle.views.proofs.Looks.{is-empty, is-term, is-run}
use Rattle.equations.specs.Rank.{functors, rank_of}
use Rattle.equations.proofs.Looked.{both}

module _ (σ : Signature) (K : Conj) (F : Functor) (c s : Hedge) where
  pub node-empty : (r : Hedge) → Empty ≡ look_of r → no_rule ≡ rank_of σ K (node F c s) r
  node-empty r e = rw (is-empty r (sym e))

  pub node-run : (r : Hedge) {w : HedgeVar} {lone : Bool} → Run w lone ≡ look_of r → no_rule ≡ rank_of σ K (node F c s) r
  node-run r e = rw (is-run r (sym e)).whole

  pub node-term : (r : Hedge) {w : TermVar} {lone more b : Bool} → Term w more ≡ look_of r → lone ≡ empty s → b ≡ (lone && more) → b ≡ true → no_rule ≡ rank_of σ K (node F c s) r
  node-term r e d f t = let i = is-term r (sym e) in rw (i.whole, sym (both f d i.last) ∙ t)

  pub node-terms : (r : Hedge) {w : TermVar} {lone more b : Bool} → Term w more ≡ look_of r → lone ≡ empty s → b ≡ (lone && more) → b ≡ false → at_d2 ≡ rank_of σ K (node F c s) r
  node-terms r e d f t = let i = is-term r (sym e) in rw (i.whole, sym (both f d i.last) ∙ t)

  module _ (G : Functor) (d t : Hedge) where
    pub nodes-same : same_words (node F c s) (node G d t) ≡ true → at_r1 ≡ rank_of σ K (node F c s) (node G d t)
    nodes-same e = rw e

    pub nodes-longer : same_words (node F c s) (node G d t) ≡ false → (empty s && empty t) ≡ false → at_d2 ≡ rank_of σ K (node F c s) (node G d t)
    nodes-longer e z = rw (e, z)

    pub nodes-single : same_words (node F c s) (node G d t) ≡ false → (empty s && empty t) ≡ true → {n : ℕ} → n ≡ functors σ K F c G d → n ≡ rank_of σ K (node F c s) (node G d t)
    nodes-single e z n = rw (e, z) n
