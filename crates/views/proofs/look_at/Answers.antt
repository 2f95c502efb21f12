-- `look_at`: each way out is the look of one kind of word.
use borrow.Enum.Refused.{opened}
use native.Mathlib.Omega.{arith}
use Prim.Native.Nat.{ℕ}
use mathlib.Core.Path.{◌∙◌, ◌≡◌}
use Rattle.language.specs.declared.Kind.TheVariants.{Symbol, Function}
use Rattle.views.specs.Places.{node_at}
use Rattle.views.proofs.Looks.{looked, look-kind, look-term, look-run, look-other, look-within}
use Rattle.views.proofs.look_at.Goals as goal

pub node_at-requires : goal.node_at-requires
node_at-requires c = look-within c.args.k.now c.args.from 0 c.word.ensures c.classify.ensures (Symbol _) c.in-Symbol.is (λ e. absurd (let z : ◌≡◌ {A = ℕ} 0 1 = cc in omega arith))

pub node_at-requires-in-Function : goal.node_at-requires-in-Function
node_at-requires-in-Function c = look-within c.args.k.now c.args.from 0 c.word.ensures c.classify.ensures (Function _) c.in-Function.is (λ e. absurd (let z : ◌≡◌ {A = ℕ} 0 1 = cc in omega arith))

pub returns-in-Term : goal.returns-in-Term
returns-in-Term c = looked _ _ _ (look-term _ _ _ c.word.ensures c.classify.ensures c.in-Term.x c.in-Term.is c.word-in-Term.ensures)

pub returns-in-Run : goal.returns-in-Run
returns-in-Run c = looked _ _ _ (look-run _ _ _ c.word.ensures c.classify.ensures c.in-Run.p c.in-Run.is c.word-in-Run.ensures)

pub returns-in-Symbol : goal.returns-in-Symbol
unfolding node_at
returns-in-Symbol c = looked _ _ _ (c.node_at.ensures ∙ look-kind _ _ _ c.word.ensures c.classify.ensures (Symbol _) c.in-Symbol.is)

pub returns-in-Function : goal.returns-in-Function
unfolding node_at
returns-in-Function c = looked _ _ _ (c.node_at-in-Function.ensures ∙ look-kind _ _ _ c.word.ensures c.classify.ensures (Function _) c.in-Function.is)

pub returns-in_default : goal.returns-in_default
returns-in_default c = looked _ _ _ (look-other _ _ _ c.word.ensures c.classify.ensures (opened c.in_default.in_default-own.keys5))
