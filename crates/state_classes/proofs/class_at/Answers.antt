-- Where it is a state, its class and its key are written.
use native.Mathlib.Omega.{arith}
use mathlib.Core.Path.{subst, ◌∙◌}
use lib.ListN.{length-set}
use Rattle.state_classes.specs.Classes.{StateTest}
use Rattle.state_classes.proofs.Classing.{tabled-state, tabled-skip, kept_set, kept_same, keys-state, keys-skip, changed-none, changed-state}
use Rattle.state_classes.proofs.class_at.Goals as goal

pub returns-then-is_state : goal.returns-then-is_state
returns-then-is_state c = let e = c.requires.classes_len.0 in let d = c.requires.classes_len.1 in (kept_set _ _ (omega arith) kept_same, λ t. tabled-state (omega arith) c.class_of-c.ensures c.narrow.ensures t, keys-state (omega arith) c.key_of-x.ensures c.requires.classes_len.2, length-set c.args.keys.now _ _ ∙ d, changed-state _ c.requires.places.1 c.requires.places.2 (subst (StateTest _ _ _) c.if-is_state.true c.is_state.ensures))

pub returns-else-is_state : goal.returns-else-is_state
returns-else-is_state c = let z = subst (StateTest _ _ _) c.if-is_state.false c.is_state.ensures in (kept_same, λ t. tabled-skip c.requires.places.1 z t, keys-skip c.requires.places.1 z c.requires.classes_len.2, c.requires.classes_len.1, changed-none)
