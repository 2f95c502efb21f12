-- `step_host::refuse` meets its contract, by the number.
use mathlib.Core.Path.{subst, ◌∙◌}
use Prim.Native.Nat.{◌≤◌, ◌<◌}
use Rattle.step_host.proofs.Steps.{refused-early, refused-late}
use Rattle.step_host.proofs.refuse.Goals as goal

pub returns-then-n-le6 : goal.returns-then-n-le6
returns-then-n-le6 c = record {
  value = c.number-n.ensures;
  room_after = refused-early _ _ _ (subst (λ n. n ≤ 6) c.number-n.ensures c.if-n-le6.true);
}

pub returns : goal.returns
returns c = record {
  value = c.number-n.ensures;
  room_after = c.write_words.ensures ∙ refused-late _ _ _ (subst (λ n. 6 < n) c.number-n.ensures c.if-n-le6.false);
}
