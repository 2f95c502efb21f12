-- By the length of the first, which is that of all.
use mathlib.Core.Path.{sym, ap, subst, ◌∙◌}
use Prim.Native.Nat.{◌≤◌, ◌<◌}
use Rattle.std.specs.Prelude.{Some}
use Rattle.language.specs.Limits.{desk}
use Rattle.plans.specs.Sizes.{sized, grown_by}
use Rattle.plans.proofs.Alike.{sized-alike, over-alike}
use Rattle.results.proofs.Results.{alike}
use Rattle.results.proofs.size_alike.Goals as goal

pub returns-then-times-eq0 : goal.returns-then-times-eq0
unfolding sized
returns-then-times-eq0 c = sym (ap (λ n. sized (alike c.args.k.now c.args.r 0 n)) c.if-times-eq0.true)

pub returns-then-one-gt-QUESTION : goal.returns-then-one-gt-QUESTION
returns-then-one-gt-QUESTION c = sym (over-alike c.args.k.now c.args.r c.args.times c.if-times-eq0.false (subst (λ n. desk.question < n) c.made_len-one.ensures c.if-one-gt-QUESTION.true))

pub returns : goal.returns
returns c = ap Some (c.grow_by.ensures ∙ ap (grown_by c.args.times 0) c.made_len-one.ensures)
    ∙ sym (sized-alike c.args.k.now c.args.r c.args.times (subst (λ n. n ≤ desk.question) c.made_len-one.ensures c.if-one-gt-QUESTION.false))
