-- `named_by`: a side, a literal and a rule that applies there.
use mathlib.Core.Path.{refl, ap, ◌∙◌}
use Rattle.literals.specs.Places.{words_before}
use Rattle.telling.proofs.Laws.{past_all, literal-at, told-clash, told_named, told-wrong, no-such-side}
use Rattle.telling.proofs.named_by.Goals as goal

pub returns-then-side-gt1 : goal.returns-then-side-gt1
returns-then-side-gt1 c = λ x f e. no-such-side c.args.s x _ _ _ c.if-side-gt1.true

pub returns-then-k-at : goal.returns-then-k-at
returns-then-k-at c = λ x f e.
    past_all c.args.s c.args.k.now x f e c.args.rule c.args.literal c.args.side c.args.rule c.literal_place-at.result c.if-side-gt1.false refl (c.literal_place-at.ensures x f e ∙ ap (λ n. words_before n x) c.wide.ensures) c.if-k-at.true

pub named_clash-requires : goal.named_clash-requires
named_clash-requires c = let x = c.requires.conjunction in
    let s = literal-at c.args.s c.args.k.now x.conj x.fine x.words c.args.rule c.args.literal c.args.side c.wide-rank.result c.literal_place-at.result c.if-side-gt1.false c.wide-rank.ensures (c.literal_place-at.ensures x.conj x.fine x.words ∙ ap (λ n. words_before n x.conj) c.wide.ensures) c.if-k-at.false in
    record {
      at_in_bounds = (c.if-k-at.false, c.requires.k_len_bound);
      some_literal = record { before = _; l = _; behind = _; stands = s };
    }

pub returns-then-rank-eq-AT_CLASH : goal.returns-then-rank-eq-AT_CLASH
returns-then-rank-eq-AT_CLASH c = λ x f e.
    told-clash c.args.s c.args.k.now x f e c.args.rule c.args.literal c.args.side c.wide-rank.result c.literal_place-at.result c.if-side-gt1.false c.wide-rank.ensures (c.literal_place-at.ensures x f e ∙ ap (λ n. words_before n x) c.wide.ensures) c.if-k-at.false _ c.if-rank-eq-AT_CLASH.true c.named_clash.ensures

pub applies_at-requires-clause-at_in_bounds : goal.applies_at-requires-clause-at_in_bounds
applies_at-requires-clause-at_in_bounds c = (c.if-k-at.false, c.if-rank-eq-AT_CLASH.false)

pub applies_at-requires-clause-some_literal : goal.applies_at-requires-clause-some_literal
applies_at-requires-clause-some_literal c = let x = c.requires.conjunction in
    let s = literal-at c.args.s c.args.k.now x.conj x.fine x.words c.args.rule c.args.literal c.args.side c.wide-rank.result c.literal_place-at.result c.if-side-gt1.false c.wide-rank.ensures (c.literal_place-at.ensures x.conj x.fine x.words ∙ ap (λ n. words_before n x.conj) c.wide.ensures) c.if-k-at.false in
    record { before = _; l = _; behind = _; stands = s }

pub returns-then-applies_at : goal.returns-then-applies_at
returns-then-applies_at c = λ x f e.
    told_named c.args.s c.args.k.now x f e c.args.rule c.args.literal c.args.side c.wide-rank.result c.literal_place-at.result c.if-side-gt1.false c.wide-rank.ensures (c.literal_place-at.ensures x f e ∙ ap (λ n. words_before n x) c.wide.ensures) c.if-k-at.false _ c.applies_at.ensures c.if-applies_at.true

pub returns : goal.returns
returns c = λ x f e.
    told-wrong c.args.s c.args.k.now x f e c.args.rule c.args.literal c.args.side c.wide-rank.result c.literal_place-at.result c.if-side-gt1.false c.wide-rank.ensures (c.literal_place-at.ensures x f e ∙ ap (λ n. words_before n x) c.wide.ensures) c.if-k-at.false _ c.applies_at.ensures c.if-rank-eq-AT_CLASH.false c.if-applies_at.false
