-- `trying::meets_membership` meets its contract: the hedge stands at the front of the work slice, and `member` decides.
use Rattle.trying.proofs.Tests.{both-stand, hedge-fits, membership-met}
use Rattle.trying.proofs.meets_membership.Goals as goal

pub member-requires-clause-both : goal.member-requires-clause-both
member-requires-clause-both c = both-stand c.fill_in-end.ensures c.requires.hedge_len_bound c.requires.room_in_bounds c.requires.testable

pub member-requires-clause-e_len_bound : goal.member-requires-clause-e_len_bound
member-requires-clause-e_len_bound c = c.requires.expression_len_bound

pub member-requires-clause-h_len_bound : goal.member-requires-clause-h_len_bound
member-requires-clause-h_len_bound c = hedge-fits c.fill_in-end.ensures c.requires.hedge_len_bound c.requires.room_in_bounds

pub returns : goal.returns
returns c = membership-met c.fill_in-end.ensures c.requires.hedge_len_bound c.requires.room_in_bounds c.member.ensures
