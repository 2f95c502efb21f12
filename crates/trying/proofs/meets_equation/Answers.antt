-- `trying::meets_equation` meets its contract: both sides stand in the work slice, one after the other, and it is decided whether they are the same.
use Rattle.trying.proofs.Tests.{pair-written, pair_fits, equation-met}
use Rattle.trying.proofs.meets_equation.Goals as goal

pub same-requires : goal.same-requires
same-requires c = record {
  pair = pair-written c.fill_in-mid.ensures c.fill_in-end.ensures c.requires.right_len_bound c.requires.room_in_bounds c.requires.comparable;
  w_len_bound = pair_fits c.fill_in-mid.ensures c.fill_in-end.ensures c.requires.right_len_bound c.requires.room_in_bounds;
}

pub returns : goal.returns
returns c = equation-met c.fill_in-mid.ensures c.fill_in-end.ensures c.requires.right_len_bound c.requires.room_in_bounds c.same.ensures
