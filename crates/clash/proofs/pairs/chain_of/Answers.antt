-- A remainder is less than what it is taken by.
use mathlib.Core.Path.{refl}
use Rattle.clash.specs.Chains.{chain_of}
use Rattle.clash.proofs.Chaining.{chain-lt}
use Rattle.clash.proofs.pairs.chain_of.Goals as goal

pub returns : goal.returns
unfolding chain_of
returns c = record {
  value = refl;
  upper_bound = chain-lt c.args.a c.args.b;
}
