-- The marks that are followed, collected.
use native.Mathlib.Omega.{arith}
use lib.ListN.{length-replicate}
use mathlib.Core.Bool.{Bool, false}
use Rattle.language.specs.Limits.{desk}
use Rattle.clash.proofs.Collecting.{blank}
use Rattle.clash.proofs.Listing.{symboled}
use Rattle.clash.proofs.symbols.symbols_after.Goals as goal

pub follow-null-requires : goal.follow-null-requires
follow-null-requires c = let e = length-replicate {A = Bool} desk.question false in omega arith

pub collect-count-requires : goal.collect-count-requires
collect-count-requires c = (c.requires.0, omega arith, c.requires.3)

pub returns : goal.returns
returns c = symboled _ _ _ _ _ _ _ _ _ (blank desk.question) (length-replicate {A = Bool} desk.question false) (omega arith) c.requires.1 c.follow-null.ensures c.collect-count.ensures
