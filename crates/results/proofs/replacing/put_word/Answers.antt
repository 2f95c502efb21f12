-- A word that is replaced gives the part that replaces it, and any other gives itself.
use Rattle.slices.proofs.Still.{wrote-word, wrote_as, fits-as}
use Rattle.results.proofs.Replaced.{swapped-old, swapped_other}
use native.Mathlib.Omega.{arith}
use Rattle.results.proofs.replacing.put_word.Goals as goal

pub copy-requires : goal.copy-requires
copy-requires c = fits-as (swapped-old _ _ _ _ c.is_old.ensures c.if-is_old.true) _ _ c.requires.1

pub returns-then-is_old : goal.returns-then-is_old
returns-then-is_old c = wrote_as (swapped-old _ _ _ _ c.is_old.ensures c.if-is_old.true) c.copy.ensures

pub bounds-out-at : goal.bounds-out-at
bounds-out-at c = let h = fits-as (swapped_other _ _ _ _ c.is_old.ensures c.if-is_old.false) _ _ c.requires.1 in omega arith

pub returns : goal.returns
returns c = wrote_as (swapped_other _ _ _ _ c.is_old.ensures c.if-is_old.false) (wrote-word _ _ _)

pub is_old-requires : goal.is_old-requires
is_old-requires c = c.requires.0
