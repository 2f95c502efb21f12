-- `files::list_names` is safe: shelves of zeros are lent.
use mathlib.Core.Path.{refl}
use Rattle.collecting.proofs.Zeros.{empty-shelves}
use Rattle.files.proofs.list_names.Goals as goal

pub collect-requires : goal.collect-requires
collect-requires c = empty-shelves refl
