-- The same, by the number of a state: 0 behind a bracket that opened, 1 where a part has to begin, 2 behind a name, 3 behind a part.
use Rattle.std.specs.Prelude.{ℕ, eqb}
use Rattle.language.specs.Kinds.{pick}
use Rattle.lexing.specs.declared.Mark.{Mark}
use Rattle.flat.specs.declared.State.TheVariants.{Opened, Wanted, Named, Ready}
use Rattle.shapes.specs.Shapes.{action_of}

unfoldable pub action_at : ℕ → Mark → ℕ
action_at stage m = pick (eqb stage 0) (action_of Opened m) (pick (eqb stage 1) (action_of Wanted m) (pick (eqb stage 2) (action_of Named m) (action_of Ready m)))

unfoldable pub end_at : ℕ → ℕ
end_at stage = pick (eqb stage 2) 1 0
