-- `host::desk_day` meets its contract: the number of what comes back, and the room.
use mathlib.Core.Path.{refl, ◌∙◌}
use mathlib.Core.List.{List}
use Prim.Native.Nat.{ℕ}
use lib.ListN.{replicate}
use Rattle.language.specs.Limits.{desk}
use Rattle.host.proofs.Days.{told-day}
use Rattle.host.proofs.desk_day.Goals as goal

-- the slices that the desk lends
abbrev clear : List ℕ
clear = replicate desk.room 0

pub returns-clause-value : goal.returns-clause-value
returns-clause-value c = c.from.ensures ∙ (let a = c.args in told-day a.sheet.now a.room.now clear clear refl refl _ _ _ c.solve_day.ensures.result_value c.verdict_number.ensures c.solve_day.ensures.room_after.0).0

pub returns-clause-room_after : goal.returns-clause-room_after
returns-clause-room_after c = (let a = c.args in told-day a.sheet.now a.room.now clear clear refl refl _ _ _ c.solve_day.ensures.result_value c.verdict_number.ensures c.solve_day.ensures.room_after.0).1
