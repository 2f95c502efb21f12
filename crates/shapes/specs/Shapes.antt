-- What the loop over an expression does with each token.
use Rattle.std.specs.Prelude.{ℕ, ◌+◌, ◌-◌, ◌/◌, Bool, ◌&&◌, ◌||◌, leb, eqb}
use Rattle.language.specs.Kinds.{pick}
use Rattle.lexing.specs.declared.Mark.{Mark}
use Rattle.lexing.specs.declared.Mark.TheVariants.{End, Bad, Symbol, One, Run, Function, Equals, Comma, Opens, Closes, Plus, Times}
use Rattle.flat.specs.declared.State.{State}
use Rattle.flat.specs.declared.State.TheVariants.{Opened, Wanted, Named, Ready}

-- Two digits. The first: 0 it cannot stand there; 1 one bracket deeper; 2 as deep; 3 out of a bracket, or the end where none is open; 4 as
-- deep, or that end; 5 only that end. The second: how many words it adds where the expression goes on.
abbrev pub action_of : State → Mark → ℕ
action_of Opened End = 0
action_of Opened Bad = 0
action_of Opened Symbol = 11
action_of Opened One = 0
action_of Opened Run = 0
action_of Opened Function = 0
action_of Opened Equals = 0
action_of Opened Comma = 0
action_of Opened Opens = 10
action_of Opened Closes = 21
action_of Opened Plus = 0
action_of Opened Times = 0
action_of Wanted End = 0
action_of Wanted Bad = 0
action_of Wanted Symbol = 21
action_of Wanted One = 0
action_of Wanted Run = 0
action_of Wanted Function = 0
action_of Wanted Equals = 0
action_of Wanted Comma = 0
action_of Wanted Opens = 20
action_of Wanted Closes = 0
action_of Wanted Plus = 0
action_of Wanted Times = 0
action_of Named End = 50
action_of Named Bad = 50
action_of Named Symbol = 50
action_of Named One = 50
action_of Named Run = 50
action_of Named Function = 50
action_of Named Equals = 50
action_of Named Comma = 42
action_of Named Opens = 20
action_of Named Closes = 31
action_of Named Plus = 22
action_of Named Times = 22
action_of Ready End = 50
action_of Ready Bad = 50
action_of Ready Symbol = 50
action_of Ready One = 50
action_of Ready Run = 50
action_of Ready Function = 50
action_of Ready Equals = 50
action_of Ready Comma = 41
action_of Ready Opens = 50
action_of Ready Closes = 30
action_of Ready Plus = 21
action_of Ready Times = 21

abbrev pub state_behind : Mark → State
state_behind End = Ready
state_behind Bad = Ready
state_behind Symbol = Named
state_behind One = Ready
state_behind Run = Ready
state_behind Function = Ready
state_behind Equals = Ready
state_behind Comma = Wanted
state_behind Opens = Opened
state_behind Closes = Ready
state_behind Plus = Wanted
state_behind Times = Ready

-- the expression ends before this token, with d brackets open
unfoldable pub ends : ℕ → ℕ → Bool
ends a d = leb 30 a && eqb d 0

-- it cannot stand there
unfoldable pub refused : ℕ → Bool
refused a = eqb (a / 10) 0 || eqb (a / 10) 5

unfoldable pub depth_by : ℕ → ℕ → ℕ
depth_by a d = pick (eqb (a / 10) 1) (d + 1) (pick (eqb (a / 10) 3) (d - 1) d)

-- eps under a symbol without brackets, where the expression ends
abbrev pub end_words : State → ℕ
end_words Opened = 0
end_words Wanted = 0
end_words Named = 1
end_words Ready = 0
