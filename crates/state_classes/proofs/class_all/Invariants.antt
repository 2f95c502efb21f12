-- The loop's invariant: the table has the classes below s, and their keys are there.
use Prim.Native.Nat.{◌+◌, ◌*◌, ◌≤◌}
use mathlib.Core.Path.{◌≡◌}
use lib.ListN.{length}
use Rattle.state_classes.specs.Classes.{Tabled, KeptTo, Changed, KeyedTo, state_room}
use Rattle.state_classes.proofs.class_all.Given as goal

abbrev pub invariant-loop-s : goal.invariant-loop-s
invariant-loop-s l = (l.first ≤ l.s) × (l.s ≤ l.last + 1) × Tabled l.chart.words.now l.at l.s l.classes × KeptTo (2 * l.at) l.initial.classes l.classes × KeyedTo l.chart.words.now l.at l.s l.keys × (length l.keys ≡ state_room) × Changed l.chart.words.now l.at l.s l.initial.classes l.classes
