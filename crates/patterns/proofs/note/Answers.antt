-- `patterns::note` meets its contract.
use Rattle.patterns.proofs.Turns.{notes-new, notes-old}
use Rattle.patterns.proofs.note.Goals as goal

pub returns-then-table-place-eq0 : goal.returns-then-table-place-eq0
returns-then-table-place-eq0 c = notes-new c.args.table.now c.args.place c.args.count c.if-table-place-eq0.true

pub returns : goal.returns
returns c = notes-old c.args.table.now c.args.place c.args.count c.if-table-place-eq0.false
