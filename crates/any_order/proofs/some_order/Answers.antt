-- `any_order::some_order` meets its contract: nothing is put down yet, and the kinds are noted.
use Rattle.language.specs.Limits.{desk}
use Rattle.any_order.proofs.Noting.{blank, blank-holds, noted-holds, asked-fits, asked-listed, asked-ready, shared}
use Rattle.any_order.proofs.some_order.Goals as goal

pub place-requires-clause-expression : goal.place-requires-clause-expression
place-requires-clause-expression c = let z = blank desk.question in
    let noted = c.note.ensures in
    c.requires.asked.expression

pub place-requires-clause-e_len_bound : goal.place-requires-clause-e_len_bound
place-requires-clause-e_len_bound c = let z = blank desk.question in
    let noted = c.note.ensures in
    c.requires.e_len_bound

pub place-requires-clause-e_in_bounds : goal.place-requires-clause-e_in_bounds
place-requires-clause-e_in_bounds c = let z = blank desk.question in
    let noted = c.note.ensures in
    blank-holds z c.requires.asked c.requires.e_len_bound

pub place-requires-clause-e_in_bounds_2 : goal.place-requires-clause-e_in_bounds_2
place-requires-clause-e_in_bounds_2 c = let z = blank desk.question in
    let noted = c.note.ensures in
    noted-holds z c.requires.asked c.requires.e_len_bound noted

pub place-requires-clause-ready : goal.place-requires-clause-ready
place-requires-clause-ready c = let z = blank desk.question in
    let noted = c.note.ensures in
    asked-ready z c.requires.asked c.requires.e_len_bound noted c.heading-times.ensures

pub note-requires : goal.note-requires
note-requires c = asked-listed (blank desk.question) c.requires.asked c.requires.e_len_bound

pub heading-times-requires : goal.heading-times-requires
heading-times-requires c = asked-fits c.requires.asked

pub returns : goal.returns
returns c = shared (blank desk.question) c.note.ensures c.heading-times.ensures c.place.ensures.placed
