-- By the tail that the state is.
use Rattle.state_classes.proofs.Classing.{key-none, key-cat, key-other}
use Rattle.state_classes.proofs.key_of.Goals as goal

pub returns-in_default : goal.returns-in_default
returns-in_default c = key-none c.tail_of-t.ensures c.in_default.ensures

pub returns-in-Ok : goal.returns-in-Ok
returns-in-Ok c = key-cat c.tail_of-t.ensures c.in-Ok.ensures c.words_at.ensures

pub returns-in-Err : goal.returns-in-Err
returns-in-Err c = key-other c.tail_of-t.ensures c.in-Err.ensures c.words_at-in-Err.ensures
