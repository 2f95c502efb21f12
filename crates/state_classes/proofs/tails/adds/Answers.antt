-- By the test.
use Rattle.state_classes.proofs.Peeling.{adds-bare, adds-word}
use Rattle.state_classes.proofs.tails.adds.Goals as goal

pub returns-then-bare : goal.returns-then-bare
returns-then-bare c = adds-bare c.args.bare c.args.x c.if-bare.true

pub returns-else-bare : goal.returns-else-bare
returns-else-bare c = adds-word c.args.bare c.args.x c.if-bare.false
