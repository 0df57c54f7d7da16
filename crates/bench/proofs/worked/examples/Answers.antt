use Rattle.bench.proofs.Examples.{worked_hold}
use Rattle.bench.proofs.worked.examples.Goals as goal

pub returns-clause-hold : goal.returns-clause-hold
returns-clause-hold c = worked_hold
