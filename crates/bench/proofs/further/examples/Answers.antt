use Rattle.bench.proofs.Examples.{further_hold}
use Rattle.bench.proofs.further.examples.Goals as goal

pub returns-clause-hold : goal.returns-clause-hold
returns-clause-hold c = further_hold
