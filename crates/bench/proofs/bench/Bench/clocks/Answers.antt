use Rattle.std.proofs.Common.{add-one}
use Rattle.bench.proofs.bench.Bench.clocks.Goals as goal

pub loop-turn-preserved : goal.loop-turn-preserved
loop-turn-preserved c = (rw add-one (cc), c.clock.ensures.few)
