use Rattle.history.proofs.Whole.{every_history_lawful}
use Rattle.history.proofs.begin.Goals as goal

pub returns : goal.returns
returns c = record { adapter = c.new.ensures; law = every_history_lawful }
