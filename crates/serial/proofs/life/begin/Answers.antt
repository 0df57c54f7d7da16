use Rattle.serial.proofs.Moves.{every_life, one_life}
use Rattle.serial.proofs.life.begin.Goals as goal

pub returns : goal.returns
returns c = record { queue = c.new.ensures; law = every_life; pinned = one_life }
