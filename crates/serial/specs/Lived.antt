-- What `live` answers for a list of moves. Assumes nothing.
use Rattle.std.specs.Prelude.{◌≡◌, ◌^◌, ◌<◌, ◌≤◌, List, length, Ok, Err, vec_items, Result}
use Rattle.serial.specs.declared.life.Life.{Life}
use Rattle.serial.specs.declared.life.Move.{Move}
use Rattle.serial.specs.declared.life.Stopped.{Stopped}
use Rattle.serial.specs.declared.life.Stopped.TheVariants.{TooMany, NoMemory}
use Rattle.serial.specs.Moves.{told_by, queue_after, Lived}

-- on a list of moves that is not longer than there are numbers: all that the queue tells and what stands at the end,
-- which is a life by the law, unless memory is out; a longer list is refused
abbrev pub Lives : List Move → Result Life Stopped → Type 0
Lives ms (Ok life) =
    (length ms < 2 ^ 32) × (vec_items life.told ≡ told_by ms) × (life.standing ≡ queue_after ms)
    × Lived ms (vec_items life.told) life.standing
Lives ms (Err TooMany) = 2 ^ 32 ≤ length ms
Lives ms (Err NoMemory) = length ms < 2 ^ 32
