use Rattle.std.proofs.Common.{◌≡◌, ◌≤◌, map, vec_items}
use Rattle.std.specs.List.{range_with_len}
use Rattle.serial.specs.Moves.{move_at, acts_of, entered_by, queue_at, tells_at}
use Rattle.serial.proofs.life.live.Given as goal

-- so far: the queue, the numbers given out and what was told are those of the moves passed
abbrev pub invariant-loop-step : goal.invariant-loop-step
invariant-loop-step l =
    (l.queue ≡ queue_at (acts_of (move_at l.moves)) l.step-index)
    × (l.entered ≡ entered_by (move_at l.moves) l.step-index)
    × (vec_items l.told ≡ map (tells_at l.moves) (range_with_len 0 l.step-index))
    × (l.entered ≤ l.step-index)
