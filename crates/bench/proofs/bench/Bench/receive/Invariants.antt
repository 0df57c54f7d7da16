use Rattle.std.proofs.Common.{◌≡◌, ◌≤◌, ◌<◌, take, fold}
use Rattle.serial.specs.Events.{character_events}
use Rattle.bench.specs.Bench.{handed}
use Rattle.bench.proofs.bench.Bench.receive.Given as goal

-- so far the bits that were passed were handed over; after the first, at most eight bits are counted
abbrev pub invariant-loop-event : goal.invariant-loop-event
invariant-loop-event l = (l.self ≡ fold handed l.initial.self (take l.event-index (character_events l.byte))) × (0 < l.event-index → l.self.state.front.receiver.count ≤ 8)
