use Rattle.std.proofs.Common.{◌≡◌, take}
use Rattle.counter.specs.Desk.{with_events}
use Rattle.counter.proofs.desk.Desk.hand_all.Given as goal

-- so far the events that were passed were handed over
abbrev pub invariant-loop-event : goal.invariant-loop-event
invariant-loop-event l = l.self ≡ with_events l.initial.self (take l.event-index l.events)
