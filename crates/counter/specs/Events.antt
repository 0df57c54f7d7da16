-- What a step of the story hands to the adapter. Assumes nothing.
use Rattle.std.specs.Prelude.{ℕ, List, [], take}
use Rattle.serial.specs.declared.event.Cycle.TheVariants.{Idle, Read, Write}
use Rattle.serial.specs.declared.event.Event.{Event}
use Rattle.serial.specs.declared.event.Event.TheVariants.{Bus}
use Rattle.serial.specs.Events.{bit_event, character_events}
use Rattle.counter.specs.declared.story.Step.{Step}
use Rattle.counter.specs.declared.story.Step.TheVariants as the

-- a character is its eight bits, lowest first; the first seven come before the last event of the step
abbrev pub first_seven : ℕ → List Event
first_seven b = take 7 (character_events b)

abbrev pub events_before : Step → List Event
events_before (the.Write rs b) = []
events_before (the.Character b) = first_seven b
events_before the.Idle = []
events_before the.LoggerReadsStatus = []
events_before the.DoserReadsData = []

abbrev pub last_event : Step → Event
last_event (the.Write rs b) = Bus (Write rs b)
last_event (the.Character b) = bit_event b 7
last_event the.Idle = Bus Idle
last_event the.LoggerReadsStatus = Bus (Read 0)
last_event the.DoserReadsData = Bus (Read 1)
