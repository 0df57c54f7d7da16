-- How the story goes by the rules of the adapter. Assumes nothing.
use Rattle.std.specs.Prelude.{◌≡◌, ℕ, cond, List, [], ◌∷◌, ◌++◌, Some, None, Ok, Err, fold, Result, ◌==◌}
use Rattle.serial.specs.declared.event.Cycle.TheVariants.{Idle, Read, Write}
use Rattle.serial.specs.declared.event.Event.{Event}
use Rattle.serial.specs.declared.event.Event.TheVariants.{Bus, ReceivedBit, TransmitClock, PinLevel}
use Rattle.serial.specs.declared.event.Refusal.{Refusal}
use Rattle.serial.specs.declared.queue.Numbers.{Numbers}
use Rattle.serial.specs.declared.slip.ReceiveCode.{ReceiveCode}
use Rattle.serial.specs.declared.slip.ReceiveCode.TheVariants.{Nothing, Delivered, DeliveredMarked, Stripped, Lost, Cleared}
use Rattle.serial.specs.declared.slip.Reply.{Reply}
use Rattle.ssda.specs.declared.state.State.{State}
use Rattle.ssda.specs.State.{new_state}
use Rattle.ssda.specs.Stepped.{stepped, answered, standing_in}
use Rattle.counter.specs.declared.story.Step.{Step}
use Rattle.counter.specs.Events.{events_before, last_event}

-- what an answer lets one see: the Status byte that was read; a fate, whom it met, and the byte that was read; a refusal
pub data Seen : Type 0 where
  status : ℕ → Seen
  fate : ReceiveCode → Numbers → ℕ → Seen
  declined : Refusal → Seen

abbrev status_in : Event → Reply → List Seen
status_in (Bus Idle) r = []
status_in (Bus (Read rs)) r = cond (rs == 0) (status r.value ∷ []) []
status_in (Bus (Write rs b)) r = []
status_in (ReceivedBit b) r = []
status_in TransmitClock r = []
status_in (PinLevel p l) r = []

abbrev fates_in : ReceiveCode → Reply → List Seen
fates_in Nothing r = []
fates_in Delivered r = fate Delivered r.slip.received r.value ∷ []
fates_in DeliveredMarked r = fate DeliveredMarked r.slip.received r.value ∷ []
fates_in Stripped r = fate Stripped r.slip.received r.value ∷ []
fates_in Lost r = fate Lost r.slip.received r.value ∷ []
fates_in Cleared r = fate Cleared r.slip.received r.value ∷ []

abbrev seen_in : Event → Result Reply Refusal → List Seen
seen_in e (Ok r) = status_in e r ++ fates_in r.slip.receive r
seen_in e (Err x) = declined x ∷ []

-- what is seen of events, from a state on
abbrev pub seen : State → List Event → List Seen
seen s [] = []
seen s (e ∷ es) = seen_in e (answered s e) ++ seen (stepped s e) es

abbrev pub events_of : List Step → List Event
events_of [] = []
events_of (s ∷ steps) = events_before s ++ last_event s ∷ events_of steps

abbrev alone : ℕ → Numbers
alone n = record { first = n; second = 0; third = 0 }

-- Two characters are lost, 5 and then the closing one, 6. The Status read between the two shows overrun, the late data read does not
-- hide the second loss, and once Status and data were read again it is cleared. Character 7 still waits, in place 2.
abbrev pub Goes : List Step → Type 0
Goes steps =
    (seen new_state (events_of steps) ≡ status 0x02 ∷ status 0x03 ∷ fate Delivered (alone 1) 0x4f ∷ fate Delivered (alone 2) 0x50 ∷ fate Lost (alone 5) 0 ∷ status 0x23 ∷ fate Lost (alone 6) 0 ∷ fate Delivered (alone 3) 0x45 ∷ status 0x22 ∷ fate Delivered (alone 4) 0x4e ∷ status 0x02 ∷ [])
    × ((standing_in (fold stepped new_state (events_of steps))).received ≡ record { one = None; two = Some 7; three = None })
