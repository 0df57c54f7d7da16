-- What a call of the adapter does: the state after an event, the answer to it, and the numbers that wait or shift. Assumes nothing.
use Rattle.std.specs.Prelude.{◌≡◌, Ok, Err, Result}
use Rattle.serial.specs.Queue.{numbers_by}
use Rattle.serial.specs.declared.event.Event.{Event}
use Rattle.serial.specs.declared.event.Refusal.{Refusal}
use Rattle.serial.specs.declared.slip.Reply.{Reply}
use Rattle.serial.specs.declared.slip.Standing.{Standing}
use Rattle.ssda.specs.declared.state.State.{State}
use Rattle.ssda.specs.Front.{checked_by}
use Rattle.ssda.specs.Perform.{performed, replied}
use Rattle.ssda.specs.Receiver.{character_number}
use Rattle.ssda.specs.Transmitter.{byte_number, shifting_in}

-- an event that is declined changes nothing
abbrev pub stepped_by : Result (Unit {0}) Refusal → State → Event → State
stepped_by (Ok x) s e = performed s e
stepped_by (Err r) s e = s

-- the state after an event
abbrev pub stepped : State → Event → State
stepped s e = stepped_by (checked_by s.front e) s e

abbrev pub answered_by : Result (Unit {0}) Refusal → State → Event → Result Reply Refusal
answered_by (Ok x) s e = Ok (replied s e)
answered_by (Err r) s e = Err r

-- the answer to an event
abbrev pub answered : State → Event → Result Reply Refusal
answered s e = answered_by (checked_by s.front e) s e

-- after a refusal nothing has changed
abbrev pub UnchangedIfRefused : Result Reply Refusal → State → State → Type 0
UnchangedIfRefused (Ok r) before after = Unit {0}
UnchangedIfRefused (Err r) before after = after ≡ before

-- which numbers wait, place by place, and which byte is being shifted
abbrev pub standing_in : State → Standing
standing_in s = record {
  received = numbers_by character_number s.receive;
  queued = numbers_by byte_number s.transmit;
  shifting = shifting_in s.front.timing s.shift;
}
