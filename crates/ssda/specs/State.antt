-- The whole state of the adapter, its Status and its signals. Assumes nothing.
use Rattle.std.specs.Prelude.{ℕ, Bool, false, not, ◌&&◌, ◌||◌, is_some, Some, None, Option}
use Rattle.serial.specs.Queue.{empty_queue}
use Rattle.ssda.specs.declared.receiver.Character.{Character}
use Rattle.ssda.specs.declared.state.State.{State}
use Rattle.ssda.specs.declared.status.Conditions.{Conditions}
use Rattle.ssda.specs.Front.{new_front}
use Rattle.ssda.specs.Status.{new_flags, asks, status_byte, sm_dtr}
use Rattle.ssda.specs.Transmitter.{empty_shift}

-- a new adapter
abbrev pub new_state : State
new_state = record { front = new_front; receive = empty_queue; transmit = empty_queue; shift = empty_shift; flags = new_flags; last = 0 }

-- received data is available: place 3 full, and place 2 too in two-byte mode
abbrev pub rda_of : State → Bool
rda_of s = is_some s.receive.three && (s.front.setup.one_byte || is_some s.receive.two)

-- transmit data may be written: place 1 empty, and place 2 too in two-byte mode; not while Tx Rs is set, nor while CTS is high and external is 0
abbrev pub tdra_of : State → Bool
tdra_of s =
    (not (is_some s.transmit.one) && (s.front.setup.one_byte || not (is_some s.transmit.two)))
    && not (s.front.control.tx_reset || (s.front.pins.cts && not s.front.setup.external))

-- the parity mark in place 3
abbrev pub mark_in : Option Character → Bool
mark_in None = false
mark_in (Some c) = c.mark

abbrev pub marked_of : State → Bool
marked_of s = mark_in s.receive.three

abbrev pub conditions_of : State → Conditions
conditions_of s = record { rda = rda_of s; tdra = tdra_of s; dcd_high = s.front.pins.dcd; cts_high = s.front.pins.cts; parity = marked_of s }

abbrev pub interrupt_of : State → Bool
interrupt_of s = asks s.front.control s.front.setup s.flags (conditions_of s)

abbrev pub status_of : State → ℕ
status_of s = status_byte s.flags (conditions_of s) (interrupt_of s)

abbrev pub sm_dtr_of : State → Bool
sm_dtr_of s = sm_dtr s.front.setup s.front.receiver.matched
