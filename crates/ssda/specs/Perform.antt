-- An accepted event, performed: the state after it, and the reply. Assumes nothing.
use Rattle.std.specs.Prelude.{ℕ, Bool, cond, not, ◌==◌}
use Rattle.std.specs.Bool.{beq}
use Rattle.serial.specs.Slips.{quiet_slip}
use Rattle.serial.specs.declared.event.Cycle.TheVariants.{Idle, Read, Write}
use Rattle.serial.specs.declared.event.Event.{Event}
use Rattle.serial.specs.declared.event.Event.TheVariants.{Bus, ReceivedBit, TransmitClock, PinLevel}
use Rattle.serial.specs.declared.slip.Reply.{Reply}
use Rattle.ssda.specs.declared.control.Target.{Target}
use Rattle.ssda.specs.declared.control.Target.TheVariants.{C2, C3, SyncCode, TransmitData}
use Rattle.ssda.specs.declared.state.State.{State}
use Rattle.ssda.specs.declared.step.Told.{Told}
use Rattle.ssda.specs.Front.{wrote_c2, wrote_code}
use Rattle.ssda.specs.State.{interrupt_of, sm_dtr_of}
use Rattle.ssda.specs.Step.{told_of, with_front, idled, status_was_read, status_told, data_was_read, data_told, took_in, bit_told, data_was_written, write_told, c1_was_written, c1_told, c3_was_written, reset_changed, reset_change_told, cts_changed, cts_told, dcd_changed, clocked, clock_told}

-- a write with RS 1, by the address control bits
abbrev pub wrote_at : Target → State → ℕ → State
wrote_at C2 s b = with_front s (wrote_c2 s.front b)
wrote_at C3 s b = c3_was_written s b
wrote_at SyncCode s b = with_front s (wrote_code s.front b)
wrote_at TransmitData s b = data_was_written s b

abbrev pub wrote_to : State → ℕ → State
wrote_to s b = wrote_at s.front.control.target s b

abbrev pub told_at : Target → State → Told
told_at C2 s = told_of 0 quiet_slip
told_at C3 s = told_of 0 quiet_slip
told_at SyncCode s = told_of 0 quiet_slip
told_at TransmitData s = write_told s

abbrev pub wrote_to_tells : State → ℕ → Told
wrote_to_tells s b = told_at s.front.control.target s

-- a pin gets a level; the present one changes nothing
abbrev pub changes : Bool → Bool → Bool
changes high now = not (beq high now)

abbrev pub pin_set : State → ℕ → Bool → State
pin_set s p high =
    cond (p == 0) (cond (changes high s.front.pins.reset) (reset_changed s high) s)
    (cond (p == 1) (cond (changes high s.front.pins.cts) (cts_changed s high) s)
    (cond (p == 2) (cond (changes high s.front.pins.dcd) (dcd_changed s high) s) s))

abbrev pub pin_tells : State → ℕ → Bool → Told
pin_tells s p high =
    cond (p == 0) (cond (changes high s.front.pins.reset) (reset_change_told s high) (told_of 0 quiet_slip))
    (cond (p == 1) (cond (changes high s.front.pins.cts) (cts_told s high) (told_of 0 quiet_slip)) (told_of 0 quiet_slip))

-- the state after an accepted event
abbrev pub performed : State → Event → State
performed s (Bus Idle) = idled s
performed s (Bus (Read rs)) = cond (rs == 0) (status_was_read s) (data_was_read s)
performed s (Bus (Write rs b)) = cond (rs == 0) (c1_was_written s b) (wrote_to s b)
performed s (ReceivedBit b) = took_in s b
performed s TransmitClock = clocked s
performed s (PinLevel p l) = pin_set s p (l == 1)

-- what it tells
abbrev pub tells : State → Event → Told
tells s (Bus Idle) = told_of 0 quiet_slip
tells s (Bus (Read rs)) = cond (rs == 0) (status_told s) (data_told s)
tells s (Bus (Write rs b)) = cond (rs == 0) (c1_told s b) (wrote_to_tells s b)
tells s (ReceivedBit b) = bit_told s b
tells s TransmitClock = clock_told s
tells s (PinLevel p l) = pin_tells s p (l == 1)

-- the reply: what is told, with the signals after the event
abbrev pub reply_with : State → Told → Reply
reply_with s t = record { value = t.value; interrupt = interrupt_of s; sm_dtr = sm_dtr_of s; underflow = t.underflow; slip = t.slip }

abbrev pub replied : State → Event → Reply
replied s e = reply_with (performed s e) (tells s e)
