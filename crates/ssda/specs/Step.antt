-- What each accepted event does to the state, and what it tells. Assumes nothing.
use Rattle.std.specs.Prelude.{ℕ, ◌+◌, Bool, true, false, cond, ◌&&◌, [], ◌∷◌, Some, None, Option, ◌==◌}
use Rattle.std.specs.Option.{unwrap_or}
use Rattle.serial.specs.Queue.{empty_queue, entered, risen, output_taken, waiting, fields}
use Rattle.serial.specs.Slips.{quiet_slip}
use Rattle.serial.specs.declared.queue.Numbers.{Numbers}
use Rattle.serial.specs.declared.queue.Queue.{Queue}
use Rattle.serial.specs.declared.slip.ShiftCode.{ShiftCode}
use Rattle.serial.specs.declared.slip.QueueCode.{QueueCode}
use Rattle.serial.specs.declared.slip.QueueCode.TheVariants as qu
use Rattle.serial.specs.declared.slip.ReceiveCode.{ReceiveCode}
use Rattle.serial.specs.declared.slip.ReceiveCode.TheVariants as rx
use Rattle.serial.specs.declared.slip.ShiftCode.TheVariants as sh
use Rattle.serial.specs.declared.slip.Slip.{Slip}
use Rattle.ssda.specs.declared.front.Front.{Front}
use Rattle.ssda.specs.declared.receiver.Character.{Character}
use Rattle.ssda.specs.declared.state.State.{State}
use Rattle.ssda.specs.declared.status.Flags.{Flags}
use Rattle.ssda.specs.declared.step.Told.{Told}
use Rattle.ssda.specs.declared.transmitter.Byte.{Byte}
use Rattle.ssda.specs.declared.transmitter.Shift.{Shift}
use Rattle.ssda.specs.Front.{counted_write, framed_front, heard_front, strips_of, reset_fell, reset_rose, ticked_front, with_cts, with_dcd, wrote_c1, wrote_c3}
use Rattle.ssda.specs.Control.{bit_of}
use Rattle.ssda.specs.Receiver.{character_number}
use Rattle.ssda.specs.Transmitter.{bit_shown, byte_number, empty_shift, loads_at, shifted_on, shifting_in, underflows_for, word_for}
use Rattle.ssda.specs.State.{status_of}
use Rattle.ssda.specs.Status.{after_c3, after_cts_rise, after_data_read, after_dcd_rise, after_loss, after_receiver_reset, after_status_read, after_transmitter_reset, after_underflow}

abbrev pub state_of : Front → Queue Character → Queue Byte → Shift → Flags → ℕ → State
state_of f r t s g l = record { front = f; receive = r; transmit = t; shift = s; flags = g; last = l }

-- what is told: a value, no underflow pulse, a slip
abbrev pub told_of : ℕ → Slip → Told
told_of v s = record { value = v; underflow = false; slip = s }

-- a slip about one received character, and about one written byte
abbrev pub tell_receive : ReceiveCode → ℕ → Slip
tell_receive c n = record { receive = c; received = fields (n ∷ []); queue = qu.Nothing; queued = fields []; shift = sh.Nothing; shifted = 0 }

abbrev pub tell_queue : QueueCode → ℕ → Slip
tell_queue c n = record { receive = rx.Nothing; received = fields []; queue = c; queued = fields (n ∷ []); shift = sh.Nothing; shifted = 0 }

-- AN IDLE CYCLE

abbrev pub idled : State → State
idled s = state_of s.front (risen s.receive) (risen s.transmit) s.shift s.flags s.last

-- A STATUS READ

abbrev pub status_was_read : State → State
status_was_read s = state_of s.front s.receive s.transmit s.shift (after_status_read s.flags) s.last

abbrev pub status_told : State → Told
status_told s = told_of (status_of s) quiet_slip

-- A DATA READ

-- the byte that it gives, where l is the last one taken
abbrev pub byte_in : Option Character → ℕ → ℕ
byte_in None l = l
byte_in (Some c) l = c.byte

abbrev pub data_was_read : State → State
data_was_read s = state_of s.front (output_taken s.receive) s.transmit s.shift (after_data_read s.flags) (byte_in s.receive.three s.last)

-- delivered, with parity mark or without
abbrev pub delivered : Character → Slip
delivered c = tell_receive (cond c.mark rx.DeliveredMarked rx.Delivered) c.number

abbrev pub delivery_of : Option Character → Slip
delivery_of None = quiet_slip
delivery_of (Some c) = delivered c

abbrev pub data_told : State → Told
data_told s = told_of (byte_in s.receive.three s.last) (delivery_of s.receive.three)

-- A RECEIVED BIT

abbrev pub loss_if : Option Character → Flags → Flags
loss_if None g = g
loss_if (Some c) g = after_loss g

-- a character enters the receive queue, and what it displaces is lost
abbrev pub with_character : State → Character → State
with_character s c = state_of s.front (entered s.receive c) s.transmit s.shift (loss_if s.receive.one s.flags) s.last

abbrev pub loss_of : Option Character → Slip
loss_of None = quiet_slip
loss_of (Some c) = tell_receive rx.Lost c.number

abbrev pub loss_told : State → Told
loss_told s = told_of 0 (loss_of s.receive.one)

abbrev pub with_front : State → Front → State
with_front s f = state_of f s.receive s.transmit s.shift s.flags s.last

-- what a bit frames is stripped, or enters
abbrev pub taken : State → Option Character → State
taken s None = s
taken s (Some c) = cond (strips_of s.front) s (with_character s c)

abbrev pub tells_of : State → Option Character → Told
tells_of s None = told_of 0 quiet_slip
tells_of s (Some c) = cond (strips_of s.front) (told_of 0 (tell_receive rx.Stripped c.number)) (loss_told s)

abbrev pub took_in : State → ℕ → State
took_in s b = taken (with_front s (heard_front s.front b)) (framed_front s.front b)

abbrev pub bit_told : State → ℕ → Told
bit_told s b = tells_of (with_front s (heard_front s.front b)) (framed_front s.front b)

-- A TRANSMIT DATA WRITE

abbrev pub data_was_written : State → ℕ → State
data_was_written s b = state_of (counted_write s.front) s.receive (entered s.transmit (record { number = s.front.written + 1; byte = b })) s.shift s.flags s.last

abbrev pub overwrite_of : Option Byte → Slip
overwrite_of None = quiet_slip
overwrite_of (Some b) = tell_queue qu.Overwritten b.number

abbrev pub write_told : State → Told
write_told s = told_of 0 (overwrite_of s.transmit.one)

-- CUTS AND RESETS

abbrev pub with_shift : State → Shift → State
with_shift s x = state_of s.front s.receive s.transmit x s.flags s.last

-- the word that is being shown is given up
abbrev pub cut_state : State → State
cut_state s = with_shift s empty_shift

abbrev pub slip_of : ReceiveCode → Numbers → QueueCode → Numbers → ShiftCode → ℕ → Slip
slip_of c ns q ms h n = record { receive = c; received = ns; queue = q; queued = ms; shift = h; shifted = n }

-- the shift code of a slip that had code c, once the byte of this number is cut, if one is
abbrev pub cut_code : Option ℕ → ShiftCode → ShiftCode
cut_code None c = c
cut_code (Some n) c = sh.Cut

-- on a slip: the byte that is being shifted, if one is, is cut
abbrev pub cut_told : State → Slip → Slip
cut_told s x =
    slip_of x.receive x.received x.queue x.queued
    (cut_code (shifting_in s.front.timing s.shift) x.shift) (unwrap_or (shifting_in s.front.timing s.shift) 0)

-- a reset of the receiver, if it is written
abbrev pub receiver_reset : State → State
receiver_reset s = state_of s.front empty_queue s.transmit s.shift (after_receiver_reset s.flags) s.last

abbrev pub receiver_reset_if : Bool → State → State
receiver_reset_if b s = cond b (receiver_reset s) s

abbrev pub cleared_received : State → Numbers
cleared_received s = fields (waiting character_number s.receive)

abbrev pub receiver_reset_told : Bool → State → Slip → Slip
receiver_reset_told b s x =
    cond b
    (slip_of (cond ((cleared_received s).first == 0) x.receive rx.Cleared) (cleared_received s) x.queue x.queued x.shift x.shifted)
    x

-- a reset of the transmitter, if it is written
abbrev pub transmitter_reset : State → State
transmitter_reset s = state_of s.front s.receive empty_queue empty_shift (after_transmitter_reset s.flags) s.last

abbrev pub transmitter_reset_if : Bool → State → State
transmitter_reset_if b s = cond b (transmitter_reset s) s

abbrev pub cleared_written : State → Numbers
cleared_written s = fields (waiting byte_number s.transmit)

abbrev pub transmitter_reset_told : Bool → State → Slip → Slip
transmitter_reset_told b s x =
    cond b
    (cut_told s (slip_of x.receive x.received (cond ((cleared_written s).first == 0) x.queue qu.Cleared) (cleared_written s) x.shift x.shifted))
    x

abbrev pub both_resets : Bool → Bool → State → State
both_resets rx tx s = transmitter_reset_if tx (receiver_reset_if rx s)

abbrev pub both_told : Bool → Bool → State → Slip
both_told rx tx s = transmitter_reset_told tx (receiver_reset_if rx s) (receiver_reset_told rx s quiet_slip)

-- A WRITE TO C1, AND RESET FALLING

abbrev pub to_c1 : State → ℕ → State
to_c1 s b = with_front s (wrote_c1 s.front b)

abbrev pub c1_was_written : State → ℕ → State
c1_was_written s b = to_c1 (both_resets (bit_of 0 b) (bit_of 1 b) s) b

abbrev pub c1_told : State → ℕ → Told
c1_told s b = told_of 0 (both_told (bit_of 0 b) (bit_of 1 b) s)

abbrev pub fell_under_reset : State → State
fell_under_reset s = with_front (both_resets true true s) (reset_fell s.front)

abbrev pub reset_told : State → Told
reset_told s = told_of 0 (both_told true true s)

abbrev pub reset_changed : State → Bool → State
reset_changed s high = cond high (with_front s (reset_rose s.front)) (fell_under_reset s)

abbrev pub reset_change_told : State → Bool → Told
reset_change_told s high = cond high (told_of 0 quiet_slip) (reset_told s)

-- A WRITE TO C3

abbrev pub with_flags : State → Flags → State
with_flags s g = state_of s.front s.receive s.transmit s.shift g s.last

abbrev pub c3_was_written : State → ℕ → State
c3_was_written s b = with_front (with_flags s (after_c3 s.flags b)) (wrote_c3 s.front b)

-- CTS AND DCD

abbrev pub cts_changed : State → Bool → State
cts_changed s high = with_front (cond high (cut_state (with_flags s (after_cts_rise s.flags))) s) (with_cts s.front high)

abbrev pub cts_told : State → Bool → Told
cts_told s high = told_of 0 (cond high (cut_told s quiet_slip) quiet_slip)

abbrev pub dcd_changed : State → Bool → State
dcd_changed s high = with_front (cond high (with_flags s (after_dcd_rise s.flags)) s) (with_dcd s.front high)

-- A TRANSMIT CLOCK

abbrev pub underflow_if : Bool → Flags → Flags
underflow_if b g = cond b (after_underflow g) g

-- the output is taken and loaded
abbrev pub loaded_state : State → State
loaded_state s =
    state_of s.front s.receive (output_taken s.transmit)
    (word_for s.transmit.three s.front.setup.form s.front.code s.front.setup.tx_sync)
    (underflow_if (underflows_for s.transmit.three s.front.setup.tx_sync) s.flags) s.last

abbrev pub advanced_state : State → State
advanced_state s = with_shift s (shifted_on s.shift)

abbrev pub clocked : State → State
clocked s = with_front (cond (loads_at s.front.timing) (loaded_state s) (advanced_state s)) (ticked_front s.front)

-- a bit of a byte, or its last bit
abbrev pub tell_shift : Option ℕ → Bool → Slip
tell_shift None last = quiet_slip
tell_shift (Some n) last = slip_of rx.Nothing (fields []) qu.Nothing (fields []) (cond last sh.LastBit sh.Bit) n

abbrev pub clock_told : State → Told
clock_told s = record {
  value = bit_shown s.front.timing s.shift;
  underflow = loads_at s.front.timing && underflows_for s.transmit.three s.front.setup.tx_sync;
  slip = tell_shift (shifting_in s.front.timing s.shift) (loads_at s.front.timing);
}
