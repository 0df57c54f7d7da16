-- The front: all of the adapter that never looks at a queue. Assumes nothing.
use Rattle.std.specs.Prelude.{ℕ, ◌+◌, Bool, true, false, cond, not, ◌&&◌, ◌||◌, None, Ok, Err, Option, Result, ◌==◌, nat_le}
use Rattle.std.specs.Bool.{beq}
use Rattle.serial.specs.declared.event.Cycle.TheVariants.{Idle, Read, Write}
use Rattle.serial.specs.declared.event.Event.{Event}
use Rattle.serial.specs.declared.event.Event.TheVariants.{Bus, ReceivedBit, TransmitClock, PinLevel}
use Rattle.serial.specs.declared.event.Refusal.{Refusal}
use Rattle.serial.specs.declared.event.Refusal.TheVariants.{FramedFull, WrittenFull}
use Rattle.serial.specs.Events.{ranged}
use Rattle.serial.specs.Words.{total_bits}
use Rattle.ssda.specs.declared.control.Control.{Control}
use Rattle.ssda.specs.declared.control.Setup.{Setup}
use Rattle.ssda.specs.declared.control.Target.{Target}
use Rattle.ssda.specs.declared.control.Target.TheVariants.{C2, C3, SyncCode, TransmitData}
use Rattle.ssda.specs.declared.front.Front.{Front}
use Rattle.ssda.specs.declared.front.Pins.{Pins}
use Rattle.ssda.specs.declared.receiver.Character.{Character}
use Rattle.ssda.specs.declared.receiver.Receiver.{Receiver}
use Rattle.ssda.specs.declared.transmitter.Timing.{Timing}
use Rattle.ssda.specs.declared.transmitter.Timing.TheVariants.{Held}
use Rattle.ssda.specs.Control.{new_control, control_from, control_under_reset, new_setup, from_c2, from_c3, setup_under_reset}
use Rattle.ssda.specs.Receiver.{new_receiver, heard, framed_by, settled}
use Rattle.ssda.specs.Transmitter.{ticked, timing_after}

abbrev pub front_of : Control → Setup → ℕ → Pins → Receiver → ℕ → Timing → Front
front_of c s k p r w t = record { control = c; setup = s; code = k; pins = p; receiver = r; written = w; timing = t }

abbrev pub pins_of : Bool → Bool → Bool → Pins
pins_of reset cts dcd = record { reset = reset; cts = cts; dcd = dcd }

-- RESET high, CTS and DCD low, both resets set, all else 0
abbrev pub new_front : Front
new_front = front_of new_control new_setup 0 (pins_of true false false) new_receiver 0 Held

abbrev pub with_control : Front → Control → Front
with_control f c = front_of c f.setup f.code f.pins f.receiver f.written f.timing

abbrev pub with_setup : Front → Setup → Front
with_setup f s = front_of f.control s f.code f.pins f.receiver f.written f.timing

abbrev pub with_pins : Front → Pins → Front
with_pins f p = front_of f.control f.setup f.code p f.receiver f.written f.timing

abbrev pub with_receiver : Front → Receiver → Front
with_receiver f r = front_of f.control f.setup f.code f.pins r f.written f.timing

abbrev pub with_timing : Front → Timing → Front
with_timing f t = front_of f.control f.setup f.code f.pins f.receiver f.written t

-- the receiver is off while Rx Rs is set, DCD is high or Clear Sync is set
abbrev pub off_of : Front → Bool
off_of f = f.control.rx_reset || f.pins.dcd || f.control.clear_sync

-- the transmitter is held while Tx Rs is set or CTS is high
abbrev pub held_of : Front → Bool
held_of f = f.control.tx_reset || f.pins.cts

-- what follows for receiver and transmitter where the settings of f became those of g. External changes by a C3 write, which restarts
-- a receiver that is on, and by RESET falling, after which the receiver is off.
abbrev pub settled_front : Front → Front → Front
settled_front f g =
    with_timing
    (with_receiver g (settled g.receiver (off_of f) (off_of g) (not (beq g.setup.external f.setup.external)) g.setup.external))
    (timing_after g.timing (held_of f) (held_of g))

abbrev pub wrote_c1 : Front → ℕ → Front
wrote_c1 f b = settled_front f (with_control f (control_from f.pins.reset b))

abbrev pub wrote_c2 : Front → ℕ → Front
wrote_c2 f b = with_setup f (from_c2 f.setup f.pins.reset b)

abbrev pub wrote_c3 : Front → ℕ → Front
wrote_c3 f b = settled_front f (with_setup f (from_c3 f.setup f.pins.reset b))

abbrev pub wrote_code : Front → ℕ → Front
wrote_code f b = front_of f.control f.setup b f.pins f.receiver f.written f.timing

-- a write to transmit data
abbrev pub counted_write : Front → Front
counted_write f = front_of f.control f.setup f.code f.pins f.receiver (f.written + 1) f.timing

-- a received bit; off, the receiver ignores it
abbrev pub heard_front : Front → ℕ → Front
heard_front f b = cond (off_of f) f (with_receiver f (heard f.receiver b f.setup.form f.code f.setup.one_sync))

-- the character that it frames
abbrev pub framed_front : Front → ℕ → Option Character
framed_front f b = cond (off_of f) None (framed_by f.receiver b f.setup.form f.code f.setup.one_sync)

-- a transmit clock; a word that it loads has the form of this moment
abbrev pub ticked_front : Front → Front
ticked_front f = with_timing f (ticked f.timing (total_bits f.setup.form))

-- the pins
abbrev pub with_cts : Front → Bool → Front
with_cts f high = settled_front f (with_pins f (pins_of f.pins.reset high f.pins.dcd))

abbrev pub with_dcd : Front → Bool → Front
with_dcd f high = settled_front f (with_pins f (pins_of f.pins.reset f.pins.cts high))

abbrev pub reset_fell : Front → Front
reset_fell f = settled_front f (with_pins (with_setup (with_control f (control_under_reset f.control)) (setup_under_reset f.setup)) (pins_of false f.pins.cts f.pins.dcd))

abbrev pub reset_rose : Front → Front
reset_rose f = with_pins f (pins_of true f.pins.cts f.pins.dcd)

-- whether a character that the last bit framed is stripped
abbrev pub strips_of : Front → Bool
strips_of f = f.control.strip_sync && f.receiver.matched

-- WHAT IS DECLINED

-- a received bit, when 16,000,000 characters are framed
abbrev pub framed_room : Front → Result (Unit {0}) Refusal
framed_room f = cond (nat_le 16000000 f.receiver.framed) (Err FramedFull) (Ok tt)

-- a write with RS 1 that goes to transmit data, when 16,000,000 bytes are written
abbrev pub room_for : Target → ℕ → Result (Unit {0}) Refusal
room_for C2 n = Ok tt
room_for C3 n = Ok tt
room_for SyncCode n = Ok tt
room_for TransmitData n = cond (nat_le 16000000 n) (Err WrittenFull) (Ok tt)

abbrev pub written_room : Front → Result (Unit {0}) Refusal
written_room f = room_for f.control.target f.written

abbrev pub room_at : Front → Event → Result (Unit {0}) Refusal
room_at f (Bus Idle) = Ok tt
room_at f (Bus (Read rs)) = Ok tt
room_at f (Bus (Write rs b)) = cond (rs == 1) (written_room f) (Ok tt)
room_at f (ReceivedBit b) = framed_room f
room_at f TransmitClock = Ok tt
room_at f (PinLevel p l) = Ok tt

abbrev pub first_of : Result (Unit {0}) Refusal → Result (Unit {0}) Refusal → Result (Unit {0}) Refusal
first_of (Ok x) r = r
first_of (Err e) r = Err e

-- the range of the fields comes first
abbrev pub checked_by : Front → Event → Result (Unit {0}) Refusal
checked_by f e = first_of (ranged e) (room_at f e)
