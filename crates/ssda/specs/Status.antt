-- What the adapter remembers for its Status, the Status byte, the interrupt and the SM/DTR pin. Assumes nothing.
use Rattle.std.specs.Prelude.{ℕ, ◌+◌, Bool, true, false, cond, not, ◌&&◌, ◌||◌}
use Rattle.ssda.specs.Control.{bit_of}
use Rattle.ssda.specs.declared.control.Control.{Control}
use Rattle.ssda.specs.declared.control.Setup.{Setup}
use Rattle.ssda.specs.declared.status.Conditions.{Conditions}
use Rattle.ssda.specs.declared.status.Flags.{Flags}
use Rattle.ssda.specs.declared.status.Stored.{Stored}

abbrev pub stored : Bool → Bool → Stored
stored set armed = record { set = set; armed = armed }

-- nothing is stored
abbrev pub nothing : Stored
nothing = stored false false

-- it happens: it is stored, and its arm is dropped
abbrev pub happened : Stored
happened = stored true false

-- a Status read arms what is stored
abbrev pub status_read : Stored → Stored
status_read s = stored s.set (s.armed || s.set)

-- a data read clears what is armed and drops the arm
abbrev pub data_read : Stored → Stored
data_read s = stored (s.set && not s.armed) false

-- overrun, DCD, CTS, underflow
abbrev pub flags_of : Stored → Stored → Bool → Bool → Flags
flags_of o d c u = record { overrun = o; dcd = d; cts = c; underflow = u }

abbrev pub new_flags : Flags
new_flags = flags_of nothing nothing false false

-- a loss sets overrun and drops its arm
abbrev pub after_loss : Flags → Flags
after_loss f = flags_of happened f.dcd f.cts f.underflow

-- a Status read arms overrun if it shows it, and DCD if that is stored
abbrev pub after_status_read : Flags → Flags
after_status_read f = flags_of (status_read f.overrun) (status_read f.dcd) f.cts f.underflow

-- a data read clears what is armed and drops both arms
abbrev pub after_data_read : Flags → Flags
after_data_read f = flags_of (data_read f.overrun) (data_read f.dcd) f.cts f.underflow

abbrev pub after_dcd_rise : Flags → Flags
after_dcd_rise f = flags_of f.overrun happened f.cts f.underflow

abbrev pub after_cts_rise : Flags → Flags
after_cts_rise f = flags_of f.overrun f.dcd true f.underflow

abbrev pub after_underflow : Flags → Flags
after_underflow f = flags_of f.overrun f.dcd f.cts true

-- CTUF, bit 3 of C3, clears the underflow; Clear CTS, bit 2, the stored CTS
abbrev pub after_c3 : Flags → ℕ → Flags
after_c3 f b = flags_of f.overrun f.dcd (f.cts && not (bit_of 2 b)) (f.underflow && not (bit_of 3 b))

abbrev pub after_receiver_reset : Flags → Flags
after_receiver_reset f = flags_of nothing nothing f.cts f.underflow

abbrev pub after_transmitter_reset : Flags → Flags
after_transmitter_reset f = flags_of f.overrun f.dcd false false

-- the interrupt: RIE with receiver data, TIE with room for transmit data, EIE with underflow, overrun, a parity mark, stored CTS or DCD
abbrev pub asks : Control → Setup → Flags → Conditions → Bool
asks c s f x =
    c.rie && x.rda || c.tie && x.tdra
    || s.eie && (f.underflow || f.overrun.set || x.parity || f.cts || f.dcd.set)

-- the Status byte
abbrev pub status_byte : Flags → Conditions → Bool → ℕ
status_byte f x interrupt =
    cond x.rda 1 0 + cond x.tdra 2 0 + cond (f.dcd.set || x.dcd_high) 4 0 + cond (f.cts || x.cts_high) 8 0
    + cond f.underflow 16 0 + cond f.overrun.set 32 0 + cond x.parity 64 0 + cond interrupt 128 0

-- the SM/DTR pin, for PC2 PC1: 00 high, 01 the sync match, 10 and 11 low
abbrev pub pin_for : Bool → Bool → Bool → Bool
pin_for false false matched = true
pin_for false true matched = matched
pin_for true pc1 matched = false

abbrev pub sm_dtr : Setup → Bool → Bool
sm_dtr s matched = pin_for s.pc2 s.pc1 matched
