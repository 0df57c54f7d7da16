-- Further examples, worked out by hand: what is done to a new adapter, and what must come. Assumes nothing.
-- Bits on the line are written as a binary number, the first one first. A write with RS 0 goes to C1, one with RS 1 where AC2 AC1 lead.
use Rattle.std.specs.Prelude.{List, [], ◌∷◌, Some, None, true, false}
use Rattle.serial.specs.declared.event.Refusal.TheVariants.{NotABit, NoSuchPin}
use Rattle.serial.specs.declared.queue.Place.TheVariants.{One, Two, Three}
use Rattle.serial.specs.declared.slip.ReceiveCode.TheVariants as rx
use Rattle.serial.specs.declared.slip.QueueCode.TheVariants as qu
use Rattle.serial.specs.declared.slip.ShiftCode.TheVariants as sh
use Rattle.bench.specs.declared.script.Act.TheVariants.{Idle, Read, Write, Bit, Character, Clocks, Pin}
use Rattle.bench.specs.declared.script.Field.TheVariants.{First, Second, Third}
use Rattle.bench.specs.declared.script.Line.{Line}
use Rattle.bench.specs.declared.script.Line.TheVariants.{Do, Comes}
use Rattle.bench.specs.declared.script.Reading.TheVariants as reading

-- after an overrun the first two characters and the last one are delivered
abbrev pub overrun_keeps_arriving : List Line
overrun_keeps_arriving = Do (Write 0 0x43) ∷ Do (Write 1 0x01) ∷ Do (Write 0 0x03) ∷ Do (Write 1 0x1c) ∷ Do (Write 0 0x00) ∷ Do (Character 0x11) ∷ Do Idle ∷ Do (Character 0x22) ∷ Do Idle ∷ Do (Character 0x33) ∷ Do (Character 0x44) ∷ Do (Read 1) ∷ Comes (reading.Byte 0x11) ∷ Do Idle ∷ Do (Read 1) ∷ Comes (reading.Byte 0x22) ∷ Do Idle ∷ Do (Read 1) ∷ Comes (reading.Byte 0x44) ∷ Comes (reading.Receive rx.Delivered) ∷ Comes (reading.Received First 4) ∷ []

-- overrun comes with place 1 full even while places 2 and 3 are empty
abbrev pub overrun_with_empty_places : List Line
overrun_with_empty_places = Do (Write 0 0x43) ∷ Do (Write 1 0x01) ∷ Do (Write 0 0x03) ∷ Do (Write 1 0x1c) ∷ Do (Write 0 0x00) ∷ Do (Character 0x01) ∷ Do (Character 0x02) ∷ Comes (reading.Receive rx.Lost) ∷ Comes (reading.Received First 1) ∷ Comes (reading.Received Second 0) ∷ Comes (reading.Waiting One (Some 2)) ∷ Comes (reading.Waiting Three None) ∷ Do (Read 0) ∷ Comes (reading.Byte 0x22) ∷ Do (Read 1) ∷ Comes (reading.Byte 0x00) ∷ Comes (reading.Receive rx.Nothing) ∷ Do (Read 0) ∷ Comes (reading.Byte 0x02) ∷ []

-- a second data read without an idle cycle repeats the last byte
abbrev pub second_read_repeats : List Line
second_read_repeats = Do (Write 0 0x43) ∷ Do (Write 1 0x01) ∷ Do (Write 0 0x03) ∷ Do (Write 1 0x1c) ∷ Do (Write 0 0x00) ∷ Do (Character 0xa5) ∷ Do Idle ∷ Do (Character 0x5a) ∷ Do Idle ∷ Do (Read 1) ∷ Comes (reading.Byte 0xa5) ∷ Comes (reading.Receive rx.Delivered) ∷ Comes (reading.Received First 1) ∷ Do (Read 1) ∷ Comes (reading.Byte 0xa5) ∷ Comes (reading.Receive rx.Nothing) ∷ Comes (reading.Waiting Two (Some 2)) ∷ Do Idle ∷ Do (Read 1) ∷ Comes (reading.Byte 0x5a) ∷ Comes (reading.Received First 2) ∷ []

-- a data read without a Status read before it clears no overrun
abbrev pub unarmed_overrun_stays : List Line
unarmed_overrun_stays = Do (Write 0 0x43) ∷ Do (Write 1 0x01) ∷ Do (Write 0 0x03) ∷ Do (Write 1 0x1c) ∷ Do (Write 0 0x00) ∷ Do (Character 0x01) ∷ Do (Character 0x02) ∷ Do Idle ∷ Do (Read 1) ∷ Comes (reading.Byte 0x02) ∷ Comes (reading.Received First 2) ∷ Do (Read 0) ∷ Comes (reading.Byte 0x22) ∷ Do (Read 1) ∷ Comes (reading.Byte 0x02) ∷ Comes (reading.Receive rx.Nothing) ∷ Do (Read 0) ∷ Comes (reading.Byte 0x02) ∷ []

-- while RESET is low EIE stays 0, whatever is written
abbrev pub reset_low_holds_error_enable : List Line
reset_low_holds_error_enable = Do (Pin 0 0) ∷ Do (Write 1 0x80) ∷ Do (Pin 1 1) ∷ Comes (reading.Interrupt false) ∷ Do (Read 0) ∷ Comes (reading.Byte 0x08) ∷ Do (Pin 0 1) ∷ Comes (reading.Interrupt false) ∷ Do (Write 1 0x80) ∷ Comes (reading.Interrupt true) ∷ Do (Read 0) ∷ Comes (reading.Byte 0x88) ∷ []

-- while RESET is low PC1 and PC2 stay 0, so SM/DTR is high
abbrev pub reset_low_holds_pin_control : List Line
reset_low_holds_pin_control = Do (Write 1 0x03) ∷ Comes (reading.SmDtr false) ∷ Do (Pin 0 0) ∷ Comes (reading.SmDtr true) ∷ Do (Write 1 0x03) ∷ Comes (reading.SmDtr true) ∷ Do (Write 1 0x01) ∷ Comes (reading.SmDtr true) ∷ Do (Pin 0 1) ∷ Comes (reading.SmDtr true) ∷ Do (Write 1 0x01) ∷ Comes (reading.SmDtr false) ∷ []

-- while RESET is low external stays 0
abbrev pub reset_low_holds_external : List Line
reset_low_holds_external = Do (Pin 0 0) ∷ Do (Write 1 0x1c) ∷ Do (Write 0 0x40) ∷ Do (Write 1 0x01) ∷ Do (Pin 0 1) ∷ Do (Write 0 0x40) ∷ Do (Character 0xff) ∷ Comes (reading.Waiting One None) ∷ Do (Write 1 0x01) ∷ Do (Character 0xff) ∷ Comes (reading.Waiting One (Some 1)) ∷ []

-- while RESET is low the sync code, Tx Sync and the form are written as ever
abbrev pub reset_low_writes_the_rest : List Line
reset_low_writes_the_rest = Do (Pin 0 0) ∷ Do (Write 0 0x80) ∷ Do (Write 1 0x16) ∷ Do (Write 0 0x00) ∷ Do (Write 1 0x5c) ∷ Do (Pin 0 1) ∷ Do (Write 0 0x00) ∷ Do (Clocks 9) ∷ Comes (reading.Line 0b101101000) ∷ Comes (reading.Underflow true) ∷ Comes (reading.Shift sh.Nothing) ∷ Do (Read 0) ∷ Comes (reading.Byte 0x12) ∷ []

-- while RESET is low a 0 written to Tx Rs empties nothing and a 1 empties
abbrev pub reset_low_ignores_zero_for_transmitter : List Line
reset_low_ignores_zero_for_transmitter = Do (Pin 0 0) ∷ Do (Write 0 0xc0) ∷ Do (Write 1 0x55) ∷ Comes (reading.Queue qu.Nothing) ∷ Do (Write 0 0xc0) ∷ Comes (reading.Queue qu.Nothing) ∷ Comes (reading.Queued First 0) ∷ Do (Write 0 0xc2) ∷ Comes (reading.Queue qu.Cleared) ∷ Comes (reading.Queued First 1) ∷ Comes (reading.Receive rx.Nothing) ∷ Do (Write 0 0xc2) ∷ Comes (reading.Queue qu.Nothing) ∷ Comes (reading.Queued First 0) ∷ []

-- RESET falling tells received, queued and shifted numbers together
abbrev pub reset_falling_tells_all : List Line
reset_falling_tells_all = Do (Write 0 0x43) ∷ Do (Write 1 0x01) ∷ Do (Write 0 0x03) ∷ Do (Write 1 0x1c) ∷ Do (Write 0 0xc0) ∷ Do (Write 1 0x01) ∷ Do Idle ∷ Do (Write 1 0x02) ∷ Do (Clocks 1) ∷ Do (Character 0x41) ∷ Do Idle ∷ Do (Character 0x42) ∷ Do (Write 1 0x03) ∷ Do (Pin 0 0) ∷ Comes (reading.Receive rx.Cleared) ∷ Comes (reading.Received First 1) ∷ Comes (reading.Received Second 2) ∷ Comes (reading.Queue qu.Cleared) ∷ Comes (reading.Queued First 2) ∷ Comes (reading.Queued Second 3) ∷ Comes (reading.Shift sh.Cut) ∷ Comes (reading.Shifted 1) ∷ []

-- one write resets the receiver and the transmitter
abbrev pub both_resets_in_one_write : List Line
both_resets_in_one_write = Do (Write 0 0x43) ∷ Do (Write 1 0x01) ∷ Do (Write 0 0x03) ∷ Do (Write 1 0x1c) ∷ Do (Write 0 0xc0) ∷ Do (Character 0x41) ∷ Do (Write 1 0x55) ∷ Do Idle ∷ Do (Write 1 0x56) ∷ Do (Clocks 2) ∷ Do (Write 0 0xc3) ∷ Comes (reading.Receive rx.Cleared) ∷ Comes (reading.Received First 1) ∷ Comes (reading.Received Second 0) ∷ Comes (reading.Queue qu.Cleared) ∷ Comes (reading.Queued First 2) ∷ Comes (reading.Queued Second 0) ∷ Comes (reading.Shift sh.Cut) ∷ Comes (reading.Shifted 1) ∷ Do (Read 0) ∷ Comes (reading.Byte 0x00) ∷ []

-- a transmitter reset clears three waiting bytes, oldest first
abbrev pub transmitter_reset_tells_three : List Line
transmitter_reset_tells_three = Do (Write 0 0x43) ∷ Do (Write 1 0x01) ∷ Do (Write 0 0x03) ∷ Do (Write 1 0x1c) ∷ Do (Write 0 0xc0) ∷ Do (Write 1 0xa1) ∷ Do Idle ∷ Do (Write 1 0xa2) ∷ Do Idle ∷ Do (Write 1 0xa3) ∷ Do (Write 0 0xc2) ∷ Comes (reading.Queue qu.Cleared) ∷ Comes (reading.Queued First 1) ∷ Comes (reading.Queued Second 2) ∷ Comes (reading.Queued Third 3) ∷ Comes (reading.Shift sh.Nothing) ∷ Comes (reading.Receive rx.Nothing) ∷ Do (Read 0) ∷ Comes (reading.Byte 0x00) ∷ []

-- writing a reset bit as 1 resets also when it was set already
abbrev pub reset_again_still_clears : List Line
reset_again_still_clears = Do (Write 0 0xc3) ∷ Do (Write 1 0x55) ∷ Comes (reading.Queue qu.Nothing) ∷ Do (Write 0 0xc3) ∷ Comes (reading.Queue qu.Cleared) ∷ Comes (reading.Queued First 1) ∷ Do (Pin 2 1) ∷ Do (Pin 2 0) ∷ Do (Read 0) ∷ Comes (reading.Byte 0x04) ∷ Do (Write 0 0xc3) ∷ Comes (reading.Queue qu.Nothing) ∷ Do (Read 0) ∷ Comes (reading.Byte 0x00) ∷ []

-- the last byte taken outlives a receiver reset and RESET
abbrev pub last_byte_outlives_resets : List Line
last_byte_outlives_resets = Do (Write 0 0x43) ∷ Do (Write 1 0x01) ∷ Do (Write 0 0x03) ∷ Do (Write 1 0x1c) ∷ Do (Write 0 0x00) ∷ Do (Character 0xa7) ∷ Do Idle ∷ Do (Read 1) ∷ Comes (reading.Byte 0xa7) ∷ Do (Character 0xb8) ∷ Do Idle ∷ Do (Write 0 0x03) ∷ Comes (reading.Receive rx.Cleared) ∷ Comes (reading.Received First 2) ∷ Do (Read 1) ∷ Comes (reading.Byte 0xa7) ∷ Comes (reading.Receive rx.Nothing) ∷ Do (Pin 0 0) ∷ Do (Read 1) ∷ Comes (reading.Byte 0xa7) ∷ []

-- in two-byte mode RDA needs places 2 and 3 full
abbrev pub two_byte_receive : List Line
two_byte_receive = Do (Write 0 0x43) ∷ Do (Write 1 0x01) ∷ Do (Write 0 0x03) ∷ Do (Write 1 0x18) ∷ Do (Write 0 0x00) ∷ Do (Character 0x11) ∷ Do Idle ∷ Do (Read 0) ∷ Comes (reading.Byte 0x02) ∷ Do (Character 0x22) ∷ Do (Read 0) ∷ Comes (reading.Byte 0x02) ∷ Do Idle ∷ Do (Read 0) ∷ Comes (reading.Byte 0x03) ∷ Do (Read 1) ∷ Comes (reading.Byte 0x11) ∷ Do (Read 0) ∷ Comes (reading.Byte 0x02) ∷ Do Idle ∷ Do (Read 0) ∷ Comes (reading.Byte 0x02) ∷ []

-- in two-byte mode TDRA needs places 1 and 2 empty
abbrev pub two_byte_transmit : List Line
two_byte_transmit = Do (Write 0 0x43) ∷ Do (Write 1 0x01) ∷ Do (Write 0 0x03) ∷ Do (Write 1 0x18) ∷ Do (Write 0 0xc0) ∷ Do (Read 0) ∷ Comes (reading.Byte 0x02) ∷ Do (Write 1 0xa1) ∷ Do (Read 0) ∷ Comes (reading.Byte 0x00) ∷ Do Idle ∷ Do (Read 0) ∷ Comes (reading.Byte 0x02) ∷ Do (Write 1 0xa2) ∷ Do Idle ∷ Do (Read 0) ∷ Comes (reading.Byte 0x00) ∷ Do (Clocks 1) ∷ Do Idle ∷ Do (Read 0) ∷ Comes (reading.Byte 0x02) ∷ []

-- a stripped character gets a number and is no loss
abbrev pub stripped_without_parity : List Line
stripped_without_parity = Do (Write 0 0x43) ∷ Do (Write 1 0x01) ∷ Do (Write 0 0x83) ∷ Do (Write 1 0x16) ∷ Do (Write 0 0x03) ∷ Do (Write 1 0x1c) ∷ Do (Write 0 0x04) ∷ Do (Character 0x16) ∷ Comes (reading.Receive rx.Stripped) ∷ Comes (reading.Received First 1) ∷ Do (Character 0x17) ∷ Comes (reading.Receive rx.Nothing) ∷ Do (Character 0x16) ∷ Comes (reading.Receive rx.Stripped) ∷ Comes (reading.Received First 3) ∷ Comes (reading.Waiting One (Some 2)) ∷ Do (Read 0) ∷ Comes (reading.Byte 0x02) ∷ Do Idle ∷ Do (Read 1) ∷ Comes (reading.Byte 0x17) ∷ Comes (reading.Received First 2) ∷ []

-- with nine bits the parity bit does not matter for stripping
abbrev pub stripped_with_nine_bits : List Line
stripped_with_nine_bits = Do (Write 0 0x43) ∷ Do (Write 1 0x01) ∷ Do (Write 0 0x83) ∷ Do (Write 1 0x16) ∷ Do (Write 0 0x03) ∷ Do (Write 1 0x34) ∷ Do (Write 0 0x04) ∷ Do (Character 0x16) ∷ Do (Bit 0) ∷ Comes (reading.Receive rx.Stripped) ∷ Comes (reading.Received First 1) ∷ Do (Character 0x16) ∷ Do (Bit 1) ∷ Comes (reading.Receive rx.Stripped) ∷ Comes (reading.Received First 2) ∷ Do (Character 0x17) ∷ Do (Bit 0) ∷ Do Idle ∷ Do (Read 1) ∷ Comes (reading.Byte 0x17) ∷ Comes (reading.Receive rx.Delivered) ∷ Comes (reading.Received First 3) ∷ []

-- six bits with right odd parity are delivered without mark
abbrev pub parity_right_six_odd : List Line
parity_right_six_odd = Do (Write 0 0x43) ∷ Do (Write 1 0x01) ∷ Do (Write 0 0x03) ∷ Do (Write 1 0x0c) ∷ Do (Write 0 0x00) ∷ Do (Bit 0) ∷ Do (Bit 1) ∷ Do (Bit 0) ∷ Do (Bit 1) ∷ Do (Bit 0) ∷ Do (Bit 1) ∷ Do (Bit 0) ∷ Do Idle ∷ Do (Read 0) ∷ Comes (reading.Byte 0x03) ∷ Do (Read 1) ∷ Comes (reading.Byte 0x2a) ∷ Comes (reading.Receive rx.Delivered) ∷ Comes (reading.Received First 1) ∷ []

-- six bits with wrong even parity are delivered with the mark
abbrev pub parity_wrong_six_even : List Line
parity_wrong_six_even = Do (Write 0 0x43) ∷ Do (Write 1 0x01) ∷ Do (Write 0 0x03) ∷ Do (Write 1 0x04) ∷ Do (Write 0 0x00) ∷ Do (Bit 1) ∷ Do (Bit 1) ∷ Do (Bit 1) ∷ Do (Bit 1) ∷ Do (Bit 1) ∷ Do (Bit 1) ∷ Do (Bit 1) ∷ Do Idle ∷ Do (Read 0) ∷ Comes (reading.Byte 0x43) ∷ Do (Read 1) ∷ Comes (reading.Byte 0x3f) ∷ Comes (reading.Receive rx.DeliveredMarked) ∷ Comes (reading.Received First 1) ∷ Do (Read 0) ∷ Comes (reading.Byte 0x02) ∷ []

-- Status bit 6 shows the mark of the character in place 3 only
abbrev pub parity_mark_only_of_place_three : List Line
parity_mark_only_of_place_three = Do (Write 0 0x43) ∷ Do (Write 1 0x01) ∷ Do (Write 0 0x03) ∷ Do (Write 1 0x24) ∷ Do (Write 0 0x00) ∷ Do (Character 0x41) ∷ Do Idle ∷ Do (Character 0xc1) ∷ Do Idle ∷ Do (Read 0) ∷ Comes (reading.Byte 0x03) ∷ Do (Read 1) ∷ Comes (reading.Receive rx.Delivered) ∷ Do (Read 0) ∷ Comes (reading.Byte 0x02) ∷ Do Idle ∷ Do (Read 0) ∷ Comes (reading.Byte 0x43) ∷ Do (Read 1) ∷ Comes (reading.Receive rx.DeliveredMarked) ∷ Comes (reading.Received First 2) ∷ []

-- a longer form written in the middle of a character ends it later
abbrev pub form_longer_in_the_middle : List Line
form_longer_in_the_middle = Do (Write 0 0x43) ∷ Do (Write 1 0x01) ∷ Do (Write 0 0x03) ∷ Do (Write 1 0x14) ∷ Do (Write 0 0x00) ∷ Do (Bit 1) ∷ Do (Bit 0) ∷ Do (Bit 1) ∷ Do (Write 1 0x1c) ∷ Do (Bit 0) ∷ Do (Bit 0) ∷ Do (Bit 0) ∷ Do (Bit 1) ∷ Comes (reading.Waiting One None) ∷ Do (Bit 1) ∷ Comes (reading.Waiting One (Some 1)) ∷ Do Idle ∷ Do (Read 1) ∷ Comes (reading.Byte 0xc5) ∷ Comes (reading.Received First 1) ∷ []

-- a shorter form written in the middle of a character ends it at the next bit
abbrev pub form_shorter_in_the_middle : List Line
form_shorter_in_the_middle = Do (Write 0 0x43) ∷ Do (Write 1 0x01) ∷ Do (Write 0 0x03) ∷ Do (Write 1 0x30) ∷ Do (Write 0 0x00) ∷ Do (Character 0xff) ∷ Comes (reading.Waiting One None) ∷ Do (Write 1 0x10) ∷ Comes (reading.Waiting One None) ∷ Do (Bit 0) ∷ Comes (reading.Waiting One (Some 1)) ∷ Do Idle ∷ Do (Read 1) ∷ Comes (reading.Byte 0x3f) ∷ Comes (reading.Receive rx.Delivered) ∷ Comes (reading.Received First 1) ∷ []

-- changing external while the receiver is on restarts it
abbrev pub external_changed_restarts : List Line
external_changed_restarts = Do (Write 0 0x43) ∷ Do (Write 1 0x01) ∷ Do (Write 0 0x03) ∷ Do (Write 1 0x1c) ∷ Do (Write 0 0x00) ∷ Do (Write 0 0x40) ∷ Do (Bit 1) ∷ Do (Bit 1) ∷ Do (Bit 1) ∷ Do (Write 1 0x00) ∷ Do (Character 0xff) ∷ Comes (reading.Waiting One None) ∷ Do (Write 1 0x01) ∷ Do (Character 0x5a) ∷ Comes (reading.Waiting One (Some 1)) ∷ Do Idle ∷ Do (Read 1) ∷ Comes (reading.Byte 0x5a) ∷ Comes (reading.Received First 1) ∷ []

-- rewriting the same external does not restart the receiver
abbrev pub external_same_goes_on : List Line
external_same_goes_on = Do (Write 0 0x43) ∷ Do (Write 1 0x01) ∷ Do (Write 0 0x03) ∷ Do (Write 1 0x1c) ∷ Do (Write 0 0x00) ∷ Do (Write 0 0x40) ∷ Do (Bit 1) ∷ Do (Bit 1) ∷ Do (Bit 1) ∷ Do (Write 1 0x01) ∷ Do (Bit 0) ∷ Do (Bit 0) ∷ Do (Bit 0) ∷ Do (Bit 0) ∷ Do (Bit 0) ∷ Comes (reading.Waiting One (Some 1)) ∷ Do Idle ∷ Do (Read 1) ∷ Comes (reading.Byte 0x07) ∷ Comes (reading.Received First 1) ∷ []

-- while Clear Sync is set bits are ignored, and its end restarts the receiver
abbrev pub clear_sync_ignores_bits : List Line
clear_sync_ignores_bits = Do (Write 0 0x43) ∷ Do (Write 1 0x01) ∷ Do (Write 0 0x03) ∷ Do (Write 1 0x1c) ∷ Do (Write 0 0x00) ∷ Do (Bit 1) ∷ Do (Bit 1) ∷ Do (Bit 1) ∷ Do (Write 0 0x08) ∷ Do (Character 0xff) ∷ Comes (reading.Waiting One None) ∷ Do (Write 0 0x00) ∷ Do (Character 0xa5) ∷ Comes (reading.Waiting One (Some 1)) ∷ Do Idle ∷ Do (Read 1) ∷ Comes (reading.Byte 0xa5) ∷ []

-- a Status read and a data read clear the stored DCD, but the high level still shows
abbrev pub dcd_stored_and_level : List Line
dcd_stored_and_level = Do (Write 0 0x43) ∷ Do (Write 1 0x01) ∷ Do (Write 0 0x03) ∷ Do (Write 1 0x1c) ∷ Do (Write 0 0x00) ∷ Do (Pin 2 1) ∷ Do (Read 0) ∷ Comes (reading.Byte 0x06) ∷ Do (Read 1) ∷ Comes (reading.Byte 0x00) ∷ Do (Read 0) ∷ Comes (reading.Byte 0x06) ∷ Do (Pin 2 0) ∷ Do (Read 0) ∷ Comes (reading.Byte 0x02) ∷ []

-- DCD rising again drops the arm
abbrev pub dcd_rising_drops_arm : List Line
dcd_rising_drops_arm = Do (Write 0 0x43) ∷ Do (Write 1 0x01) ∷ Do (Write 0 0x03) ∷ Do (Write 1 0x1c) ∷ Do (Write 0 0x00) ∷ Do (Pin 2 1) ∷ Do (Read 0) ∷ Comes (reading.Byte 0x06) ∷ Do (Pin 2 0) ∷ Do (Pin 2 1) ∷ Do (Read 1) ∷ Do (Pin 2 0) ∷ Do (Read 0) ∷ Comes (reading.Byte 0x06) ∷ Do (Read 1) ∷ Do (Read 0) ∷ Comes (reading.Byte 0x02) ∷ []

-- while DCD is high bits are ignored, and its fall restarts the receiver
abbrev pub dcd_high_ignores_bits : List Line
dcd_high_ignores_bits = Do (Write 0 0x43) ∷ Do (Write 1 0x01) ∷ Do (Write 0 0x03) ∷ Do (Write 1 0x1c) ∷ Do (Write 0 0x00) ∷ Do (Bit 1) ∷ Do (Bit 1) ∷ Do (Bit 1) ∷ Do (Pin 2 1) ∷ Do (Character 0xff) ∷ Comes (reading.Waiting One None) ∷ Do (Pin 2 0) ∷ Do (Character 0x3c) ∷ Comes (reading.Waiting One (Some 1)) ∷ Do Idle ∷ Do (Read 1) ∷ Comes (reading.Byte 0x3c) ∷ Comes (reading.Received First 1) ∷ Do (Read 0) ∷ Comes (reading.Byte 0x06) ∷ []

-- a sync fill pulses underflow and sets TUF, and CTUF clears it
abbrev pub underflow_and_clear : List Line
underflow_and_clear = Do (Write 0 0x43) ∷ Do (Write 1 0x01) ∷ Do (Write 0 0x03) ∷ Do (Write 1 0x1c) ∷ Do (Write 0 0x00) ∷ Do (Write 1 0x5c) ∷ Do (Clocks 1) ∷ Comes (reading.Byte 1) ∷ Comes (reading.Underflow true) ∷ Do (Read 0) ∷ Comes (reading.Byte 0x12) ∷ Do (Write 0 0x40) ∷ Do (Write 1 0x09) ∷ Do (Read 0) ∷ Comes (reading.Byte 0x02) ∷ Do (Clocks 7) ∷ Comes (reading.Line 0) ∷ Comes (reading.Underflow false) ∷ Do (Clocks 1) ∷ Comes (reading.Underflow true) ∷ Do (Read 0) ∷ Comes (reading.Byte 0x12) ∷ []

-- with seven bits and parity the sync fill is the code alone
abbrev pub sync_fill_seven_even : List Line
sync_fill_seven_even = Do (Write 0 0x83) ∷ Do (Write 1 0x16) ∷ Do (Write 0 0x03) ∷ Do (Write 1 0x60) ∷ Do (Write 0 0x00) ∷ Do (Clocks 9) ∷ Comes (reading.Line 0b101101000) ∷ Comes (reading.Underflow true) ∷ Comes (reading.Shift sh.Nothing) ∷ []

-- a loaded word keeps its length when the form is changed
abbrev pub word_keeps_length : List Line
word_keeps_length = Do (Write 0 0x43) ∷ Do (Write 1 0x01) ∷ Do (Write 0 0x03) ∷ Do (Write 1 0x1c) ∷ Do (Write 0 0xc0) ∷ Do (Write 1 0xc5) ∷ Do Idle ∷ Do (Clocks 1) ∷ Do (Write 0 0x00) ∷ Do (Write 1 0x44) ∷ Do (Clocks 8) ∷ Comes (reading.Line 0b10100011) ∷ Comes (reading.Shift sh.LastBit) ∷ Comes (reading.Underflow true) ∷ Do (Clocks 6) ∷ Comes (reading.Underflow false) ∷ Do (Clocks 1) ∷ Comes (reading.Byte 0) ∷ Comes (reading.Underflow true) ∷ []

-- each bit of a sent byte has code 1, the last one code 2
abbrev pub sent_byte_codes : List Line
sent_byte_codes = Do (Write 0 0x43) ∷ Do (Write 1 0x01) ∷ Do (Write 0 0x03) ∷ Do (Write 1 0x1c) ∷ Do (Write 0 0xc0) ∷ Do (Write 1 0x41) ∷ Do Idle ∷ Do (Clocks 1) ∷ Comes (reading.Shift sh.Nothing) ∷ Comes (reading.Shifting (Some 1)) ∷ Do (Clocks 1) ∷ Comes (reading.Byte 1) ∷ Comes (reading.Shift sh.Bit) ∷ Comes (reading.Shifted 1) ∷ Do (Clocks 6) ∷ Comes (reading.Line 1) ∷ Comes (reading.Shift sh.Bit) ∷ Do (Clocks 1) ∷ Comes (reading.Shift sh.LastBit) ∷ Comes (reading.Shifted 1) ∷ Comes (reading.Shifting None) ∷ []

-- CTS rising cuts the byte that is being shifted, and held clocks show 1
abbrev pub cts_cuts_shifted_byte : List Line
cts_cuts_shifted_byte = Do (Write 0 0x43) ∷ Do (Write 1 0x01) ∷ Do (Write 0 0x03) ∷ Do (Write 1 0x1c) ∷ Do (Write 0 0xc0) ∷ Do (Write 1 0x5a) ∷ Do Idle ∷ Do (Clocks 4) ∷ Comes (reading.Line 0b1010) ∷ Do (Pin 1 1) ∷ Comes (reading.Shift sh.Cut) ∷ Comes (reading.Shifted 1) ∷ Comes (reading.Shifting None) ∷ Do (Clocks 2) ∷ Comes (reading.Line 0b11) ∷ Comes (reading.Shift sh.Nothing) ∷ Do (Pin 1 0) ∷ Do (Clocks 9) ∷ Comes (reading.Line 0b111111111) ∷ Comes (reading.Shift sh.Nothing) ∷ []

-- CTS rising leaves the queue alone, and after its fall the next byte is sent
abbrev pub cts_keeps_queue : List Line
cts_keeps_queue = Do (Write 0 0x43) ∷ Do (Write 1 0x01) ∷ Do (Write 0 0x03) ∷ Do (Write 1 0x1c) ∷ Do (Write 0 0xc0) ∷ Do (Write 1 0xa1) ∷ Do Idle ∷ Do (Write 1 0xb2) ∷ Do Idle ∷ Do (Clocks 1) ∷ Do (Pin 1 1) ∷ Comes (reading.Shift sh.Cut) ∷ Comes (reading.Shifted 1) ∷ Do Idle ∷ Do (Clocks 1) ∷ Comes (reading.Shifting None) ∷ Do (Pin 1 0) ∷ Do (Clocks 1) ∷ Comes (reading.Byte 1) ∷ Do (Clocks 8) ∷ Comes (reading.Line 0b01001101) ∷ Comes (reading.Shifted 2) ∷ []

-- CTS rising cuts also a byte of which no bit was shown, and tells nothing of a fill
abbrev pub cts_cuts_loaded_byte : List Line
cts_cuts_loaded_byte = Do (Write 0 0x43) ∷ Do (Write 1 0x01) ∷ Do (Write 0 0x03) ∷ Do (Write 1 0x1c) ∷ Do (Write 0 0xc0) ∷ Do (Write 1 0x5a) ∷ Do Idle ∷ Do (Clocks 1) ∷ Comes (reading.Shifting (Some 1)) ∷ Do (Pin 1 1) ∷ Comes (reading.Shift sh.Cut) ∷ Comes (reading.Shifted 1) ∷ Comes (reading.Shifting None) ∷ Do (Pin 1 0) ∷ Do (Clocks 3) ∷ Comes (reading.Line 0b111) ∷ Do (Pin 1 1) ∷ Comes (reading.Shift sh.Nothing) ∷ Comes (reading.Shifted 0) ∷ []

-- with external a high CTS leaves TDRA alone
abbrev pub cts_with_external_keeps_tdra : List Line
cts_with_external_keeps_tdra = Do (Write 0 0x43) ∷ Do (Write 1 0x01) ∷ Do (Write 0 0x03) ∷ Do (Write 1 0x1c) ∷ Do (Write 0 0x00) ∷ Do (Pin 1 1) ∷ Do (Read 0) ∷ Comes (reading.Byte 0x0a) ∷ Do (Write 0 0x40) ∷ Do (Write 1 0x05) ∷ Do (Read 0) ∷ Comes (reading.Byte 0x0a) ∷ Do (Write 1 0x00) ∷ Do (Read 0) ∷ Comes (reading.Byte 0x08) ∷ Do (Pin 1 0) ∷ Do (Read 0) ∷ Comes (reading.Byte 0x02) ∷ []

-- CTS rising is stored also while Tx Rs is set, and a transmitter reset clears it
abbrev pub cts_stored_while_reset : List Line
cts_stored_while_reset = Do (Pin 1 1) ∷ Do (Read 0) ∷ Comes (reading.Byte 0x08) ∷ Do (Pin 1 0) ∷ Do (Read 0) ∷ Comes (reading.Byte 0x08) ∷ Do (Write 0 0x01) ∷ Do (Read 0) ∷ Comes (reading.Byte 0x0a) ∷ Do (Write 0 0x03) ∷ Do (Read 0) ∷ Comes (reading.Byte 0x00) ∷ []

-- with no match SM/DTR is high only with PC2 PC1 00
abbrev pub sm_dtr_settings : List Line
sm_dtr_settings = Do (Write 1 0x00) ∷ Comes (reading.SmDtr true) ∷ Do (Write 1 0x01) ∷ Comes (reading.SmDtr false) ∷ Do (Write 1 0x02) ∷ Comes (reading.SmDtr false) ∷ Do (Write 1 0x03) ∷ Comes (reading.SmDtr false) ∷ Do (Write 1 0x00) ∷ Comes (reading.SmDtr true) ∷ []

-- a match is remembered whatever PC2 and PC1 are and shows until the next bit
abbrev pub sm_dtr_match_until_next_bit : List Line
sm_dtr_match_until_next_bit = Do (Write 0 0x43) ∷ Do (Write 1 0x02) ∷ Do (Write 0 0x83) ∷ Do (Write 1 0x7f) ∷ Do (Write 0 0x03) ∷ Do (Write 1 0x18) ∷ Do (Write 0 0x00) ∷ Do (Bit 0) ∷ Comes (reading.SmDtr true) ∷ Do (Write 1 0x19) ∷ Comes (reading.SmDtr true) ∷ Do Idle ∷ Comes (reading.SmDtr true) ∷ Do (Write 1 0x1a) ∷ Comes (reading.SmDtr false) ∷ Do (Write 1 0x1b) ∷ Comes (reading.SmDtr false) ∷ Do (Write 1 0x19) ∷ Comes (reading.SmDtr true) ∷ Do (Bit 1) ∷ Comes (reading.SmDtr false) ∷ []

-- a match shows no more when the receiver goes off
abbrev pub sm_dtr_match_ends_with_off : List Line
sm_dtr_match_ends_with_off = Do (Write 0 0x43) ∷ Do (Write 1 0x02) ∷ Do (Write 0 0x83) ∷ Do (Write 1 0x7f) ∷ Do (Write 0 0x03) ∷ Do (Write 1 0x19) ∷ Do (Write 0 0x00) ∷ Do (Bit 0) ∷ Comes (reading.SmDtr true) ∷ Do (Write 0 0x08) ∷ Comes (reading.SmDtr false) ∷ Do (Write 0 0x00) ∷ Comes (reading.SmDtr false) ∷ Do (Bit 0) ∷ Comes (reading.SmDtr true) ∷ Do (Pin 2 1) ∷ Comes (reading.SmDtr false) ∷ Do (Pin 2 0) ∷ Comes (reading.SmDtr false) ∷ []

-- with RIE the interrupt follows RDA
abbrev pub receiver_interrupt : List Line
receiver_interrupt = Do (Write 0 0x43) ∷ Do (Write 1 0x01) ∷ Do (Write 0 0x03) ∷ Do (Write 1 0x1c) ∷ Do (Write 0 0x00) ∷ Do (Write 0 0x20) ∷ Comes (reading.Interrupt false) ∷ Do (Character 0x55) ∷ Comes (reading.Interrupt false) ∷ Do Idle ∷ Comes (reading.Interrupt true) ∷ Do (Read 0) ∷ Comes (reading.Byte 0x83) ∷ Do (Read 1) ∷ Comes (reading.Byte 0x55) ∷ Comes (reading.Interrupt false) ∷ []

-- with TIE the interrupt follows TDRA
abbrev pub transmitter_interrupt : List Line
transmitter_interrupt = Do (Write 0 0x43) ∷ Do (Write 1 0x01) ∷ Do (Write 0 0x03) ∷ Do (Write 1 0x1c) ∷ Do (Write 0 0xd0) ∷ Comes (reading.Interrupt true) ∷ Do (Read 0) ∷ Comes (reading.Byte 0x82) ∷ Do (Write 1 0x55) ∷ Comes (reading.Interrupt false) ∷ Do (Read 0) ∷ Comes (reading.Byte 0x00) ∷ Do Idle ∷ Comes (reading.Interrupt true) ∷ Do (Write 0 0x12) ∷ Comes (reading.Interrupt false) ∷ Comes (reading.Queue qu.Cleared) ∷ []

-- with EIE an overrun interrupts until a Status read and a data read
abbrev pub overrun_interrupt : List Line
overrun_interrupt = Do (Write 0 0x43) ∷ Do (Write 1 0x01) ∷ Do (Write 0 0x03) ∷ Do (Write 1 0x1c) ∷ Do (Write 0 0x00) ∷ Do (Write 1 0x9c) ∷ Do (Character 0x01) ∷ Comes (reading.Interrupt false) ∷ Do (Character 0x02) ∷ Comes (reading.Interrupt true) ∷ Do (Read 0) ∷ Comes (reading.Byte 0xa2) ∷ Comes (reading.Interrupt true) ∷ Do (Read 1) ∷ Comes (reading.Interrupt false) ∷ Do (Read 0) ∷ Comes (reading.Byte 0x02) ∷ []

-- a RESET level equal to the present one resets nothing
abbrev pub same_reset_level : List Line
same_reset_level = Do (Write 0 0x43) ∷ Do (Write 1 0x01) ∷ Do (Write 0 0x03) ∷ Do (Write 1 0x1c) ∷ Do (Write 0 0xc0) ∷ Do (Character 0x41) ∷ Do (Write 1 0x55) ∷ Do (Pin 0 1) ∷ Comes (reading.Receive rx.Nothing) ∷ Comes (reading.Queue qu.Nothing) ∷ Comes (reading.Waiting One (Some 1)) ∷ Do (Pin 0 0) ∷ Comes (reading.Receive rx.Cleared) ∷ Comes (reading.Queue qu.Cleared) ∷ Do (Write 1 0x66) ∷ Comes (reading.Queue qu.Nothing) ∷ Do (Pin 0 0) ∷ Comes (reading.Queue qu.Nothing) ∷ Do (Write 0 0xc2) ∷ Comes (reading.Queue qu.Cleared) ∷ Comes (reading.Queued First 2) ∷ []

-- a read with register select 2 is refused, takes nothing and moves nothing
abbrev pub refused_read_select : List Line
refused_read_select = Do (Write 0 0x43) ∷ Do (Write 1 0x01) ∷ Do (Write 0 0x03) ∷ Do (Write 1 0x1c) ∷ Do (Write 0 0x00) ∷ Do (Character 0x77) ∷ Do (Read 2) ∷ Comes (reading.Refusal (Some NotABit)) ∷ Comes (reading.Byte 0) ∷ Comes (reading.Waiting One (Some 1)) ∷ Do Idle ∷ Comes (reading.Refusal None) ∷ Do (Read 2) ∷ Comes (reading.Refusal (Some NotABit)) ∷ Comes (reading.Waiting Three (Some 1)) ∷ Do (Read 1) ∷ Comes (reading.Byte 0x77) ∷ Comes (reading.Receive rx.Delivered) ∷ Comes (reading.Received First 1) ∷ []

-- a refused read neither clears nor drops an arm
abbrev pub refused_read_keeps_arm : List Line
refused_read_keeps_arm = Do (Write 0 0x43) ∷ Do (Write 1 0x01) ∷ Do (Write 0 0x03) ∷ Do (Write 1 0x1c) ∷ Do (Write 0 0x00) ∷ Do (Character 0x01) ∷ Do (Character 0x02) ∷ Do (Read 0) ∷ Comes (reading.Byte 0x22) ∷ Do (Read 2) ∷ Comes (reading.Refusal (Some NotABit)) ∷ Do (Read 1) ∷ Comes (reading.Byte 0x00) ∷ Do (Read 0) ∷ Comes (reading.Byte 0x02) ∷ []

-- a write with register select 2 is refused, writes nothing and takes no number
abbrev pub refused_write_select : List Line
refused_write_select = Do (Write 0 0x43) ∷ Do (Write 1 0x01) ∷ Do (Write 0 0x03) ∷ Do (Write 1 0x1c) ∷ Do (Write 0 0xc0) ∷ Do (Write 1 0xa1) ∷ Do (Write 2 0x03) ∷ Comes (reading.Refusal (Some NotABit)) ∷ Comes (reading.Queue qu.Nothing) ∷ Do (Read 0) ∷ Comes (reading.Byte 0x00) ∷ Do (Write 2 0xa2) ∷ Comes (reading.Refusal (Some NotABit)) ∷ Do (Write 1 0xa3) ∷ Comes (reading.Queue qu.Overwritten) ∷ Comes (reading.Queued First 1) ∷ Do (Write 0 0xc2) ∷ Comes (reading.Queue qu.Cleared) ∷ Comes (reading.Queued First 2) ∷ []

-- a received bit 2 is refused and does not count
abbrev pub refused_bit : List Line
refused_bit = Do (Write 0 0x43) ∷ Do (Write 1 0x01) ∷ Do (Write 0 0x03) ∷ Do (Write 1 0x1c) ∷ Do (Write 0 0x00) ∷ Do (Bit 1) ∷ Do (Bit 1) ∷ Do (Bit 0) ∷ Do (Bit 0) ∷ Do (Bit 2) ∷ Comes (reading.Refusal (Some NotABit)) ∷ Do (Bit 1) ∷ Do (Bit 0) ∷ Do (Bit 1) ∷ Comes (reading.Waiting One None) ∷ Do (Bit 0) ∷ Comes (reading.Refusal None) ∷ Comes (reading.Waiting One (Some 1)) ∷ Do Idle ∷ Do (Read 1) ∷ Comes (reading.Byte 0x53) ∷ []

-- a pin level 2 is refused and changes no pin
abbrev pub refused_level : List Line
refused_level = Do (Write 0 0x43) ∷ Do (Write 1 0x01) ∷ Do (Write 0 0x03) ∷ Do (Write 1 0x1c) ∷ Do (Write 0 0x00) ∷ Do (Character 0x41) ∷ Do (Pin 0 2) ∷ Comes (reading.Refusal (Some NotABit)) ∷ Comes (reading.Receive rx.Nothing) ∷ Comes (reading.Waiting One (Some 1)) ∷ Do (Pin 1 2) ∷ Comes (reading.Refusal (Some NotABit)) ∷ Do (Pin 2 2) ∷ Comes (reading.Refusal (Some NotABit)) ∷ Do (Read 0) ∷ Comes (reading.Byte 0x02) ∷ []

-- a level on pin 3 is refused by 2 and changes nothing
abbrev pub refused_pin : List Line
refused_pin = Do (Write 0 0x43) ∷ Do (Write 1 0x01) ∷ Do (Write 0 0x03) ∷ Do (Write 1 0x1c) ∷ Do (Write 0 0x00) ∷ Do (Character 0x41) ∷ Do (Pin 3 0) ∷ Comes (reading.Refusal (Some NoSuchPin)) ∷ Do (Pin 3 1) ∷ Comes (reading.Refusal (Some NoSuchPin)) ∷ Comes (reading.Interrupt false) ∷ Comes (reading.Waiting One (Some 1)) ∷ Do Idle ∷ Comes (reading.Refusal None) ∷ Do (Read 0) ∷ Comes (reading.Byte 0x03) ∷ Do (Read 1) ∷ Comes (reading.Byte 0x41) ∷ []

-- pin 3 with level 2 is refused by 2, pin 0 with level 2 by 1
abbrev pub refused_pin_before_level : List Line
refused_pin_before_level = Do (Write 0 0x43) ∷ Do (Write 1 0x01) ∷ Do (Write 0 0x03) ∷ Do (Write 1 0x1c) ∷ Do (Write 0 0x00) ∷ Do (Character 0x42) ∷ Do (Pin 3 2) ∷ Comes (reading.Refusal (Some NoSuchPin)) ∷ Do (Pin 255 255) ∷ Comes (reading.Refusal (Some NoSuchPin)) ∷ Do (Pin 0 2) ∷ Comes (reading.Refusal (Some NotABit)) ∷ Comes (reading.Waiting One (Some 1)) ∷ Do Idle ∷ Do (Read 1) ∷ Comes (reading.Byte 0x42) ∷ Comes (reading.Received First 1) ∷ Do (Read 0) ∷ Comes (reading.Byte 0x02) ∷ []
