-- The worked examples of the rules, worked out by hand: what is done to a new adapter, and what must come. Assumes nothing.
-- Bits on the line are written as a binary number, the first one first. A write with RS 0 goes to C1, one with RS 1 where AC2 AC1 lead.
use Rattle.std.specs.Prelude.{List, [], ◌∷◌, Some, None, true, false}
use Rattle.serial.specs.declared.queue.Place.TheVariants.{One, Two, Three}
use Rattle.serial.specs.declared.slip.ReceiveCode.TheVariants as rx
use Rattle.serial.specs.declared.slip.QueueCode.TheVariants as qu
use Rattle.serial.specs.declared.slip.ShiftCode.TheVariants as sh
use Rattle.bench.specs.declared.script.Act.TheVariants.{Idle, Read, Write, Bit, Character, Clocks, Pin}
use Rattle.bench.specs.declared.script.Field.TheVariants.{First, Second}
use Rattle.bench.specs.declared.script.Line.{Line}
use Rattle.bench.specs.declared.script.Line.TheVariants.{Do, Comes}
use Rattle.bench.specs.declared.script.Reading.TheVariants as reading

-- 41h in 7 with even parity is 10000010
abbrev pub seven_with_even : List Line
seven_with_even = Do (Write 1 0x20) ∷ Do (Write 0 0xc1) ∷ Do (Write 1 0x41) ∷ Do Idle ∷ Do (Clocks 1) ∷ Do (Clocks 8) ∷ Comes (reading.Line 0b10000010) ∷ Comes (reading.Shift sh.LastBit) ∷ Comes (reading.Shifted 1) ∷ []

-- 41h in 7 with odd parity is 10000011
abbrev pub seven_with_odd : List Line
seven_with_odd = Do (Write 1 0x28) ∷ Do (Write 0 0xc1) ∷ Do (Write 1 0x41) ∷ Do Idle ∷ Do (Clocks 1) ∷ Do (Clocks 8) ∷ Comes (reading.Line 0b10000011) ∷ []

-- FFh in 6 with odd parity is 1111111
abbrev pub six_with_odd : List Line
six_with_odd = Do (Write 1 0x08) ∷ Do (Write 0 0xc1) ∷ Do (Write 1 0xff) ∷ Do Idle ∷ Do (Clocks 1) ∷ Do (Clocks 7) ∷ Comes (reading.Line 0b1111111) ∷ []

-- the sync fill 16h in form 000 is 0110100
abbrev pub sync_fill_of_seven : List Line
sync_fill_of_seven = Do (Write 0 0x83) ∷ Do (Write 1 0x16) ∷ Do (Write 0 0x03) ∷ Do (Write 1 0x40) ∷ Do (Write 0 0x01) ∷ Do (Clocks 1) ∷ Comes (reading.Underflow true) ∷ Do (Clocks 7) ∷ Comes (reading.Line 0b0110100) ∷ []

-- the sync fill 16h in form 110 is 011010001
abbrev pub sync_fill_of_nine : List Line
sync_fill_of_nine = Do (Write 0 0x83) ∷ Do (Write 1 0x16) ∷ Do (Write 0 0x03) ∷ Do (Write 1 0x70) ∷ Do (Write 0 0x01) ∷ Do (Clocks 1) ∷ Comes (reading.Underflow true) ∷ Do (Clocks 9) ∷ Comes (reading.Line 0b011010001) ∷ []

-- the mark fill in form 110 is nine ones, and TUF stays 0
abbrev pub mark_fill : List Line
mark_fill = Do (Write 1 0x30) ∷ Do (Write 0 0x01) ∷ Do (Clocks 1) ∷ Comes (reading.Underflow false) ∷ Do (Clocks 9) ∷ Comes (reading.Line 0b111111111) ∷ Do (Read 0) ∷ Comes (reading.Byte 0x02) ∷ []

-- a new Status is 00h; after C1 = 00h it is 02h, and after C1 = 10h 82h
abbrev pub new_status : List Line
new_status = Do (Read 0) ∷ Comes (reading.Byte 0x00) ∷ Do (Write 0 0x00) ∷ Do (Read 0) ∷ Comes (reading.Byte 0x02) ∷ Do (Write 0 0x10) ∷ Do (Read 0) ∷ Comes (reading.Byte 0x82) ∷ []

-- form 011, 1-sync, code 7Fh, restart, one bit 0: in sync
abbrev pub one_bit_to_sync : List Line
one_bit_to_sync = Do (Write 0 0x83) ∷ Do (Write 1 0x7f) ∷ Do (Write 0 0x43) ∷ Do (Write 1 0x02) ∷ Do (Write 0 0x03) ∷ Do (Write 1 0x1d) ∷ Do (Write 0 0x00) ∷ Comes (reading.SmDtr false) ∷ Do (Bit 0) ∷ Comes (reading.SmDtr true) ∷ Do (Character 0x41) ∷ Comes (reading.Waiting One (Some 1)) ∷ Do Idle ∷ Do (Read 1) ∷ Comes (reading.Byte 0x41) ∷ Comes (reading.Receive rx.Delivered) ∷ Comes (reading.Received First 1) ∷ []

-- form 011, code 16h, two sync codes asked for: after 16h, 16h comes 41h as number 1
abbrev pub two_sync_codes : List Line
two_sync_codes = Do (Write 0 0x83) ∷ Do (Write 1 0x16) ∷ Do (Write 0 0x03) ∷ Do (Write 1 0x1c) ∷ Do (Write 0 0x00) ∷ Do (Character 0x16) ∷ Do (Character 0x16) ∷ Do (Character 0x41) ∷ Comes (reading.Waiting One (Some 1)) ∷ Do Idle ∷ Do (Read 1) ∷ Comes (reading.Byte 0x41) ∷ Comes (reading.Receive rx.Delivered) ∷ Comes (reading.Received First 1) ∷ []

-- set up like that, 16h, 41h, 16h, 16h: in sync, and nothing framed
abbrev pub second_is_no_sync_code : List Line
second_is_no_sync_code = Do (Write 0 0x83) ∷ Do (Write 1 0x16) ∷ Do (Write 0 0x03) ∷ Do (Write 1 0x1c) ∷ Do (Write 0 0x00) ∷ Do (Character 0x16) ∷ Do (Character 0x41) ∷ Do (Character 0x16) ∷ Do (Character 0x16) ∷ Comes (reading.Waiting One None) ∷ Do (Character 0x42) ∷ Comes (reading.Waiting One (Some 1)) ∷ []

-- places 3, 2 and 1 hold 41h, 42h and 43h; 44h arrives: number 3 is lost
abbrev pub newest_is_lost : List Line
newest_is_lost = Do (Write 0 0x43) ∷ Do (Write 1 0x01) ∷ Do (Write 0 0x03) ∷ Do (Write 1 0x1c) ∷ Do (Write 0 0x00) ∷ Do (Character 0x41) ∷ Do Idle ∷ Do (Character 0x42) ∷ Do Idle ∷ Do (Character 0x43) ∷ Comes (reading.Waiting Three (Some 1)) ∷ Comes (reading.Waiting Two (Some 2)) ∷ Comes (reading.Waiting One (Some 3)) ∷ Do (Character 0x44) ∷ Comes (reading.Receive rx.Lost) ∷ Comes (reading.Received First 3) ∷ Comes (reading.Received Second 0) ∷ Comes (reading.Waiting One (Some 4)) ∷ []

-- loss, Status read, loss, data read, Status read: overrun still shows
abbrev pub loss_after_status : List Line
loss_after_status = Do (Write 0 0x43) ∷ Do (Write 1 0x01) ∷ Do (Write 0 0x03) ∷ Do (Write 1 0x1c) ∷ Do (Write 0 0x00) ∷ Do (Character 0x01) ∷ Do (Character 0x02) ∷ Comes (reading.Receive rx.Lost) ∷ Comes (reading.Received First 1) ∷ Do (Read 0) ∷ Comes (reading.Byte 0x22) ∷ Do (Character 0x03) ∷ Comes (reading.Receive rx.Lost) ∷ Comes (reading.Received First 2) ∷ Do (Read 1) ∷ Comes (reading.Receive rx.Nothing) ∷ Do (Read 0) ∷ Comes (reading.Byte 0x22) ∷ []

-- C1 = 00h, C2 = 80h, CTS rises: Status 88h; after Clear CTS 08h
abbrev pub cts_is_stored : List Line
cts_is_stored = Do (Write 0 0x00) ∷ Do (Write 1 0x80) ∷ Do (Pin 1 1) ∷ Do (Read 0) ∷ Comes (reading.Byte 0x88) ∷ Do (Write 0 0x40) ∷ Do (Write 1 0x04) ∷ Do (Read 0) ∷ Comes (reading.Byte 0x08) ∷ []

-- two transmit writes without an idle cycle: number 1 is overwritten
abbrev pub overwritten : List Line
overwritten = Do (Write 0 0xc1) ∷ Do (Write 1 0x55) ∷ Comes (reading.Queue qu.Nothing) ∷ Do (Write 1 0x56) ∷ Comes (reading.Queue qu.Overwritten) ∷ Comes (reading.Queued First 1) ∷ []
