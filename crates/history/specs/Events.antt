-- What an event is, taken by itself. One that is out of range is none of these things. Assumes nothing.
use Rattle.std.specs.Prelude.{ℕ, ◌/◌, ◌%◌, ◌^◌, Bool, true, false, cond, ◌&&◌, Some, None, Option, ◌==◌, nat_le}
use Rattle.serial.specs.declared.event.Event.{Event}
use Rattle.serial.specs.declared.event.Event.TheVariants.{Bus, ReceivedBit, TransmitClock, PinLevel}
use Rattle.serial.specs.declared.event.Cycle.TheVariants.{Idle, Read, Write}
use Rattle.serial.specs.declared.event.Refusal.{Refusal}
use Rattle.serial.specs.declared.event.Refusal.TheVariants.{NotABit, NoSuchPin}

-- bit i of a byte
abbrev pub bit_at : ℕ → ℕ → Bool
bit_at i b = b / 2 ^ i % 2 == 1

abbrev pub unless_bit : ℕ → Option Refusal
unless_bit x = cond (nat_le x 1) None (Some NotABit)

-- why an event is out of range, if it is
abbrev pub refusal_by_range : Event → Option Refusal
refusal_by_range (Bus Idle) = None
refusal_by_range (Bus (Read rs)) = unless_bit rs
refusal_by_range (Bus (Write rs b)) = unless_bit rs
refusal_by_range (ReceivedBit b) = unless_bit b
refusal_by_range TransmitClock = None
refusal_by_range (PinLevel p l) = cond (nat_le p 2) (unless_bit l) (Some NoSuchPin)

-- an idle cycle
abbrev pub idles : Event → Bool
idles (Bus Idle) = true
idles (Bus (Read rs)) = false
idles (Bus (Write rs b)) = false
idles (ReceivedBit b) = false
idles TransmitClock = false
idles (PinLevel p l) = false

-- a read with this register select
abbrev pub reads : ℕ → Event → Bool
reads r (Bus Idle) = false
reads r (Bus (Read rs)) = rs == r
reads r (Bus (Write rs b)) = false
reads r (ReceivedBit b) = false
reads r TransmitClock = false
reads r (PinLevel p l) = false

-- the byte that is written with this register select
abbrev pub writes : ℕ → Event → Option ℕ
writes r (Bus Idle) = None
writes r (Bus (Read rs)) = None
writes r (Bus (Write rs b)) = cond (rs == r) (Some b) None
writes r (ReceivedBit b) = None
writes r TransmitClock = None
writes r (PinLevel p l) = None

-- a received bit
abbrev pub received : Event → Option ℕ
received (Bus Idle) = None
received (Bus (Read rs)) = None
received (Bus (Write rs b)) = None
received (ReceivedBit b) = cond (nat_le b 1) (Some b) None
received TransmitClock = None
received (PinLevel p l) = None

-- a transmit clock
abbrev pub clocks : Event → Bool
clocks (Bus Idle) = false
clocks (Bus (Read rs)) = false
clocks (Bus (Write rs b)) = false
clocks (ReceivedBit b) = false
clocks TransmitClock = true
clocks (PinLevel p l) = false

-- the level that this pin gets: true is high
abbrev pub level_for : ℕ → Event → Option Bool
level_for q (Bus Idle) = None
level_for q (Bus (Read rs)) = None
level_for q (Bus (Write rs b)) = None
level_for q (ReceivedBit b) = None
level_for q TransmitClock = None
level_for q (PinLevel p l) = cond (p == q && nat_le l 1) (Some (l == 1)) None
