-- Refusals with their numbers, and the range of an event's fields. Assumes nothing.
use Rattle.std.specs.Prelude.{ℕ, ◌/◌, ◌%◌, ◌^◌, cond, List, [], ◌∷◌, map, Ok, Err, Option, Result, nat_le}
use Rattle.std.specs.List.{range_with_len}
use Rattle.std.specs.Option.{ok_or}
use Rattle.serial.specs.Numbers.{numbered}
use Rattle.serial.specs.declared.event.Cycle.TheVariants.{Idle, Read, Write}
use Rattle.serial.specs.declared.event.Event.{Event}
use Rattle.serial.specs.declared.event.Event.TheVariants.{Bus, ReceivedBit, TransmitClock, PinLevel}
use Rattle.serial.specs.declared.event.Pin.{Pin}
use Rattle.serial.specs.declared.event.Pin.TheVariants.{Reset, Cts, Dcd}
use Rattle.serial.specs.declared.event.Refusal.{Refusal}
use Rattle.serial.specs.declared.event.Refusal.TheVariants.{NotABit, NoSuchPin, FramedFull, WrittenFull, CutRecord, UnknownKind, BadPayload, OutputShort, TooLong}

-- the number of each refusal
abbrev pub refusal_number : Refusal → ℕ
refusal_number NotABit = 1
refusal_number NoSuchPin = 2
refusal_number FramedFull = 3
refusal_number WrittenFull = 4
refusal_number CutRecord = 5
refusal_number UnknownKind = 6
refusal_number BadPayload = 7
refusal_number OutputShort = 8
refusal_number TooLong = 9

abbrev pub refusals : List Refusal
refusals = NotABit ∷ NoSuchPin ∷ FramedFull ∷ WrittenFull ∷ CutRecord ∷ UnknownKind ∷ BadPayload ∷ OutputShort ∷ TooLong ∷ []

abbrev pub refusal_of : ℕ → Option Refusal
refusal_of = numbered refusal_number refusals

-- the number of each pin
abbrev pub pin_number : Pin → ℕ
pin_number Reset = 0
pin_number Cts = 1
pin_number Dcd = 2

-- the pin that has a number; there is no other
abbrev pub pin_of : ℕ → Result Pin Refusal
pin_of n = ok_or (numbered pin_number (Reset ∷ Cts ∷ Dcd ∷ []) n) NoSuchPin

-- a bit, a level or a register select is 0 or 1
abbrev pub bit_only : ℕ → Result (Unit {0}) Refusal
bit_only b = cond (nat_le b 1) (Ok tt) (Err NotABit)

-- the fields of an event are in their range: the pin first, then bit, level and register select
abbrev pub ranged : Event → Result (Unit {0}) Refusal
ranged (Bus Idle) = Ok tt
ranged (Bus (Read rs)) = bit_only rs
ranged (Bus (Write rs byte)) = bit_only rs
ranged (ReceivedBit bit) = bit_only bit
ranged TransmitClock = Ok tt
ranged (PinLevel pin level) = cond (nat_le pin 2) (bit_only level) (Err NoSuchPin)

-- the bit of a byte at a place, as an event
abbrev pub bit_event : ℕ → ℕ → Event
bit_event b i = ReceivedBit (b / 2 ^ i % 2)

-- a character is the eight bits of its byte, lowest first
abbrev pub character_events : ℕ → List Event
character_events b = map (bit_event b) (range_with_len 0 8)
