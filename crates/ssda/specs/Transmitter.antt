-- The transmitter: when it loads, which word it loads, and the bits that it shows. Assumes nothing.
use Rattle.std.specs.Prelude.{ℕ, ◌-◌, ◌/◌, ◌%◌, Bool, true, false, cond, Some, None, Option, ◌==◌, nat_le}
use Rattle.std.specs.Option.{option_and_then}
use Rattle.serial.specs.declared.word.Form.{Form}
use Rattle.serial.specs.Words.{value_of, word_of, sync_fill, mark_fill}
use Rattle.ssda.specs.declared.transmitter.Byte.{Byte}
use Rattle.ssda.specs.declared.transmitter.Shift.{Shift}
use Rattle.ssda.specs.declared.transmitter.Timing.{Timing}
use Rattle.ssda.specs.declared.transmitter.Timing.TheVariants.{Held, Starting, Showing}

abbrev pub byte_number : Byte → ℕ
byte_number b = b.number

-- WHEN IT LOADS. No queue stands in the type.

-- the next clock loads a word: the first one after a hold, and the last bit of a word
abbrev pub loads_at : Timing → Bool
loads_at Held = false
loads_at Starting = true
loads_at (Showing left) = nat_le left 1

-- a transmit clock, where a word that is loaded has t bits
abbrev pub ticked : Timing → ℕ → Timing
ticked Held t = Held
ticked Starting t = Showing t
ticked (Showing left) t = cond (nat_le left 1) (Showing t) (Showing (left - 1))

-- after a new setting: held, or starting when the hold ends
abbrev pub timing_after : Timing → Bool → Bool → Timing
timing_after t was_held is_held = cond is_held Held (cond was_held Starting t)

-- WHAT IT SHOWS

abbrev pub empty_shift : Shift
empty_shift = record { bits = 0; number = None }

-- a number as that of a byte: 0 is nobody's
abbrev pub number_if : ℕ → Option ℕ
number_if n = cond (n == 0) None (Some n)

-- what is loaded: the word of the byte at the output; with none there the sync fill if Tx Sync is set, else the mark fill
abbrev pub word_for : Option Byte → Form → ℕ → Bool → Shift
word_for (Some b) f c sync = record { bits = value_of (word_of f b.byte); number = number_if b.number }
word_for None f c sync = record { bits = value_of (cond sync (sync_fill f c) (mark_fill f)); number = None }

abbrev pub underflows_for : Option Byte → Bool → Bool
underflows_for (Some b) sync = false
underflows_for None sync = sync

abbrev pub shifted_on : Shift → Shift
shifted_on s = record { bits = s.bits / 2; number = s.number }

-- the bit that a clock shows
abbrev pub bit_shown : Timing → Shift → ℕ
bit_shown Held s = 1
bit_shown Starting s = 1
bit_shown (Showing left) s = s.bits % 2

-- the number of the byte that is being shifted, if one is
abbrev pub shifting_in : Timing → Shift → Option ℕ
shifting_in Held s = None
shifting_in Starting s = None
shifting_in (Showing left) s = option_and_then number_if s.number
