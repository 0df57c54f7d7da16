-- The words of the story. Assumes nothing.
use Rattle.std.specs.Prelude.{ℕ, ◌/◌, ◌%◌, ◌^◌, Bool, List, codes, ◌==◌}
use Rattle.serial.specs.declared.slip.ReceiveCode.{ReceiveCode}
use Rattle.serial.specs.declared.slip.ReceiveCode.TheVariants.{Nothing, Delivered, DeliveredMarked, Stripped, Lost, Cleared}

-- what a code says of a character
abbrev pub word_of : ReceiveCode → List ℕ
word_of Nothing = codes "waiting"
word_of Delivered = codes "delivered"
word_of DeliveredMarked = codes "delivered with parity mark"
word_of Stripped = codes "stripped"
word_of Lost = codes "lost"
word_of Cleared = codes "cleared"

-- overrun is bit 5 of Status
abbrev pub overrun_in : ℕ → Bool
overrun_in status = status / 2 ^ 5 % 2 == 1
