-- The codes of a slip with their numbers. Assumes nothing.
use Rattle.std.specs.Prelude.{ℕ, [], ◌∷◌, Option}
use Rattle.serial.specs.Numbers.{numbered}
use Rattle.serial.specs.Queue.{fields}
use Rattle.serial.specs.declared.slip.ReceiveCode.{ReceiveCode}
use Rattle.serial.specs.declared.slip.ReceiveCode.TheVariants as rx
use Rattle.serial.specs.declared.slip.QueueCode.{QueueCode}
use Rattle.serial.specs.declared.slip.QueueCode.TheVariants as qu
use Rattle.serial.specs.declared.slip.ShiftCode.{ShiftCode}
use Rattle.serial.specs.declared.slip.ShiftCode.TheVariants as sh
use Rattle.serial.specs.declared.slip.Slip.{Slip}

-- what happened to received characters
abbrev pub receive_number : ReceiveCode → ℕ
receive_number rx.Nothing = 0
receive_number rx.Delivered = 1
receive_number rx.DeliveredMarked = 2
receive_number rx.Stripped = 3
receive_number rx.Lost = 4
receive_number rx.Cleared = 5

abbrev pub receive_of : ℕ → Option ReceiveCode
receive_of = numbered receive_number (rx.Nothing ∷ rx.Delivered ∷ rx.DeliveredMarked ∷ rx.Stripped ∷ rx.Lost ∷ rx.Cleared ∷ [])

-- what happened to written bytes in the queue
abbrev pub queue_number : QueueCode → ℕ
queue_number qu.Nothing = 0
queue_number qu.Overwritten = 1
queue_number qu.Cleared = 2

abbrev pub queue_code_of : ℕ → Option QueueCode
queue_code_of = numbered queue_number (qu.Nothing ∷ qu.Overwritten ∷ qu.Cleared ∷ [])

-- what happened to the byte that is being shifted
abbrev pub shift_number : ShiftCode → ℕ
shift_number sh.Nothing = 0
shift_number sh.Bit = 1
shift_number sh.LastBit = 2
shift_number sh.Cut = 3

abbrev pub shift_of : ℕ → Option ShiftCode
shift_of = numbered shift_number (sh.Nothing ∷ sh.Bit ∷ sh.LastBit ∷ sh.Cut ∷ [])

-- nothing to tell
abbrev pub quiet_slip : Slip
quiet_slip = record { receive = rx.Nothing; received = fields []; queue = qu.Nothing; queued = fields []; shift = sh.Nothing; shifted = 0 }
