-- The account of a list of slips. Assumes nothing.
use Rattle.std.specs.Prelude.{◌≡◌, ℕ, ◌+◌, ◌≤◌, Bool, false, cond, not, ◌&&◌, List, [], ◌∷◌, ◌++◌, length, Some, None, Ok, Err, fold, count_by, Option, Result, ◌==◌, nat_le}
use Rattle.std.specs.List.{flat_map}
use Rattle.std.specs.List.Sorted.{IsPermutation}
use Rattle.serial.specs.declared.account.Account.{Account}
use Rattle.serial.specs.declared.account.Fate.{Fate}
use Rattle.serial.specs.declared.account.Fate.TheVariants.{Delivered, Stripped, Lost, ReceivedCleared, Overwritten, WrittenCleared, Sent, Cut}
use Rattle.serial.specs.declared.event.Refusal.{Refusal}
use Rattle.serial.specs.declared.event.Refusal.TheVariants.{TooLong}
use Rattle.serial.specs.declared.queue.Numbers.{Numbers}
use Rattle.serial.specs.declared.slip.ReceiveCode.{ReceiveCode}
use Rattle.serial.specs.declared.slip.ReceiveCode.TheVariants as rx
use Rattle.serial.specs.declared.slip.QueueCode.{QueueCode}
use Rattle.serial.specs.declared.slip.QueueCode.TheVariants as qu
use Rattle.serial.specs.declared.slip.ShiftCode.{ShiftCode}
use Rattle.serial.specs.declared.slip.ShiftCode.TheVariants as sh
use Rattle.serial.specs.declared.slip.Slip.{Slip}

-- the fate that a code tells, if it tells one
abbrev pub receive_fate : ReceiveCode → Option Fate
receive_fate rx.Nothing = None
receive_fate rx.Delivered = Some Delivered
receive_fate rx.DeliveredMarked = Some Delivered
receive_fate rx.Stripped = Some Stripped
receive_fate rx.Lost = Some Lost
receive_fate rx.Cleared = Some ReceivedCleared

abbrev pub queue_fate : QueueCode → Option Fate
queue_fate qu.Nothing = None
queue_fate qu.Overwritten = Some Overwritten
queue_fate qu.Cleared = Some WrittenCleared

abbrev pub shift_fate : ShiftCode → Option Fate
shift_fate sh.Nothing = None
shift_fate sh.Bit = None
shift_fate sh.LastBit = Some Sent
shift_fate sh.Cut = Some Cut

-- fates told apart
abbrev pub fate_number : Fate → ℕ
fate_number Delivered = 0
fate_number Stripped = 1
fate_number Lost = 2
fate_number ReceivedCleared = 3
fate_number Overwritten = 4
fate_number WrittenCleared = 5
fate_number Sent = 6
fate_number Cut = 7

abbrev pub is_fate : Option Fate → Fate → Bool
is_fate None g = false
is_fate (Some f) g = fate_number f == fate_number g

-- n more of a fate, and none of the others
abbrev pub part : Option Fate → ℕ → Fate → ℕ
part o n f = cond (is_fate o f) n 0

abbrev pub none_yet : Account
none_yet = record {
  delivered = 0;
  stripped = 0;
  lost = 0;
  received_cleared = 0;
  overwritten = 0;
  written_cleared = 0;
  sent = 0;
  cut = 0;
}

abbrev pub counted : Account → Option Fate → ℕ → Account
counted a o n = record {
  delivered = a.delivered + part o n Delivered;
  stripped = a.stripped + part o n Stripped;
  lost = a.lost + part o n Lost;
  received_cleared = a.received_cleared + part o n ReceivedCleared;
  overwritten = a.overwritten + part o n Overwritten;
  written_cleared = a.written_cleared + part o n WrittenCleared;
  sent = a.sent + part o n Sent;
  cut = a.cut + part o n Cut;
}

-- a number that is not 0 counts one
abbrev pub unless_zero : ℕ → ℕ
unless_zero n = cond (n == 0) 0 1

abbrev pub how_many : Numbers → ℕ
how_many x = unless_zero x.first + unless_zero x.second + unless_zero x.third

-- one slip more
abbrev pub with_slip : Account → Slip → Account
with_slip a s =
    counted (counted (counted a (receive_fate s.receive) (how_many s.received)) (queue_fate s.queue) (how_many s.queued))
    (shift_fate s.shift) (unless_zero s.shifted)

abbrev pub account_of : List Slip → Account
account_of slips = fold with_slip none_yet slips

-- the account of at most 65,536 slips; more are refused
abbrev pub accounted : List Slip → Result Account Refusal
accounted slips = cond (nat_le (length slips) 65536) (Ok (account_of slips)) (Err TooLong)

-- no total is above n
abbrev pub Within : Account → ℕ → Type 0
Within a n =
    (a.delivered ≤ n) × (a.stripped ≤ n) × (a.lost ≤ n) × (a.received_cleared ≤ n)
    × (a.overwritten ≤ n) × (a.written_cleared ≤ n) × (a.sent ≤ n) × (a.cut ≤ n)

-- THE LAW OF THE ACCOUNT: what its totals count

-- the total of a fate
abbrev pub total_of : Account → Fate → ℕ
total_of a Delivered = a.delivered
total_of a Stripped = a.stripped
total_of a Lost = a.lost
total_of a ReceivedCleared = a.received_cleared
total_of a Overwritten = a.overwritten
total_of a WrittenCleared = a.written_cleared
total_of a Sent = a.sent
total_of a Cut = a.cut

-- the seven fields of a slip: the fate that the code tells, if it tells one, and the number
abbrev pub entries : Slip → List (Option Fate × ℕ)
entries s =
    (receive_fate s.receive, s.received.first) ∷ (receive_fate s.receive, s.received.second)
    ∷ (receive_fate s.receive, s.received.third) ∷ (queue_fate s.queue, s.queued.first)
    ∷ (queue_fate s.queue, s.queued.second) ∷ (queue_fate s.queue, s.queued.third)
    ∷ (shift_fate s.shift, s.shifted) ∷ []

-- a field tells this fate with a number that is not 0
abbrev pub tells_fate : Fate → Option Fate × ℕ → Bool
tells_fate f e = is_fate e.0 f && not (e.1 == 0)

-- each total is the number of fields, over all slips, that tell its fate with a number that is not 0
abbrev pub CountsFields : Type 0
CountsFields = (slips : List Slip) (f : Fate) → total_of (account_of slips) f ≡ count_by (tells_fate f) (flat_map entries slips)

-- so the order of the slips does not matter
abbrev pub AnyOrder : Type 0
AnyOrder = (xs ys : List Slip) → IsPermutation xs ys → account_of ys ≡ account_of xs

-- and joining two lists adds their accounts
abbrev pub Joins : Type 0
Joins = (xs ys : List Slip) (f : Fate) → total_of (account_of (xs ++ ys)) f ≡ total_of (account_of xs) f + total_of (account_of ys) f
