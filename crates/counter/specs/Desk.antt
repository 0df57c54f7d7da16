-- What is on the desk after events were handed over. Assumes nothing.
use Rattle.std.specs.Prelude.{◌≡◌, ℕ, ◌≤◌, Bool, cond, ◌||◌, List, [], ◌∷◌, ◌++◌, length, take, Ok, Err, fold, Result, ◌==◌, slice_index_or}
use Rattle.serial.specs.declared.account.Account.{Account}
use Rattle.serial.specs.declared.event.Event.{Event}
use Rattle.serial.specs.declared.event.Refusal.{Refusal}
use Rattle.serial.specs.declared.slip.ReceiveCode.{ReceiveCode}
use Rattle.serial.specs.declared.slip.ReceiveCode.TheVariants.{Nothing}
use Rattle.serial.specs.declared.slip.Reply.{Reply}
use Rattle.serial.specs.declared.slip.Slip.{Slip}
use Rattle.ssda.specs.declared.state.State.{State}
use Rattle.ssda.specs.Stepped.{stepped, answered}
use Rattle.counter.specs.declared.desk.Fault.{Fault}
use Rattle.counter.specs.declared.desk.Fault.TheVariants.{Declined, NoMemory}

-- the adapter's state, and the slips so far
pub record Kept : Type 0 where
  pub state : State
  pub slips : List Slip

abbrev slip_in : Result Reply Refusal → List Slip
slip_in (Ok r) = r.slip ∷ []
slip_in (Err e) = []

-- after one event
abbrev pub with_event : Kept → Event → Kept
with_event k e = record { state = stepped k.state e; slips = k.slips ++ slip_in (answered k.state e) }

abbrev pub with_events : Kept → List Event → Kept
with_events k es = fold with_event k es

-- one event was handed over: its answer, and what is on the desk. Declined, it changes nothing; without memory its slip is missing.
abbrev pub Handed : Kept → Event → Result Reply Fault → Kept → Type 0
Handed k e (Ok r) after = (Ok r ≡ answered k.state e) × (after ≡ with_event k e)
Handed k e (Err (Declined x)) after = (Err x ≡ answered k.state e) × (after ≡ k)
Handed k e (Err NoMemory) after = (after.state ≡ stepped k.state e) × (after.slips ≡ k.slips)

-- events were handed over in order, e last: all of them if the answer is a reply, which is that to e; else all up to the one that met the fault
abbrev pub HandedAll : Kept → List Event → Event → Result Reply Fault → Kept → Type 0
HandedAll k es e (Ok r) after = (Ok r ≡ answered (with_events k es).state e) × (after ≡ with_event (with_events k es) e)
HandedAll k es e (Err f) after = (n : ℕ) × (n ≤ length es) × Handed (with_events k (take n (es ++ e ∷ []))) (slice_index_or (es ++ e ∷ []) n e) (Err f) after

-- WHAT BECAME OF CHARACTERS

-- the account; too many slips are a fault
abbrev pub or_declined : Result Account Refusal → Result Account Fault
or_declined (Ok a) = Ok a
or_declined (Err x) = Err (Declined x)

-- whether a slip names a character
abbrev pub named_by : Slip → ℕ → Bool
named_by s n = s.received.first == n || s.received.second == n || s.received.third == n

-- what is told of it after one more slip
abbrev pub told_by : ℕ → ReceiveCode → Slip → ReceiveCode
told_by n code s = cond (named_by s n) s.receive code

-- what the last slip that names it tells
abbrev pub fate_in : ℕ → List Slip → ReceiveCode
fate_in n slips = fold (told_by n) Nothing slips
