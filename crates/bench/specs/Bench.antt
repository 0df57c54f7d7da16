-- What is done at the bench, and what is seen there, by the definitions that the adapter's calls promise. Assumes nothing.
use Rattle.std.specs.Prelude.{◌≡◌, ℕ, zero, suc, ◌+◌, ◌*◌, ◌^◌, Bool, false, cond, List, [], ◌∷◌, ◌++◌, Some, None, Option, Ok, Err, vec_items, fold, Result, Vec, nat_lt}
use Rattle.std.specs.Option.{unwrap_or}
use Rattle.std.specs.Result.{result_err, result_unwrap_or}
use Rattle.std.specs.declared.alloc.AllocError.{AllocError}
use Rattle.std.specs.declared.alloc.Global.{Global}
use Rattle.serial.specs.Events.{character_events, refusal_number}
use Rattle.serial.specs.Queue.{standing_at}
use Rattle.serial.specs.Slips.{quiet_slip, receive_number, queue_number, shift_number}
use Rattle.serial.specs.declared.event.Cycle.TheVariants as cycle
use Rattle.serial.specs.declared.event.Event.{Event}
use Rattle.serial.specs.declared.event.Event.TheVariants.{Bus, ReceivedBit, TransmitClock, PinLevel}
use Rattle.serial.specs.declared.event.Refusal.{Refusal}
use Rattle.serial.specs.declared.queue.Numbers.{Numbers}
use Rattle.serial.specs.declared.slip.Reply.{Reply}
use Rattle.ssda.specs.declared.state.State.{State}
use Rattle.ssda.specs.State.{new_state}
use Rattle.ssda.specs.Stepped.{stepped, answered, standing_in}
use Rattle.bench.specs.declared.script.Check.{Check}
use Rattle.bench.specs.declared.script.Act.{Act}
use Rattle.bench.specs.declared.script.Act.TheVariants as the
use Rattle.bench.specs.declared.script.Field.{Field}
use Rattle.bench.specs.declared.script.Field.TheVariants.{First, Second, Third}
use Rattle.bench.specs.declared.script.Line.{Line}
use Rattle.bench.specs.declared.script.Line.TheVariants.{Do, Comes}
use Rattle.bench.specs.declared.script.Reading.{Reading}
use Rattle.bench.specs.declared.script.Reading.TheVariants as reading

-- the adapter's state, the answer to the last event, and the bits that the last clocks showed, as a number with the first bit highest
pub record Seen : Type 0 where
  pub state : State
  pub answer : Result Reply Refusal
  pub line : ℕ

abbrev pub blank : Reply
blank = record { value = 0; interrupt = false; sm_dtr = false; underflow = false; slip = quiet_slip }

-- a new adapter, and nothing done yet
abbrev pub new_seen : Seen
new_seen = record { state = new_state; answer = Ok blank; line = 0 }

-- WHAT IS DONE

abbrev pub handed : Seen → Event → Seen
handed v e = record { state = stepped v.state e; answer = answered v.state e; line = v.line }

abbrev pub reply_in : Result Reply Refusal → Reply
reply_in r = result_unwrap_or r blank

-- one more bit on the line; at most 31 bits fit
abbrev pub with_bit : ℕ → ℕ → ℕ
with_bit l b = cond (nat_lt l (2 ^ 30)) (l * 2 + b) l

abbrev pub clocked : Seen → Seen
clocked v = record {
  state = stepped v.state TransmitClock;
  answer = answered v.state TransmitClock;
  line = with_bit v.line (reply_in (answered v.state TransmitClock)).value;
}

abbrev pub clocks : Seen → ℕ → Seen
clocks v zero = record { state = v.state; answer = v.answer; line = 0 }
clocks v (suc n) = clocked (clocks v n)

-- the eight bits of a character, lowest first
abbrev pub heard : Seen → ℕ → Seen
heard v b = fold handed v (character_events b)

abbrev pub did : Seen → Act → Seen
did v the.Idle = handed v (Bus cycle.Idle)
did v (the.Read rs) = handed v (Bus (cycle.Read rs))
did v (the.Write rs b) = handed v (Bus (cycle.Write rs b))
did v (the.Bit b) = handed v (ReceivedBit b)
did v (the.Character b) = heard v b
did v (the.Clocks n) = clocks v n
did v (the.Pin p l) = handed v (PinLevel p l)

-- WHAT IS SEEN

abbrev pub field_of : Numbers → Field → ℕ
field_of x First = x.first
field_of x Second = x.second
field_of x Third = x.third

-- what comes now, of the kind of the reading that is given, at its field or place; the value of that reading is not looked at
abbrev pub looked : Seen → Reading → Reading
looked v (reading.Byte b) = reading.Byte (reply_in v.answer).value
looked v (reading.Interrupt b) = reading.Interrupt (reply_in v.answer).interrupt
looked v (reading.SmDtr b) = reading.SmDtr (reply_in v.answer).sm_dtr
looked v (reading.Underflow b) = reading.Underflow (reply_in v.answer).underflow
looked v (reading.Receive c) = reading.Receive (reply_in v.answer).slip.receive
looked v (reading.Received f n) = reading.Received f (field_of (reply_in v.answer).slip.received f)
looked v (reading.Queue c) = reading.Queue (reply_in v.answer).slip.queue
looked v (reading.Queued f n) = reading.Queued f (field_of (reply_in v.answer).slip.queued f)
looked v (reading.Shift c) = reading.Shift (reply_in v.answer).slip.shift
looked v (reading.Shifted n) = reading.Shifted (reply_in v.answer).slip.shifted
looked v (reading.Refusal r) = reading.Refusal (result_err v.answer)
looked v (reading.Line l) = reading.Line v.line
looked v (reading.Waiting p n) = reading.Waiting p (standing_at (standing_in v.state).received p)
looked v (reading.Shifting n) = reading.Shifting (standing_in v.state).shifting

-- a signal, a refusal or none, and a character or nobody, as numbers
abbrev pub signal : Bool → ℕ
signal b = cond b 1 0

abbrev pub refusal_in : Option Refusal → ℕ
refusal_in None = 0
refusal_in (Some r) = refusal_number r

abbrev pub reading_number : Reading → ℕ
reading_number (reading.Byte b) = b
reading_number (reading.Interrupt b) = signal b
reading_number (reading.SmDtr b) = signal b
reading_number (reading.Underflow b) = signal b
reading_number (reading.Receive c) = receive_number c
reading_number (reading.Received f n) = n
reading_number (reading.Queue c) = queue_number c
reading_number (reading.Queued f n) = n
reading_number (reading.Shift c) = shift_number c
reading_number (reading.Shifted n) = n
reading_number (reading.Refusal r) = refusal_in r
reading_number (reading.Line l) = l
reading_number (reading.Waiting p n) = unwrap_or n 0
reading_number (reading.Shifting n) = unwrap_or n 0

-- A SCRIPT

-- all that must come does come, line by line
abbrev pub Holds : Seen → List Line → Type 0
Holds v [] = Unit {0}
Holds v (Do a ∷ ls) = Holds (did v a) ls
Holds v (Comes r ∷ ls) = (looked v r ≡ r) × Holds v ls

-- a script under way: what is seen, and what came at each reading so far, beside what should come
pub record Notes : Type 0 where
  pub seen : Seen
  pub checks : List Check

abbrev pub noted : Notes → Line → Notes
noted n (Do a) = record { seen = did n.seen a; checks = n.checks }
noted n (Comes r) = record { seen = n.seen; checks = n.checks ++ record { came = looked n.seen r; should = r } ∷ [] }

-- all that comes of a script on a new adapter
abbrev pub checked_all : List Line → List Check
checked_all ls = (fold noted (record { seen = new_seen; checks = [] }) ls).checks

abbrev pub Played : List Line → Result (Vec Check Global) AllocError → Type 0
Played ls (Ok checks) = vec_items checks ≡ checked_all ls
Played ls (Err e) = Unit {0}

-- it came as it should
abbrev pub Agrees : Check → Type 0
Agrees c = c.came ≡ c.should
