-- What the calls of one new adapter answer to a list of events, and that this is lawful. Assumes nothing.
use Rattle.std.specs.Prelude.{◌≡◌, ℕ, zero, suc, ◌-◌, ◌<◌, List, map, length, Ok, Err, vec_items, Result, Vec}
use Rattle.std.specs.List.{range_with_len}
use Rattle.std.specs.declared.alloc.AllocError.{AllocError}
use Rattle.std.specs.declared.alloc.Global.{Global}
use Rattle.serial.specs.declared.event.Event.{Event}
use Rattle.serial.specs.declared.event.Event.TheVariants.{Bus, ReceivedBit, TransmitClock, PinLevel}
use Rattle.serial.specs.declared.event.Cycle.TheVariants.{Idle, Read, Write}
use Rattle.serial.specs.declared.slip.Reply.{Reply}
use Rattle.serial.specs.declared.slip.Standing.{Standing}
use Rattle.ssda.specs.declared.receiver.Phase as chip
use Rattle.ssda.specs.declared.receiver.Phase.TheVariants.{Search, Second, InSync}
use Rattle.ssda.specs.declared.state.State.{State}
use Rattle.ssda.specs.declared.transmitter.Timing.{Timing}
use Rattle.ssda.specs.declared.transmitter.Timing.TheVariants.{Held, Starting, Showing}
use Rattle.ssda.specs.State.{new_state}
use Rattle.ssda.specs.Stepped.{stepped, answered, standing_in}
use Rattle.history.specs.declared.Replayed.{Replayed}
use Rattle.history.specs.Events.{bit_at}
use Rattle.history.specs.Settings.{History, ReadsStatus}
use Rattle.history.specs.Lines.{T, Phase, searching, one_sync_seen, in_sync, Receiver, Sending, still, starting, showing, Transmitter}
use Rattle.history.specs.Law.{Answer, history, Lawful}

-- the adapter's state at moment k, and its answer to event k, by the definitions that its calls promise
abbrev pub state_at : History → ℕ → State
state_at E zero = new_state
state_at E (suc k) = stepped (state_at E k) (E k)

abbrev pub answer_at : History → ℕ → Answer
answer_at E k = answered (state_at E k) (E k)

-- all answers to a list of events, and who waits or is being shifted after it
abbrev pub answers_to : List Event → List Answer
answers_to es = map (answer_at (history es)) (range_with_len 0 (length es))

abbrev pub standing_after : List Event → Standing
standing_after es = standing_in (state_at (history es) (length es))

-- what an event writes is a byte: below 256, as all that a program can hand over
abbrev pub WritesByte : Event → Type 0
WritesByte (Bus Idle) = Unit {0}
WritesByte (Bus (Read rs)) = Unit {0}
WritesByte (Bus (Write rs b)) = b < 256
WritesByte (ReceivedBit b) = Unit {0}
WritesByte TransmitClock = Unit {0}
WritesByte (PinLevel p l) = Unit {0}

abbrev pub WritesBytes : History → Type 0
WritesBytes E = (k : ℕ) → WritesByte (E k)

-- whatever the events, as long as what they write are bytes, the answers are lawful
abbrev pub EveryHistoryLawful : Type 0
EveryHistoryLawful = (es : List Event) → WritesBytes (history es) → Lawful es (answers_to es) (standing_after es)

-- all events were answered, and the adapter's state is now s: a question put to it is then lawful with the answers
abbrev pub AnswersAll : List Event → Result (Vec Answer Global) AllocError → State → Type 0
AnswersAll es (Ok xs) s =
    (vec_items xs ≡ answers_to es)
    × ((q : Standing) → q ≡ standing_in s → (q ≡ standing_after es) × Lawful es (vec_items xs) q)
AnswersAll es (Err e) s = Unit {0}

-- what a replay of these events comes to: every answer, and the question at the end, exactly as the calls' definitions give them, and
-- lawful; unless memory is out
abbrev pub Replays : List Event → Result Replayed AllocError → Type 0
Replays es (Ok run) =
    (vec_items run.answers ≡ answers_to es) × (run.standing ≡ standing_after es)
    × Lawful es (vec_items run.answers) run.standing
Replays es (Err e) = Unit {0}

-- the interrupt in a reply is bit 7 of a Status read made next
abbrev pub InterruptShown : Type 0
InterruptShown = (E : History) (k : ℕ) (r q : Reply) → answer_at E k ≡ Ok r → ReadsStatus E (suc k) → answer_at E (suc k) ≡ Ok q → bit_at 7 q.value ≡ r.interrupt

-- THE RULES OF FRAMING AND SENDING, AND THE CHIP

-- the chip's phase, with the bits that it counts, in the words of the rules
abbrev pub phase_of : chip.Phase → ℕ → Phase
phase_of Search n = searching
phase_of Second n = one_sync_seen n
phase_of InSync n = in_sync n

-- the rules' state of the transmitter in the words of the chip, which counts the bits to come
abbrev pub timing_for : History → Sending → Timing
timing_for E still = Held
timing_for E starting = Starting
timing_for E (showing l j) = Showing (T E l - j)

-- at every moment the adapter's receiver is in the phase, with the count of framed characters, that the rules of framing give, and its
-- transmitter is held, starts or shows a word as the rules of sending say
pub record Tied (E : History) (k : ℕ) (s : State) : Type 0 where
  pub receiver : Receiver E k (phase_of s.front.receiver.phase s.front.receiver.count) s.front.receiver.framed
  pub transmitter : (z : Sending) → Transmitter E k z → s.front.timing ≡ timing_for E z

abbrev pub LinesTied : Type 0
LinesTied = (E : History) → WritesBytes E → (k : ℕ) → Tied E k (state_at E k)
