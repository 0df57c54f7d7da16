-- Every answer of the adapter is truthful, and the whole law holds of every list of events whose writes are bytes. Assumes nothing.
use Rattle.std.proofs.Common.{◌≡◌, ℕ, ◌*◌, ◌/◌, ◌%◌, ◌<◌, ◌≤◌, Bool, true, false, cond, eqb, ◌↔◌, List, length, Some, Option, Ok, Err, Result, sym, ap, ◌∙◌, subst, arith}
use Rattle.std.proofs.lemmas.Option.{same_Some}
use Rattle.std.proofs.lemmas.List.FromFn.{length-map-range_with_len, get_or-map-range_with_len}
use Rattle.serial.specs.Life.{Stands, Shows}
use Rattle.serial.specs.declared.event.Event.{Event}
use Rattle.serial.specs.declared.event.Refusal.{Refusal}
use Rattle.serial.specs.declared.queue.Queue.{Queue}
use Rattle.serial.specs.declared.slip.Reply.{Reply}
use Rattle.serial.proofs.Moves.{shown}
use Rattle.ssda.specs.declared.state.State.{State}
use Rattle.ssda.specs.Front.{checked_by}
use Rattle.ssda.specs.Perform.{tells, replied}
use Rattle.ssda.specs.State.{status_of, conditions_of, interrupt_of}
use Rattle.ssda.specs.Status.{status_byte}
use Rattle.ssda.specs.declared.status.Conditions.{Conditions}
use Rattle.ssda.specs.declared.status.Flags.{Flags}
use Rattle.ssda.specs.Stepped.{answered_by, standing_in}
use Rattle.ssda.specs.Transmitter.{shifting_in}
use Rattle.history.specs.Events.{bit_at, reads}
use Rattle.history.specs.Settings.{History, ReadsStatus}
use Rattle.history.specs.Lines.{written}
use Rattle.history.specs.Law.{Answer, Truthful, Overrun, receiving, transmitting, Shifts, Declined, history, answer, Lawful}
use Rattle.history.specs.Answering.{WritesBytes, state_at, answer_at, answers_to, standing_after, EveryHistoryLawful}
use Rattle.history.proofs.Cases.{outcome_by}
use Rattle.history.proofs.Foretold.{one_shift}
use Rattle.history.proofs.OnePhase.{one_phase}
use Rattle.history.proofs.OneState.{one_state}
use Rattle.history.proofs.ReceiveSide as rec
use Rattle.history.proofs.ReceiveTie.{waits, received_right, overrun_flag}
use Rattle.history.proofs.ReceivedFates.{received_one_fate, delivered_rising}
use Rattle.history.proofs.Receiving.{count, receive_act, receiving_sane}
use Rattle.history.proofs.Refusals.{refused_at}
use Rattle.history.proofs.SentBits.{sent_bits}
use Rattle.history.proofs.TiedTransmitter.{timed}
use Rattle.history.proofs.ToldOnce.{received_once, written_once}
use Rattle.history.proofs.TransmitSide as sent
use Rattle.history.proofs.TransmitSide.{ShiftsNow, nobody, somebody, shifting_now_lem}
use Rattle.history.proofs.TransmitTie.{sends, written_right}
use Rattle.history.proofs.Transmitting.{transmit_act, transmitting_sane}
use Rattle.history.proofs.WrittenFates.{written_one_fate, sent_rising}

-- THE STATUS BYTE

-- a bit of a byte, and what it weighs
abbrev one : Bool → ℕ
one true = 1
one false = 0

weighs : (b : Bool) (w : ℕ) → (cond b w 0 ≡ w * one b) × (one b ≤ 1)
weighs b w = grind arith

one_is : (b : Bool) → eqb (one b) 1 ≡ b
one_is b = grind arith

module _ (f : Flags) (x : Conditions) (interrupt : Bool) where
  -- bits 5 and 7 of Status, where each bit weighs its part
  parts : (status_byte f x interrupt / 32 % 2 ≡ one f.overrun.set) × (status_byte f x interrupt / 128 % 2 ≡ one interrupt)
  parts = grind (arith, weighs)

  -- bit 5 is overrun
  bit_five : bit_at 5 (status_byte f x interrupt) ≡ f.overrun.set
  bit_five = ap (λ n. eqb n 1) parts.0 ∙ one_is f.overrun.set

  -- bit 7 is the interrupt
  pub bit_seven : bit_at 7 (status_byte f x interrupt) ≡ interrupt
  bit_seven = ap (λ n. eqb n 1) parts.1 ∙ one_is interrupt

-- a Status read gives the Status byte
pub status_value : (s : State) (e : Event) → reads 0 e ≡ true → (tells s e).value ≡ status_of s
status_value s e h = grind arith

-- EACH ANSWER

module _ (E : History) (bytes : WritesBytes E) (k : ℕ) where
  abbrev s : State
  s = state_at E k

  -- a Status read shows overrun
  overrun_shown : ReadsStatus E k → (bit_at 5 (tells s (E k)).value ≡ true) ↔ Overrun E k
  overrun_shown h =
      let e : bit_at 5 (tells s (E k)).value ≡ s.flags.overrun.set = ap (bit_at 5) (status_value s (E k) h) ∙ bit_five s.flags (conditions_of s) (interrupt_of s) in
      ((λ i. (overrun_flag E bytes k).0 (sym e ∙ i)), (λ o. e ∙ (overrun_flag E bytes k).1 o))

  -- the answer to an accepted event tells what happened
  replied_truthful : rec.RightIn E k (Ok (tells s (E k))) → sent.RightIn E k (Ok (tells s (E k))) → Truthful E k (replied s (E k))
  replied_truthful a b = record {
    received_told = a.told;
    dropped_told = b.dropped;
    shifted_told = b.shifted;
    bit_of_the_word = λ n l j i c x h w. b.bit n l j i c x h w;
    delivered_as_framed = a.byte;
    overrun_shown_exactly = overrun_shown;
  }

  -- by the check that the adapter makes
  truthful_by : (c : Result (Unit {0}) Refusal) → rec.RightIn E k (outcome_by c s (E k)) → sent.RightIn E k (outcome_by c s (E k)) → (r : Reply) → answered_by c s (E k) ≡ Ok r → Truthful E k r
  truthful_by c a b r e = grind (arith, replied_truthful)

  truthful_at : (r : Reply) → answer_at E k ≡ Ok r → Truthful E k r
  truthful_at r e = truthful_by (checked_by s.front (E k)) (received_right E bytes k) (written_right E bytes k) r e

  -- THE QUESTION

  -- it shows who waits where
  received_shown : (n p : ℕ) → Shows (standing_in s).received n p ↔ Stands (receiving E) k n p
  received_shown n p =
      subst (λ (q : Queue ℕ). Shows q n p ↔ Stands (receiving E) k n p) (sym (waits E bytes k).numbers) (shown (receiving E) (receive_act E) (count E) (receiving_sane E) k n p)

  queued_shown : (n p : ℕ) → Shows (standing_in s).queued n p ↔ Stands (transmitting E) k n p
  queued_shown n p =
      subst (λ (q : Queue ℕ). Shows q n p ↔ Stands (transmitting E) k n p) (sym (sends E bytes k).numbers) (shown (transmitting E) (transmit_act E) (written E) (transmitting_sane E) k n p)

  -- and who is being shifted
  number_shown : (m : Option ℕ) → ShiftsNow E k m → (n : ℕ) → (m ≡ Some n) ↔ ((l j : ℕ) × Shifts E k n l j)
  number_shown m (nobody e none) n = ((λ h. cc), (λ x. absurd (none n x.0 x.1 x.2)))
  number_shown m (somebody i l j x e) n = (to, from)
    where
      to : m ≡ Some n → (l j : ℕ) × Shifts E k n l j
      to h = (l, j, subst (λ (i : ℕ). Shifts E k i l j) (same_Some i n (sym e ∙ h)) x)

      from : (l j : ℕ) × Shifts E k n l j → m ≡ Some n
      from y = e ∙ ap Some (one_shift E k i l j n y.0 y.1 x y.2).0

  shifting_shown : (n : ℕ) → ((standing_in s).shifting ≡ Some n) ↔ ((l j : ℕ) × Shifts E k n l j)
  shifting_shown n = number_shown (shifting_in s.front.timing s.shift) (shifting_now_lem E k s (sends E bytes k) (timed E bytes k)) n

-- THE WHOLE LAW

module _ (es : List Event) (bytes : WritesBytes (history es)) where
  abbrev E : History
  E = history es

  -- the answer at a place in the list
  answer_is : (k : ℕ) → k < length es → answer (answers_to es) k ≡ answer_at E k
  answer_is k h = get_or-map-range_with_len (answer_at E) 0 (length es) k k _ h (omega arith)

  -- it is refused, and it tells, as the law says
  refused : (k : ℕ) → k < length es → (r : Refusal) → (answer (answers_to es) k ≡ Err r) ↔ Declined E k r
  refused k h r = subst (λ (a : Answer). (a ≡ Err r) ↔ Declined E k r) (sym (answer_is k h)) (refused_at E bytes k r)

  truthful : (k : ℕ) → k < length es → (r : Reply) → answer (answers_to es) k ≡ Ok r → Truthful E k r
  truthful k h r e = truthful_at E bytes k r (sym (answer_is k h) ∙ e)

  -- the law holds of the list
  lawful : Lawful es (answers_to es) (standing_after es)
  lawful = record {
    one_answer_each = length-map-range_with_len (answer_at E) 0 (length es);
    refused_exactly = refused;
    truthful = truthful;
    receiver_in_one_phase = one_phase E;
    transmitter_in_one_state = one_state E;
    each_received_one_fate = received_one_fate E (length es);
    received_told_once = received_once es (answers_to es) (standing_after es) refused truthful (received_shown E bytes (length es)) (queued_shown E bytes (length es)) (shifting_shown E bytes (length es));
    delivered_rise = delivered_rising E;
    each_written_one_fate = written_one_fate E (length es);
    written_told_once = written_once es (answers_to es) (standing_after es) refused truthful (received_shown E bytes (length es)) (queued_shown E bytes (length es)) (shifting_shown E bytes (length es));
    sent_rise = sent_rising E;
    sent_bits_are_the_word = sent_bits es (answers_to es) refused truthful;
    received_waiting_told = received_shown E bytes (length es);
    written_waiting_told = queued_shown E bytes (length es);
    shifting_told = shifting_shown E bytes (length es);
  }

pub every_history_lawful : EveryHistoryLawful
every_history_lawful es bytes = lawful es bytes
