-- One more event of a replay; the interrupt that a Status read shows; and the rules of both lines hold of the adapter. Assumes nothing.
use Rattle.std.proofs.Common.{◌≡◌, ℕ, suc, ◌+◌, ◌<◌, true, List, [], ◌∷◌, ◌++◌, map, length, Ok, Result, sym, ap, ◌∙◌, subst, ap₂, add-one, arith}
use Rattle.std.proofs.lemmas.Bool.{cases_lt}
use Rattle.std.proofs.lemmas.List.{get_or_past}
use Rattle.std.proofs.lemmas.List.FromFn.{map-range_with_len_more}
use Rattle.std.specs.List.{range_with_len}
use Rattle.serial.specs.declared.event.Event.{Event}
use Rattle.serial.specs.declared.event.Refusal.{Refusal}
use Rattle.serial.specs.declared.slip.Reply.{Reply}
use Rattle.serial.specs.declared.slip.Standing.{Standing}
use Rattle.ssda.specs.declared.state.State.{State}
use Rattle.ssda.specs.Front.{checked_by}
use Rattle.ssda.specs.State.{conditions_of, interrupt_of, status_of}
use Rattle.ssda.specs.Stepped.{stepped, stepped_by, answered, answered_by, standing_in}
use Rattle.history.specs.Events.{bit_at, reads}
use Rattle.history.specs.Lines.{Phase, Receiver}
use Rattle.history.specs.Law.{Answer, history, Lawful}
use Rattle.history.specs.Answering.{WritesByte, WritesBytes, state_at, answer_at, answers_to, standing_after, timing_for, InterruptShown, LinesTied}
use Rattle.history.proofs.OnePhase.{receiver_at}
use Rattle.history.proofs.OneState.{transmitter_is}
use Rattle.history.proofs.TiedReceiver.{heard}
use Rattle.history.proofs.TiedTransmitter.{timed}
use Rattle.history.proofs.Whole.{bit_seven, status_value, every_history_lawful}

-- ONE MORE EVENT, e at place k, from the state s

module _ (es : List Event) (k : ℕ) (e : Event) (s : State) (here : e ≡ history es k) (holds : s ≡ state_at (history es) k) where
  pub state_more : (after : State) → after ≡ stepped s e → after ≡ state_at (history es) (k + 1)
  state_more after done = done ∙ ap₂ stepped holds here ∙ ap (state_at (history es)) (sym (add-one k))

  pub answers_more : (a : Answer) (before after : List Answer) → a ≡ answered s e → before ≡ map (answer_at (history es)) (range_with_len 0 k) → after ≡ before ++ a ∷ [] → after ≡ map (answer_at (history es)) (range_with_len 0 (k + 1))
  answers_more a before after says so_far pushed =
      pushed
      ∙ ap₂ (λ xs x. xs ++ x ∷ []) so_far (says ∙ ap₂ answered holds here)
      ∙ sym (map-range_with_len_more (answer_at (history es)) 0 k k (omega arith))

-- where each event passed writes a byte, so does every event of the history: past the end nothing is written
pub bytes_of : (es : List Event) (k : ℕ) → length es ≡ k → ((i : ℕ) → i < k → WritesByte (history es i)) → WritesBytes (history es)
bytes_of es k end passed i = grind (arith, cases_lt, get_or_past)

-- all events passed
pub all_answered : (es : List Event) (bytes : WritesBytes (history es)) (k : ℕ) (s : State) (xs : List Answer) → length es ≡ k → s ≡ state_at (history es) k → xs ≡ map (answer_at (history es)) (range_with_len 0 k) → (xs ≡ answers_to es) × ((q : Standing) → q ≡ standing_in s → (q ≡ standing_after es) × Lawful es xs q)
all_answered es bytes k s xs end holds so_far =
    let state : s ≡ state_at (history es) (length es) = holds ∙ ap (state_at (history es)) (sym end) in
    let all : xs ≡ answers_to es = so_far ∙ ap (λ n. map (answer_at (history es)) (range_with_len 0 n)) (sym end) in (
      all,
      λ q h.
          let same : q ≡ standing_after es = h ∙ ap standing_in state in
          (same, subst (λ (q : Standing). Lawful es xs q) (sym same) (subst (λ (xs : List Answer). Lawful es xs (standing_after es)) (sym all) (every_history_lawful es bytes))),
    )

-- THE INTERRUPT

-- an accepted event's reply has the interrupt of the state after it
reply_interrupt : (c : Result (Unit {0}) Refusal) (s : State) (e : Event) (r : Reply) → answered_by c s e ≡ Ok r → r.interrupt ≡ interrupt_of (stepped_by c s e)
reply_interrupt c s e r h = grind arith

-- a Status read's reply has the Status byte of the state before it
reply_status : (c : Result (Unit {0}) Refusal) (s : State) (e : Event) (r : Reply) → reads 0 e ≡ true → answered_by c s e ≡ Ok r → r.value ≡ status_of s
reply_status c s e r h i = grind (arith, status_value)

pub interrupt_shown_lem : InterruptShown
interrupt_shown_lem E k r q a h b =
    let s = state_at E (suc k) in
    ap (bit_at 7) (reply_status (checked_by s.front (E (suc k))) s (E (suc k)) q h b)
    ∙ bit_seven s.flags (conditions_of s) (interrupt_of s)
    ∙ sym (reply_interrupt (checked_by (state_at E k).front (E k)) (state_at E k) (E k) r a)

-- THE LINES

pub lines_tied_lem : LinesTied
lines_tied_lem E bytes k = record {
  receiver = subst (λ (x : Phase × ℕ). Receiver E k x.0 x.1) (sym (heard E bytes k).seen) (receiver_at E k);
  transmitter = λ z t. timed E bytes k ∙ ap (timing_for E) (sym (transmitter_is E k z t));
}
