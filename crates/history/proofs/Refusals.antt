-- The adapter refuses an event exactly when the rules decline it, and for their reason. Assumes nothing.
use Rattle.std.proofs.Common.{◌≡◌, ℕ, zero, suc, ◌<◌, ◌≤◌, cond, ◌↔◌, Some, None, Ok, Err, Option, Result, ◌==◌, sym, refl, ap, ◌∙◌, subst, arith}
use Rattle.std.proofs.lemmas.Bool.Decides.{nat_tests}
use Rattle.std.proofs.lemmas.Bool.{le-leb}
use Rattle.serial.specs.declared.event.Cycle.TheVariants.{Write}
use Rattle.serial.specs.declared.event.Event.{Event}
use Rattle.serial.specs.declared.event.Event.TheVariants.{Bus}
use Rattle.serial.specs.declared.event.Refusal.{Refusal}
use Rattle.ssda.specs.declared.control.Target.{Target}
use Rattle.ssda.specs.declared.control.Target.TheVariants.{C2, C3, SyncCode, TransmitData}
use Rattle.ssda.specs.declared.state.State.{State}
use Rattle.ssda.specs.Front.{checked_by}
use Rattle.ssda.specs.Stepped.{answered_by}
use Rattle.history.specs.Events.{refusal_by_range, received, writes}
use Rattle.history.specs.Settings.{History, to_data}
use Rattle.history.specs.Lines.{limit, Receiver, written}
use Rattle.history.specs.Law.{Declined, out_of_range, framed_full, written_full}
use Rattle.history.specs.Answering.{WritesBytes, state_at, answer_at}
use Rattle.history.proofs.Calm.{not_to_data}
use Rattle.history.proofs.Cases.{Outcome, Cases, by_cases, outcome, outcome_by}
use Rattle.history.proofs.Computed.{phase_at}
use Rattle.history.proofs.Declining.{refusal_one}
use Rattle.history.proofs.OnePhase.{receiver_at, receiver_is}
use Rattle.history.proofs.Receiving.{count, count_step}
use Rattle.history.proofs.Tied.{tied, written_now}
use Rattle.history.proofs.TiedReceiver.{framed_at}
use Rattle.history.proofs.Views.{at, place_of}

-- no more than all numbers are ever used
written_most : (E : History) (k : ℕ) → written E k ≤ limit
written_most E zero = omega arith
written_most E (suc k) = let h = written_most E k in grind (arith, nat_tests)

framed_most : (E : History) (k : ℕ) → count E k ≤ limit
framed_most E zero = omega arith
framed_most E (suc k) = let h = framed_most E k in grind (arith, count_step E k)

-- the byte that event k writes to transmit data, by where the adapter's writes with RS 1 go
abbrev pub data_by : Target → Option ℕ → Option ℕ
data_by t w = cond (place_of t == 3) w None

module _ (E : History) (bytes : WritesBytes E) (k : ℕ) where
  abbrev s : State
  s = state_at E k

  -- a byte goes to transmit data where the adapter sends it
  to_data_lem : to_data E k ≡ data_by s.front.control.target (writes 1 (E k))
  to_data_lem = ap (λ v. at v 3 (writes 1 (E k))) (sym (tied E bytes k))

  pub data_by_lem : (b : ℕ) (t : Target) → s.front.control.target ≡ t → E k ≡ Bus (Write 1 b) → to_data E k ≡ data_by t (Some b)
  data_by_lem b t e x = to_data_lem ∙ ap (λ t. data_by t (writes 1 (E k))) e ∙ ap (λ e. data_by t (writes 1 e)) x

  -- an event that is in its range and for which there is room
  accepted : refusal_by_range (E k) ≡ None → ((b : ℕ) → received (E k) ≡ Some b → count E k < limit) → ((b : ℕ) → to_data E k ≡ Some b → written E k < limit) → (r : Refusal) → Declined E k r → ⊥
  accepted h i j r d = grind (arith, receiver_is)

  -- what the rules say of an outcome: they decline the event for this reason, or not at all
  abbrev Agrees : Outcome → Type 0
  Agrees (Ok x) = (r : Refusal) → Declined E k r → ⊥
  Agrees (Err q) = Declined E k q

  abbrev Rightly : Event → State → Outcome → Type 0
  Rightly e t o = E k ≡ e → Agrees o

  -- no bit, no write: in range is enough
  calmly : (e : Event) → refusal_by_range e ≡ None → received e ≡ None → writes 1 e ≡ None → E k ≡ e → (r : Refusal) → Declined E k r → ⊥
  calmly e h i j x = grind (arith, accepted, not_to_data)

  -- a write to another register
  aside : (b : ℕ) (t : Target) → s.front.control.target ≡ t → data_by t (Some b) ≡ None → E k ≡ Bus (Write 1 b) → (r : Refusal) → Declined E k r → ⊥
  aside b t e h x = grind (arith, accepted, data_by_lem)

  -- each case
  right_cases : Cases s Rightly
  right_cases = record {
    idle = λ x. calmly _ refl refl refl x;
    status = λ x. calmly _ refl refl refl x;
    data_read = λ x. calmly _ refl refl refl x;
    c1 = λ b x. calmly _ refl refl refl x;
    c2 = λ b e x. aside b C2 e refl x;
    c3 = λ b e x. aside b C3 e refl x;
    code = λ b e x. aside b SyncCode e refl x;
    byte = λ b e h x. accepted (ap refusal_by_range x) (λ c came. cc (ap received x)) (λ c came. omega (arith, h, written_now E bytes k));
    bit = λ b l h x. accepted (ap refusal_by_range x ∙ simp (le-leb b 1 l)) (λ c came. omega (arith, h, framed_at E bytes k)) (not_to_data E k (ap (writes 1) x));
    clock = λ x. calmly _ refl refl refl x;
    reset_falls = λ e x. calmly _ refl refl refl x;
    reset_rises = λ e x. calmly _ refl refl refl x;
    cts_falls = λ e x. calmly _ refl refl refl x;
    cts_rises = λ e x. calmly _ refl refl refl x;
    dcd_falls = λ e x. calmly _ refl refl refl x;
    dcd_rises = λ e x. calmly _ refl refl refl x;
    same_reset = λ l h e x. calmly _ (simp (le-leb l 1 h)) refl refl x;
    same_cts = λ l h e x. calmly _ (simp (le-leb l 1 h)) refl refl x;
    same_dcd = λ l h e x. calmly _ (simp (le-leb l 1 h)) refl refl x;
    outside = λ e r o x. out_of_range r (ap refusal_by_range x ∙ o);
    framed_full = λ b l h x.
        framed_full b (ap received x ∙ simp (le-leb b 1 l)) ((phase_at E k).0, let P : ℕ → Type 0 = λ n. Receiver E k (phase_at E k).0 n in subst P (all_framed h) (receiver_at E k));
    written_full = λ b e h x. written_full b (data_by_lem b TransmitData e x) (all_written h);
  }
    where
      all_framed : limit ≤ s.front.receiver.framed → count E k ≡ limit
      all_framed h = omega (arith, h, framed_at E bytes k, framed_most E k)

      all_written : limit ≤ s.front.written → written E k ≡ limit
      all_written h = omega (arith, h, written_now E bytes k, written_most E k)

  -- the outcome is the one that the rules ask for
  rightly : Agrees (outcome s (E k))
  rightly = by_cases s Rightly right_cases (E k) refl

  -- the adapter's answer to event k, by the check that it makes
  answer_by : (c : Result (Unit {0}) Refusal) → Agrees (outcome_by c s (E k)) → (r : Refusal) → (answered_by c s (E k) ≡ Err r) ↔ Declined E k r
  answer_by c h r = grind (arith, refusal_one)

  pub refused_at : (r : Refusal) → (answer_at E k ≡ Err r) ↔ Declined E k r
  refused_at r = answer_by (checked_by s.front (E k)) rightly r
