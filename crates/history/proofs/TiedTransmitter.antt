-- The adapter's transmitter is held, starts or shows a word as the rules of sending say. Assumes nothing.
use Rattle.std.proofs.Common.{◌≡◌, ℕ, zero, suc, Bool, true, false, cond, ◌||◌, sym, refl, ap, ◌∙◌, subst, arith}
use Rattle.std.proofs.lemmas.Bool.Decides.{nat_tests}
use Rattle.serial.specs.declared.event.Event.{Event}
use Rattle.serial.specs.Words.{total_bits}
use Rattle.ssda.specs.declared.front.Front.{Front}
use Rattle.ssda.specs.declared.state.State.{State}
use Rattle.ssda.specs.declared.transmitter.Timing.{Timing}
use Rattle.ssda.specs.declared.transmitter.Timing.TheVariants.{Held, Starting}
use Rattle.ssda.specs.Front.{off_of, held_of, heard_front}
use Rattle.ssda.specs.Transmitter.{ticked}
use Rattle.history.specs.Events.{clocks}
use Rattle.history.specs.Settings.{History, held}
use Rattle.history.specs.Lines.{T, Sending}
use Rattle.history.specs.Answering.{WritesBytes, state_at, timing_for}
use Rattle.history.proofs.Apart.{inert}
use Rattle.history.proofs.Cases.{Outcome, Cases, by_cases}
use Rattle.history.proofs.Computed.{clocked, next_sending, sending_at}
use Rattle.history.proofs.OneState.{Good, good_at}
use Rattle.history.proofs.Tied.{tied, c1_front, bit_front, heard_view}
use Rattle.history.proofs.Views.{View, view_of, view_at}

-- THE RULES OVER SETTINGS, before and after an event

-- the transmitter is held; its timing after the event
abbrev held_in : View → Bool
held_in v = v.tx || v.cts

abbrev next_timing : View → View → Bool → Timing → Timing
next_timing v w c t = cond (held_in w) Held (cond (held_in v) Starting (cond c (ticked t (total_bits v.form)) t))

-- a clock, in the law and in the chip
module _ (E : History) (k : ℕ) where
  clock_ticked : (s : Sending) → Good E k s → timing_for E (clocked E k s) ≡ ticked (timing_for E s) (T E k)
  clock_ticked s g = grind (arith, nat_tests)

  -- one event further
  sending_next : (s : Sending) → Good E k s → timing_for E (next_sending E k s) ≡ next_timing (view_at E k) (view_at E (suc k)) (clocks (E k)) (timing_for E s)
  sending_next s g = grind (arith, clock_ticked s g)

  -- while the transmitter is held it is still
  held_still : (s : Sending) → Good E k s → held E k ≡ true → timing_for E s ≡ Held
  held_still s g h = grind arith

-- EACH EVENT

-- a received bit leaves the timing
heard_timing : (f : Front) (b : ℕ) (t : Bool) → off_of f ≡ t → (heard_front f b).timing ≡ f.timing
heard_timing f b t e = grind arith

module _ (s : State) (holds : held_of s.front ≡ true → s.front.timing ≡ Held) where
  abbrev f : Front
  f = s.front

  -- the timing after the event is the one that the rules give
  abbrev Timed : Event → State → Outcome → Type 0
  Timed e t o = t.front.timing ≡ next_timing (view_of f) (view_of t.front) (clocks e) f.timing

  -- the front is g after an event that is no clock
  abbrev TimedAs : Front → Type 0
  TimedAs g = g.timing ≡ next_timing (view_of f) (view_of g) false f.timing

  -- without a clock, and with one, where no setting changes
  same_timed : TimedAs f
  same_timed = grind arith

  clock_timed : ticked f.timing (total_bits f.setup.form) ≡ next_timing (view_of f) (view_of f) true f.timing
  clock_timed = grind arith

  -- each case
  timed_cases : Cases s Timed
  timed_cases = record {
    idle = same_timed;
    status = same_timed;
    data_read = same_timed;
    c1 = λ b. subst TimedAs (sym (c1_front s b)) refl;
    c2 = λ b e. same_timed;
    c3 = λ b e. refl;
    code = λ b e. same_timed;
    byte = λ b e r. same_timed;
    bit = λ b l r. subst TimedAs (sym (bit_front s b)) (simp (heard_view f b (off_of f) refl) (heard_timing f b (off_of f) refl ∙ same_timed));
    clock = clock_timed;
    reset_falls = λ e. refl;
    reset_rises = λ e. same_timed;
    cts_falls = λ e. refl;
    cts_rises = λ e. refl;
    dcd_falls = λ e. refl;
    dcd_rises = λ e. refl;
    same_reset = λ l h e. same_timed;
    same_cts = λ l h e. same_timed;
    same_dcd = λ l h e. same_timed;
    outside = λ e r x. simp (inert e r x).mild.no_clock same_timed;
    framed_full = λ b l r. same_timed;
    written_full = λ b e r. same_timed;
  }

-- THE TIE

-- the transmitter of the adapter is as the rules of sending say, at every moment
pub timed : (E : History) (bytes : WritesBytes E) (k : ℕ) → (state_at E k).front.timing ≡ timing_for E (sending_at E k)
timed E bytes zero = refl
timed E bytes (suc k) =
    let before = state_at E k in
    let after = state_at E (suc k) in
    let held_now = λ (h : held_of before.front ≡ true). timed E bytes k ∙ held_still E k (sending_at E k) (good_at E k) (sym (ap held_in (tied E bytes k)) ∙ h) in
    by_cases before (Timed before held_now) (timed_cases before held_now) (E k)
    ∙ ap (λ v. next_timing v (view_of after.front) (clocks (E k)) before.front.timing) (tied E bytes k)
    ∙ ap (λ w. next_timing (view_at E k) w (clocks (E k)) before.front.timing) (tied E bytes (suc k))
    ∙ ap (next_timing (view_at E k) (view_at E (suc k)) (clocks (E k))) (timed E bytes k)
    ∙ sym (sending_next E k (sending_at E k) (good_at E k))
