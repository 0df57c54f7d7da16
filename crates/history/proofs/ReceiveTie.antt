-- The receive side of the adapter is as the rules say, at every moment. Assumes nothing.
use Rattle.std.proofs.Common.{◌≡◌, ℕ, zero, suc, ◌≤◌, Bool, true, false, cond, eqb, ◌↔◌, [], Some, None, Ok, Option, sym, refl, ap, ◌∙◌, arith}
use Rattle.std.proofs.lemmas.Option.{same_Some, none-some}
use Rattle.std.proofs.lemmas.Bool.{le-leb, false≢true}
use Rattle.serial.specs.Moves.{acted}
use Rattle.serial.specs.Queue.{empty_queue, fields}
use Rattle.serial.specs.declared.event.Event.{Event}
use Rattle.serial.specs.declared.event.Cycle.TheVariants.{Write}
use Rattle.serial.specs.declared.event.Event.TheVariants.{Bus, ReceivedBit}
use Rattle.serial.specs.declared.slip.ReceiveCode.TheVariants as rx
use Rattle.ssda.specs.declared.state.State.{State}
use Rattle.ssda.specs.declared.transmitter.Byte.{Byte}
use Rattle.ssda.specs.Control as reg
use Rattle.ssda.specs.Step.{both_resets, both_told, cleared_received, c1_was_written, c1_told, fell_under_reset, reset_told, clocked, overwrite_of}
use Rattle.ssda.specs.Transmitter.{loads_at, shifting_in}
use Rattle.history.specs.Events.{idles, reads, writes, received, level_for}
use Rattle.history.specs.Settings.{History, or_else, bit_of, reset, by_rx_rs, by_reset, Falls}
use Rattle.history.specs.Lines.{limit}
use Rattle.history.specs.Law.{Overrun}
use Rattle.history.specs.Answering.{WritesBytes, state_at}
use Rattle.history.proofs.Apart.{inert}
use Rattle.history.proofs.Cases.{Outcome, Cases, by_cases, outcome}
use Rattle.history.proofs.Contents.{each_empty, shift_alone}
use Rattle.history.proofs.OverrunFlag.{armed_by_a_status_read, overrun_exactly}
use Rattle.history.proofs.ReceiveSide.{Origin, Waits, RightIn, Turned, Still, QuietIn, plain, kept, idle_turned, read_turned, reset_turned, bit_turned}
use Rattle.history.proofs.Receiving.{receive_act, numbered, unframed}
use Rattle.history.proofs.Resets.{no_fall, no_fall_to, no_rx, calm_rx}
use Rattle.history.proofs.Tied.{reset_now}
use Rattle.history.proofs.TiedReceiver.{framed_at}

-- WHAT BOTH RESETS LEAVE AND TELL OF THE RECEIVE SIDE

-- a reset of the receiver empties its queue and clears overrun
reset_leaves : (x y : Bool) (s : State) → x ≡ true → ((both_resets x y s).receive ≡ empty_queue) × ((both_resets x y s).flags.overrun.set ≡ false) × ((both_resets x y s).flags.overrun.armed ≡ false)
reset_leaves x y s e = grind arith

reset_tells : (x y : Bool) (s : State) → x ≡ true → ((both_told x y s).receive ≡ cond (eqb (cleared_received s).first 0) rx.Nothing rx.Cleared) × ((both_told x y s).received ≡ cleared_received s)
reset_tells x y s e = grind arith

-- no reset of it leaves both
kept_leaves : (x y : Bool) (s : State) → x ≡ false → ((both_resets x y s).receive ≡ s.receive) × ((both_resets x y s).flags.overrun.set ≡ s.flags.overrun.set) × ((both_resets x y s).flags.overrun.armed ≡ s.flags.overrun.armed)
kept_leaves x y s e = grind arith

kept_tells : (x y : Bool) (s : State) → x ≡ false → ((both_told x y s).receive ≡ rx.Nothing) × ((both_told x y s).received ≡ fields [])
kept_tells x y s e = grind arith

-- EVENTS THAT DO NOTHING TO THE RECEIVE QUEUE

module _ (E : History) (k : ℕ) where
  still_by : (e : Event) → E k ≡ e → received e ≡ None → idles e ≡ false → reads 1 e ≡ false → (bit_of 0 (writes 0 e) ≡ Some true → ⊥) → (Falls (reset E) k → ⊥) → Still E k
  still_by e x a b c d f = record {
    no_frame = unframed E k (ap received x ∙ a);
    no_idle = ap idles x ∙ b;
    no_data = ap (reads 1) x ∙ c;
    no_reset = no_rx E k (λ h. d (sym (ap (λ e. bit_of 0 (writes 0 e)) x) ∙ h)) f;
  }

  -- such an event that writes nothing to C1, and does not move RESET
  still_off : (e : Event) → E k ≡ e → received e ≡ None → idles e ≡ false → reads 1 e ≡ false → writes 0 e ≡ None → level_for 0 e ≡ None → Still E k
  still_off e x a b c d f = still_by e x a b c (λ h. none-some true (sym (ap (bit_of 0) d) ∙ h)) (no_fall E k (ap (level_for 0) x ∙ f))

-- what a write tells is nothing of received characters
overwrites_nothing : (o : Option Byte) → ((overwrite_of o).receive ≡ rx.Nothing) × ((overwrite_of o).received ≡ fields [])
overwrites_nothing o = grind arith

-- a transmit clock leaves the receive side
clock_receive : (s : State) → ((clocked s).receive ≡ s.receive) × ((clocked s).flags.overrun.set ≡ s.flags.overrun.set) × ((clocked s).flags.overrun.armed ≡ s.flags.overrun.armed)
clock_receive s = grind arith

module _ (E : History) (bytes : WritesBytes E) (k : ℕ) (w : Waits E k (state_at E k).receive) where
  abbrev s : State
  s = state_at E k

  -- an event that does nothing on the receive side
  aside : (e : Event) → E k ≡ e → Still E k → reads 0 e ≡ false → (t : State) (o : Outcome) → t.receive ≡ s.receive → t.flags.overrun.set ≡ s.flags.overrun.set → t.flags.overrun.armed ≡ s.flags.overrun.armed → QuietIn E k o → Turned E k s t o
  aside e x q u t o a b c d = plain E k q s t o w a (kept E k q (λ h. false≢true (sym (ap (reads 0) x ∙ u) ∙ h)) s t b c) d

  -- a write to C1
  write_turned : (b : ℕ) → E k ≡ Bus (Write 0 b) → (z : Bool) → reg.bit_of 0 b ≡ z → Turned E k s (c1_was_written s b) (Ok (c1_told s b))
  write_turned b x true e =
      let l = reset_leaves (reg.bit_of 0 b) (reg.bit_of 1 b) s e in let t = reset_tells (reg.bit_of 0 b) (reg.bit_of 1 b) s e in
      reset_turned E k s w (by_rx_rs (ap (λ e. bit_of 0 (writes 0 e)) x ∙ ap Some e)) (λ h. false≢true (sym (ap (reads 1) x) ∙ h)) (unframed E k (ap received x)) (c1_was_written s b) (c1_told s b) l.0 l.1 l.2 t.0 t.1
  write_turned b x false e =
      let l = kept_leaves (reg.bit_of 0 b) (reg.bit_of 1 b) s e in
      aside _ x (still_by E k _ x refl refl refl (λ h. false≢true (sym e ∙ same_Some _ _ h)) (no_fall E k (ap (level_for 0) x))) refl (c1_was_written s b) (Ok (c1_told s b)) l.0 l.1 l.2 (kept_tells (reg.bit_of 0 b) (reg.bit_of 1 b) s e)

  abbrev TurnedBy : Event → State → Outcome → Type 0
  TurnedBy e t o = E k ≡ e → Turned E k s t o

  -- each case
  turned_cases : Cases s TurnedBy
  turned_cases = record {
    idle = λ x. idle_turned E k s w x;
    status = λ x. plain E k (still_off E k _ x refl refl refl refl refl) s _ _ w refl (armed_by_a_status_read (ap (reads 0) x) refl refl) (refl, refl);
    data_read = λ x. read_turned E k s w x;
    c1 = λ b x. write_turned b x _ refl;
    c2 = λ b e x. aside _ x (still_off E k _ x refl refl refl refl refl) refl _ _ refl refl refl (refl, refl);
    c3 = λ b e x. aside _ x (still_off E k _ x refl refl refl refl refl) refl _ _ refl refl refl (refl, refl);
    code = λ b e x. aside _ x (still_off E k _ x refl refl refl refl refl) refl _ _ refl refl refl (refl, refl);
    byte = λ b e h x. aside _ x (still_off E k _ x refl refl refl refl refl) refl _ _ refl refl refl (overwrites_nothing s.transmit.one);
    bit = λ b l h x. bit_turned E bytes k w b l x h;
    clock = λ x. let c = clock_receive s in aside _ x (still_off E k _ x refl refl refl refl refl) refl _ _ c.0 c.1 c.2 (let a = shift_alone (shifting_in s.front.timing s.shift) (loads_at s.front.timing) in (a.0, a.1));
    reset_falls = λ e x.
        reset_turned E k s w (by_reset (sym (reset_now E bytes k) ∙ e, ap (λ e. or_else (level_for 0 e) (reset E k)) x)) (λ h. false≢true (sym (ap (reads 1) x) ∙ h)) (unframed E k (ap received x)) (fell_under_reset s) (reset_told s) refl refl refl refl refl;
    reset_rises = λ e x. aside _ x (still_by E k _ x refl refl refl (none-some true) (no_fall_to E k true (ap (level_for 0) x) (λ h. cc))) refl _ _ refl refl refl (refl, refl);
    cts_falls = λ e x. aside _ x (still_off E k _ x refl refl refl refl refl) refl _ _ refl refl refl (refl, refl);
    cts_rises = λ e x. aside _ x (still_off E k _ x refl refl refl refl refl) refl _ _ refl refl refl (refl, refl);
    dcd_falls = λ e x. aside _ x (still_off E k _ x refl refl refl refl refl) refl _ _ refl refl refl (refl, refl);
    dcd_rises = λ e x. aside _ x (still_off E k _ x refl refl refl refl refl) refl _ _ refl refl refl (refl, refl);
    same_reset = λ l h e x. aside _ x (still_by E k _ x refl refl refl (none-some true) (no_fall_to E k (eqb l 1) (ap (level_for 0) x ∙ simp (le-leb l 1 h)) (λ i. sym (reset_now E bytes k) ∙ sym e ∙ i))) refl _ _ refl refl refl (refl, refl);
    same_cts = λ l h e x. aside _ x (still_off E k _ x refl refl refl refl refl) refl _ _ refl refl refl (refl, refl);
    same_dcd = λ l h e x. aside _ x (still_off E k _ x refl refl refl refl refl) refl _ _ refl refl refl (refl, refl);
    outside = λ e r o x. let i = inert e r o in aside _ x (still_off E k _ x i.no_bit i.mild.no_idle (i.mild.unread 1 (omega arith)) i.mild.no_c1 (i.mild.unset 0 (omega arith))) (i.mild.unread 0 (omega arith)) _ _ refl refl refl tt;
    framed_full = λ b l h x. aside _ x (full b x h) refl _ _ refl refl refl tt;
    written_full = λ b e h x. aside _ x (still_off E k _ x refl refl refl refl refl) refl _ _ refl refl refl tt;
  }
    where
      full : (b : ℕ) → E k ≡ ReceivedBit b → limit ≤ s.front.receiver.framed → Still E k
      full b x h = record {
        no_frame = λ n g. omega (arith, h, framed_at E bytes k, g.bit.room, g.next, (numbered E k n g).0);
        no_idle = ap idles x;
        no_data = ap (reads 1) x;
        no_reset = calm_rx E k (record { unwritten = λ r. ap (writes r) x; unset = λ q. ap (level_for q) x });
      }

  -- every event
  turned : Turned E k s (state_at E (suc k)) (outcome s (E k))
  turned = by_cases s TurnedBy turned_cases (E k) refl

-- the receive queue holds what the rules say, at every moment
pub waits : (E : History) (bytes : WritesBytes E) (k : ℕ) → Waits E k (state_at E k).receive
waits E bytes zero = record { numbers = refl; contents = each_empty (Origin E) }
waits E bytes (suc k) =
    let t = turned E bytes k (waits E bytes k) in
    record { numbers = t.numbers ∙ ap (λ q. acted q (receive_act E k)) (waits E bytes k).numbers; contents = t.contents }

-- what is told of received characters is right, at every event
pub received_right : (E : History) (bytes : WritesBytes E) (k : ℕ) → RightIn E k (outcome (state_at E k) (E k))
received_right E bytes k = (turned E bytes k (waits E bytes k)).right

-- the overrun flag shows what the law says
pub overrun_flag : (E : History) (bytes : WritesBytes E) (k : ℕ) → ((state_at E k).flags.overrun.set ≡ true) ↔ Overrun E k
overrun_flag E bytes k = overrun_exactly E (λ i. (state_at E i).flags.overrun.set) (λ i. (state_at E i).flags.overrun.armed) refl refl (λ i. (turned E bytes i (waits E bytes i)).flags) k
