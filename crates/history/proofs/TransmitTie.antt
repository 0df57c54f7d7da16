-- The transmit side of the adapter is as the rules say, at every moment. Assumes nothing.
use Rattle.std.proofs.Common.{◌≡◌, ℕ, zero, suc, ◌+◌, ◌<◌, Bool, true, false, cond, eqb, [], Some, None, Ok, Option, sym, refl, ap, ◌∙◌, arith}
use Rattle.std.proofs.lemmas.Option.{same_Some, none-some}
use Rattle.std.proofs.lemmas.Bool.{le-leb, false≢true}
use Rattle.std.specs.Option.{unwrap_or}
use Rattle.serial.specs.Moves.{acted}
use Rattle.serial.specs.Queue.{empty_queue, fields}
use Rattle.serial.specs.declared.event.Cycle.TheVariants.{Write}
use Rattle.serial.specs.declared.event.Event.{Event}
use Rattle.serial.specs.declared.event.Event.TheVariants.{Bus}
use Rattle.serial.specs.declared.slip.QueueCode.TheVariants as qu
use Rattle.serial.specs.declared.slip.ShiftCode.TheVariants as sh
use Rattle.ssda.specs.declared.control.Target.{Target}
use Rattle.ssda.specs.declared.control.Target.TheVariants.{C2, C3, SyncCode, TransmitData}
use Rattle.ssda.specs.declared.receiver.Character.{Character}
use Rattle.ssda.specs.declared.state.State.{State}
use Rattle.ssda.specs.Control as reg
use Rattle.ssda.specs.Front.{framed_front, heard_front, strips_of}
use Rattle.ssda.specs.Step.{with_front, cut_code, both_resets, both_told, cleared_written, c1_was_written, c1_told, taken, tells_of, took_in, bit_told, delivery_of, loss_of}
use Rattle.ssda.specs.Transmitter.{shifting_in}
use Rattle.history.specs.Events.{idles, writes, clocks, level_for}
use Rattle.history.specs.Settings.{History, or_else, bit_of, reset, cts, ResetsTransmitter, by_tx_rs, by_reset, by_cts, Falls, Rises}
use Rattle.history.specs.Lines.{limit, Writes}
use Rattle.history.specs.Answering.{WritesBytes, state_at}
use Rattle.history.proofs.Apart.{inert}
use Rattle.history.proofs.Calm.{not_to_data}
use Rattle.history.proofs.Cases.{Outcome, Cases, by_cases, outcome}
use Rattle.history.proofs.Contents.{each_empty}
use Rattle.history.proofs.Refusals.{data_by_lem, data_by}
use Rattle.history.proofs.Resets.{no_fall, no_fall_to, no_rise, no_rise_to, no_tx, no_cut}
use Rattle.history.proofs.Tied.{reset_now, cts_now, written_now}
use Rattle.history.proofs.TiedTransmitter.{timed}
use Rattle.history.proofs.TransmitSide.{Entry, Sends, RightIn, Passed, Calmly, QuietIn, plain_passed, idle_passed, write_passed, cut_passed, reset_passed, clock_passed}
use Rattle.history.proofs.Transmitting.{transmit_act}

-- WHAT BOTH RESETS LEAVE AND TELL OF THE TRANSMIT SIDE

-- a reset of the transmitter empties its queue and cuts the byte that is being shifted
reset_leaves : (x y : Bool) (s : State) → y ≡ true → (both_resets x y s).transmit ≡ empty_queue
reset_leaves x y s e = grind arith

reset_tells : (x y : Bool) (s : State) → y ≡ true → ((both_told x y s).queue ≡ cond (eqb (cleared_written s).first 0) qu.Nothing qu.Cleared) × ((both_told x y s).queued ≡ cleared_written s) × ((both_told x y s).shift ≡ cut_code (shifting_in s.front.timing s.shift) sh.Nothing) × ((both_told x y s).shifted ≡ unwrap_or (shifting_in s.front.timing s.shift) 0)
reset_tells x y s e = grind arith

-- no reset of it leaves both
kept_leaves : (x y : Bool) (s : State) → y ≡ false → ((both_resets x y s).transmit ≡ s.transmit) × ((both_resets x y s).shift ≡ s.shift)
kept_leaves x y s e = grind arith

kept_tells : (x y : Bool) (s : State) → y ≡ false → ((both_told x y s).queue ≡ qu.Nothing) × ((both_told x y s).queued ≡ fields []) × ((both_told x y s).shift ≡ sh.Nothing) × ((both_told x y s).shifted ≡ 0)
kept_tells x y s e = grind arith

-- a received bit leaves the transmit side, and tells nothing of it
bit_transmit : (s : State) (o : Option Character) (t : Bool) → strips_of s.front ≡ t → ((taken s o).transmit ≡ s.transmit) × ((taken s o).shift ≡ s.shift)
bit_transmit s o t e = grind arith

-- what is told of received characters is nothing of bytes
loss_quiet : (o : Option Character) → ((loss_of o).queue ≡ qu.Nothing) × ((loss_of o).queued ≡ fields []) × ((loss_of o).shift ≡ sh.Nothing) × ((loss_of o).shifted ≡ 0)
loss_quiet o = grind arith

bit_quiet : (s : State) (o : Option Character) (t : Bool) → strips_of s.front ≡ t → ((tells_of s o).slip.queue ≡ qu.Nothing) × ((tells_of s o).slip.queued ≡ fields []) × ((tells_of s o).slip.shift ≡ sh.Nothing) × ((tells_of s o).slip.shifted ≡ 0)
bit_quiet s o t e = grind (arith, loss_quiet s.receive.one)

delivery_quiet : (o : Option Character) → ((delivery_of o).queue ≡ qu.Nothing) × ((delivery_of o).queued ≡ fields []) × ((delivery_of o).shift ≡ sh.Nothing) × ((delivery_of o).shifted ≡ 0)
delivery_quiet o = grind arith

-- EVENTS THAT DO NOTHING ON THE TRANSMIT SIDE

module _ (E : History) (k : ℕ) where
  -- no reset of the transmitter
  unreset : (e : Event) → E k ≡ e → (bit_of 1 (writes 0 e) ≡ Some true → ⊥) → (Falls (reset E) k → ⊥) → ResetsTransmitter E k → ⊥
  unreset e x d f = no_tx E k (λ h. d (sym (ap (λ e. bit_of 1 (writes 0 e)) x) ∙ h)) f

  -- an event that does nothing on the transmit side
  calmly_by : (e : Event) → E k ≡ e → ((n b : ℕ) → Writes E k n b → ⊥) → idles e ≡ false → clocks e ≡ false → (bit_of 1 (writes 0 e) ≡ Some true → ⊥) → (Falls (reset E) k → ⊥) → (Rises (cts E) k → ⊥) → Calmly E k
  calmly_by e x w i c d f u = record {
    no_write = w;
    no_idle = ap idles x ∙ i;
    no_clock = ap clocks x ∙ c;
    no_reset = unreset e x d f;
    no_cut = no_cut E k (unreset e x d f) u;
  }

  -- nothing is written with RS 1
  unwritten : (e : Event) → E k ≡ e → writes 1 e ≡ None → (n b : ℕ) → Writes E k n b → ⊥
  unwritten e x h n b w = not_to_data E k (ap (writes 1) x ∙ h) b w.byte

  -- such an event that writes nothing to C1 and to transmit data, and moves neither RESET nor CTS
  calmly_off : (e : Event) → E k ≡ e → ((n b : ℕ) → Writes E k n b → ⊥) → idles e ≡ false → clocks e ≡ false → writes 0 e ≡ None → level_for 0 e ≡ None → level_for 1 e ≡ None → Calmly E k
  calmly_off e x w i c d f u = calmly_by e x w i c (λ h. none-some true (sym (ap (bit_of 1) d) ∙ h)) (no_fall E k (ap (level_for 0) x ∙ f)) (no_rise E k (ap (level_for 1) x ∙ u))

  calmly_none : (e : Event) → E k ≡ e → writes 1 e ≡ None → idles e ≡ false → clocks e ≡ false → writes 0 e ≡ None → level_for 0 e ≡ None → level_for 1 e ≡ None → Calmly E k
  calmly_none e x w = calmly_off e x (unwritten e x w)

module _ (E : History) (bytes : WritesBytes E) (k : ℕ) (w : Sends E k (state_at E k)) where
  abbrev s : State
  s = state_at E k

  aside : Calmly E k → (t : State) (o : Outcome) → t.transmit ≡ s.transmit → t.shift ≡ s.shift → QuietIn E k s w (timed E bytes k) o → Passed E k s t o
  aside = plain_passed E k s w (timed E bytes k)

  -- a write with RS 1 to another register
  elsewhere : (b : ℕ) (t : Target) → s.front.control.target ≡ t → data_by t (Some b) ≡ None → E k ≡ Bus (Write 1 b) → Calmly E k
  elsewhere b t e h x = grind (arith, calmly_off, data_by_lem)

  -- a write to C1
  c1_passed : (b : ℕ) → E k ≡ Bus (Write 0 b) → (z : Bool) → reg.bit_of 1 b ≡ z → Passed E k s (c1_was_written s b) (Ok (c1_told s b))
  c1_passed b x true e =
      let t = reset_tells (reg.bit_of 0 b) (reg.bit_of 1 b) s e in
      reset_passed E k s w (timed E bytes k) (by_tx_rs (ap (λ e. bit_of 1 (writes 0 e)) x ∙ ap Some e)) (ap clocks x) (c1_was_written s b) (c1_told s b) (reset_leaves (reg.bit_of 0 b) (reg.bit_of 1 b) s e) t.0 t.1 t.2 t.3
  c1_passed b x false e =
      let l = kept_leaves (reg.bit_of 0 b) (reg.bit_of 1 b) s e in
      aside (calmly_by E k _ x (unwritten E k _ x refl) refl refl (λ h. false≢true (sym e ∙ same_Some _ _ h)) (no_fall E k (ap (level_for 0) x)) (no_rise E k (ap (level_for 1) x))) (c1_was_written s b) (Ok (c1_told s b)) l.0 l.1 (kept_tells (reg.bit_of 0 b) (reg.bit_of 1 b) s e)

  -- a byte written to transmit data
  entry : (b : ℕ) → s.front.control.target ≡ TransmitData → s.front.written < limit → E k ≡ Bus (Write 1 b) → Writes E k (s.front.written + 1) b
  entry b e h x = record {
    byte = data_by_lem E bytes k b TransmitData e x;
    room = let a = written_now E bytes k in omega (arith, h, a);
    next = ap (λ n. n + 1) (written_now E bytes k);
  }

  abbrev PassedBy : Event → State → Outcome → Type 0
  PassedBy e t o = E k ≡ e → Passed E k s t o

  -- each case
  passed_cases : Cases s PassedBy
  passed_cases = record {
    idle = λ x.
        let r = unreset E k _ x (none-some true) (no_fall E k (ap (level_for 0) x)) in
        idle_passed E k s w (timed E bytes k) (ap idles x) (ap clocks x) (unwritten E k _ x refl) r (no_cut E k r (no_rise E k (ap (level_for 1) x))) _ refl refl;
    status = λ x. aside (calmly_none E k _ x refl refl refl refl refl refl) _ _ refl refl (refl, refl, refl, refl);
    data_read = λ x. aside (calmly_none E k _ x refl refl refl refl refl refl) _ _ refl refl (delivery_quiet s.receive.three);
    c1 = λ b x. c1_passed b x _ refl;
    c2 = λ b e x. aside (elsewhere b C2 e refl x) _ _ refl refl (refl, refl, refl, refl);
    c3 = λ b e x. aside (elsewhere b C3 e refl x) _ _ refl refl (refl, refl, refl, refl);
    code = λ b e x. aside (elsewhere b SyncCode e refl x) _ _ refl refl (refl, refl, refl, refl);
    byte = λ b e h x.
        write_passed E k s w (timed E bytes k) (record { number = s.front.written + 1; byte = b }) (entry b e h x) (ap clocks x)
        (no_cut E k (unreset E k _ x (none-some true) (no_fall E k (ap (level_for 0) x))) (no_rise E k (ap (level_for 1) x))) _ refl refl;
    bit = λ b l h x.
        let t = with_front s (heard_front s.front b) in
        let o = framed_front s.front b in
        let a = bit_transmit t o (strips_of t.front) refl in
        aside (calmly_none E k _ x refl refl refl refl refl refl) (took_in s b) (Ok (bit_told s b)) a.0 a.1 (bit_quiet t o (strips_of t.front) refl);
    clock = λ x. clock_passed E bytes k w x;
    reset_falls = λ e x.
        reset_passed E k s w (timed E bytes k) (by_reset (sym (reset_now E bytes k) ∙ e, ap (λ e. or_else (level_for 0 e) (reset E k)) x)) (ap clocks x) _ _ refl refl refl refl refl;
    reset_rises = λ e x. aside (calmly_by E k _ x (unwritten E k _ x refl) refl refl (none-some true) (no_fall_to E k true (ap (level_for 0) x) (λ h. cc)) (no_rise E k (ap (level_for 1) x))) _ _ refl refl (refl, refl, refl, refl);
    cts_falls = λ e x. aside (calmly_by E k _ x (unwritten E k _ x refl) refl refl (none-some true) (no_fall E k (ap (level_for 0) x)) (no_rise_to E k false (ap (level_for 1) x) (λ h. cc))) _ _ refl refl (refl, refl, refl, refl);
    cts_rises = λ e x.
        cut_passed E k s w (timed E bytes k) (by_cts (sym (cts_now E bytes k) ∙ e, ap (λ e. or_else (level_for 1 e) (cts E k)) x)) (unreset E k _ x (none-some true) (no_fall E k (ap (level_for 0) x))) (ap idles x) (ap clocks x) (unwritten E k _ x refl) _ _ refl (refl, refl) refl refl;
    dcd_falls = λ e x. aside (calmly_none E k _ x refl refl refl refl refl refl) _ _ refl refl (refl, refl, refl, refl);
    dcd_rises = λ e x. aside (calmly_none E k _ x refl refl refl refl refl refl) _ _ refl refl (refl, refl, refl, refl);
    same_reset = λ l h e x. aside (calmly_by E k _ x (unwritten E k _ x refl) refl refl (none-some true) (no_fall_to E k (eqb l 1) (ap (level_for 0) x ∙ simp (le-leb l 1 h)) (λ i. sym (reset_now E bytes k) ∙ sym e ∙ i)) (no_rise E k (ap (level_for 1) x))) _ _ refl refl (refl, refl, refl, refl);
    same_cts = λ l h e x. aside (calmly_by E k _ x (unwritten E k _ x refl) refl refl (none-some true) (no_fall E k (ap (level_for 0) x)) (no_rise_to E k (eqb l 1) (ap (level_for 1) x ∙ simp (le-leb l 1 h)) (λ i. sym (cts_now E bytes k) ∙ sym e ∙ i))) _ _ refl refl (refl, refl, refl, refl);
    same_dcd = λ l h e x. aside (calmly_none E k _ x refl refl refl refl refl refl) _ _ refl refl (refl, refl, refl, refl);
    outside = λ e r o x.
        let i = inert e r o in
        aside (calmly_none E k _ x i.no_write i.mild.no_idle i.mild.no_clock i.mild.no_c1 (i.mild.unset 0 (omega arith)) (i.mild.unset 1 (omega arith))) _ _ refl refl tt;
    framed_full = λ b l h x. aside (calmly_none E k _ x refl refl refl refl refl refl) _ _ refl refl tt;
    written_full = λ b e h x. aside (calmly_off E k _ x (λ n c y. let a = written_now E bytes k in let r = y.room in omega (arith, h, a, r)) refl refl refl refl refl) _ _ refl refl tt;
  }

  -- every event
  passed : Passed E k s (state_at E (suc k)) (outcome s (E k))
  passed = by_cases s PassedBy passed_cases (E k) refl

-- the transmit queue and the word being shown are as the rules say, at every moment
pub sends : (E : History) (bytes : WritesBytes E) (k : ℕ) → Sends E k (state_at E k)
sends E bytes zero = record { numbers = refl; contents = each_empty (Entry E); word = tt }
sends E bytes (suc k) =
    let p = passed E bytes k (sends E bytes k) in
    record { numbers = p.numbers ∙ ap (λ q. acted q (transmit_act E k)) (sends E bytes k).numbers; contents = p.contents; word = p.word }

-- what is told of written bytes is right, at every event
pub written_right : (E : History) (bytes : WritesBytes E) (k : ℕ) → RightIn E k (outcome (state_at E k) (E k))
written_right E bytes k = (passed E bytes k (sends E bytes k)).right
