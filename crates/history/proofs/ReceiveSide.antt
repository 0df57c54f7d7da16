-- What each event does on the receive side of the adapter is what the rules say: the queue, what is told, and overrun. Assumes nothing.
use Rattle.std.proofs.Common.{◌≡◌, ℕ, ◌<◌, ◌≤◌, Bool, true, false, cond, eqb, [], Some, None, Ok, Err, Option, sym, refl, ap, ◌∙◌, subst, subst₂, inl, arith}
use Rattle.std.proofs.lemmas.Bool.{le-leb, false≢true}
use Rattle.std.specs.Option.{option_map}
use Rattle.serial.specs.Life.{Stands, was_displaced, was_taken}
use Rattle.serial.specs.Moves.{Act, enter, rise, take, empty, nothing, acted, queue_at, tells, tells_of}
use Rattle.serial.specs.Queue.{empty_queue, entered, fields, list_of, numbers_by, waiting}
use Rattle.serial.specs.Slips.{quiet_slip}
use Rattle.serial.specs.Telling.{Tells}
use Rattle.serial.specs.declared.event.Cycle.TheVariants.{Idle, Read}
use Rattle.serial.specs.declared.event.Event.TheVariants.{Bus, ReceivedBit}
use Rattle.serial.specs.declared.life.Way.TheVariants.{Displaced, Taken, Emptied}
use Rattle.serial.specs.declared.queue.Queue.{Queue}
use Rattle.serial.specs.declared.slip.ReceiveCode.TheVariants as rx
use Rattle.serial.proofs.Carried.{numbers_risen, numbers_waiting}
use Rattle.serial.proofs.Places.{In, Held}
use Rattle.ssda.specs.declared.receiver.Character.{Character}
use Rattle.ssda.specs.declared.state.State.{State}
use Rattle.ssda.specs.declared.step.Told.{Told}
use Rattle.ssda.specs.Receiver.{character_number}
use Rattle.ssda.specs.State.{mark_in}
use Rattle.ssda.specs.declared.status.Flags.{Flags}
use Rattle.ssda.specs.Front.{framed_front, heard_front, strips_of}
use Rattle.ssda.specs.Step.{told_of, with_front, idled, data_was_read, data_told, delivery_of, byte_in, tell_receive, took_in, bit_told, cleared_received, with_character, loss_of, loss_if, loss_told}
use Rattle.ssda.specs.Step as step
use Rattle.history.specs.Events.{idles, reads, received}
use Rattle.history.specs.Settings.{History, ReadsData, ResetsReceiver}
use Rattle.history.specs.Lines.{limit, Frames, byte_framed, mark_framed, strips}
use Rattle.history.specs.Law.{receiving, delivered, lost, Met, by_a_data_read, by_the_next, receive_code}
use Rattle.history.specs.Answering.{WritesBytes, state_at}
use Rattle.history.proofs.Apart.{calm_bit, calm_idle, bit_or_read}
use Rattle.history.proofs.Cases.{Outcome, quietly}
use Rattle.history.proofs.Contents.{Holds, Each, each_empty, each_entered, each_taken, each_risen, is_enter, is_rise, is_take, is_empty, is_nothing, held_first, held_third, way_told}
use Rattle.history.proofs.Foretold.{receive_code_for, received_foretold, stripped_foretold, none_received}
use Rattle.history.proofs.Framing.{FramedAs, framed_some, framed_none}
use Rattle.history.proofs.OverrunFlag.{FlagChange, set_by_a_loss, cleared_by_a_reset, read_by_a_data_read, left_alone, loss_frames}
use Rattle.history.proofs.ReceivedFates.{framed_once}
use Rattle.history.proofs.Receiving.{receive_act, here_now, received_tie, unframed, frame_calm, frame_or_read, frame_or_idle}
use Rattle.history.proofs.Resets.{calm_rx}

-- character c was framed by an event, as the rules frame it
pub record Origin (E : History) (c : Character) : Type 0 where
  pub at : ℕ
  pub frames : Frames E at c.number
  pub byte : c.byte ≡ byte_framed E at
  pub mark : c.mark ≡ mark_framed E at

-- the receive queue at moment k has the numbers that the rules give, and each character is as it was framed
pub record Waits (E : History) (k : ℕ) (q : Queue Character) : Type 0 where
  pub numbers : numbers_by character_number q ≡ queue_at (receive_act E) k
  pub contents : Each (Origin E) q

-- what is told at event k of received characters is right
pub record ReceivedRight (E : History) (k : ℕ) (t : Told) : Type 0 where
  pub told : Tells receive_code rx.Nothing (Met E k) t.slip.receive t.slip.received
  pub byte : (n i : ℕ) (m : Bool) → Met E k n (delivered m) → Frames E i n → t.value ≡ byte_framed E i

-- a declined event tells nothing
abbrev pub RightIn : History → ℕ → Outcome → Type 0
RightIn E k (Ok t) = ReceivedRight E k t
RightIn E k (Err r) = Unit {0}

-- event k takes the state s to t, with this outcome, as the rules say of the receive side
pub record Turned (E : History) (k : ℕ) (s t : State) (o : Outcome) : Type 0 where
  pub numbers : numbers_by character_number t.receive ≡ acted (numbers_by character_number s.receive) (receive_act E k)
  pub contents : Each (Origin E) t.receive
  pub flags : FlagChange E k s.flags.overrun.set s.flags.overrun.armed t.flags.overrun.set t.flags.overrun.armed
  pub right : RightIn E k o

-- event k does nothing to the receive queue
pub record Still (E : History) (k : ℕ) : Type 0 where
  pub no_frame : (n : ℕ) → Frames E k n → ⊥
  pub no_idle : idles (E k) ≡ false
  pub no_data : reads 1 (E k) ≡ false
  pub no_reset : ResetsReceiver E k → ⊥

-- a delivery is by a data read
delivery_reads : (E : History) (k n : ℕ) (m : Bool) → Met E k n (delivered m) → ReadsData E k
delivery_reads E k n m (by_a_data_read i o (was_taken h e) f x) = e

module _ (E : History) (k : ℕ) where
  -- the act, by the event
  still_act : Still E k → receive_act E k ≡ nothing
  still_act q =
      let h = here_now E k in
      is_nothing (receive_act E k) (λ n i. q.no_frame n ((h.entering n).1 i).0) (λ i. false≢true (sym q.no_idle ∙ h.rising.1 i)) (λ i. false≢true (sym q.no_data ∙ h.taking.1 i)) (λ i. q.no_reset (h.emptying.1 i))

  idle_act : idles (E k) ≡ true → receive_act E k ≡ rise
  idle_act h = is_rise (receive_act E k) ((here_now E k).rising.0 h)

  read_act : ReadsData E k → receive_act E k ≡ take
  read_act h = is_take (receive_act E k) ((here_now E k).taking.0 h)

  reset_act : ResetsReceiver E k → receive_act E k ≡ empty
  reset_act h = is_empty (receive_act E k) ((here_now E k).emptying.0 h)

  enter_act : (n : ℕ) → Frames E k n → strips E k ≡ false → receive_act E k ≡ enter n
  enter_act n f h = is_enter (receive_act E k) n (((here_now E k).entering n).0 (f, h))

  strip_act : (n : ℕ) → Frames E k n → strips E k ≡ true → receive_act E k ≡ nothing
  strip_act n f h = grind (arith, here_now, is_nothing, frame_or_idle, frame_or_read, calm_rx, frame_calm)

  -- without a data read nothing is delivered
  no_delivery : (ReadsData E k → ⊥) → (t : Told) (n i : ℕ) (m : Bool) → Met E k n (delivered m) → Frames E i n → t.value ≡ byte_framed E i
  no_delivery none t n i m d f = absurd (none (delivery_reads E k n m d))

  -- an event that does nothing to the receive queue, and tells nothing of it
  abbrev pub QuietIn : Outcome → Type 0
  QuietIn (Ok t) = (t.slip.receive ≡ rx.Nothing) × (t.slip.received ≡ fields [])
  QuietIn (Err r) = Unit {0}

  quiet_right : Still E k → (o : Outcome) → QuietIn o → RightIn E k o
  quiet_right q (Ok t) h = record {
    told = rw (h.0, h.1) (none_received E k q.no_frame (λ d. false≢true (sym q.no_data ∙ d)) q.no_reset);
    byte = no_delivery (λ d. false≢true (sym q.no_data ∙ d)) t;
  }
  quiet_right q (Err r) h = tt

  -- such an event, whole
  pub plain : Still E k → (s t : State) (o : Outcome) → Waits E k s.receive → t.receive ≡ s.receive → FlagChange E k s.flags.overrun.set s.flags.overrun.armed t.flags.overrun.set t.flags.overrun.armed → QuietIn o → Turned E k s t o
  plain q s t o w e g h = record {
    numbers = ap (numbers_by character_number) e ∙ sym (ap (acted (numbers_by character_number s.receive)) (still_act q));
    contents = subst (Each (Origin E)) (sym e) w.contents;
    flags = g;
    right = quiet_right q o h;
  }

  -- nothing happens to overrun
  pub kept : Still E k → (reads 0 (E k) ≡ true → ⊥) → (s t : State) → t.flags.overrun.set ≡ s.flags.overrun.set → t.flags.overrun.armed ≡ s.flags.overrun.armed → FlagChange E k s.flags.overrun.set s.flags.overrun.armed t.flags.overrun.set t.flags.overrun.armed
  kept q u s t e f = left_alone (λ n m. let x = loss_frames E k n m in q.no_frame x.0 x.1) q.no_reset u (λ d. false≢true (sym q.no_data ∙ d)) e f

module _ (E : History) (k : ℕ) (q : Queue Character) (w : Waits E k q) where
  -- who stands at the output
  standing : (n : ℕ) → Stands (receiving E) k n 3 → In (option_map character_number q.three) n
  standing n h = held_third (numbers_by character_number q) n (subst (λ (x : Queue ℕ). Held x n 3) (sym w.numbers) ((received_tie E k).to n 3 h))

  -- has the mark of its framing
  marks_of : (n i : ℕ) → Stands (receiving E) k n 3 → Frames E i n → mark_framed E i ≡ mark_in q.three
  marks_of n i h f = go q.three (standing n h) w.contents.third
    where
      go : (o : Option Character) → In (option_map character_number o) n → Holds (Origin E) o → mark_framed E i ≡ mark_in o
      go None a b = absurd a
      go (Some c) a b = ap (mark_framed E) (framed_once E i b.at n f (let P : ℕ → Type 0 = λ x. Frames E b.at x in subst P a b.frames)) ∙ sym b.mark

  -- and its byte
  byte_of : (n i : ℕ) (c : Character) → q.three ≡ Some c → Stands (receiving E) k n 3 → Frames E i n → c.byte ≡ byte_framed E i
  byte_of n i c e h f =
      let a : In (option_map character_number (Some c)) n = subst (λ (o : Option Character). In (option_map character_number o) n) e (standing n h) in
      let b : Origin E c = subst (Holds (Origin E)) e w.contents.third in
      b.byte ∙ ap (byte_framed E) (framed_once E b.at i n (let P : ℕ → Type 0 = λ x. Frames E b.at x in subst P a b.frames) f)

  -- what must be told where event k is this act and strips nothing
  foretold_as : (a : Act) → receive_act E k ≡ a → ((n : ℕ) → Frames E k n → strips E k ≡ true → ⊥) → Tells receive_code rx.Nothing (Met E k) (receive_code_for (tells_of (numbers_by character_number q) a).way (mark_in q.three)) (tells_of (numbers_by character_number q) a).who
  foretold_as a e none =
      subst₂ (λ (x : Queue ℕ) (y : Act). Tells receive_code rx.Nothing (Met E k) (receive_code_for (tells_of x y).way (mark_in q.three)) (tells_of x y).who) (sym w.numbers) e
      (received_foretold E k (mark_in q.three) none marks_of)

-- EVENTS THAT ACT ON THE RECEIVE QUEUE

-- a framed character has a number
a_number : (E : History) (c : Character) → Origin E c → 1 ≤ c.number
a_number E c o = let f = o.frames.next in omega (arith, f)

module _ (E : History) (k : ℕ) (s : State) (w : Waits E k s.receive) where
  abbrev q : Queue Character
  q = s.receive

  -- an idle cycle
  pub idle_turned : E k ≡ Bus Idle → Turned E k s (idled s) quietly
  idle_turned x =
      let no_frame = unframed E k (ap received x) in
      let unread = λ (r : ℕ) (h : reads r (E k) ≡ true). false≢true (sym (ap (reads r) x) ∙ h) in
      let act = idle_act E k (ap idles x) in
      record {
        numbers = numbers_risen character_number q ∙ sym (ap (acted (numbers_by character_number q)) act);
        contents = each_risen (Origin E) q w.contents;
        flags = left_alone (λ n m. let y = loss_frames E k n m in no_frame y.0 y.1) (calm_rx E k (calm_idle (E k) (ap idles x))) (unread 0) (unread 1) refl refl;
        right = record { told = foretold_as E k q w rise act (λ n f h. no_frame n f); byte = no_delivery E k (unread 1) (told_of 0 quiet_slip) };
      }

  -- a data read
  read_told : E k ≡ Bus (Read 1) → (o : Option Character) → q.three ≡ o → Tells receive_code rx.Nothing (Met E k) (delivery_of o).receive (delivery_of o).received
  read_told x o e = go o e (subst (Holds (Origin E)) e w.contents.third) (subst (λ (o : Option Character). Tells receive_code rx.Nothing (Met E k) (receive_code_for (tells Taken (fields (list_of (option_map character_number o)))).way (mark_in o)) (fields (list_of (option_map character_number o)))) e foretold)
    where
      foretold : Tells receive_code rx.Nothing (Met E k) (receive_code_for (tells Taken (fields (list_of (option_map character_number q.three)))).way (mark_in q.three)) (fields (list_of (option_map character_number q.three)))
      foretold = foretold_as E k q w take (read_act E k (ap (reads 1) x)) (λ n f h. unframed E k (ap received x) n f)

      go : (o : Option Character) → q.three ≡ o → Holds (Origin E) o → Tells receive_code rx.Nothing (Met E k) (receive_code_for (tells Taken (fields (list_of (option_map character_number o)))).way (mark_in o)) (fields (list_of (option_map character_number o))) → Tells receive_code rx.Nothing (Met E k) (delivery_of o).receive (delivery_of o).received
      go None e h t = t
      go (Some c) e h t = simp (way_told c.number Taken (a_number E c h)) at t

  -- who is delivered stood at the output
  taken_out : (n : ℕ) (m : Bool) → Met E k n (delivered m) → Stands (receiving E) k n 3
  taken_out n m (by_a_data_read i o (was_taken h e) f x) = h

  read_byte : (n i : ℕ) (m : Bool) → Met E k n (delivered m) → Frames E i n → byte_in q.three s.last ≡ byte_framed E i
  read_byte n i m d f = go q.three refl (standing E k q w n (taken_out n m d))
    where
      go : (o : Option Character) → q.three ≡ o → In (option_map character_number o) n → byte_in o s.last ≡ byte_framed E i
      go None e h = absurd h
      go (Some c) e h = byte_of E k q w n i c e (taken_out n m d) f

  pub read_turned : E k ≡ Bus (Read 1) → Turned E k s (data_was_read s) (Ok (data_told s))
  read_turned x = record {
    numbers = sym (ap (acted (numbers_by character_number q)) (read_act E k (ap (reads 1) x)));
    contents = each_taken (Origin E) q w.contents;
    flags = read_by_a_data_read (ap (reads 1) x) refl refl;
    right = record { told = read_told x q.three refl; byte = read_byte };
  }

  -- a reset of the receiver
  pub reset_turned : ResetsReceiver E k → (ReadsData E k → ⊥) → ((n : ℕ) → Frames E k n → ⊥) → (t : State) (o : Told) → t.receive ≡ empty_queue → t.flags.overrun.set ≡ false → t.flags.overrun.armed ≡ false → o.slip.receive ≡ cond (eqb (cleared_received s).first 0) rx.Nothing rx.Cleared → o.slip.received ≡ cleared_received s → Turned E k s t (Ok o)
  reset_turned r unread no_frame t o e a b c d = record {
    numbers = ap (numbers_by character_number) e ∙ sym (ap (acted (numbers_by character_number q)) (reset_act E k r));
    contents = subst (Each (Origin E)) (sym e) (each_empty (Origin E));
    flags = cleared_by_a_reset r a b;
    right = record { told = rw (c, d) told_now; byte = no_delivery E k unread o };
  }
    where
      foretold : Tells receive_code rx.Nothing (Met E k) (receive_code_for (cond (eqb (fields (waiting (λ n. n) (numbers_by character_number q))).first 0) None (Some Emptied)) (mark_in q.three)) (fields (waiting (λ n. n) (numbers_by character_number q)))
      foretold = foretold_as E k q w empty (reset_act E k r) (λ n f h. no_frame n f)

      told_now : Tells receive_code rx.Nothing (Met E k) (cond (eqb (cleared_received s).first 0) rx.Nothing rx.Cleared) (cleared_received s)
      told_now = grind (arith, numbers_waiting character_number q, foretold)

  -- a character that is stripped
  strip_turned : (n : ℕ) → Frames E k n → strips E k ≡ true → (t : State) → t.receive ≡ q → t.flags ≡ s.flags → Turned E k s t (Ok (told_of 0 (tell_receive rx.Stripped n)))
  strip_turned n f h t e g =
      let calm = frame_calm E k n f in
      record {
        numbers = ap (numbers_by character_number) e ∙ sym (ap (acted (numbers_by character_number q)) (strip_act E k n f h));
        contents = subst (Each (Origin E)) (sym e) w.contents;
        flags = left_alone unlost (calm_rx E k calm) (frame_or_read E k 0 n f) (frame_or_read E k 1 n f) (ap (λ g. g.overrun.set) g) (ap (λ g. g.overrun.armed) g);
        right = record { told = stripped_foretold E k n f h; byte = no_delivery E k (frame_or_read E k 1 n f) (told_of 0 (tell_receive rx.Stripped n)) };
      }
    where
      unlost : (m : ℕ) → Met E k m lost → ⊥
      unlost m (by_the_next (was_displaced i a b)) = false≢true (sym b.1 ∙ h)

  -- a character that enters; what it displaces is lost
  module _ (c : Character) (f : Frames E k c.number) (h : strips E k ≡ false) where
    at_input : (n : ℕ) → Stands (receiving E) k n 1 → In (option_map character_number q.one) n
    at_input n x = held_first (numbers_by character_number q) n (subst (λ (x : Queue ℕ). Held x n 1) (sym w.numbers) ((received_tie E k).to n 1 x))

    -- who stands at the input is lost, and nobody is where nobody stands there
    loses : (d : Character) → q.one ≡ Some d → Met E k d.number lost
    loses d e =
        let i : In (option_map character_number q.one) d.number = subst (λ (o : Option Character). In (option_map character_number o) d.number) (sym e) refl in
        let held : Held (numbers_by character_number q) d.number 1 = inl (refl, i) in
        by_the_next (was_displaced c.number ((received_tie E k).from d.number 1 (subst (λ (x : Queue ℕ). Held x d.number 1) w.numbers held)) (f, h))

    keeps : q.one ≡ None → (n : ℕ) → Met E k n lost → ⊥
    keeps e n (by_the_next (was_displaced i a b)) = subst (λ (o : Option Character). In (option_map character_number o) n) e (at_input n a)

    -- so overrun is set exactly then
    loss_change : (o : Option Character) → q.one ≡ o → FlagChange E k s.flags.overrun.set s.flags.overrun.armed (loss_if o s.flags).overrun.set (loss_if o s.flags).overrun.armed
    loss_change None e = left_alone (keeps e) (calm_rx E k (frame_calm E k c.number f)) (frame_or_read E k 0 c.number f) (frame_or_read E k 1 c.number f) refl refl
    loss_change (Some d) e = set_by_a_loss d.number (loses d e) refl refl

    -- and the loss is told
    loss_told_lem : (o : Option Character) → Holds (Origin E) o → Tells receive_code rx.Nothing (Met E k) (receive_code_for (tells Displaced (fields (list_of (option_map character_number o)))).way (mark_in q.three)) (fields (list_of (option_map character_number o))) → Tells receive_code rx.Nothing (Met E k) (loss_of o).receive (loss_of o).received
    loss_told_lem o i t = grind (arith, way_told, a_number)

    enter_turned : Origin E c → (t : State) → t.receive ≡ entered q c → t.flags ≡ loss_if q.one s.flags → Turned E k s t (Ok (told_of 0 (loss_of q.one)))
    enter_turned i t e g = record {
      numbers = ap (numbers_by character_number) e ∙ sym (ap (acted (numbers_by character_number q)) (enter_act E k c.number f h));
      contents = subst (Each (Origin E)) (sym e) (each_entered (Origin E) q c w.contents i);
      flags = subst (λ (g : Flags). FlagChange E k s.flags.overrun.set s.flags.overrun.armed g.overrun.set g.overrun.armed) (sym g) (loss_change q.one refl);
      right = record {
        told = loss_told_lem q.one w.contents.first (foretold_as E k q w (enter c.number) (enter_act E k c.number f h) (λ n f s. false≢true (sym h ∙ s)));
        byte = no_delivery E k (frame_or_read E k 1 c.number f) (told_of 0 (loss_of q.one));
      };
    }

-- A RECEIVED BIT

module _ (E : History) (bytes : WritesBytes E) (k : ℕ) (w : Waits E k (state_at E k).receive) (b : ℕ) (low : b ≤ 1) (x : E k ≡ ReceivedBit b) (room : (state_at E k).front.receiver.framed < limit) where
  abbrev now : State
  now = state_at E k

  came : received (E k) ≡ Some b
  came = ap received x ∙ simp (le-leb b 1 low)

  -- the state with the bit heard, before what it frames goes anywhere
  abbrev after_bit : State
  after_bit = with_front now (heard_front now.front b)

  -- a bit that frames nothing, and one that frames a character
  unframed_turned : framed_front now.front b ≡ None → Turned E k now after_bit quietly
  unframed_turned e =
      let q : Still E k = record { no_frame = framed_none E bytes k b came room e; no_idle = ap idles x; no_data = ap (reads 1) x; no_reset = calm_rx E k (calm_bit (E k) b came) } in
      plain E k q now after_bit quietly w refl (kept E k q (bit_or_read 0 (E k) b came) now after_bit refl refl) (refl, refl)

  framed_turned : (c : Character) → FramedAs E bytes k b came room c → (t : Bool) → strips_of (heard_front now.front b) ≡ t → Turned E k now (cond t after_bit (with_character after_bit c)) (Ok (cond t (told_of 0 (tell_receive rx.Stripped c.number)) (loss_told after_bit)))
  framed_turned c a true e = strip_turned E k now w c.number a.frames (sym a.strips_same ∙ e) after_bit refl refl
  framed_turned c a false e = enter_turned E k now w c a.frames (sym a.strips_same ∙ e) (record { at = k; frames = a.frames; byte = a.byte; mark = a.mark }) (with_character after_bit c) refl refl

  -- every received bit
  pub bit_turned : Turned E k now (took_in now b) (Ok (bit_told now b))
  bit_turned = go (framed_front now.front b) refl
    where
      go : (o : Option Character) → framed_front now.front b ≡ o → Turned E k now (step.taken after_bit o) (Ok (step.tells_of after_bit o))
      go None e = unframed_turned e
      go (Some c) e = framed_turned c (framed_some E bytes k b came room c e) (strips_of (heard_front now.front b)) refl
