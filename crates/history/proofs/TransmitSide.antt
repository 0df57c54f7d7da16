-- What each event does on the transmit side of the adapter is what the rules say: the queue, the word being shown, what is told. Assumes nothing.
use Rattle.std.proofs.Common.{◌≡◌, ℕ, zero, suc, ◌+◌, ◌-◌, ◌/◌, ◌%◌, ◌<◌, Bool, true, false, cond, eqb, ltb, leb, List, [], ◌∷◌, get_or, drop, Some, None, Ok, Err, Option, sym, refl, ap, ◌∙◌, subst, subst₂, inr, add-one, arith}
use Rattle.std.proofs.lemmas.Bool.{le-leb, lt-leb, leb-true, leb-false, ltb-true, ltb-false, false≢true}
use Rattle.std.specs.Option.{option_and_then, option_map, unwrap_or}
use Rattle.serial.specs.Life.{Stands}
use Rattle.serial.specs.Moves.{Act, enter, rise, take, empty, nothing, acted, queue_at, tells, tells_of}
use Rattle.serial.specs.Queue.{empty_queue, entered, fields, list_of, numbers_by, output_taken, risen, waiting}
use Rattle.serial.specs.Slips.{quiet_slip}
use Rattle.serial.specs.Telling.{Tells}
use Rattle.serial.specs.Words.{value_of, word_of}
use Rattle.serial.specs.declared.event.Event.TheVariants.{TransmitClock}
use Rattle.serial.specs.declared.life.Way.TheVariants.{Displaced, Emptied}
use Rattle.serial.specs.declared.queue.Queue.{Queue}
use Rattle.serial.specs.declared.slip.QueueCode.TheVariants as qu
use Rattle.serial.specs.declared.slip.ShiftCode.TheVariants as sh
use Rattle.serial.proofs.Carried.{numbers_risen, numbers_waiting}
use Rattle.serial.proofs.Laws.{one_word}
use Rattle.serial.proofs.Places.{In, in_of}
use Rattle.serial.proofs.Standing.{tie, bounds}
use Rattle.ssda.specs.declared.state.State.{State}
use Rattle.ssda.specs.declared.step.Told.{Told}
use Rattle.ssda.specs.declared.transmitter.Byte.{Byte}
use Rattle.ssda.specs.declared.transmitter.Shift.{Shift}
use Rattle.ssda.specs.declared.transmitter.Timing.{Timing}
use Rattle.ssda.specs.declared.transmitter.Timing.TheVariants.{Showing}
use Rattle.ssda.specs.Step.{told_of, cut_code, cleared_written, overwrite_of, write_told, tell_shift, clock_told, loaded_state, advanced_state}
use Rattle.ssda.specs.Step as step
use Rattle.ssda.specs.Transmitter.{byte_number, bit_shown, loads_at, number_if, shifted_on, shifting_in, word_for}
use Rattle.history.specs.Events.{idles, clocks}
use Rattle.history.specs.Settings.{History, form, Cuts, by_tx_reset, ResetsTransmitter}
use Rattle.history.specs.Lines.{T, written, Writes, Sending, still, starting, showing, Transmitter, Loads, first_word, next_word, holds, loaded, shown}
use Rattle.history.specs.Law.{transmitting, Drops, Does, queue_code, shift_code, Shifts, only}
use Rattle.history.specs.Answering.{WritesBytes, state_at, timing_for}
use Rattle.history.proofs.Apart.{calm_clock}
use Rattle.history.proofs.Calm.{calm_write, held_same}
use Rattle.history.proofs.Cases.{Outcome, quietly}
use Rattle.history.proofs.Computed.{sending_at}
use Rattle.history.proofs.Contents.{Holds, Each, each_empty, each_entered, each_taken, each_risen, is_enter, is_rise, is_take, is_empty, is_nothing, held_third, way_told, shift_alone}
use Rattle.history.proofs.Foretold.{queue_code_for, dropped_foretold, load_drops_nobody, quiet_drops_nobody, bit_foretold, last_foretold, cut_foretold, no_shift_foretold}
use Rattle.history.proofs.OneState.{Good, next_by_lem, good_at, transmitter_at, transmitter_is}
use Rattle.history.proofs.Resets.{calm_tx}
use Rattle.history.proofs.Showing.{word, same_word, no_word}
use Rattle.history.proofs.Tied.{form_now}
use Rattle.history.proofs.TiedTransmitter.{timed}
use Rattle.history.proofs.Transmitting.{transmit_act, transmitting_sane, here_now, loads_clock, written_next}
use Rattle.history.proofs.WrittenFates.{cut_holds, stands_at}

-- byte b was written by an event
pub record Entry (E : History) (b : Byte) : Type 0 where
  pub at : ℕ
  pub writes : Writes E at b.number b.byte

-- the word x that event l loaded, with j bits shown: that of the byte that stood at the output, or a fill
pub data Loaded (E : History) (l j : ℕ) (x : Shift) : Type 0 where
  a_byte : (b : Byte) → (queue_at (transmit_act E) l).three ≡ Some b.number → Entry E b → x.number ≡ Some b.number → x.bits ≡ value_of (drop j (word_of (form E l) b.byte)) → Loaded E l j x
  a_fill : (queue_at (transmit_act E) l).three ≡ None → x.number ≡ None → Loaded E l j x

-- the word being shown, where one is
abbrev pub ShownIn : History → Sending → Shift → Type 0
ShownIn E still x = Unit {0}
ShownIn E starting x = Unit {0}
ShownIn E (showing l j) x = Loads E l × Loaded E l j x

-- the transmit queue and the word being shown at moment k are as the rules say
pub record Sends (E : History) (k : ℕ) (s : State) : Type 0 where
  pub numbers : numbers_by byte_number s.transmit ≡ queue_at (transmit_act E) k
  pub contents : Each (Entry E) s.transmit
  pub word : ShownIn E (sending_at E k) s.shift

-- what is told at event k of written bytes is right
pub record WrittenRight (E : History) (k : ℕ) (t : Told) : Type 0 where
  pub dropped : Tells queue_code qu.Nothing (Drops E k) t.slip.queue t.slip.queued
  pub shifted : Tells shift_code sh.Nothing (Does E k) t.slip.shift (only t.slip.shifted)
  pub bit : (n l j i b : ℕ) → Shifts E k n l j → clocks (E k) ≡ true → Writes E i n b → t.value ≡ get_or (word_of (form E l) b) j 0

-- a declined event tells nothing
abbrev pub RightIn : History → ℕ → Outcome → Type 0
RightIn E k (Ok t) = WrittenRight E k t
RightIn E k (Err r) = Unit {0}

-- event k takes the state s to t, with this outcome, as the rules say of the transmit side
pub record Passed (E : History) (k : ℕ) (s t : State) (o : Outcome) : Type 0 where
  pub numbers : numbers_by byte_number t.transmit ≡ acted (numbers_by byte_number s.transmit) (transmit_act E k)
  pub contents : Each (Entry E) t.transmit
  pub word : ShownIn E (sending_at E (suc k)) t.shift
  pub right : RightIn E k o

-- BITS OF A WORD

-- the lowest bit of what is left of a word, and the rest
value_bit : (w : List ℕ) (j : ℕ) → ((i : ℕ) → get_or w i 0 < 2) → value_of (drop j w) % 2 ≡ get_or w j 0
value_bit [] zero h = refl
value_bit [] (suc j) h = refl
value_bit (x ∷ xs) zero h = let a = h 0 in omega (arith, a)
value_bit (x ∷ xs) (suc j) h = value_bit xs j (λ i. h (suc i))

value_rest : (w : List ℕ) (j : ℕ) → ((i : ℕ) → get_or w i 0 < 2) → value_of (drop j w) / 2 ≡ value_of (drop (suc j) w)
value_rest [] zero h = refl
value_rest [] (suc j) h = refl
value_rest (x ∷ xs) zero h = let a = h 0 in omega (arith, a)
value_rest (x ∷ xs) (suc j) h = value_rest xs j (λ i. h (suc i))

-- THE WORD OVER AN EVENT THAT IS NO CLOCK

module _ (E : History) (k : ℕ) where
  -- it stays, or the transmitter is held or starts
  word_kept : (x : Shift) → clocks (E k) ≡ false → ShownIn E (sending_at E k) x → ShownIn E (sending_at E (suc k)) x
  word_kept x c h = grind arith

  -- a cut holds the transmitter
  word_cut : (x : Shift) → Cuts E k → ShownIn E (sending_at E (suc k)) x
  word_cut x c = subst (λ (s : Sending). ShownIn E s x) (sym (next_by_lem E k (sending_at E k) true _ _ (cut_holds E k c) refl refl)) tt

  -- THE ACT

  -- by what the event does
  rise_act : idles (E k) ≡ true → transmit_act E k ≡ rise
  rise_act h = is_rise (transmit_act E k) ((here_now E k).rising.0 h)

  load_act : Loads E k → transmit_act E k ≡ take
  load_act h = is_take (transmit_act E k) ((here_now E k).taking.0 h)

  reset_act : ResetsTransmitter E k → transmit_act E k ≡ empty
  reset_act h = is_empty (transmit_act E k) ((here_now E k).emptying.0 h)

  write_act : (n b : ℕ) → Writes E k n b → transmit_act E k ≡ enter n
  write_act n b h = is_enter (transmit_act E k) n (((here_now E k).entering n).0 (b, h))

  still_act : ((n b : ℕ) → Writes E k n b → ⊥) → idles (E k) ≡ false → (Loads E k → ⊥) → (ResetsTransmitter E k → ⊥) → transmit_act E k ≡ nothing
  still_act a b c d =
      let h = here_now E k in
      is_nothing (transmit_act E k) (λ n i. let x = (h.entering n).1 i in a n x.0 x.1) (λ i. false≢true (sym b ∙ h.rising.1 i)) (λ i. c (h.taking.1 i)) (λ i. d (h.emptying.1 i))

-- WHO IS BEING SHIFTED

-- a number is written once
module _ (E : History) where
  once : (i j n b c : ℕ) → i < j → Writes E i n b → Writes E j n c → ⊥
  once i j n b c h x y =
      let up = bounds (transmitting E) (transmit_act E) (written E) (transmitting_sane E) (suc i) j h in
      let e = written_next E i n b x in let f = y.next in
      omega (arith, up, e, f)

  -- so it has one byte
  one_entry : (i j n b c : ℕ) → Writes E i n b → Writes E j n c → b ≡ c
  one_entry i j n b c x y = grind (arith, once i j n b c, once j i n c b)

-- the number of a byte that was written is not 0
named : (E : History) (b : Byte) → Entry E b → number_if b.number ≡ Some b.number
named E b o = let h = o.writes.next in grind (arith, h)

-- m is the number of the byte that is being shifted at moment k, if one is
pub data ShiftsNow (E : History) (k : ℕ) (m : Option ℕ) : Type 0 where
  nobody : m ≡ None → ((n l j : ℕ) → Shifts E k n l j → ⊥) → ShiftsNow E k m
  somebody : (n l j : ℕ) → Shifts E k n l j → m ≡ Some n → ShiftsNow E k m

module _ (E : History) (k : ℕ) where
  -- the transmitter is as computed
  now_at : (z : Sending) → sending_at E k ≡ z → Transmitter E k z
  now_at z e = subst (Transmitter E k) e (transmitter_at E k)

  -- who stood at the output when a word was loaded
  stood : (l n : ℕ) → Stands (transmitting E) l n 3 → In (queue_at (transmit_act E) l).three n
  stood l n h = held_third (queue_at (transmit_act E) l) n ((tie (transmitting E) (transmit_act E) (written E) (transmitting_sane E) l).to n 3 h)

  -- and who stands there
  stands : (l n : ℕ) → (queue_at (transmit_act E) l).three ≡ Some n → Stands (transmitting E) l n 3
  stands l n e = (tie (transmitting E) (transmit_act E) (written E) (transmitting_sane E) l).from n 3 (inr (inr (refl, in_of _ n e)))

  byte_shifts : (l j : ℕ) (x : Shift) (b : Byte) → sending_at E k ≡ showing l j → Loads E l → (queue_at (transmit_act E) l).three ≡ Some b.number → Shifts E k b.number l j
  byte_shifts l j x b e h q = ((h, stands l b.number q), now_at (showing l j) e)

  -- who is being shifted, by the word that is shown
  shifts_now : (z : Sending) (x : Shift) → sending_at E k ≡ z → ShownIn E z x → ShiftsNow E k (shifting_in (timing_for E z) x)
  shifts_now still x e h = nobody refl (λ n l j y. no_word E k l j still (λ z. z) (now_at still e) y.1)
  shifts_now starting x e h = nobody refl (λ n l j y. no_word E k l j starting (λ z. z) (now_at starting e) y.1)
  shifts_now (showing l j) x e (h, a_byte b q o m v) = somebody b.number l j (byte_shifts l j x b e h q) (ap (option_and_then number_if) m ∙ named E b o)
  shifts_now (showing l j) x e (h, a_fill q m) = nobody (ap (option_and_then number_if) m) none
    where
      none : (n i p : ℕ) → Shifts E k n i p → ⊥
      none n i p y =
          let u = same_word E k i p l j y.1 (now_at (showing l j) e) in
          let a : In (queue_at (transmit_act E) l).three n = stood l n (stands_at E i l n u.0 y.0.1) in
          subst (λ (o : Option ℕ). In o n) q a

  -- what is told of a cut
  cut_told_lem : (m : Option ℕ) → ShiftsNow E k m → Cuts E k → Tells shift_code sh.Nothing (Does E k) (cut_code m sh.Nothing) (only (unwrap_or m 0))
  cut_told_lem m (nobody e none) c = rw e (no_shift_foretold E k (λ n l j x y. none n l j x))
  cut_told_lem m (somebody n l j x e) c = rw e (cut_foretold E k n l j x c)

  -- and where there is no clock and no cut
  calm_told : clocks (E k) ≡ false → (Cuts E k → ⊥) → Tells shift_code sh.Nothing (Does E k) sh.Nothing (only 0)
  calm_told c u = no_shift_foretold E k (λ n l j x y. grind arith)

-- EVENTS WITHOUT A CLOCK

-- event k does nothing on the transmit side
pub record Calmly (E : History) (k : ℕ) : Type 0 where
  pub no_write : (n b : ℕ) → Writes E k n b → ⊥
  pub no_idle : idles (E k) ≡ false
  pub no_clock : clocks (E k) ≡ false
  pub no_reset : ResetsTransmitter E k → ⊥
  pub no_cut : Cuts E k → ⊥

module _ (E : History) (k : ℕ) (s : State) (w : Sends E k s) (timing : s.front.timing ≡ timing_for E (sending_at E k)) where
  abbrev q : Queue Byte
  q = s.transmit

  -- the number of the byte that is being shifted, if one is
  abbrev shifting_now : Option ℕ
  shifting_now = shifting_in s.front.timing s.shift

  pub shifting_now_lem : ShiftsNow E k shifting_now
  shifting_now_lem = subst (λ (t : Timing). ShiftsNow E k (shifting_in t s.shift)) (sym timing) (shifts_now E k (sending_at E k) s.shift refl w.word)

  -- what must be told of the queue where event k is this act and no load
  foretold_as : (a : Act) → transmit_act E k ≡ a → (Loads E k → ⊥) → Tells queue_code qu.Nothing (Drops E k) (queue_code_for (tells_of (numbers_by byte_number q) a).way) (tells_of (numbers_by byte_number q) a).who
  foretold_as a e none =
      subst₂ (λ (x : Queue ℕ) (y : Act). Tells queue_code qu.Nothing (Drops E k) (queue_code_for (tells_of x y).way) (tells_of x y).who) (sym w.numbers) e
      (dropped_foretold E k none)

  -- without a clock no bit is shown
  no_bit : clocks (E k) ≡ false → (t : Told) (n l j i b : ℕ) → Shifts E k n l j → clocks (E k) ≡ true → Writes E i n b → t.value ≡ get_or (word_of (form E l) b) j 0
  no_bit c t n l j i b x h y = absurd (false≢true (sym c ∙ h))

  -- nothing is told of bytes
  abbrev pub QuietIn : Outcome → Type 0
  QuietIn (Ok t) = (t.slip.queue ≡ qu.Nothing) × (t.slip.queued ≡ fields []) × (t.slip.shift ≡ sh.Nothing) × (t.slip.shifted ≡ 0)
  QuietIn (Err r) = Unit {0}

  -- such an event tells nothing
  quiet_right : Calmly E k → (o : Outcome) → QuietIn o → RightIn E k o
  quiet_right c (Ok t) h = record {
    dropped = rw (h.0, h.1) (quiet_drops_nobody E k c.no_write c.no_reset);
    shifted = rw (h.2, h.3) (calm_told E k c.no_clock c.no_cut);
    bit = no_bit c.no_clock t;
  }
  quiet_right c (Err r) h = tt

  -- and nothing is loaded
  no_load : clocks (E k) ≡ false → Loads E k → ⊥
  no_load c l = false≢true (sym c ∙ loads_clock E k l)

  -- nothing
  pub plain_passed : Calmly E k → (t : State) (o : Outcome) → t.transmit ≡ q → t.shift ≡ s.shift → QuietIn o → Passed E k s t o
  plain_passed c t o e f h = record {
    numbers = ap (numbers_by byte_number) e ∙ sym (ap (acted (numbers_by byte_number q)) (still_act E k c.no_write c.no_idle (no_load c.no_clock) c.no_reset));
    contents = subst (Each (Entry E)) (sym e) w.contents;
    word = subst (ShownIn E (sending_at E (suc k))) (sym f) (word_kept E k s.shift c.no_clock w.word);
    right = quiet_right c o h;
  }

  -- an idle cycle
  pub idle_passed : idles (E k) ≡ true → clocks (E k) ≡ false → ((n b : ℕ) → Writes E k n b → ⊥) → (ResetsTransmitter E k → ⊥) → (Cuts E k → ⊥) → (t : State) → t.transmit ≡ risen q → t.shift ≡ s.shift → Passed E k s t quietly
  idle_passed i c u r n t e f = record {
    numbers = ap (numbers_by byte_number) e ∙ numbers_risen byte_number q ∙ sym (ap (acted (numbers_by byte_number q)) (rise_act E k i));
    contents = subst (Each (Entry E)) (sym e) (each_risen (Entry E) q w.contents);
    word = subst (ShownIn E (sending_at E (suc k))) (sym f) (word_kept E k s.shift c w.word);
    right = record { dropped = quiet_drops_nobody E k u r; shifted = calm_told E k c n; bit = no_bit c (told_of 0 quiet_slip) };
  }

  -- a byte that enters; what it displaces is overwritten
  write_told_lem : (o : Option Byte) → Holds (Entry E) o → Tells queue_code qu.Nothing (Drops E k) (queue_code_for (tells Displaced (fields (list_of (option_map byte_number o)))).way) (fields (list_of (option_map byte_number o))) → Tells queue_code qu.Nothing (Drops E k) (overwrite_of o).queue (overwrite_of o).queued
  write_told_lem o i t = grind (arith, way_told)

  -- it tells nothing of the byte that is being shifted
  write_shift : (o : Option Byte) → ((overwrite_of o).shift ≡ sh.Nothing) × ((overwrite_of o).shifted ≡ 0)
  write_shift o = grind arith

  pub write_passed : (b : Byte) → Writes E k b.number b.byte → clocks (E k) ≡ false → (Cuts E k → ⊥) → (t : State) → t.transmit ≡ entered q b → t.shift ≡ s.shift → Passed E k s t (Ok (write_told s))
  write_passed b x c n t e f = record {
    numbers = ap (numbers_by byte_number) e ∙ sym (ap (acted (numbers_by byte_number q)) (write_act E k b.number b.byte x));
    contents = subst (Each (Entry E)) (sym e) (each_entered (Entry E) q b w.contents (record { at = k; writes = x }));
    word = subst (ShownIn E (sending_at E (suc k))) (sym f) (word_kept E k s.shift c w.word);
    right = record {
      dropped = write_told_lem q.one w.contents.first (foretold_as (enter b.number) (write_act E k b.number b.byte x) (no_load c));
      shifted = rw ((write_shift q.one).0, (write_shift q.one).1) (calm_told E k c n);
      bit = no_bit c (write_told s);
    };
  }

  -- CTS rising: the byte that is being shifted is cut
  pub cut_passed : Cuts E k → (ResetsTransmitter E k → ⊥) → idles (E k) ≡ false → clocks (E k) ≡ false → ((n b : ℕ) → Writes E k n b → ⊥) → (t : State) (o : Told) → t.transmit ≡ q → (o.slip.queue ≡ qu.Nothing) × (o.slip.queued ≡ fields []) → o.slip.shift ≡ cut_code shifting_now sh.Nothing → o.slip.shifted ≡ unwrap_or shifting_now 0 → Passed E k s t (Ok o)
  cut_passed x r i c u t o e h a b = record {
    numbers = ap (numbers_by byte_number) e ∙ sym (ap (acted (numbers_by byte_number q)) (still_act E k u i (no_load c) r));
    contents = subst (Each (Entry E)) (sym e) w.contents;
    word = word_cut E k t.shift x;
    right = record {
      dropped = rw (h.0, h.1) (quiet_drops_nobody E k u r);
      shifted = rw (a, b) (cut_told_lem E k shifting_now shifting_now_lem x);
      bit = no_bit c o;
    };
  }

  -- a reset of the transmitter
  pub reset_passed : ResetsTransmitter E k → clocks (E k) ≡ false → (t : State) (o : Told) → t.transmit ≡ empty_queue → o.slip.queue ≡ cond (eqb (cleared_written s).first 0) qu.Nothing qu.Cleared → o.slip.queued ≡ cleared_written s → o.slip.shift ≡ cut_code shifting_now sh.Nothing → o.slip.shifted ≡ unwrap_or shifting_now 0 → Passed E k s t (Ok o)
  reset_passed r c t o e g d a b = record {
    numbers = ap (numbers_by byte_number) e ∙ sym (ap (acted (numbers_by byte_number q)) (reset_act E k r));
    contents = subst (Each (Entry E)) (sym e) (each_empty (Entry E));
    word = word_cut E k t.shift (by_tx_reset r);
    right = record {
      dropped = rw (g, d) told_now;
      shifted = rw (a, b) (cut_told_lem E k shifting_now shifting_now_lem (by_tx_reset r));
      bit = no_bit c o;
    };
  }
    where
      foretold : Tells queue_code qu.Nothing (Drops E k) (queue_code_for (cond (eqb (fields (waiting (λ n. n) (numbers_by byte_number q))).first 0) None (Some Emptied))) (fields (waiting (λ n. n) (numbers_by byte_number q)))
      foretold = foretold_as empty (reset_act E k r) (no_load c)

      told_now : Tells queue_code qu.Nothing (Drops E k) (cond (eqb (cleared_written s).first 0) qu.Nothing qu.Cleared) (cleared_written s)
      told_now = grind (arith, numbers_waiting byte_number q, foretold)

-- A TRANSMIT CLOCK

module _ (E : History) (bytes : WritesBytes E) (k : ℕ) (w : Sends E k (state_at E k)) (x : E k ≡ TransmitClock) where
  abbrev s : State
  s = state_at E k

  abbrev timing : Timing
  timing = s.front.timing

  abbrev m : Option ℕ
  m = shifting_in timing s.shift

  clock : clocks (E k) ≡ true
  clock = ap clocks x

  -- the word being shown at a moment says how many bits are left
  left : (l j : ℕ) → Transmitter E k (showing l j) → timing ≡ Showing (T E l - j)
  left l j t = timed E bytes k ∙ ap (timing_for E) (sym (transmitter_is E k _ t))

  -- what is told of the byte that is being shifted
  last_or_not : (l j : ℕ) → Transmitter E k (showing l j) → (b : Bool) → loads_at timing ≡ b → (n : ℕ) → Shifts E k n l j → Tells shift_code sh.Nothing (Does E k) (cond b sh.LastBit sh.Bit) (only n)
  last_or_not l j t true e n y =
      let a : leb (T E l - j) 1 ≡ true = sym (ap loads_at (left l j t)) ∙ e in
      let h = (word E k l j t).1 in let g = leb-true _ _ a in
      last_foretold E k n l j y clock (omega (arith, h, g))
  last_or_not l j t false e n y =
      let a : leb (T E l - j) 1 ≡ false = sym (ap loads_at (left l j t)) ∙ e in
      let g = leb-false _ _ a in
      bit_foretold E k n l j y clock (omega (arith, g))

  shift_told : (m : Option ℕ) → ShiftsNow E k m → (b : Bool) → loads_at timing ≡ b → Tells shift_code sh.Nothing (Does E k) (tell_shift m b).shift (only (tell_shift m b).shifted)
  shift_told m (nobody e none) b f = rw e (no_shift_foretold E k (λ n l j y z. none n l j y))
  shift_told m (somebody n l j y e) b f = rw e (last_or_not l j y.1 b f n y)

  -- the bit that it shows
  shows_bit : (n l j i b : ℕ) → Shifts E k n l j → clocks (E k) ≡ true → Writes E i n b → bit_shown timing s.shift ≡ get_or (word_of (form E l) b) j 0
  shows_bit n l j i b y c u =
      ap (λ t. bit_shown t s.shift) (left l j y.1) ∙ go (subst (λ (z : Sending). ShownIn E z s.shift) (sym (transmitter_is E k _ y.1)) w.word).1
    where
      go : Loaded E l j s.shift → s.shift.bits % 2 ≡ get_or (word_of (form E l) b) j 0
      go (a_byte d q o e v) =
          let i : d.number ≡ n = subst (λ (r : Option ℕ). In r n) q (stood E k l n y.0.1) in
          let u' = subst (λ (z : ℕ). Writes E o.at z d.byte) i o.writes in
          ap (λ z. z % 2) v
          ∙ value_bit (word_of (form E l) d.byte) j (one_word (form E l) d.byte).0.bits
          ∙ ap (λ z. get_or (word_of (form E l) z) j 0) (one_entry E o.at _ n d.byte b u' u)
      go (a_fill q e) = absurd (subst (λ (r : Option ℕ). In r n) q (stood E k l n y.0.1))

  -- so what is told is right, where the queue drops nobody
  clock_right : Tells queue_code qu.Nothing (Drops E k) qu.Nothing (fields []) → WrittenRight E k (clock_told s)
  clock_right d = record {
    dropped = let a = shift_alone m (loads_at timing) in rw (a.2, a.3) d;
    shifted = shift_told m (shifting_now_lem E k s w (timed E bytes k)) (loads_at timing) refl;
    bit = shows_bit;
  }

  -- a clock that loads
  loaded_word : (o : Option Byte) → s.transmit.three ≡ o → Loaded E k 0 (word_for o s.front.setup.form s.front.code s.front.setup.tx_sync)
  loaded_word None e = a_fill (sym (ap (λ q. q.three) w.numbers) ∙ ap (option_map byte_number) e) refl
  loaded_word (Some b) e =
      let o = subst (Holds (Entry E)) e w.contents.third in
      a_byte b (sym (ap (λ q. q.three) w.numbers) ∙ ap (option_map byte_number) e) o (named E b o) (ap (λ F. value_of (word_of F b.byte)) (form_now E bytes k))

  load_passed : Loads E k → loads_at timing ≡ true → Passed E k s (step.clocked s) (Ok (clock_told s))
  load_passed h e =
      let t : (step.clocked s).transmit ≡ output_taken s.transmit = ap (λ b. (cond b (loaded_state s) (advanced_state s)).transmit) e in
      let v : (step.clocked s).shift ≡ (loaded_state s).shift = ap (λ b. (cond b (loaded_state s) (advanced_state s)).shift) e in
      record {
        numbers = ap (numbers_by byte_number) t ∙ sym (ap (acted (numbers_by byte_number s.transmit)) (load_act E k h));
        contents = subst (Each (Entry E)) (sym t) (each_taken (Entry E) s.transmit w.contents);
        word = subst (λ (z : Sending). ShownIn E z (step.clocked s).shift) (transmitter_is E (suc k) (showing k 0) (loaded h refl)) (h, subst (Loaded E k 0) (sym v) (loaded_word s.transmit.three refl));
        right = clock_right (load_drops_nobody E k h);
      }

  -- a clock that loads nothing: held, or a bit that is not the last
  unwritten : (n b : ℕ) → Writes E k n b → ⊥
  unwritten = calm_write E k (calm_clock (E k) clock)

  advance_passed : (Loads E k → ⊥) → loads_at timing ≡ false → ShownIn E (sending_at E (suc k)) (shifted_on s.shift) → Passed E k s (step.clocked s) (Ok (clock_told s))
  advance_passed h e n =
      let t : (step.clocked s).transmit ≡ s.transmit = ap (λ b. (cond b (loaded_state s) (advanced_state s)).transmit) e in
      let v : (step.clocked s).shift ≡ shifted_on s.shift = ap (λ b. (cond b (loaded_state s) (advanced_state s)).shift) e in
      let r = calm_tx E k (calm_clock (E k) clock) in
      record {
        numbers = ap (numbers_by byte_number) t ∙ sym (ap (acted (numbers_by byte_number s.transmit)) (still_act E k unwritten (ap idles x) h r));
        contents = subst (Each (Entry E)) (sym t) w.contents;
        word = subst (ShownIn E (sending_at E (suc k))) (sym v) n;
        right = clock_right (quiet_drops_nobody E k unwritten r);
      }

  -- one more bit of the word is shown
  next_bit : (l j : ℕ) (y : Shift) → Loads E l × Loaded E l j y → Loads E l × Loaded E l (j + 1) (shifted_on y)
  next_bit l j y (h, a_byte b q o e v) =
      (h, a_byte b q o e (ap (λ z. z / 2) v ∙ value_rest (word_of (form E l) b.byte) j (one_word (form E l) b.byte).0.bits ∙ ap (λ i. value_of (drop i (word_of (form E l) b.byte))) (sym (add-one j))))
  next_bit l j y (h, a_fill q e) = (h, a_fill q e)

  -- by the state of the transmitter
  clock_by : (z : Sending) → sending_at E k ≡ z → Good E k z → ShownIn E z s.shift → Passed E k s (step.clocked s) (Ok (clock_told s))
  clock_by still e g y =
      let a : Transmitter E (suc k) still = holds (held_same E k (calm_clock (E k) clock) ∙ g) refl in
      advance_passed no_loads (ap loads_at (timed E bytes k ∙ ap (timing_for E) e)) (subst (λ (z : Sending). ShownIn E z (shifted_on s.shift)) (transmitter_is E (suc k) still a) tt)
    where
      no_loads : Loads E k → ⊥
      no_loads (first_word c h) = let u : starting ≡ still = transmitter_is E k _ h ∙ e in cc
      no_loads (next_word l j c h i) = no_word E k l j still (λ z. z) (now_at E k still e) h
  clock_by starting e g y = load_passed (first_word clock (now_at E k starting e)) (ap loads_at (timed E bytes k ∙ ap (timing_for E) e))
  clock_by (showing l j) e g y = go (ltb (j + 1) (T E l)) refl
    where
      here : Transmitter E k (showing l j)
      here = now_at E k (showing l j) e

      no_loads : j + 1 < T E l → Loads E k → ⊥
      no_loads h (first_word c i) = no_word E k l j starting (λ z. z) i here
      no_loads h (next_word m i c t f) = let u = same_word E k m i l j t here in let v = u.1 in let a : T E m ≡ T E l = ap (T E) u.0 in omega (arith, h, f, v, a)

      go : (b : Bool) → ltb (j + 1) (T E l) ≡ b → Passed E k s (step.clocked s) (Ok (clock_told s))
      go true f =
          let h = ltb-true _ _ f in
          advance_passed (no_loads h) (ap loads_at (left l j here) ∙ lt-leb (T E l - j) 1 (omega (arith, h)))
          (subst (λ (z : Sending). ShownIn E z (shifted_on s.shift)) (transmitter_is E (suc k) (showing l (j + 1)) (shown l j here clock h refl)) (next_bit l j s.shift y))
      go false f =
          let h = ltb-false _ _ f in let i = g.1 in
          load_passed (next_word l j clock here (omega (arith, h, i))) (ap loads_at (left l j here) ∙ le-leb (T E l - j) 1 (omega (arith, h, i)))

  -- every clock
  pub clock_passed : Passed E k s (step.clocked s) (Ok (clock_told s))
  clock_passed = clock_by (sending_at E k) refl (good_at E k) w.word
