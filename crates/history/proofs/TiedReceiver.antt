-- The adapter's receiver is in the phase, with the count and the last bits, that the rules of framing give. Assumes nothing.
use Rattle.std.proofs.Common.{◌≡◌, ℕ, zero, suc, ◌+◌, ◌-◌, ◌*◌, ◌/◌, ◌^◌, ◌<◌, ◌≤◌, Bool, true, false, cond, not, ◌&&◌, ◌||◌, List, Some, None, Option, sym, refl, ap, ◌∙◌, subst, arith}
use Rattle.std.proofs.lemmas.Bool.Decides.{nat_tests}
use mathlib.Core.Bool.{beq}
use Rattle.std.proofs.lemmas.Bool.{le-leb}
use Rattle.serial.specs.declared.event.Event.{Event}
use Rattle.serial.specs.declared.event.Event.TheVariants.{ReceivedBit}
use Rattle.serial.specs.declared.word.Form.{Form}
use Rattle.serial.specs.Words.{total_bits, bits_of, matches}
use Rattle.ssda.specs.declared.front.Front.{Front}
use Rattle.ssda.specs.declared.receiver.Receiver.{Receiver}
use Rattle.ssda.specs.declared.state.State.{State}
use Rattle.ssda.specs.Control.{control_from, from_c3, control_under_reset, setup_under_reset}
use Rattle.ssda.specs.Front.{off_of, heard_front, settled_front, with_control, with_setup, with_pins, pins_of}
use Rattle.ssda.specs.Receiver as rcv
use Rattle.history.specs.Events.{received}
use Rattle.history.specs.Settings.{History, off, form}
use Rattle.history.specs.Lines.{limit, T, Phase, first, restarts, last_bits, Match}
use Rattle.history.specs.Answering.{WritesBytes, state_at, phase_of}
use Rattle.history.proofs.Apart.{calm_bit, inert}
use Rattle.history.proofs.Calm.{no_restart}
use Rattle.history.proofs.Cases.{Outcome, Cases, by_cases}
use Rattle.history.proofs.Computed.{fed, takes, next_phase, phase_at}
use Rattle.history.proofs.Receiving.{count, receiving_sane}
use Rattle.history.proofs.Tied.{tied, off_now, form_now, c1_front, bit_front, heard_view}
use Rattle.history.proofs.Views.{View, view_of, view_at}
use Rattle.history.proofs.Window.{window, window_first, window_ones, window_off, window_none, window_slides, window_word}

-- the chip's phase in the words of the rules, and how many characters are framed
abbrev pub seen_of : Receiver → Phase × ℕ
seen_of r = (phase_of r.phase r.count, r.framed)

-- THE RULES OVER SETTINGS, before and after an event: over those of a history they are the rules themselves, by definition

-- the receiver is off; it restarts; its phase and its last nine bits after the event
abbrev off_in : View → Bool
off_in v = v.rx || v.dcd || v.clear

abbrev restarts_by : View → View → Bool
restarts_by v w = not (off_in w) && (off_in v || not (beq v.external w.external))

abbrev next_seen : View → View → Option ℕ → Bool → Phase × ℕ → Phase × ℕ
next_seen v w o m x = cond (restarts_by v w) (first w.external, x.1) (cond (takes o (off_in v) x.1) (fed x.0 x.1 m v.sync (total_bits v.form)) x)

abbrev slides : Option ℕ → ℕ → ℕ
slides None x = x
slides (Some b) x = x / 2 + b * 256

abbrev next_window : View → View → Option ℕ → ℕ → ℕ
next_window v w o x = cond (restarts_by v w) 511 (cond (off_in v) x (slides o x))

window_next : (E : History) (k : ℕ) → window E (suc k) ≡ next_window (view_at E k) (view_at E (suc k)) (received (E k)) (window E k)
window_next E k = go (restarts E k) refl (off E k) refl (received (E k)) refl
  where
    go : (r : Bool) → restarts E k ≡ r → (o : Bool) → off E k ≡ o → (b : Option ℕ) → received (E k) ≡ b → window E (suc k) ≡ cond r 511 (cond o (window E k) (slides b (window E k)))
    go true e o f b g = window_ones E k e
    go false e true f b g = window_off E k e f
    go false e false f None g = window_none E k e g
    go false e false f (Some b) g = window_slides E k b e f g

-- EACH EVENT

-- where no setting changes and no bit comes, the phase and the last bits stay
still : (v : View) (m : Bool) (x : Phase × ℕ) → next_seen v v None m x ≡ x
still v m x = grind arith

still_window : (v : View) (x : ℕ) → next_window v v None x ≡ x
still_window v x = grind arith

-- after new settings, without a bit, both are as the rules say
module _ (f g : Front) (same : g.receiver ≡ f.receiver) where
  settle_seen : (m : Bool) → seen_of (settled_front f g).receiver ≡ next_seen (view_of f) (view_of g) None m (seen_of f.receiver)
  settle_seen m = grind arith

  settle_window : (settled_front f g).receiver.window ≡ next_window (view_of f) (view_of g) None f.receiver.window
  settle_window = grind arith

-- the match that the chip finds at bit b
abbrev pub match_of : Front → ℕ → Bool
match_of f b = matches f.setup.form f.code (rcv.last_bits f.receiver b f.setup.form)

-- a bit that is heard
module _ (f : Front) (b : ℕ) (room : f.receiver.framed < limit) where
  bit_seen : (m : Bool) → (off_of f ≡ false → m ≡ match_of f b) → (o : Bool) → off_of f ≡ o → seen_of (heard_front f b).receiver ≡ next_seen (view_of f) (view_of f) (Some b) m (seen_of f.receiver)
  bit_seen m same o e = grind (arith, nat_tests)

  bit_window : (o : Bool) → off_of f ≡ o → (heard_front f b).receiver.window ≡ next_window (view_of f) (view_of f) (Some b) f.receiver.window
  bit_window o e = grind arith

-- a bit that is declined, since all numbers are used up
full_seen : (f : Front) (b : ℕ) → limit ≤ f.receiver.framed → (m : Bool) (o : Bool) → off_of f ≡ o → seen_of f.receiver ≡ next_seen (view_of f) (view_of f) (Some b) m (seen_of f.receiver)
full_seen f b full m o e = grind (arith, nat_tests)

module _ (s : State) where
  abbrev f : Front
  f = s.front

  -- the phase after the event is the one that the rules give
  abbrev Seen : Event → State → Outcome → Type 0
  Seen e t o =
      (m : Bool) → ((b : ℕ) → received e ≡ Some b → f.receiver.framed < limit → off_of f ≡ false → m ≡ match_of f b)
      → seen_of t.front.receiver ≡ next_seen (view_of f) (view_of t.front) (received e) m (seen_of f.receiver)

  -- the front is g after an event that brings no bit
  abbrev SeenAs : Bool → Front → Type 0
  SeenAs m g = seen_of g.receiver ≡ next_seen (view_of f) (view_of g) None m (seen_of f.receiver)

  same_seen : (m : Bool) → SeenAs m f
  same_seen m = sym (still (view_of f) m (seen_of f.receiver))

  -- each case
  seen_cases : Cases s Seen
  seen_cases = record {
    idle = λ m h. same_seen m;
    status = λ m h. same_seen m;
    data_read = λ m h. same_seen m;
    c1 = λ b m h. subst (SeenAs m) (sym (c1_front s b)) (settle_seen f (with_control f (control_from f.pins.reset b)) refl m);
    c2 = λ b e m h. same_seen m;
    c3 = λ b e m h. settle_seen f (with_setup f (from_c3 f.setup f.pins.reset b)) refl m;
    code = λ b e m h. same_seen m;
    byte = λ b e r m h. same_seen m;
    bit = λ b l r m h.
        let P : Front → Type 0 = λ g. seen_of g.receiver ≡ next_seen (view_of f) (view_of g) (received (ReceivedBit b)) m (seen_of f.receiver) in
        subst P (sym (bit_front s b))
        (simp (heard_view f b (off_of f) refl, le-leb b 1 l) (bit_seen f b r m (λ e. h b (simp (le-leb b 1 l)) r e) (off_of f) refl));
    clock = λ m h. same_seen m;
    reset_falls = λ e m h. settle_seen f (with_pins (with_setup (with_control f (control_under_reset f.control)) (setup_under_reset f.setup)) (pins_of false f.pins.cts f.pins.dcd)) refl m;
    reset_rises = λ e m h. same_seen m;
    cts_falls = λ e m h. settle_seen f (with_pins f (pins_of f.pins.reset false f.pins.dcd)) refl m;
    cts_rises = λ e m h. settle_seen f (with_pins f (pins_of f.pins.reset true f.pins.dcd)) refl m;
    dcd_falls = λ e m h. settle_seen f (with_pins f (pins_of f.pins.reset f.pins.cts false)) refl m;
    dcd_rises = λ e m h. settle_seen f (with_pins f (pins_of f.pins.reset f.pins.cts true)) refl m;
    same_reset = λ l h e m i. same_seen m;
    same_cts = λ l h e m i. same_seen m;
    same_dcd = λ l h e m i. same_seen m;
    outside = λ e r x m h. simp (inert e r x).no_bit (same_seen m);
    framed_full = λ b l r m h. simp (le-leb b 1 l) (full_seen f b r m (off_of f) refl);
    written_full = λ b e r m h. same_seen m;
  }

  -- the last bits after the event are those of the rules
  abbrev Slid : Event → State → Outcome → Type 0
  Slid e t o = t.front.receiver.framed < limit → t.front.receiver.window ≡ next_window (view_of f) (view_of t.front) (received e) f.receiver.window

  abbrev SlidAs : Front → Type 0
  SlidAs g = g.receiver.window ≡ next_window (view_of f) (view_of g) None f.receiver.window

  same_slid : SlidAs f
  same_slid = sym (still_window (view_of f) f.receiver.window)

  -- each case
  slid_cases : Cases s Slid
  slid_cases = record {
    idle = λ h. same_slid;
    status = λ h. same_slid;
    data_read = λ h. same_slid;
    c1 = λ b h. subst SlidAs (sym (c1_front s b)) (settle_window f (with_control f (control_from f.pins.reset b)) refl);
    c2 = λ b e h. same_slid;
    c3 = λ b e h. settle_window f (with_setup f (from_c3 f.setup f.pins.reset b)) refl;
    code = λ b e h. same_slid;
    byte = λ b e r h. same_slid;
    bit = λ b l r h.
        let P : Front → Type 0 = λ g. g.receiver.window ≡ next_window (view_of f) (view_of g) (received (ReceivedBit b)) f.receiver.window in
        subst P (sym (bit_front s b)) (simp (heard_view f b (off_of f) refl, le-leb b 1 l) (bit_window f b r (off_of f) refl));
    clock = λ h. same_slid;
    reset_falls = λ e h. settle_window f (with_pins (with_setup (with_control f (control_under_reset f.control)) (setup_under_reset f.setup)) (pins_of false f.pins.cts f.pins.dcd)) refl;
    reset_rises = λ e h. same_slid;
    cts_falls = λ e h. settle_window f (with_pins f (pins_of f.pins.reset false f.pins.dcd)) refl;
    cts_rises = λ e h. settle_window f (with_pins f (pins_of f.pins.reset true f.pins.dcd)) refl;
    dcd_falls = λ e h. settle_window f (with_pins f (pins_of f.pins.reset f.pins.cts false)) refl;
    dcd_rises = λ e h. settle_window f (with_pins f (pins_of f.pins.reset f.pins.cts true)) refl;
    same_reset = λ l h e i. same_slid;
    same_cts = λ l h e i. same_slid;
    same_dcd = λ l h e i. same_slid;
    outside = λ e r x h. simp (inert e r x).no_bit same_slid;
    framed_full = λ b l r h. absurd (omega (arith, r, h));
    written_full = λ b e r h. same_slid;
  }

-- THE TIE

-- the receiver r at moment k: its phase and count are those of the rules, and its window has the last nine bits while there are numbers left
pub record Heard (E : History) (k : ℕ) (r : Receiver) : Type 0 where
  pub seen : seen_of r ≡ phase_at E k
  pub window_of : r.framed < limit → r.window ≡ window E k

module _ (E : History) (bytes : WritesBytes E) (k : ℕ) (t : Heard E k (state_at E k).front.receiver) where
  abbrev s : State
  s = state_at E k

  -- while there are numbers left, the chip has the last bits that the rules have
  pub last_of : (b : ℕ) → received (E k) ≡ Some b → s.front.receiver.framed < limit → off_of s.front ≡ false → rcv.last_bits s.front.receiver b s.front.setup.form ≡ last_bits E (suc k) (T E k)
  last_of b came room on =
      ap (λ F. upper F (s.front.receiver.window / 2 + b * 256)) (form_now E bytes k)
      ∙ ap (upper (form E k)) (sym slid_window)
      ∙ window_word E (suc k) (form E k)
    where
      upper : Form → ℕ → List ℕ
      upper F W = bits_of (total_bits F) (W / 2 ^ (9 - total_bits F))

      slid_window : window E (suc k) ≡ s.front.receiver.window / 2 + b * 256
      slid_window =
          window_slides E k b (no_restart E k (calm_bit (E k) b came)) (sym (off_now E bytes k) ∙ on) came
          ∙ ap (λ x. x / 2 + b * 256) (sym (t.window_of room))

  -- and finds the match that they find
  pub match_of_lem : (b : ℕ) → received (E k) ≡ Some b → s.front.receiver.framed < limit → off_of s.front ≡ false → Match E k ≡ match_of s.front b
  match_of_lem b came room on = grind (arith, form_now, tied, last_of)

-- one event further
module _ (E : History) (bytes : WritesBytes E) (k : ℕ) (t : Heard E k (state_at E k).front.receiver) where
  abbrev before : State
  before = state_at E k

  abbrev after : State
  after = state_at E (suc k)

  seen_more : seen_of after.front.receiver ≡ phase_at E (suc k)
  seen_more =
      by_cases before (Seen before) (seen_cases before) (E k) (Match E k) (match_of_lem E bytes k t)
      ∙ ap (λ v. next_seen v (view_of after.front) (received (E k)) (Match E k) (seen_of before.front.receiver)) (tied E bytes k)
      ∙ ap (λ w. next_seen (view_at E k) w (received (E k)) (Match E k) (seen_of before.front.receiver)) (tied E bytes (suc k))
      ∙ ap (next_phase E k) t.seen

  -- where there are numbers left after it there were before
  room_before : after.front.receiver.framed < limit → before.front.receiver.framed < limit
  room_before h =
      let a : before.front.receiver.framed ≡ count E k = ap (λ x. x.1) t.seen in
      let b : after.front.receiver.framed ≡ count E (suc k) = ap (λ x. x.1) seen_more in
      let c = (receiving_sane E).grows k in
      omega (arith, a, b, c, h)

  window_more : after.front.receiver.framed < limit → after.front.receiver.window ≡ window E (suc k)
  window_more h =
      by_cases before (Slid before) (slid_cases before) (E k) h
      ∙ ap (λ v. next_window v (view_of after.front) (received (E k)) before.front.receiver.window) (tied E bytes k)
      ∙ ap (λ w. next_window (view_at E k) w (received (E k)) before.front.receiver.window) (tied E bytes (suc k))
      ∙ ap (next_window (view_at E k) (view_at E (suc k)) (received (E k))) (t.window_of (room_before h))
      ∙ sym (window_next E k)

-- the receiver of the adapter is as the rules of framing say, at every moment
pub heard : (E : History) (bytes : WritesBytes E) (k : ℕ) → Heard E k (state_at E k).front.receiver
heard E bytes zero = record { seen = refl; window_of = λ h. sym (window_first E) }
heard E bytes (suc k) = record { seen = seen_more E bytes k (heard E bytes k); window_of = window_more E bytes k (heard E bytes k) }

-- how many characters are framed
pub framed_at : (E : History) (bytes : WritesBytes E) (k : ℕ) → (state_at E k).front.receiver.framed ≡ count E k
framed_at E bytes k = ap (λ x. x.1) (heard E bytes k).seen
