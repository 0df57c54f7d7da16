-- The adapter's settings are those of the history, at every moment. Assumes nothing.
use Rattle.std.proofs.Common.{◌≡◌, ℕ, zero, suc, Bool, true, false, ◌||◌, eqb, Option, sym, refl, ap, ◌∙◌, subst, arith}
use Rattle.std.proofs.lemmas.Bool.{lt-ltb, le-ltb, le-leb}
use Rattle.serial.specs.declared.event.Event.{Event}
use Rattle.ssda.specs.declared.front.Front.{Front}
use Rattle.ssda.specs.declared.receiver.Character.{Character}
use Rattle.ssda.specs.declared.state.State.{State}
use Rattle.ssda.specs.Control as reg
use Rattle.ssda.specs.Front.{off_of, framed_front, heard_front, strips_of, wrote_c1}
use Rattle.ssda.specs.Step.{with_front, taken, took_in, both_resets, c1_was_written}
use Rattle.ssda.specs.Stepped.{stepped}
use Rattle.history.specs.Settings.{History, reset, cts, off, form}
use Rattle.history.specs.Lines.{written}
use Rattle.history.specs.Answering.{WritesByte, WritesBytes, state_at}
use Rattle.history.proofs.Apart.{inert}
use Rattle.history.proofs.Cases.{Outcome, Cases, by_cases}
use Rattle.history.proofs.Views.{view_of, view_at, next_view, view_next, Low, low_at, quiet, view_c1, view_c2, view_c3, view_code, view_data, view_full, view_cts, view_dcd, view_fell, view_rose, view_reset_same, view_cts_same, view_dcd_same}

-- THE FRONT AFTER EACH EVENT

-- resets leave the front
resets_front : (x y : Bool) (s : State) → (both_resets x y s).front ≡ s.front
resets_front x y s = grind arith

pub c1_front : (s : State) (b : ℕ) → (c1_was_written s b).front ≡ wrote_c1 s.front b
c1_front s b = ap (λ f. wrote_c1 f b) (resets_front (reg.bit_of 0 b) (reg.bit_of 1 b) s)

-- what a character does leaves the front
taken_front : (s : State) (o : Option Character) (t : Bool) → strips_of s.front ≡ t → (taken s o).front ≡ s.front
taken_front s o t e = grind arith

pub bit_front : (s : State) (b : ℕ) → (took_in s b).front ≡ heard_front s.front b
bit_front s b = taken_front (with_front s (heard_front s.front b)) (framed_front s.front b) _ refl

-- a received bit leaves the settings
pub heard_view : (f : Front) (b : ℕ) (t : Bool) → off_of f ≡ t → view_of (heard_front f b) ≡ view_of f
heard_view f b t e = grind arith

-- THE SETTINGS

module _ (s : State) (l : Low (view_of s.front)) where
  abbrev Views : Event → State → Outcome → Type 0
  Views e t o = WritesByte e → view_of t.front ≡ next_view e (view_of s.front)

  view_cases : Cases s Views
  view_cases = record {
    idle = λ w. sym (quiet _ l);
    status = λ w. sym (quiet _ l);
    data_read = λ w. sym (quiet _ l);
    c1 = λ b w. ap view_of (c1_front s b) ∙ view_c1 s.front b w l;
    c2 = λ b e w. view_c2 s.front l b e;
    c3 = λ b e w. view_c3 s.front l b e;
    code = λ b e w. view_code s.front l b e;
    byte = λ b e h w. view_data s.front l b e (lt-ltb _ _ h);
    bit = λ b h r w. ap view_of (bit_front s b) ∙ heard_view s.front b _ refl ∙ sym (quiet _ l);
    clock = λ w. sym (quiet _ l);
    reset_falls = λ e w. view_fell s.front l;
    reset_rises = λ e w. view_rose s.front l;
    cts_falls = λ e w. view_cts s.front l false;
    cts_rises = λ e w. view_cts s.front l true;
    dcd_falls = λ e w. view_dcd s.front l false;
    dcd_rises = λ e w. view_dcd s.front l true;
    same_reset = λ n h e w. simp (le-leb n 1 h) (view_reset_same s.front l (eqb n 1) e);
    same_cts = λ n h e w. simp (le-leb n 1 h) (view_cts_same s.front l (eqb n 1) e);
    same_dcd = λ n h e w. simp (le-leb n 1 h) (view_dcd_same s.front l (eqb n 1) e);
    outside = λ e r x w.
        let i = inert e r x in
        simp (i.mild.unset 0 (omega arith), i.mild.unset 1 (omega arith), i.mild.unset 2 (omega arith), i.mild.no_c1, i.no_write) (sym (quiet _ l));
    framed_full = λ b h r w. sym (quiet _ l);
    written_full = λ b e h w. view_full s.front l b e (le-ltb _ _ h);
  }

  view_step : (e : Event) → WritesByte e → view_of (stepped s e).front ≡ next_view e (view_of s.front)
  view_step e = by_cases s Views view_cases e

-- the settings of the adapter are those of the history
pub tied : (E : History) (bytes : WritesBytes E) (k : ℕ) → view_of (state_at E k).front ≡ view_at E k
tied E bytes zero = refl
tied E bytes (suc k) = view_step (state_at E k) (subst Low (sym (tied E bytes k)) (low_at E k)) (E k) (bytes k) ∙ ap (next_view (E k)) (tied E bytes k) ∙ sym (view_next E k)

-- so is each setting
module _ (E : History) (bytes : WritesBytes E) (k : ℕ) where
  pub reset_now : (state_at E k).front.pins.reset ≡ reset E k
  reset_now = ap (λ v. v.reset) (tied E bytes k)

  pub cts_now : (state_at E k).front.pins.cts ≡ cts E k
  cts_now = ap (λ v. v.cts) (tied E bytes k)

  pub off_now : off_of (state_at E k).front ≡ off E k
  off_now = ap (λ v. v.rx || v.dcd || v.clear) (tied E bytes k)

  pub form_now : (state_at E k).front.setup.form ≡ form E k
  form_now = ap (λ v. v.form) (tied E bytes k)

  pub written_now : (state_at E k).front.written ≡ written E k
  written_now = ap (λ v. v.written) (tied E bytes k)
