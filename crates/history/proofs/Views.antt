-- The settings of the adapter's front are those of the history, at every moment. Assumes nothing.
use Rattle.std.proofs.Common.{◌≡◌, ℕ, suc, ◌/◌, ◌%◌, ◌<◌, Bool, true, false, cond, ltb, Some, None, Option, ◌==◌, arith}
use Rattle.std.proofs.lemmas.Bool.Decides.{nat_tests}
use Rattle.std.specs.Option.{unwrap_or}
use Rattle.serial.specs.declared.event.Event.{Event}
use Rattle.serial.specs.declared.word.Form.{Form}
use Rattle.serial.specs.declared.word.Form.TheVariants.{SixEven}
use Rattle.serial.specs.Words.{form_of}
use Rattle.ssda.specs.declared.control.Target.{Target}
use Rattle.ssda.specs.declared.control.Target.TheVariants.{C2, C3, SyncCode, TransmitData}
use Rattle.ssda.specs.declared.front.Front.{Front}
use Rattle.ssda.specs.Control as reg
use Rattle.ssda.specs.Front.{wrote_c1, wrote_c2, wrote_c3, wrote_code, counted_write, with_cts, with_dcd, reset_fell, reset_rose}
use Rattle.history.specs.Events.{bit_at, writes, level_for}
use Rattle.history.specs.Settings.{History, or_else, bit_of, to_c1, to_c3, c1, reset, cts, dcd, rx_reset, tx_reset, external, clear_sync, strip_sync, one_sync, form, sync_code}
use Rattle.history.specs.Lines.{one_more, written}
use Rattle.history.proofs.Calm.{low}

-- all settings that the law speaks of
pub record View : Type 0 where
  pub reset : Bool
  pub cts : Bool
  pub dcd : Bool
  pub goes : ℕ
  pub clear : Bool
  pub strip : Bool
  pub rx : Bool
  pub tx : Bool
  pub external : Bool
  pub sync : Bool
  pub form : Form
  pub code : ℕ
  pub written : ℕ

-- where a write with RS 1 goes, as the number that AC2 AC1 are
abbrev pub place_of : Target → ℕ
place_of C2 = 0
place_of C3 = 1
place_of SyncCode = 2
place_of TransmitData = 3

-- the settings of a front
abbrev pub view_of : Front → View
view_of f = record {
  reset = f.pins.reset;
  cts = f.pins.cts;
  dcd = f.pins.dcd;
  goes = place_of f.control.target;
  clear = f.control.clear_sync;
  strip = f.control.strip_sync;
  rx = f.control.rx_reset;
  tx = f.control.tx_reset;
  external = f.setup.external;
  sync = f.setup.one_sync;
  form = f.setup.form;
  code = f.code;
  written = f.written;
}

-- the settings of a history
abbrev pub view_at : History → ℕ → View
view_at E k = record {
  reset = reset E k;
  cts = cts E k;
  dcd = dcd E k;
  goes = c1 E k / 64;
  clear = clear_sync E k;
  strip = strip_sync E k;
  rx = rx_reset E k;
  tx = tx_reset E k;
  external = external E k;
  sync = one_sync E k;
  form = form E k;
  code = sync_code E k;
  written = written E k;
}

-- the byte written with RS 1, where it goes to the register of this number
abbrev pub at : View → ℕ → Option ℕ → Option ℕ
at v a w = cond (v.goes == a) w None

-- where a byte written to C1 leads, and the form that one written to C2 selects
abbrev led : Option ℕ → Option ℕ
led None = None
led (Some b) = Some (b / 64)

abbrev pub form_in : Option ℕ → Option Form
form_in None = None
form_in (Some b) = Some (unwrap_or (form_of (b / 8 % 8)) SixEven)

-- the settings after the pins get these levels and the registers these bytes
abbrev pub next_by : Option Bool → Option Bool → Option Bool → Option ℕ → Option ℕ → View → View
next_by p q r a b v = record {
  reset = or_else p v.reset;
  cts = or_else q v.cts;
  dcd = or_else r v.dcd;
  goes = or_else (led a) v.goes;
  clear = or_else (bit_of 3 a) v.clear;
  strip = or_else (bit_of 2 a) v.strip;
  rx = cond (or_else p v.reset) (or_else (bit_of 0 a) v.rx) true;
  tx = cond (or_else p v.reset) (or_else (bit_of 1 a) v.tx) true;
  external = cond (or_else p v.reset) (or_else (bit_of 0 (at v 1 b)) v.external) false;
  sync = or_else (bit_of 1 (at v 1 b)) v.sync;
  form = or_else (form_in (at v 0 b)) v.form;
  code = or_else (at v 2 b) v.code;
  written = one_more (at v 3 b) v.written;
}

abbrev pub next_view : Event → View → View
next_view e v = next_by (level_for 0 e) (level_for 1 e) (level_for 2 e) (writes 0 e) (writes 1 e) v

-- a bit of the byte that was written last, where the byte leads, and the form that it selects
bit_last : (i : ℕ) (o : Option ℕ) (x : ℕ) → bit_at i (or_else o x) ≡ or_else (bit_of i o) (bit_at i x)
bit_last i o x = grind arith

led_last : (o : Option ℕ) (x : ℕ) → or_else o x / 64 ≡ or_else (led o) (x / 64)
led_last o x = grind arith

form_last : (o : Option ℕ) (x : ℕ) → unwrap_or (form_of (or_else o x / 8 % 8)) SixEven ≡ or_else (form_in o) (unwrap_or (form_of (x / 8 % 8)) SixEven)
form_last o x = grind arith

-- so the settings of a history go on
pub view_next : (E : History) (k : ℕ) → view_at E (suc k) ≡ next_view (E k) (view_at E k)
view_next E k = simp (bit_last, led_last, form_last)

-- while RESET is low, what it holds is held
pub record Low (v : View) : Type 0 where
  pub rx_held : v.reset ≡ false → v.rx ≡ true
  pub tx_held : v.reset ≡ false → v.tx ≡ true
  pub external_held : v.reset ≡ false → v.external ≡ false

-- so it is in every history
pub low_at : (E : History) (k : ℕ) → Low (view_at E k)
low_at E k = record {
  rx_held = low (reset E) true (λ i. bit_of 0 (to_c1 E i)) k;
  tx_held = low (reset E) true (λ i. bit_of 1 (to_c1 E i)) k;
  external_held = low (reset E) false (λ i. bit_of 0 (to_c3 E i)) k;
}

-- nothing is set
pub quiet : (v : View) → Low v → next_by None None None None None v ≡ v
quiet v l = grind arith

-- a byte leads where its two upper bits say
pub leads : (b : ℕ) → b < 256 → place_of (reg.addressed (reg.bit_of 7 b) (reg.bit_of 6 b)) ≡ b / 64
leads b h = grind (arith, nat_tests)

-- a byte written to C1, and to each of the others
pub view_c1 : (f : Front) (b : ℕ) → b < 256 → Low (view_of f) → view_of (wrote_c1 f b) ≡ next_by None None None (Some b) None (view_of f)
view_c1 f b h l = grind (arith, leads b h)

-- what RESET holds is kept where RESET keeps its level
module _ (f : Front) (l : Low (view_of f)) where
  -- a byte written with RS 1, by where it goes
  pub view_c2 : (b : ℕ) → f.control.target ≡ C2 → view_of (wrote_c2 f b) ≡ next_by None None None None (Some b) (view_of f)
  view_c2 b e = grind arith

  pub view_c3 : (b : ℕ) → f.control.target ≡ C3 → view_of (wrote_c3 f b) ≡ next_by None None None None (Some b) (view_of f)
  view_c3 b e = grind arith

  pub view_code : (b : ℕ) → f.control.target ≡ SyncCode → view_of (wrote_code f b) ≡ next_by None None None None (Some b) (view_of f)
  view_code b e = grind arith

  pub view_data : (b : ℕ) → f.control.target ≡ TransmitData → ltb f.written 16000000 ≡ true → view_of (counted_write f) ≡ next_by None None None None (Some b) (view_of f)
  view_data b e h = grind arith

  -- where all numbers are used up nothing changes
  pub view_full : (b : ℕ) → f.control.target ≡ TransmitData → ltb f.written 16000000 ≡ false → view_of f ≡ next_by None None None None (Some b) (view_of f)
  view_full b e h = grind arith

  -- the pins
  pub view_cts : (h : Bool) → view_of (with_cts f h) ≡ next_by None (Some h) None None None (view_of f)
  view_cts h = grind arith

  pub view_dcd : (h : Bool) → view_of (with_dcd f h) ≡ next_by None None (Some h) None None (view_of f)
  view_dcd h = grind arith

  pub view_fell : view_of (reset_fell f) ≡ next_by (Some false) None None None None (view_of f)
  view_fell = grind arith

  pub view_rose : view_of (reset_rose f) ≡ next_by (Some true) None None None None (view_of f)
  view_rose = grind arith

  -- a level that is the present one
  pub view_reset_same : (h : Bool) → h ≡ f.pins.reset → view_of f ≡ next_by (Some h) None None None None (view_of f)
  view_reset_same h e = grind arith

  pub view_cts_same : (h : Bool) → h ≡ f.pins.cts → view_of f ≡ next_by None (Some h) None None None (view_of f)
  view_cts_same h e = grind arith

  pub view_dcd_same : (h : Bool) → h ≡ f.pins.dcd → view_of f ≡ next_by None None (Some h) None None (view_of f)
  view_dcd_same h e = grind arith
