-- The control registers: what each write leaves in them. Assumes nothing.
use Rattle.std.specs.Prelude.{ℕ, ◌/◌, ◌%◌, ◌^◌, Bool, true, false, not, ◌&&◌, ◌||◌, ◌==◌}
use Rattle.std.specs.Option.{unwrap_or}
use Rattle.serial.specs.declared.word.Form.{Form}
use Rattle.serial.specs.declared.word.Form.TheVariants.{SixEven}
use Rattle.serial.specs.Words.{form_of}
use Rattle.ssda.specs.declared.control.Control.{Control}
use Rattle.ssda.specs.declared.control.Setup.{Setup}
use Rattle.ssda.specs.declared.control.Target.{Target}
use Rattle.ssda.specs.declared.control.Target.TheVariants.{C2, C3, SyncCode, TransmitData}

-- bit i of a byte
abbrev pub bit_of : ℕ → ℕ → Bool
bit_of i b = b / 2 ^ i % 2 == 1

-- where a write with RS 1 goes: AC2, AC1
abbrev pub addressed : Bool → Bool → Target
addressed false false = C2
addressed false true = C3
addressed true false = SyncCode
addressed true true = TransmitData

abbrev pub target_of : ℕ → Target
target_of b = addressed (bit_of 7 b) (bit_of 6 b)

-- the form that bits 5 to 3 of C2 select
abbrev pub form_at : ℕ → Form
form_at b = unwrap_or (form_of (b / 8 % 8)) SixEven

-- C1; high says that RESET is high
abbrev pub control_from : Bool → ℕ → Control
control_from high b = record {
  target = target_of b;
  rie = bit_of 5 b;
  tie = bit_of 4 b;
  clear_sync = bit_of 3 b;
  strip_sync = bit_of 2 b;
  tx_reset = bit_of 1 b || not high;
  rx_reset = bit_of 0 b || not high;
}

abbrev pub new_control : Control
new_control = record { target = C2; rie = false; tie = false; clear_sync = false; strip_sync = false; tx_reset = true; rx_reset = true }

abbrev pub control_under_reset : Control → Control
control_under_reset c = record {
  target = c.target;
  rie = c.rie;
  tie = c.tie;
  clear_sync = c.clear_sync;
  strip_sync = c.strip_sync;
  tx_reset = true;
  rx_reset = true;
}

abbrev pub new_setup : Setup
new_setup = record { eie = false; tx_sync = false; form = SixEven; one_byte = false; pc2 = false; pc1 = false; one_sync = false; external = false }

-- C2, and what C3 keeps
abbrev pub from_c2 : Setup → Bool → ℕ → Setup
from_c2 s high b = record {
  eie = bit_of 7 b && high;
  tx_sync = bit_of 6 b;
  form = form_at b;
  one_byte = bit_of 2 b;
  pc2 = bit_of 1 b && high;
  pc1 = bit_of 0 b && high;
  one_sync = s.one_sync;
  external = s.external;
}

abbrev pub from_c3 : Setup → Bool → ℕ → Setup
from_c3 s high b = record {
  eie = s.eie;
  tx_sync = s.tx_sync;
  form = s.form;
  one_byte = s.one_byte;
  pc2 = s.pc2;
  pc1 = s.pc1;
  one_sync = bit_of 1 b;
  external = bit_of 0 b && high;
}

abbrev pub setup_under_reset : Setup → Setup
setup_under_reset s = record {
  eie = false;
  tx_sync = s.tx_sync;
  form = s.form;
  one_byte = s.one_byte;
  pc2 = false;
  pc1 = false;
  one_sync = s.one_sync;
  external = false;
}
