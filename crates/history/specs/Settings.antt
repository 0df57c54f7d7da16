-- What is set at each moment of a history: the pins and the registers. Assumes nothing.
-- Moment k lies after the first k events, and event k happens between moments k and k + 1.
-- An event that is declined sets nothing.
use Rattle.std.specs.Prelude.{◌≡◌, ℕ, zero, suc, ◌/◌, ◌%◌, Bool, true, false, cond, ◌||◌, Some, None, Option, ◌==◌}
use Rattle.serial.specs.declared.event.Event.{Event}
use Rattle.serial.specs.declared.word.Form.{Form}
use Rattle.std.specs.Option.{unwrap_or}
use Rattle.serial.specs.declared.word.Form.TheVariants.{SixEven}
use Rattle.serial.specs.Words.{form_of}
use Rattle.history.specs.Events.{bit_at, reads, writes, level_for}

abbrev pub History : Type 0
History = ℕ → Event

module _ {A : Type 0} where
  abbrev pub or_else : Option A → A → A
  or_else None y = y
  or_else (Some x) y = x

  -- what was given last before moment k, and v as long as nothing was
  abbrev pub latest : A → (ℕ → Option A) → ℕ → A
  latest v given zero = v
  latest v given (suc k) = or_else (given k) (latest v given k)

-- the pins: true is high
abbrev pub reset : History → ℕ → Bool
reset E k = latest true (λ i. level_for 0 (E i)) k

abbrev pub cts : History → ℕ → Bool
cts E k = latest false (λ i. level_for 1 (E i)) k

abbrev pub dcd : History → ℕ → Bool
dcd E k = latest false (λ i. level_for 2 (E i)) k

-- a pin's level goes up, or down, by event k
abbrev pub Rises : (ℕ → Bool) → ℕ → Type 0
Rises pin k = (pin k ≡ false) × (pin (suc k) ≡ true)

abbrev pub Falls : (ℕ → Bool) → ℕ → Type 0
Falls pin k = (pin k ≡ true) × (pin (suc k) ≡ false)

-- the registers: what event k writes to each; a write with RS 1 goes by the upper two bits of the byte last written to C1
abbrev pub to_c1 : History → ℕ → Option ℕ
to_c1 E k = writes 0 (E k)

abbrev pub c1 : History → ℕ → ℕ
c1 E k = latest 0x03 (to_c1 E) k

abbrev pub addressed : ℕ → History → ℕ → Option ℕ
addressed a E k = cond (c1 E k / 64 == a) (writes 1 (E k)) None

abbrev pub to_c2 : History → ℕ → Option ℕ
to_c2 = addressed 0

abbrev pub to_c3 : History → ℕ → Option ℕ
to_c3 = addressed 1

abbrev pub to_code : History → ℕ → Option ℕ
to_code = addressed 2

abbrev pub to_data : History → ℕ → Option ℕ
to_data = addressed 3

abbrev pub bit_of : ℕ → Option ℕ → Option Bool
bit_of i None = None
bit_of i (Some b) = Some (bit_at i b)

-- a bit that RESET holds at v: as last written, but v at first and while RESET is low
abbrev pub held_by : (ℕ → Bool) → Bool → (ℕ → Option Bool) → ℕ → Bool
held_by high v given zero = v
held_by high v given (suc k) = cond (high (suc k)) (or_else (given k) (held_by high v given k)) v

abbrev pub rx_reset : History → ℕ → Bool
rx_reset E k = held_by (reset E) true (λ i. bit_of 0 (to_c1 E i)) k

abbrev pub tx_reset : History → ℕ → Bool
tx_reset E k = held_by (reset E) true (λ i. bit_of 1 (to_c1 E i)) k

abbrev pub external : History → ℕ → Bool
external E k = held_by (reset E) false (λ i. bit_of 0 (to_c3 E i)) k

abbrev pub strip_sync : History → ℕ → Bool
strip_sync E k = bit_at 2 (c1 E k)

abbrev pub clear_sync : History → ℕ → Bool
clear_sync E k = bit_at 3 (c1 E k)

abbrev pub form : History → ℕ → Form
form E k = unwrap_or (form_of (latest 0 (to_c2 E) k / 8 % 8)) SixEven

abbrev pub one_sync : History → ℕ → Bool
one_sync E k = bit_at 1 (latest 0 (to_c3 E) k)

abbrev pub sync_code : History → ℕ → ℕ
sync_code E k = latest 0 (to_code E) k

-- the receiver is off, the transmitter is held
abbrev pub off : History → ℕ → Bool
off E k = rx_reset E k || dcd E k || clear_sync E k

abbrev pub held : History → ℕ → Bool
held E k = tx_reset E k || cts E k

-- what an event is to the queues and to overrun

abbrev pub ReadsStatus : History → ℕ → Type 0
ReadsStatus E k = reads 0 (E k) ≡ true

abbrev pub ReadsData : History → ℕ → Type 0
ReadsData E k = reads 1 (E k) ≡ true

pub data ResetsReceiver (E : History) (k : ℕ) : Type 0 where
  by_rx_rs : bit_of 0 (to_c1 E k) ≡ Some true → ResetsReceiver E k
  by_reset : Falls (reset E) k → ResetsReceiver E k

pub data ResetsTransmitter (E : History) (k : ℕ) : Type 0 where
  by_tx_rs : bit_of 1 (to_c1 E k) ≡ Some true → ResetsTransmitter E k
  by_reset : Falls (reset E) k → ResetsTransmitter E k

-- what cuts a byte that is being shifted
pub data Cuts (E : History) (k : ℕ) : Type 0 where
  by_tx_reset : ResetsTransmitter E k → Cuts E k
  by_cts : Rises (cts E) k → Cuts E k
