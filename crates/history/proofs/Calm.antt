-- An event that writes nothing and sets no pin leaves every setting, and sends nothing to transmit data. Assumes nothing.
use Rattle.std.proofs.Common.{◌≡◌, ℕ, zero, suc, Bool, true, false, cond, Some, None, Option, sym, refl, ap, ◌∙◌, arith}
use Rattle.std.proofs.lemmas.Option.{none-some}
use Rattle.history.specs.Events.{bit_at, writes}
use Rattle.history.specs.Settings.{History, or_else, held_by, bit_of, reset, cts, dcd, c1, to_c1, to_c3, to_data, addressed, rx_reset, tx_reset, external, clear_sync, off, held}
use Rattle.history.specs.Lines.{restarts, Writes}
use Rattle.history.proofs.Apart.{Calm}

-- a bit that RESET holds

module _ (high : ℕ → Bool) (v : Bool) (given : ℕ → Option Bool) where
  -- while RESET is low it has its value
  pub low : (k : ℕ) → high k ≡ false → held_by high v given k ≡ v
  low zero h = refl
  low (suc k) h = ap (λ b. cond b (or_else (given k) (held_by high v given k)) v) h

  -- where RESET keeps its level and nothing is written it stays
  same_held : (k : ℕ) → given k ≡ None → high (suc k) ≡ high k → held_by high v given (suc k) ≡ held_by high v given k
  same_held k g h = grind (arith, low k, low (suc k))

module _ (E : History) (k : ℕ) (c : Calm (E k)) where
  -- the pins and the registers
  reset_same : reset E (suc k) ≡ reset E k
  reset_same = ap (λ o. or_else o (reset E k)) (c.unset 0)

  cts_same : cts E (suc k) ≡ cts E k
  cts_same = ap (λ o. or_else o (cts E k)) (c.unset 1)

  dcd_same : dcd E (suc k) ≡ dcd E k
  dcd_same = ap (λ o. or_else o (dcd E k)) (c.unset 2)

  clear_same : clear_sync E (suc k) ≡ clear_sync E k
  clear_same = ap (λ o. bit_at 3 (or_else o (c1 E k))) (c.unwritten 0)

  addressed_none : (a : ℕ) → addressed a E k ≡ None
  addressed_none a = grind (arith, c.unwritten 1)

  rx_same : rx_reset E (suc k) ≡ rx_reset E k
  rx_same = same_held (reset E) true (λ i. bit_of 0 (to_c1 E i)) k (ap (bit_of 0) (c.unwritten 0)) reset_same

  tx_same : tx_reset E (suc k) ≡ tx_reset E k
  tx_same = same_held (reset E) true (λ i. bit_of 1 (to_c1 E i)) k (ap (bit_of 1) (c.unwritten 0)) reset_same

  external_same : external E (suc k) ≡ external E k
  external_same = same_held (reset E) false (λ i. bit_of 0 (to_c3 E i)) k (ap (bit_of 0) (addressed_none 1)) reset_same

  -- so the receiver stays on or off, and does not restart, and the transmitter stays held or free
  off_same : off E (suc k) ≡ off E k
  off_same = simp (rx_same, dcd_same, clear_same)

  pub held_same : held E (suc k) ≡ held E k
  held_same = simp (tx_same, cts_same)

  pub no_restart : restarts E k ≡ false
  no_restart = grind (arith, off_same, external_same)

  -- nothing goes to transmit data
  pub calm_write : (n b : ℕ) → Writes E k n b → ⊥
  calm_write n b w = none-some b (sym (addressed_none 3) ∙ w.byte)

-- what goes to transmit data is written with RS 1
module _ (E : History) (k : ℕ) where
  pub data_written : (b : ℕ) → to_data E k ≡ Some b → writes 1 (E k) ≡ Some b
  data_written b h = grind arith

  -- so where nothing is written with RS 1, nothing goes there
  pub not_to_data : {A : Type 0} → writes 1 (E k) ≡ None → (b : ℕ) → to_data E k ≡ Some b → A
  not_to_data h b e = absurd (none-some b (sym h ∙ data_written b e))
