-- Resets of the receiver and of the transmitter, computed, and the events that bring no reset and no cut. Assumes nothing.
use Rattle.std.proofs.Common.{◌≡◌, ℕ, suc, Bool, true, false, not, ◌&&◌, ◌||◌, ◌⊎◌, Some, None, Option, inl, inr, arith}
use Rattle.history.specs.Events.{writes, level_for}
use Rattle.history.specs.Settings.{History, bit_of, to_c1, reset, cts, Rises, Falls, ResetsReceiver, by_rx_rs, by_reset, ResetsTransmitter, by_tx_rs, Cuts, by_tx_reset, by_cts}
use Rattle.history.proofs.Apart.{Calm}

-- RESETS, COMPUTED

-- a bit that is written as 1
abbrev is_true : Option Bool → Bool
is_true None = false
is_true (Some b) = b

is_true_lem : (o : Option Bool) → is_true o ≡ true → o ≡ Some true
is_true_lem o h = grind arith

-- bit i of C1 is written as 1, or RESET falls
abbrev pub resets_by : ℕ → History → ℕ → Bool
resets_by i E k = is_true (bit_of i (to_c1 E k)) || (reset E k && not (reset E (suc k)))

module _ (E : History) (k : ℕ) where
  abbrev Resets : ℕ → Type 0
  Resets i = (bit_of i (to_c1 E k) ≡ Some true) ⊎ Falls (reset E) k

  -- computed and back, for either bit
  resets_to : (i : ℕ) → Resets i → resets_by i E k ≡ true
  resets_to i x = grind arith

  resets_from : (i : ℕ) → resets_by i E k ≡ true → Resets i
  resets_from i h = grind (arith, is_true_lem (bit_of i (to_c1 E k)))

  -- so a reset of the receiver, with bit 0, and of the transmitter, with bit 1
  pub rx_to : ResetsReceiver E k → resets_by 0 E k ≡ true
  rx_to r = grind (arith, resets_to)

  pub rx_from : resets_by 0 E k ≡ true → ResetsReceiver E k
  rx_from h = elim (resets_from 0 h) [ inl x ↦ by_rx_rs x | inr x ↦ by_reset x ]

  pub tx_to : ResetsTransmitter E k → resets_by 1 E k ≡ true
  tx_to r = grind (arith, resets_to)

  pub tx_from : resets_by 1 E k ≡ true → ResetsTransmitter E k
  tx_from h = elim (resets_from 1 h) [ inl x ↦ by_tx_rs x | inr x ↦ by_reset x ]

  -- EVENTS THAT BRING NONE

  -- RESET falls, and CTS rises, only where its level is set, and to another one
  pub no_fall : level_for 0 (E k) ≡ None → Falls (reset E) k → ⊥
  no_fall h f = grind arith

  pub no_fall_to : (b : Bool) → level_for 0 (E k) ≡ Some b → (b ≡ false → reset E k ≡ false) → Falls (reset E) k → ⊥
  no_fall_to b h i f = grind arith

  pub no_rise : level_for 1 (E k) ≡ None → Rises (cts E) k → ⊥
  no_rise h f = grind arith

  pub no_rise_to : (b : Bool) → level_for 1 (E k) ≡ Some b → (b ≡ true → cts E k ≡ true) → Rises (cts E) k → ⊥
  no_rise_to b h i f = grind arith

  -- no reset, by both ways; no cut
  pub no_rx : (bit_of 0 (to_c1 E k) ≡ Some true → ⊥) → (Falls (reset E) k → ⊥) → ResetsReceiver E k → ⊥
  no_rx a b (by_rx_rs h) = a h
  no_rx a b (by_reset h) = b h

  pub no_tx : (bit_of 1 (to_c1 E k) ≡ Some true → ⊥) → (Falls (reset E) k → ⊥) → ResetsTransmitter E k → ⊥
  no_tx a b (by_tx_rs h) = a h
  no_tx a b (by_reset h) = b h

  pub no_cut : (ResetsTransmitter E k → ⊥) → (Rises (cts E) k → ⊥) → Cuts E k → ⊥
  no_cut a b (by_tx_reset h) = a h
  no_cut a b (by_cts h) = b h

  -- where nothing is written to C1, no bit of it is
  no_c1_bit : (i : ℕ) → writes 0 (E k) ≡ None → bit_of i (to_c1 E k) ≡ Some true → ⊥
  no_c1_bit i h e = grind arith

  -- where nothing is written to C1 and RESET is not set, nothing is reset
  pub unset_rx : writes 0 (E k) ≡ None → level_for 0 (E k) ≡ None → ResetsReceiver E k → ⊥
  unset_rx h i = no_rx (no_c1_bit 0 h) (no_fall i)

  pub unset_tx : writes 0 (E k) ≡ None → level_for 0 (E k) ≡ None → ResetsTransmitter E k → ⊥
  unset_tx h i = no_tx (no_c1_bit 1 h) (no_fall i)

  pub calm_rx : Calm (E k) → ResetsReceiver E k → ⊥
  calm_rx c = unset_rx (c.unwritten 0) (c.unset 0)

  pub calm_tx : Calm (E k) → ResetsTransmitter E k → ⊥
  calm_tx c = unset_tx (c.unwritten 0) (c.unset 0)
