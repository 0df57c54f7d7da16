-- The acts on the transmit queue can be told apart, and entering numbers rise. Assumes nothing.
use Rattle.std.proofs.Common.{◌≡◌, ℕ, suc, ◌+◌, ◌<◌, ◌≤◌, Bool, true, false, cond, not, ◌&&◌, ltb, Some, None, Option, arith}
use Rattle.std.proofs.lemmas.Bool.Decides.{nat_tests}
use Rattle.std.proofs.lemmas.Bool.{ltb-false, not-true, and_parts}
use Rattle.serial.specs.Moves.{Act}
use Rattle.serial.proofs.Standing.{Sane}
use Rattle.serial.proofs.Places.{IsEnter, Here}
use Rattle.history.specs.Events.{idles, clocks}
use Rattle.history.specs.Settings.{History, to_data, ResetsTransmitter}
use Rattle.history.specs.Lines.{limit, T, one_more, written, Writes, Sending, still, starting, showing, first_word, next_word, Transmitter, Loads}
use Rattle.history.specs.Law.{transmitting}
use Rattle.history.proofs.Acting.{act_of, acts}
use Rattle.history.proofs.Apart.{Calm, calm_idle, calm_clock, clock_or_idle, mild_write}
use Rattle.history.proofs.Calm.{calm_write, data_written}
use Rattle.history.proofs.Computed.{sending_at}
use Rattle.history.proofs.OneState.{Good, good_at, transmitter_at, transmitter_is}
use Rattle.history.proofs.Resets.{resets_by, tx_to, tx_from, unset_tx, calm_tx}

-- LOADS AND WRITES, COMPUTED

-- a clock loads in this state; event k loads; the number of the byte that it writes
abbrev loads_in : History → Sending → Bool
loads_in E still = false
loads_in E starting = true
loads_in E (showing l j) = not (ltb (j + 1) (T E l))

abbrev loads_now : History → ℕ → Bool
loads_now E k = clocks (E k) && loads_in E (sending_at E k)

abbrev next : Option ℕ → ℕ → Option ℕ
next None n = None
next (Some b) n = cond (ltb n limit) (Some (n + 1)) None

abbrev writes_now : History → ℕ → Option ℕ
writes_now E k = next (to_data E k) (written E k)

module _ (E : History) (k : ℕ) where
  pub loads_clock : Loads E k → clocks (E k) ≡ true
  loads_clock l = grind arith

  -- computed, and back
  loads_to : Loads E k → loads_now E k ≡ true
  loads_to x = grind (arith, nat_tests, transmitter_is E k)

  loads_from : loads_now E k ≡ true → Loads E k
  loads_from h = let b = and_parts _ _ h in go (sending_at E k) (transmitter_at E k) (good_at E k) b.0 b.1
    where
      go : (s : Sending) → Transmitter E k s → Good E k s → clocks (E k) ≡ true → loads_in E s ≡ true → Loads E k
      go still t g c i = cc
      go starting t g c i = first_word c t
      go (showing l j) t g c i = let w = ltb-false _ _ (not-true _ i) in let x = g.1 in next_word l j c t (omega (arith, w, x))

  -- computed, and back
  writes_to : (n b : ℕ) → Writes E k n b → writes_now E k ≡ Some n
  writes_to n b w = grind (arith, nat_tests)

  writes_from : (n : ℕ) → writes_now E k ≡ Some n → (b : ℕ) × Writes E k n b
  writes_from n h = grind (arith, nat_tests)

-- THE ACT OF EVENT K ON THE TRANSMIT QUEUE

abbrev pub transmit_act : History → ℕ → Act
transmit_act E k = act_of (resets_by 1 E k) (idles (E k)) (loads_now E k) (writes_now E k)

module _ (E : History) (k : ℕ) where
  pub load_calm : Loads E k → Calm (E k)
  load_calm l = calm_clock (E k) (loads_clock E k l)

  -- what writes a byte resets nothing
  write_quiet : (n b : ℕ) → Writes E k n b → ResetsTransmitter E k → ⊥
  write_quiet n b w = let m = mild_write (E k) b (data_written E k b w.byte) in unset_tx E k m.no_c1 (m.unset 0 (omega arith))

  -- event k is this act, and nothing else
  pub here_now : Here (transmitting E) k (transmit_act E k)
  here_now = acts (transmitting E) k (resets_by 1 E k) (idles (E k)) (loads_now E k) (writes_now E k) (record {
    empties = (tx_to E k, tx_from E k);
    rises = (λ x. x, λ x. x);
    takes = (loads_to E k, loads_from E k);
    enters = λ n. (λ w. writes_to E k n w.0 w.1, writes_from E k n);
    rise_or_empty = λ x. calm_tx E k (calm_idle (E k) x);
    take_or_empty = λ x. calm_tx E k (load_calm x);
    take_or_rise = λ x. clock_or_idle (E k) (loads_clock E k x);
    enter_or_empty = λ n w. write_quiet n w.0 w.1;
    enter_or_rise = λ n w x. calm_write E k (calm_idle (E k) x) n w.0 w.1;
    enter_or_take = λ n w x. calm_write E k (load_calm x) n w.0 w.1;
  })

  -- numbers of written bytes rise
  more : (o : Option ℕ) (n : ℕ) → n ≤ one_more o n
  more o n = grind arith

  pub written_next : (n b : ℕ) → Writes E k n b → n ≡ written E (suc k)
  written_next n b w = grind (arith, nat_tests)

  fresh : (m : ℕ) → IsEnter (transmit_act E k) m → (written E k < m) × (m ≤ written E (suc k))
  fresh m i = grind (arith, here_now, written_next)

pub transmitting_sane : (E : History) → Sane (transmitting E) (transmit_act E) (written E)
transmitting_sane E = record { here = here_now E; grows = λ k. more E k (to_data E k) (written E k); fresh = fresh E }
