-- A declined event does nothing to anyone, and it is declined for one reason. Assumes nothing.
use Rattle.std.proofs.Common.{◌≡◌, ℕ, true, ◌⊎◌, Some, sym, refl, ap, ◌∙◌, inl, inr, arith}
use Rattle.std.proofs.lemmas.Bool.{false≢true}
use Rattle.std.proofs.lemmas.Option.{none-some}
use Rattle.serial.specs.declared.event.Refusal.{Refusal}
use Rattle.history.specs.Events.{received, clocks}
use Rattle.history.specs.Settings.{History, to_data, ReadsData, ResetsReceiver, ResetsTransmitter, Cuts}
use Rattle.history.specs.Lines.{limit, Framed, Frames, written, Writes}
use Rattle.history.specs.Law.{Declined, out_of_range, framed_full, written_full, Fate, Met, Shown, Does, Dropped, Drops}
use Rattle.history.proofs.Apart.{Mild, mild_bit, mild_write, Inert, inert, bit_or_write}
use Rattle.history.proofs.Calm.{data_written, not_to_data}
use Rattle.history.proofs.OnePhase.{receiver_is}
use Rattle.history.proofs.ReceivedFates.{nobody_met}
use Rattle.history.proofs.Receiving.{count, numbered, unframed}
use Rattle.history.proofs.Resets.{unset_rx, unset_tx, no_cut, no_rise}
use Rattle.history.proofs.WrittenFates.{nobody_dropped, nothing_done}

module _ (E : History) (k : ℕ) where
  -- event k is nothing to either queue, nor to the byte that is being shifted
  record Quiet : Type 0 where
    pub mild : Mild (E k)
    pub no_frame : (n : ℕ) → Frames E k n → ⊥
    pub no_write : (n b : ℕ) → Writes E k n b → ⊥

  -- each of the three reasons to decline an event makes it such a one
  quiet_inert : Inert (E k) → Quiet
  quiet_inert i = record {
    mild = i.mild;
    no_frame = unframed E k i.no_bit;
    no_write = λ n b w. not_to_data E k i.no_write b w.byte;
  }

  quiet_bit : (b : ℕ) → received (E k) ≡ Some b → Framed E k limit → Quiet
  quiet_bit b h f = record {
    mild = mild_bit (E k) b h;
    no_frame = λ n g.
        let x : limit ≡ count E k = ap (λ x. x.1) (receiver_is E k f.0 limit f.1) in
        omega (arith, (numbered E k n g).0, g.next, g.bit.room);
    no_write = λ n c w. bit_or_write 1 (E k) b c h (data_written E k c w.byte);
  }

  quiet_write : (b : ℕ) → to_data E k ≡ Some b → written E k ≡ limit → Quiet
  quiet_write b h f = record {
    mild = mild_write (E k) b (data_written E k b h);
    no_frame = λ n g. bit_or_write 1 (E k) g.bit.bit b g.bit.came (data_written E k b h);
    no_write = λ n c w. omega (arith, f, w.room);
  }

  declined_quiet : (r : Refusal) → Declined E k r → Quiet
  declined_quiet r (out_of_range q e) = quiet_inert (inert (E k) q e)
  declined_quiet r (framed_full b e f) = quiet_bit b e f
  declined_quiet r (written_full b e f) = quiet_write b e f

  module _ (q : Quiet) where
    -- it reads nothing, resets nothing, and is no clock and no cut
    no_read : ReadsData E k → ⊥
    no_read h = false≢true (sym (q.mild.unread 1 (omega arith)) ∙ h)

    no_rx : ResetsReceiver E k → ⊥
    no_rx = unset_rx E k q.mild.no_c1 (q.mild.unset 0 (omega arith))

    no_tx : ResetsTransmitter E k → ⊥
    no_tx = unset_tx E k q.mild.no_c1 (q.mild.unset 0 (omega arith))

    untouched : (clocks (E k) ≡ true) ⊎ Cuts E k → ⊥
    untouched (inl h) = false≢true (sym q.mild.no_clock ∙ h)
    untouched (inr h) = no_cut E k no_tx (no_rise E k (q.mild.unset 1 (omega arith))) h

  -- a declined event ends no character,
  pub declined_met : (r : Refusal) → Declined E k r → (n : ℕ) (f : Fate) → Met E k n f → ⊥
  declined_met r d = let q = declined_quiet r d in nobody_met E k q.no_frame (no_read q) (no_rx q)

  -- does nothing to the byte that is being shifted,
  pub declined_does : (r : Refusal) → Declined E k r → (n : ℕ) (s : Shown) → Does E k n s → ⊥
  declined_does r d = let q = declined_quiet r d in nothing_done E k (λ n l j x h. untouched q h)

  -- and nothing to bytes in the queue
  pub declined_drops : (r : Refusal) → Declined E k r → (n : ℕ) (d : Dropped) → Drops E k n d → ⊥
  declined_drops r d = let q = declined_quiet r d in nobody_dropped E k q.no_write (no_tx q)

  -- an event that is nothing is no bit, and no byte
  inert_bit : (b : ℕ) → Inert (E k) → received (E k) ≡ Some b → ⊥
  inert_bit b i h = none-some b (sym i.no_bit ∙ h)

  inert_write : (b : ℕ) → Inert (E k) → to_data E k ≡ Some b → ⊥
  inert_write b i h = not_to_data E k i.no_write b h

  -- one event is declined for one reason
  pub refusal_one : (q r : Refusal) → Declined E k q → Declined E k r → q ≡ r
  refusal_one q r (out_of_range a e) (out_of_range b f) = cc
  refusal_one q r (out_of_range a e) (framed_full b f g) = absurd (inert_bit b (inert (E k) a e) f)
  refusal_one q r (out_of_range a e) (written_full b f g) = absurd (inert_write b (inert (E k) a e) f)
  refusal_one q r (framed_full a e h) (out_of_range b f) = absurd (inert_bit a (inert (E k) b f) e)
  refusal_one q r (framed_full a e h) (framed_full b f g) = refl
  refusal_one q r (framed_full a e h) (written_full b f g) = absurd (bit_or_write 1 (E k) a b e (data_written E k b f))
  refusal_one q r (written_full a e h) (out_of_range b f) = absurd (inert_write a (inert (E k) b f) e)
  refusal_one q r (written_full a e h) (framed_full b f g) = absurd (bit_or_write 1 (E k) b a f (data_written E k a e))
  refusal_one q r (written_full a e h) (written_full b f g) = refl
