-- The acts on the receive queue can be told apart, and entering numbers rise; so its queue holds exactly those who stand. Assumes nothing.
use Rattle.std.proofs.Common.{◌≡◌, ℕ, suc, ◌+◌, ◌<◌, ◌≤◌, Bool, true, false, cond, not, ◌&&◌, ltb, ◌⊎◌, Some, None, Option, sym, refl, ap, ◌∙◌, inl, inr, arith}
use Rattle.std.proofs.lemmas.Bool.Decides.{nat_tests}
use Rattle.std.proofs.lemmas.Option.{none-some, cond_some}
use Rattle.std.proofs.lemmas.Bool.{ltb-false, not-true, and_parts}
use Rattle.serial.specs.Life.{Stands}
use Rattle.serial.specs.Moves.{Act, queue_at}
use Rattle.serial.proofs.Standing.{Sane, Tie, tie}
use Rattle.serial.proofs.Places.{IsEnter, Here}
use Rattle.history.specs.Events.{received, idles, reads}
use Rattle.history.specs.Settings.{History, off, external, one_sync}
use Rattle.history.specs.Lines.{T, Phase, searching, one_sync_seen, in_sync, first, restarts, Match, Frames, strips, Receiver, character}
use Rattle.history.specs.Law.{receiving}
use Rattle.history.proofs.Acting.{act_of, acts}
use Rattle.history.proofs.Apart.{Calm, calm_idle, calm_read, calm_bit, idle_or_read, bit_or_idle, bit_or_read}
use Rattle.history.proofs.Computed.{fed, takes, phase_at}
use Rattle.history.proofs.OnePhase.{receiver_at, receiver_is, taken_test, bit_of_lem}
use Rattle.history.proofs.Resets.{resets_by, rx_to, rx_from, calm_rx}

-- FRAMING, COMPUTED

-- the number of the character that ends by a taken bit, if one does
abbrev pub ends_at : Phase → ℕ → Bool → ℕ → Option ℕ
ends_at searching n t d = None
ends_at (one_sync_seen j) n t d = None
ends_at (in_sync j) n t d = cond (t && not (ltb (j + 1) d)) (Some (n + 1)) None

abbrev pub ends_of : History → ℕ → Phase × ℕ → Option ℕ
ends_of E k x = ends_at x.0 x.1 (takes (received (E k)) (off E k) x.1) (T E k)

abbrev pub frame_at : History → ℕ → Option ℕ
frame_at E k = ends_of E k (phase_at E k)

module _ (E : History) (k : ℕ) where
  -- what is framed is computed
  pub frames_to : (n : ℕ) → Frames E k n → frame_at E k ≡ Some n
  frames_to n f = grind (arith, nat_tests, receiver_is, taken_test)

  -- and back
  pub frames_from : (n : ℕ) → frame_at E k ≡ Some n → Frames E k n
  frames_from n h = go (phase_at E k).0 (phase_at E k).1 (receiver_at E k) h
    where
      go : (p : Phase) (m : ℕ) → Receiver E k p m → ends_of E k (p, m) ≡ Some n → Frames E k n
      go searching m r h = cc
      go (one_sync_seen j) m r h = cc
      go (in_sync j) m r h =
          let c = cond_some _ (m + 1) n h in
          let b = and_parts _ _ c.0 in
          record { before = m; counted = j; phase = r; bit = bit_of_lem E k m (received (E k)) (off E k) refl refl b.0; full = ltb-false _ _ (not-true _ b.1); next = sym c.1 }

-- characters are counted: one more by an event that frames, else none
abbrev pub count : History → ℕ → ℕ
count E k = (phase_at E k).1

module _ (E : History) (k : ℕ) where
  abbrev Step : Phase × ℕ → Phase × ℕ → Option ℕ → Type 0
  Step x y o = (y.1 ≡ x.1) ⊎ ((o ≡ Some (x.1 + 1)) × (y.1 ≡ x.1 + 1))

  -- over one event, by whether the receiver restarts and whether it takes a bit
  step : (x : Phase × ℕ) (r t : Bool) → Step x (cond r (first (external E (suc k)), x.1) (cond t (fed x.0 x.1 (Match E k) (one_sync E k) (T E k)) x)) (ends_at x.0 x.1 t (T E k))
  step x r t = grind arith

  -- so the count stays, or a character with the next number is framed
  pub count_step : (count E (suc k) ≡ count E k) ⊎ (Frames E k (count E k + 1) × (count E (suc k) ≡ count E k + 1))
  count_step = grind (arith, step (phase_at E k) (restarts E k) (takes (received (E k)) (off E k) (count E k)), frames_from E k (count E k + 1))

  grows : count E k ≤ count E (suc k)
  grows = elim count_step [ inl e ↦ omega (arith, e) | inr e ↦ omega (arith, e.1) ]

  -- a framed character has the next number
  pub numbered : (n : ℕ) → Frames E k n → (n ≡ count E k + 1) × (n ≡ count E (suc k))
  numbered n f =
      let e : f.before ≡ count E k = ap (λ x. x.1) (receiver_is E k (in_sync f.counted) f.before f.phase) in
      let g : n ≡ count E (suc k) = ap (λ x. x.1) (receiver_is E (suc k) (in_sync 0) n (character f.counted f.before f.phase f.bit f.full refl f.next)) in
      let h = f.next in (omega (arith, e, h), g)

  -- it is framed by a received bit, so by nothing else
  pub unframed : received (E k) ≡ None → (n : ℕ) → Frames E k n → ⊥
  unframed h n f = none-some f.bit.bit (sym h ∙ f.bit.came)

  pub frame_calm : (n : ℕ) → Frames E k n → Calm (E k)
  frame_calm n f = calm_bit (E k) f.bit.bit f.bit.came

  pub frame_or_read : (r n : ℕ) → Frames E k n → reads r (E k) ≡ true → ⊥
  frame_or_read r n f = bit_or_read r (E k) f.bit.bit f.bit.came

  pub frame_or_idle : (n : ℕ) → Frames E k n → idles (E k) ≡ true → ⊥
  frame_or_idle n f = bit_or_idle (E k) f.bit.bit f.bit.came

-- THE ACT OF EVENT K ON THE RECEIVE QUEUE

-- the number that enters, if one does
abbrev enters_now : History → ℕ → Option ℕ
enters_now E k = cond (strips E k) None (frame_at E k)

abbrev pub receive_act : History → ℕ → Act
receive_act E k = act_of (resets_by 0 E k) (idles (E k)) (reads 1 (E k)) (enters_now E k)

module _ (E : History) (k : ℕ) where
  -- who enters was framed and is not stripped
  enters_from : (n : ℕ) → enters_now E k ≡ Some n → Frames E k n × (strips E k ≡ false)
  enters_from n h = go (strips E k) refl h
    where
      go : (b : Bool) → strips E k ≡ b → cond b None (frame_at E k) ≡ Some n → Frames E k n × (strips E k ≡ false)
      go true e i = cc
      go false e i = (frames_from E k n i, e)

  -- event k is this act, and nothing else
  pub here_now : Here (receiving E) k (receive_act E k)
  here_now = acts (receiving E) k (resets_by 0 E k) (idles (E k)) (reads 1 (E k)) (enters_now E k) (record {
    empties = (rx_to E k, rx_from E k);
    rises = (λ x. x, λ x. x);
    takes = (λ x. x, λ x. x);
    enters = λ n. (λ x. ap (λ b. cond b None (frame_at E k)) x.1 ∙ frames_to E k n x.0, enters_from n);
    rise_or_empty = λ x. calm_rx E k (calm_idle (E k) x);
    take_or_empty = λ x. calm_rx E k (calm_read 1 (E k) x);
    take_or_rise = λ x y. idle_or_read 1 (E k) y x;
    enter_or_empty = λ n x. calm_rx E k (frame_calm E k n x.0);
    enter_or_rise = λ n x. frame_or_idle E k n x.0;
    enter_or_take = λ n x. frame_or_read E k 1 n x.0;
  })

  -- who enters has a new number
  fresh : (m : ℕ) → IsEnter (receive_act E k) m → (count E k < m) × (m ≤ count E (suc k))
  fresh m i = let n = numbered E k m ((here_now.entering m).1 i).0 in (omega (arith, n.0), omega (arith, n.1))

pub receiving_sane : (E : History) → Sane (receiving E) (receive_act E) (count E)
receiving_sane E = record { here = here_now E; grows = grows E; fresh = fresh E }

-- the computed queue holds exactly those who stand
pub received_tie : (E : History) (k : ℕ) → Tie (Stands (receiving E) k) (queue_at (receive_act E) k) (count E k)
received_tie E k = tie (receiving E) (receive_act E) (count E) (receiving_sane E) k
