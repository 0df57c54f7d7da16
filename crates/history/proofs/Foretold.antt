-- What the slip of an event must tell, part by part, by the history alone. Assumes nothing.
use Rattle.std.proofs.Common.{◌≡◌, ℕ, ◌+◌, ◌<◌, ◌≤◌, Bool, true, false, cond, ◌⊎◌, [], ◌∷◌, Some, None, Option, sym, refl, ap, ◌∙◌, subst, inl, arith}
use Rattle.std.proofs.lemmas.Bool.{false≢true}
use Rattle.serial.specs.declared.life.Way.{Way}
use Rattle.serial.specs.declared.life.Way.TheVariants.{Displaced, Taken, Emptied}
use Rattle.serial.specs.declared.slip.ReceiveCode.{ReceiveCode}
use Rattle.serial.specs.declared.slip.ReceiveCode.TheVariants as rx
use Rattle.serial.specs.declared.slip.QueueCode.{QueueCode}
use Rattle.serial.specs.declared.slip.QueueCode.TheVariants as qu
use Rattle.serial.specs.declared.slip.ShiftCode.{ShiftCode}
use Rattle.serial.specs.declared.slip.ShiftCode.TheVariants as sh
use Rattle.serial.specs.declared.queue.Numbers.{Numbers}
use Rattle.serial.specs.Telling.{Names, Tells}
use Rattle.serial.specs.Life.{Stands, Left, was_displaced, was_taken, was_emptied}
use Rattle.serial.specs.Moves.{queue_at, tells_of}
use Rattle.serial.specs.Queue.{fields}
use Rattle.serial.proofs.Standing.{alone}
use Rattle.serial.proofs.Tellings.{told_exactly}
use Rattle.history.specs.Events.{clocks}
use Rattle.history.specs.Settings.{History, ReadsData, ResetsReceiver, ResetsTransmitter, Cuts}
use Rattle.history.specs.Lines.{T, Frames, mark_framed, strips, written, Writes, Loads}
use Rattle.history.specs.Law.{receiving, Fate, delivered, stripped, lost, cleared, Met, by_a_data_read, by_strip_sync, by_the_next, by_a_reset, receive_code, transmitting, Dropped, overwritten, Drops, queue_code, Shifts, Shown, a_bit, last_bit, cut_off, Does, shows_a_bit, shows_the_last, cuts_it_off, shift_code, only}
use Rattle.history.proofs.Calm.{calm_write}
use Rattle.history.proofs.ReceivedFates.{origin, nobody_met}
use Rattle.history.proofs.Receiving.{count, numbered, receive_act, receiving_sane, frame_calm, frame_or_read}
use Rattle.history.proofs.Resets.{calm_rx, calm_tx}
use Rattle.history.proofs.Showing.{same_word}
use Rattle.history.proofs.Transmitting.{transmit_act, transmitting_sane, load_calm}
use Rattle.history.proofs.WrittenFates.{stands_at, loaded_number, clock_no_cut, nobody_dropped, nothing_done}

module _ {F C : Type 0} (code_of : F → C) (nothing : C) (H : ℕ → F → Type 0) where
  -- where nothing happened to anyone, nothing is told
  nobody_told : ((n : ℕ) (f : F) → H n f → ⊥) → Tells code_of nothing H nothing (only 0)
  nobody_told none = record {
    told = λ n f. ((λ h. absurd (none n f h)), (λ h. absurd (unnamed n h.0)));
    named = λ n h. absurd (unnamed n h);
    quiet = λ h. refl;
    in_order = record { second = λ h. absurd (omega arith); third = λ h. absurd (omega arith) };
  }
    where
      unnamed : (n : ℕ) → Names (only 0) n → ⊥
      unnamed n h = omega arith

  module _ (back : C → F) (found : (f : F) → back (code_of f) ≡ f) where
    -- where exactly one thing happened, to exactly one number, that is told
    one_told : (n : ℕ) (f : F) → 1 ≤ n → H n f → ((m : ℕ) (g : F) → H m g → (m ≡ n) × (g ≡ f)) → Tells code_of nothing H (code_of f) (only n)
    one_told n f l h alone = record {
      told = λ m g. (
        (λ i. let a = alone m g i in ((omega (arith, a.0), inl (sym a.0)), ap code_of (sym a.1))),
        (λ i.
            let P : ℕ → Type 0 = λ x. H x g in
            let Q : F → Type 0 = λ x. H n x in
            subst P (who m i.0) (subst Q (sym (found f) ∙ ap back i.1 ∙ found g) h)),
      );
      named = λ m i. let P : ℕ → Type 0 = λ x. H x f in (f, subst P (who m i) h);
      quiet = λ none. absurd (none n f h);
      in_order = record { second = λ h. absurd (omega arith); third = λ h. absurd (omega arith) };
    }
      where
        who : (m : ℕ) → Names (only n) m → n ≡ m
        who m i = omega arith

    -- where those who left a queue in some way are those to whom something happened, and code_for has its code for that way,
    -- what the queue tells is what is told
    as_the_queue_tells : (L : ℕ → Way → Type 0) (way : Option Way) (who : Numbers) → Tells Some None L way who → (code_for : Option Way → C) → code_for None ≡ nothing
        → ((n : ℕ) (f : F) → H n f → (w : Way) × L n w × (code_for (Some w) ≡ code_of f))
        → ((n : ℕ) (w : Way) → L n w → (f : F) × H n f × (code_for (Some w) ≡ code_of f))
        → Tells code_of nothing H (code_for way) who
    as_the_queue_tells L way who t code_for silent to from = record {
      told = λ n f. (
        (λ h. let l = to n f h in let s = (t.told n l.0).0 l.1 in (s.0, ap code_for s.1 ∙ l.2)),
        (λ h.
            let l = t.named n h.0 in
            let g = from n l.0 l.1 in
            let e : code_for way ≡ code_of g.0 = ap code_for ((t.told n l.0).0 l.1).1 ∙ g.2 in
            let P : F → Type 0 = λ x. H n x in
            subst P (sym (found g.0) ∙ ap back (sym e ∙ h.1) ∙ found f) g.1),
      );
      named = λ n h. let l = t.named n h in let g = from n l.0 l.1 in (g.0, g.1);
      quiet = λ none. ap code_for (t.quiet (λ n w l. let g = from n w l in none n g.0 g.1)) ∙ silent;
      in_order = t.in_order;
    }

-- RECEIVED CHARACTERS

-- the fate that a code tells; Nothing tells none
abbrev fate_of : ReceiveCode → Fate
fate_of rx.Nothing = lost
fate_of rx.Delivered = delivered false
fate_of rx.DeliveredMarked = delivered true
fate_of rx.Stripped = stripped
fate_of rx.Lost = lost
fate_of rx.Cleared = cleared

-- a fate is found again by its code
fate_found : (f : Fate) → fate_of (receive_code f) ≡ f
fate_found f = grind arith

-- the code for those who left the receive queue in one way; m is the parity mark of the one taken
abbrev pub receive_code_for : Option Way → Bool → ReceiveCode
receive_code_for None m = rx.Nothing
receive_code_for (Some Displaced) m = rx.Lost
receive_code_for (Some Taken) m = cond m rx.DeliveredMarked rx.Delivered
receive_code_for (Some Emptied) m = rx.Cleared

-- the code of a delivered character
delivered_code : (b : Bool) → cond b rx.DeliveredMarked rx.Delivered ≡ receive_code (delivered b)
delivered_code b = grind arith

-- an event that strips nothing tells who left the receive queue
pub received_foretold : (E : History) (k : ℕ) (m : Bool)
    → ((n : ℕ) → Frames E k n → strips E k ≡ true → ⊥)
    → ((n i : ℕ) → Stands (receiving E) k n 3 → Frames E i n → mark_framed E i ≡ m)
    → Tells receive_code rx.Nothing (Met E k) (receive_code_for (tells_of (queue_at (receive_act E) k) (receive_act E k)).way m) (tells_of (queue_at (receive_act E) k) (receive_act E k)).who
received_foretold E k m unstripped marked =
    as_the_queue_tells receive_code rx.Nothing (Met E k) fate_of fate_found (Left (receiving E) k) _ _ (told_exactly (receiving E) (receive_act E) (count E) (receiving_sane E) k) (λ o. receive_code_for o m) refl to from
  where
    -- the one taken has the mark m
    code : (n i : ℕ) (b : Bool) → Left (receiving E) k n Taken → Frames E i n → b ≡ mark_framed E i → receive_code_for (Some Taken) m ≡ receive_code (delivered b)
    code n i b (was_taken h e) x d = delivered_code m ∙ ap (λ b. receive_code (delivered b)) (sym (d ∙ marked n i h x))

    to : (n : ℕ) (f : Fate) → Met E k n f → (w : Way) × Left (receiving E) k n w × (receive_code_for (Some w) m ≡ receive_code f)
    to n f (by_a_data_read i b l x e) = (Taken, l, code n i b l x e)
    to n f (by_strip_sync x e) = absurd (unstripped n x e)
    to n f (by_the_next l) = (Displaced, l, refl)
    to n f (by_a_reset l) = (Emptied, l, refl)

    from : (n : ℕ) (w : Way) → Left (receiving E) k n w → (f : Fate) × Met E k n f × (receive_code_for (Some w) m ≡ receive_code f)
    from n w (was_displaced o h e) = (lost, by_the_next (was_displaced o h e), refl)
    from n w (was_taken h e) =
        let o = origin E k n 3 h in
        (delivered (mark_framed E o.0), by_a_data_read o.0 (mark_framed E o.0) (was_taken h e) o.1 refl, code n o.0 (mark_framed E o.0) (was_taken h e) o.1 refl)
    from n w (was_emptied p h e) = (cleared, by_a_reset (was_emptied p h e), refl)

-- an event that strips character n tells that
pub stripped_foretold : (E : History) (k n : ℕ) → Frames E k n → strips E k ≡ true → Tells receive_code rx.Nothing (Met E k) rx.Stripped (fields (n ∷ []))
stripped_foretold E k n x s = one_told receive_code rx.Nothing (Met E k) fate_of fate_found n stripped (let e = x.next in omega (arith, e)) (by_strip_sync x s) alone
  where
    -- by such an event nobody leaves the receive queue
    none_left : (m : ℕ) (w : Way) → Left (receiving E) k m w → ⊥
    none_left m w (was_displaced o h e) = false≢true (sym e.1 ∙ s)
    none_left m w (was_taken h e) = frame_or_read E k 1 n x e
    none_left m w (was_emptied p h e) = calm_rx E k (frame_calm E k n x) e

    alone : (m : ℕ) (f : Fate) → Met E k m f → (m ≡ n) × (f ≡ stripped)
    alone m f (by_a_data_read i b l y e) = absurd (none_left m Taken l)
    alone m f (by_strip_sync y e) = ((numbered E k m y).0 ∙ sym (numbered E k n x).0, refl)
    alone m f (by_the_next l) = absurd (none_left m Displaced l)
    alone m f (by_a_reset l) = absurd (none_left m Emptied l)

-- an event that frames nothing, reads no data and doesn't reset the receiver tells nothing
pub none_received : (E : History) (k : ℕ) → ((n : ℕ) → Frames E k n → ⊥) → (ReadsData E k → ⊥) → (ResetsReceiver E k → ⊥) → Tells receive_code rx.Nothing (Met E k) rx.Nothing (fields [])
none_received E k unframed unread unreset = nobody_told receive_code rx.Nothing (Met E k) (nobody_met E k unframed unread unreset)

-- WRITTEN BYTES THAT THE QUEUE DROPS

-- the drop that a code tells; Nothing tells none
abbrev drop_of : QueueCode → Dropped
drop_of qu.Nothing = overwritten
drop_of qu.Overwritten = overwritten
drop_of qu.Cleared = cleared

-- a drop is found again by its code
drop_found : (d : Dropped) → drop_of (queue_code d) ≡ d
drop_found d = grind arith

-- the code for those who left the transmit queue in one way; to be taken is no drop
abbrev pub queue_code_for : Option Way → QueueCode
queue_code_for None = qu.Nothing
queue_code_for (Some Displaced) = qu.Overwritten
queue_code_for (Some Taken) = qu.Nothing
queue_code_for (Some Emptied) = qu.Cleared

-- an event that loads nothing tells who left the transmit queue
pub dropped_foretold : (E : History) (k : ℕ) → (Loads E k → ⊥) → Tells queue_code qu.Nothing (Drops E k) (queue_code_for (tells_of (queue_at (transmit_act E) k) (transmit_act E k)).way) (tells_of (queue_at (transmit_act E) k) (transmit_act E k)).who
dropped_foretold E k unloaded =
    as_the_queue_tells queue_code qu.Nothing (Drops E k) drop_of drop_found (Left (transmitting E) k) _ _ (told_exactly (transmitting E) (transmit_act E) (written E) (transmitting_sane E) k) queue_code_for refl to from
  where
    to : (n : ℕ) (d : Dropped) → Drops E k n d → (w : Way) × Left (transmitting E) k n w × (queue_code_for (Some w) ≡ queue_code d)
    to n d (by_the_next l) = (Displaced, l, refl)
    to n d (by_a_reset l) = (Emptied, l, refl)

    from : (n : ℕ) (w : Way) → Left (transmitting E) k n w → (d : Dropped) × Drops E k n d × (queue_code_for (Some w) ≡ queue_code d)
    from n w (was_displaced o h e) = (overwritten, by_the_next (was_displaced o h e), refl)
    from n w (was_taken h e) = absurd (unloaded e)
    from n w (was_emptied p h e) = (cleared, by_a_reset (was_emptied p h e), refl)

-- an event that writes no byte and doesn't reset the transmitter drops nobody
pub quiet_drops_nobody : (E : History) (k : ℕ) → ((n b : ℕ) → Writes E k n b → ⊥) → (ResetsTransmitter E k → ⊥) → Tells queue_code qu.Nothing (Drops E k) qu.Nothing (fields [])
quiet_drops_nobody E k unwritten unreset = nobody_told queue_code qu.Nothing (Drops E k) (nobody_dropped E k unwritten unreset)

-- one that loads drops nobody
pub load_drops_nobody : (E : History) (k : ℕ) → Loads E k → Tells queue_code qu.Nothing (Drops E k) qu.Nothing (fields [])
load_drops_nobody E k l =
    let c = load_calm E k l in
    quiet_drops_nobody E k (calm_write E k c) (calm_tx E k c)

-- THE BYTE THAT IS BEING SHIFTED

-- what a code tells; Nothing tells nothing
abbrev shown_by : ShiftCode → Shown
shown_by sh.Nothing = a_bit
shown_by sh.Bit = a_bit
shown_by sh.LastBit = last_bit
shown_by sh.Cut = cut_off

-- what is done is found again by its code
shown_found : (s : Shown) → shown_by (shift_code s) ≡ s
shown_found s = grind arith

-- at a moment one byte is being shifted, of one load, with one count of bits
pub one_shift : (E : History) (k m i p n l j : ℕ) → Shifts E k m i p → Shifts E k n l j → (m ≡ n) × (i ≡ l) × (p ≡ j)
one_shift E k m i p n l j y x =
    let e = same_word E k i p l j y.1 x.1 in
    (alone (transmitting E) (transmit_act E) (written E) (transmitting_sane E) l m n 3 (stands_at E i l m e.0 y.0.1) x.0.1, e.0, e.1)

-- bits are left to show after the next, or it is the last
more_or_last : (E : History) (k m i p n l j : ℕ) → Shifts E k m i p → Shifts E k n l j → p + 1 < T E i → j + 1 ≡ T E l → ⊥
more_or_last E k m i p n l j y x h e = let o = one_shift E k m i p n l j y x in omega (arith, o.2, ap (T E) o.1)

-- event k does one thing to the byte that is being shifted, and to no other
module _ (E : History) (k n l j : ℕ) (x : Shifts E k n l j) where
  same_byte : (m i p : ℕ) → Shifts E k m i p → m ≡ n
  same_byte m i p y = (one_shift E k m i p n l j y x).0

  -- so that is told, and nothing else
  does_told : (s : Shown) → Does E k n s → ((m : ℕ) (r : Shown) → Does E k m r → (m ≡ n) × (r ≡ s)) → Tells shift_code sh.Nothing (Does E k) (shift_code s) (only n)
  does_told s d = one_told shift_code sh.Nothing (Does E k) shown_by shown_found n s (loaded_number E l n x.0) d

  -- a clock that leaves bits to show tells a bit
  pub bit_foretold : clocks (E k) ≡ true → j + 1 < T E l → Tells shift_code sh.Nothing (Does E k) sh.Bit (only n)
  bit_foretold c h = does_told a_bit (shows_a_bit l j x c h) alone_so
    where
      alone_so : (m : ℕ) (r : Shown) → Does E k m r → (m ≡ n) × (r ≡ a_bit)
      alone_so m r (shows_a_bit i p y d g) = (same_byte m i p y, refl)
      alone_so m r (shows_the_last i p y d e) = absurd (more_or_last E k n l j m i p x y h e)
      alone_so m r (cuts_it_off i p y d) = absurd (clock_no_cut E k l j x.1 c d)

  -- one that shows the last of them tells the last bit
  pub last_foretold : clocks (E k) ≡ true → j + 1 ≡ T E l → Tells shift_code sh.Nothing (Does E k) sh.LastBit (only n)
  last_foretold c e = does_told last_bit (shows_the_last l j x c e) alone_so
    where
      alone_so : (m : ℕ) (r : Shown) → Does E k m r → (m ≡ n) × (r ≡ last_bit)
      alone_so m r (shows_a_bit i p y d h) = absurd (more_or_last E k m i p n l j y x h e)
      alone_so m r (shows_the_last i p y d g) = (same_byte m i p y, refl)
      alone_so m r (cuts_it_off i p y d) = absurd (clock_no_cut E k l j x.1 c d)

  -- what cuts it off tells a cut
  pub cut_foretold : Cuts E k → Tells shift_code sh.Nothing (Does E k) sh.Cut (only n)
  cut_foretold c = does_told cut_off (cuts_it_off l j x c) alone_so
    where
      alone_so : (m : ℕ) (r : Shown) → Does E k m r → (m ≡ n) × (r ≡ cut_off)
      alone_so m r (shows_a_bit i p y d h) = absurd (clock_no_cut E k l j x.1 d c)
      alone_so m r (shows_the_last i p y d e) = absurd (clock_no_cut E k l j x.1 d c)
      alone_so m r (cuts_it_off i p y d) = (same_byte m i p y, refl)

-- where nothing is being shifted, or neither a clock nor a cut comes, nothing is told of it
pub no_shift_foretold : (E : History) (k : ℕ) → ((n l j : ℕ) → Shifts E k n l j → (clocks (E k) ≡ true) ⊎ Cuts E k → ⊥) → Tells shift_code sh.Nothing (Does E k) sh.Nothing (only 0)
no_shift_foretold E k unshifted = nobody_told shift_code sh.Nothing (Does E k) (nothing_done E k unshifted)
