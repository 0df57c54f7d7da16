-- Every written byte has one fate, and bytes are sent in rising numbers. Assumes nothing.
use Rattle.std.proofs.Common.{◌≡◌, ℕ, zero, suc, ◌+◌, ◌<◌, ◌≤◌, Bool, true, false, cond, ltb, ◌⊎◌, Some, None, Option, sym, refl, ap, ◌∙◌, subst, inl, inr, arith}
use native.Mathlib.Decide.{dec_lt}
use Rattle.std.proofs.lemmas.Bool.{ltb-true, ltb-false, false≢true}
use Rattle.serial.specs.Lives.{OneFate, Rising}
use Rattle.serial.specs.Life.{Acts, Stands, enters, Left, was_displaced, was_taken, was_emptied}
use Rattle.serial.specs.declared.life.Way.{Way}
use Rattle.serial.specs.declared.life.Way.TheVariants.{Taken as taken}
use Rattle.serial.proofs.Lifelines.{Lifelines, lives}
use Rattle.serial.proofs.Standing as places
use Rattle.history.specs.Events.{clocks}
use Rattle.history.specs.Settings.{History, bit_of, to_c1, to_data, reset, tx_reset, held, ResetsTransmitter, Cuts}
use Rattle.history.specs.Lines.{limit, T, one_more, written, Writes, still, showing, next_word, holds, untouched, loaded, shown, Transmitter, Loads}
use Rattle.history.specs.Law.{transmitting, LoadsByte, Shifts, Shown, last_bit, cut_off, Does, shows_a_bit, shows_the_last, cuts_it_off, Dropped, overwritten, cleared, Drops, by_the_next, by_a_reset, Ending, sent, cut, dropped, Ended, was_sent, was_cut, was_dropped, Going, waiting, shifting, GoesOn, waits, shifts}
use Rattle.history.proofs.Acting.{way_no}
use Rattle.history.proofs.Apart.{calm_clock}
use Rattle.history.proofs.Calm.{held_same, low}
use Rattle.history.proofs.Showing.{Came, by_load, as_before, by_clock, came, none_shown, earlier, word, same_word, no_word, shifted}
use Rattle.history.proofs.Transmitting.{transmit_act, transmitting_sane}

module _ (E : History) where
  abbrev Q : Acts
  Q = transmitting E

  abbrev sane : places.Sane (transmitting E) (transmit_act E) (written E)
  sane = transmitting_sane E

  -- who stands at the output at a moment stands there at the same one
  pub stands_at : (l k n : ℕ) → l ≡ k → Stands Q l n 3 → Stands Q k n 3
  stands_at l k n e h = let P : ℕ → Type 0 = λ m. Stands Q m n 3 in subst P e h

  -- a byte that a load takes leaves the queue, and has a number
  took : (l n : ℕ) → LoadsByte E l n → Left Q l n taken
  took l n x = was_taken x.1 x.0

  pub loaded_number : (l n : ℕ) → LoadsByte E l n → 1 ≤ n
  loaded_number l n x = (places.counted Q (transmit_act E) (written E) sane l n 3 x.1).0

  -- a byte that is being shifted has left the queue
  left_it : (k n l j p : ℕ) → Shifts E k n l j → Stands Q k n p → ⊥
  left_it k n l j p x h = places.gone Q (transmit_act E) (written E) sane l k n p taken (took l n x.0) (earlier E k l j x.1) h

  -- a hold of the transmitter begins by a reset, or by CTS
  tx_cut : (k : ℕ) → tx_reset E k ≡ false → tx_reset E (suc k) ≡ true → ResetsTransmitter E k
  tx_cut k h g = grind (arith, low (reset E) true (λ i. bit_of 1 (to_c1 E i)) k)

  -- so a hold that begins cuts
  cuts : (k : ℕ) → held E k ≡ false → held E (suc k) ≡ true → Cuts E k
  cuts k h g = grind (arith, tx_cut k)

  -- ONE STEP OF A LIFE

  -- a new number is that of a byte that is written now, and waits
  comes : (k n : ℕ) → written E k < n → n ≤ written E (suc k) → ((f : Ending) × Ended E k n f) ⊎ ((w : Going) × GoesOn E (suc k) n w)
  comes k n l u = go (to_data E k) refl
    where
      room : (b : ℕ) → to_data E k ≡ Some b → (t : Bool) → ltb (written E k) limit ≡ t → n ≤ cond t (written E k + 1) (written E k) → ((f : Ending) × Ended E k n f) ⊎ ((w : Going) × GoesOn E (suc k) n w)
      room b e true f v = inr (waiting 1, waits 1 (enters (b, record { byte = e; room = ltb-true _ _ f; next = omega (arith, l, v) }) refl))
      room b e false f v = absurd (omega (arith, l, v))

      go : (o : Option ℕ) → to_data E k ≡ o → ((f : Ending) × Ended E k n f) ⊎ ((w : Going) × GoesOn E (suc k) n w)
      go None e = absurd (let i : written E (suc k) ≡ written E k = ap (λ o. one_more o (written E k)) e in omega (arith, l, u, i))
      go (Some b) e =
          let i : written E (suc k) ≡ cond (ltb (written E k) limit) (written E k + 1) (written E k) = ap (λ o. one_more o (written E k)) e in
          let P : ℕ → Type 0 = λ x. n ≤ x in room b e (ltb (written E k) limit) refl (subst P i u)

  -- who goes on goes on further, or meets an end
  goes : (k n : ℕ) (w : Going) → GoesOn E k n w → ((f : Ending) × Ended E k n f) ⊎ ((v : Going) × GoesOn E (suc k) n v)
  goes k n w (waits p h) = go (places.goes Q (transmit_act E) (written E) sane k n p h)
    where
      leave : (v : Way) → Left Q k n v → ((f : Ending) × Ended E k n f) ⊎ ((v : Going) × GoesOn E (suc k) n v)
      leave v (was_displaced m h e) = inl (dropped overwritten, was_dropped overwritten (by_the_next (was_displaced m h e)))
      leave v (was_taken h e) = inr (shifting, shifts k 0 ((e, h), loaded e refl))
      leave v (was_emptied p h e) = inl (dropped cleared, was_dropped cleared (by_a_reset (was_emptied p h e)))

      go : ((v : Way) × Left Q k n v) ⊎ ((q : ℕ) × Stands Q (suc k) n q) → ((f : Ending) × Ended E k n f) ⊎ ((v : Going) × GoesOn E (suc k) n v)
      go (inl x) = leave x.0 x.1
      go (inr x) = inr (waiting x.0, waits x.0 x.1)
  goes k n w (shifts l j x) = go (held E (suc k)) refl (clocks (E k)) refl (ltb (j + 1) (T E l)) refl
    where
      go : (a : Bool) → held E (suc k) ≡ a → (c : Bool) → clocks (E k) ≡ c → (t : Bool) → ltb (j + 1) (T E l) ≡ t → ((f : Ending) × Ended E k n f) ⊎ ((v : Going) × GoesOn E (suc k) n v)
      go true e c f t g = inl (cut, was_cut (cuts_it_off l j x (cuts k (word E k l j x.1).0 e)))
      go false e true f true g = inr (shifting, shifts l (j + 1) (x.0, shown l j x.1 f (ltb-true _ _ g) refl))
      go false e true f false g = let a = ltb-false _ _ g in let b = (word E k l j x.1).1 in inl (sent, was_sent (shows_the_last l j x f (omega (arith, a, b))))
      go false e false f t g = inr (shifting, shifts l j (x.0, untouched x.1 (word E k l j x.1).0 e f))

  -- who goes on has a number that was given
  counted : (k n : ℕ) (w : Going) → GoesOn E k n w → (1 ≤ n) × (n ≤ written E k)
  counted k n w (waits p h) = places.counted Q (transmit_act E) (written E) sane k n p h
  counted k n w (shifts l j x) =
      let c = places.counted Q (transmit_act E) (written E) sane l n 3 x.0.1 in
      let e = earlier E k l j x.1 in
      (c.0, omega (arith, c.1, places.bounds Q (transmit_act E) (written E) sane l k (omega (arith, e))))

  -- who goes on, and is not new, went on before
  was : (k n : ℕ) (w : Going) → n ≤ written E k → GoesOn E (suc k) n w → (v : Going) × GoesOn E k n v
  was k n w u (waits p h) = let x = places.was Q (transmit_act E) (written E) sane k n p u h in (waiting x.0, waits x.0 x.1)
  was k n w u (shifts l j x) = go (came E k l j x.1)
    where
      go : Came E k l j → (v : Going) × GoesOn E k n v
      go (by_load y e z) = (waiting 3, waits 3 (stands_at l k n e x.0.1))
      go (as_before s c) = (shifting, shifts l j (x.0, s))
      go (by_clock i s c e) = (shifting, shifts l i (x.0, s))

  -- who met an end went on before, or was written just then
  abbrev Stood : ℕ → ℕ → Type 0
  Stood k n = ((w : Going) × GoesOn E k n w) ⊎ ((written E k < n) × (n ≤ written E (suc k)))

  -- who is dropped leaves the queue
  way : (k n : ℕ) (d : Dropped) → Drops E k n d → (w : Way) × Left Q k n w
  way k n d x = grind arith

  from_shift : (k n : ℕ) (d : Shown) → Does E k n d → Stood k n
  from_shift k n d x = let y = shifted E k n d x in inl (shifting, shifts y.0 y.1 y.2)

  stood : (k n : ℕ) (f : Ending) → Ended E k n f → Stood k n
  stood k n f (was_sent x) = from_shift k n last_bit x
  stood k n f (was_cut x) = from_shift k n cut_off x
  stood k n f (was_dropped d x) =
      let w = way k n d x in let h = places.stood Q (transmit_act E) (written E) sane k n w.0 w.1 in inl (waiting h.0, waits h.0 h.1)

  -- a cut holds the transmitter
  pub cut_holds : (k : ℕ) → Cuts E k → held E (suc k) ≡ true
  cut_holds k c = grind arith

  -- so no word is shown after it
  cut_shows_none : (k l j : ℕ) → Cuts E k → Transmitter E (suc k) (showing l j) → ⊥
  cut_shows_none k l j c = no_word E (suc k) l j still (λ x. x) (holds (cut_holds k c) refl)

  -- after a load its word is shown
  after_load : (k l j : ℕ) → Loads E k → Transmitter E (suc k) (showing l j) → l ≡ k
  after_load k l j x t = (same_word E (suc k) l j k 0 t (loaded x refl)).0

  -- ways to leave the queue are different events
  two_ways : (k n : ℕ) (v w : Way) → Left Q k n v → Left Q k n w → way_no v ≡ way_no w
  two_ways k n v w a b = ap way_no (places.one_leaving Q (transmit_act E) (written E) sane k n v w a b)

  -- who is dropped is neither loaded nor being shifted
  drop_load : (k n : ℕ) (d : Dropped) → Drops E k n d → LoadsByte E k n → ⊥
  drop_load k n d (by_the_next l) x = omega (arith, two_ways k n _ _ l (took k n x))
  drop_load k n d (by_a_reset l) x = omega (arith, two_ways k n _ _ l (took k n x))

  drop_shift : (k n : ℕ) (d : Dropped) (l j : ℕ) → Drops E k n d → Shifts E k n l j → ⊥
  drop_shift k n d l j x y =
      let w = way k n d x in let h = places.stood Q (transmit_act E) (written E) sane k n w.0 w.1 in left_it k n l j h.0 y h.1

  -- who met an end does not go on after it
  stops : (k n : ℕ) (f : Ending) (w : Going) → Ended E k n f → GoesOn E (suc k) n w → ⊥
  stops k n f w (was_sent (shows_the_last l j x c e)) (waits p h) = places.gone Q (transmit_act E) (written E) sane l (suc k) n p taken (took l n x.0) (omega (arith, earlier E k l j x.1)) h
  stops k n f w (was_sent (shows_the_last l j x c e)) (shifts m i y) = left_it k n l j 3 x (stands_at m k n (after_load k m i (next_word l j c x.1 e) y.1) y.0.1)
  stops k n f w (was_cut (cuts_it_off l j x c)) (waits p h) = places.gone Q (transmit_act E) (written E) sane l (suc k) n p taken (took l n x.0) (omega (arith, earlier E k l j x.1)) h
  stops k n f w (was_cut (cuts_it_off l j x c)) (shifts m i y) = cut_shows_none k m i c y.1
  stops k n f w (was_dropped d x) (waits p h) = let v = way k n d x in places.stops Q (transmit_act E) (written E) sane k n p v.0 v.1 h
  stops k n f w (was_dropped d x) (shifts m i y) = go (came E k m i y.1)
    where
      go : Came E k m i → ⊥
      go (by_load z e f) = drop_load k n d x (z, stands_at m k n e y.0.1)
      go (as_before z c) = drop_shift k n d m i x (y.0, z)
      go (by_clock p z c e) = drop_shift k n d m p x (y.0, z)

  -- a clock is no cut
  pub clock_no_cut : (k l j : ℕ) → Transmitter E k (showing l j) → clocks (E k) ≡ true → Cuts E k → ⊥
  clock_no_cut k l j t c x = false≢true (sym (word E k l j t).0 ∙ sym (held_same E k (calm_clock (E k) c)) ∙ cut_holds k x)

  -- no two ends come together
  does_drop : (k n : ℕ) (s : Shown) (d : Dropped) → Does E k n s → Drops E k n d → ⊥
  does_drop k n s d x y = let z = shifted E k n s x in drop_shift k n d z.0 z.1 y z.2

  last_cut : (k n : ℕ) → Does E k n last_bit → Does E k n cut_off → ⊥
  last_cut k n (shows_the_last l j x c e) (cuts_it_off m i y d) = clock_no_cut k l j x.1 c d

  one_drop : (k n : ℕ) (c d : Dropped) → Drops E k n c → Drops E k n d → c ≡ d
  one_drop k n c d x y = grind (arith, two_ways)

  -- so an end is one end
  one_fate : (k n : ℕ) (f g : Ending) → Ended E k n f → Ended E k n g → f ≡ g
  one_fate k n f g x y = grind (arith, last_cut, does_drop, one_drop)

  -- and who goes on does so in one way
  one_way : (k n : ℕ) (v w : Going) → GoesOn E k n v → GoesOn E k n w → v ≡ w
  one_way k n v w (waits p h) (waits q i) = ap waiting (places.placed Q (transmit_act E) (written E) sane k n p q h i)
  one_way k n v w (waits p h) (shifts l j x) = absurd (left_it k n l j p x h)
  one_way k n v w (shifts l j x) (waits p h) = absurd (left_it k n l j p x h)
  one_way k n v w (shifts l j x) (shifts m i y) = refl

  -- at first nobody goes on
  none_first : (n : ℕ) (w : Going) → GoesOn E 0 n w → ⊥
  none_first n w (waits p h) = h
  none_first n w (shifts l j x) = none_shown E l j x.1

  -- the lives of all bytes
  lifelines : Lifelines (written E) (GoesOn E) (Ended E)
  lifelines = record {
    from_none = refl;
    none_first = none_first;
    rises = sane.grows;
    counted = counted;
    comes = comes;
    goes = goes;
    was = was;
    stood = stood;
    stops = stops;
    one_fate = one_fate;
    one_way = one_way;
  }

  pub written_one_fate : (k : ℕ) → OneFate (written E k) (GoesOn E k) (Ended E) k
  written_one_fate k = lives lifelines k

  -- after a load, an older word is not shown again
  since : (i k l p : ℕ) → i < k → Loads E i → Transmitter E k (showing l p) → i ≤ l
  since i zero l p h x t = absurd (omega arith)
  since i (suc k) l p h x t = go (dec_lt i k) (came E k l p t) (λ q m u. since i k l q m x u)
    where
      go : Dec (i < k) → Came E k l p → ((q : ℕ) → i < k → Transmitter E k (showing l q) → i ≤ l) → i ≤ l
      go (yes m) (by_load y e z) ih = omega (arith, e)
      go (yes m) (as_before s c) ih = ih p m s
      go (yes m) (by_clock q s c e) ih = ih q m s
      go (no m) b ih = let e : i ≡ k = omega arith in let P : ℕ → Type 0 = λ y. Loads E y in omega (arith, e, after_load k l p (subst P e x) t)

  -- a byte is sent by a clock that loads the next word
  abbrev Sent : ℕ → ℕ → Type 0
  Sent k n = (l j : ℕ) × Shifts E k n l j × Loads E k

  sent_by : (k n : ℕ) → Ended E k n sent → Sent k n
  sent_by k n (was_sent (shows_the_last l j x c e)) = (l, j, x, next_word l j c x.1 e)

  pub sent_rising : Rising (λ k n. Ended E k n sent)
  sent_rising = record {
    one_at_a_time = λ k m n a b.
        let x = sent_by k m a in let y = sent_by k n b in
        places.alone Q (transmit_act E) (written E) sane y.0 m n 3 (stands_at x.0 y.0 m (same_word E k x.0 x.1 y.0 y.1 x.2.1 y.2.1).0 x.2.0.1) y.2.0.1;
    rising = λ i j m n h a b.
        let x = sent_by i m a in let y = sent_by j n b in
        let e = earlier E i x.0 x.1 x.2.1 in
        let f = since i j y.0 y.1 h x.3 y.2.1 in
        places.taken_rise Q (transmit_act E) (written E) sane x.0 y.0 m n (omega (arith, e, f)) x.2.0.1 x.2.0.0 y.2.0.1;
  }

  -- an event that writes no byte and does not reset the transmitter drops nobody
  pub nobody_dropped : (k : ℕ) → ((n b : ℕ) → Writes E k n b → ⊥) → (ResetsTransmitter E k → ⊥) → (n : ℕ) (d : Dropped) → Drops E k n d → ⊥
  nobody_dropped k unwritten unreset n d x = grind arith

  -- where nothing is being shifted, or neither a clock nor a cut comes, nothing is done to it
  pub nothing_done : (k : ℕ) → ((n l j : ℕ) → Shifts E k n l j → (clocks (E k) ≡ true) ⊎ Cuts E k → ⊥) → (n : ℕ) (s : Shown) → Does E k n s → ⊥
  nothing_done k unshifted n s (shows_a_bit l j x c h) = unshifted n l j x (inl c)
  nothing_done k unshifted n s (shows_the_last l j x c e) = unshifted n l j x (inl c)
  nothing_done k unshifted n s (cuts_it_off l j x c) = unshifted n l j x (inr c)
