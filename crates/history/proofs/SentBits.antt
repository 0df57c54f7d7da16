-- The bits of a sent byte are shown on successive transmit clocks, and the answers to these clocks are its word. Assumes nothing.
use Rattle.std.proofs.Common.{◌≡◌, ℕ, zero, suc, ◌+◌, ◌<◌, ◌≤◌, true, ◌↔◌, List, length, get_or, Ok, Err, sym, ap, ◌∙◌, subst, inl, arith}
use Rattle.std.proofs.lemmas.Bool.{false≢true}
use native.Mathlib.Decide.{dec_lt, dec_le}
use Rattle.std.proofs.lemmas.List.{get_or_past}
use Rattle.serial.specs.declared.event.Event.{Event}
use Rattle.serial.specs.declared.event.Event.TheVariants.{ReceivedBit}
use Rattle.serial.specs.declared.event.Refusal.{Refusal}
use Rattle.serial.specs.declared.slip.Reply.{Reply}
use Rattle.serial.specs.declared.life.Way.TheVariants.{Taken}
use Rattle.serial.specs.Words.{word_of}
use Rattle.serial.specs.Life.{was_taken}
use Rattle.serial.proofs.Laws.{word_length}
use Rattle.serial.proofs.Standing as places
use Rattle.history.specs.Events.{clocks}
use Rattle.history.specs.Settings.{History, form}
use Rattle.history.specs.Lines.{T, written, Writes, showing, Transmitter}
use Rattle.history.specs.Law.{Answer, Declined, transmitting, LoadsByte, Shifts, Shown, a_bit, last_bit, Does, shows_a_bit, shows_the_last, Ended, was_sent, sent, ShowsOf, SentAs, history, answer, Truthful}
use Rattle.history.proofs.Declining.{declined_does}
use Rattle.history.proofs.Showing.{Came, by_load, as_before, by_clock, came, none_shown, earlier, word, same_word, shifted}
use Rattle.history.proofs.ToldOnce.{accepted, only_named}
use Rattle.history.proofs.Transmitting.{transmit_act, transmitting_sane}
use Rattle.history.proofs.WrittenFates.{loaded_number}

module _ (E : History) where
  -- the clock at event k shows bit j of the word of load l
  abbrev ShowsBit : ℕ → ℕ → ℕ → Type 0
  ShowsBit l j k = Transmitter E k (showing l j) × (clocks (E k) ≡ true)

  -- what is shown later is a later bit
  later : (k m l i j : ℕ) → k < m → ShowsBit l i k → Transmitter E m (showing l j) → i < j
  later k zero l i j h x t = absurd (omega arith)
  later k (suc m) l i j h x t = go (dec_lt k m) (came E m l j t) (λ o g u. later k m l i o g x u)
    where
      here : (P : ℕ → Type 0) → k ≡ m → P k → P m
      here P e p = subst P e p

      go : Dec (k < m) → Came E m l j → ((o : ℕ) → k < m → Transmitter E m (showing l o) → i < o) → i < j
      go d (by_load y e z) ih = absurd (omega (arith, earlier E k l i x.0))
      go (yes g) (as_before s c) ih = ih j g s
      go (no g) (as_before s c) ih = absurd (false≢true (sym c ∙ here (λ y. clocks (E y) ≡ true) (omega arith) x.1))
      go (yes g) (by_clock o s c e) ih = omega (arith, ih o g s)
      go (no g) (by_clock o s c e) ih = omega (arith, (same_word E m l i l o (here (λ y. Transmitter E y (showing l i)) (omega arith) x.0) s).1)

  -- each bit has one clock
  one_clock : (k m l j : ℕ) → ShowsBit l j k → ShowsBit l j m → k ≡ m
  one_clock k m l j x y = grind (arith, later k m l j j, later m k l j j)

  -- an earlier bit was shown by an earlier clock
  in_turn : (k m l i j : ℕ) → i < j → ShowsBit l i k → ShowsBit l j m → k < m
  in_turn k m l i j h x y = grind (arith, later k m l j i, later m k l j i, same_word E m l i l j)

  -- each bit that was shown had its clock
  had_clock : (k l i j : ℕ) → i < j → Transmitter E k (showing l j) → (m : ℕ) × ShowsBit l i m
  had_clock zero l i j h t = none_shown E l j t
  had_clock (suc k) l i j h t = go (came E k l j t) (λ o g u. had_clock k l i o g u)
    where
      last : (o : ℕ) → Transmitter E k (showing l o) → clocks (E k) ≡ true → j ≡ suc o → Dec (i < o) → ((o : ℕ) → i < o → Transmitter E k (showing l o) → (m : ℕ) × ShowsBit l i m) → (m : ℕ) × ShowsBit l i m
      last o s c e (yes g) ih = ih o g s
      last o s c e (no g) ih = let f : o ≡ i = omega arith in let P : ℕ → Type 0 = λ y. Transmitter E k (showing l y) in (k, (subst P f s, c))

      go : Came E k l j → ((o : ℕ) → i < o → Transmitter E k (showing l o) → (m : ℕ) × ShowsBit l i m) → (m : ℕ) × ShowsBit l i m
      go (by_load y e z) ih = absurd (omega arith)
      go (as_before s c) ih = ih j h s
      go (by_clock o s c e) ih = last o s c e (dec_lt i o) ih

  -- since its load no other word was shown
  meanwhile : (k m l j : ℕ) → l < k → k ≤ m → Transmitter E m (showing l j) → (i : ℕ) × (i ≤ j) × Transmitter E k (showing l i)
  meanwhile k zero l j a b t = absurd (omega arith)
  meanwhile k (suc m) l j a b t = go (dec_le k m) (λ o g u. meanwhile k m l o a g u)
    where
      step : k ≤ m → Came E m l j → ((o : ℕ) → k ≤ m → Transmitter E m (showing l o) → (i : ℕ) × (i ≤ o) × Transmitter E k (showing l i)) → (i : ℕ) × (i ≤ j) × Transmitter E k (showing l i)
      step g (by_load y e z) ih = absurd (omega arith)
      step g (as_before s c) ih = ih j g s
      step g (by_clock o s c e) ih = let w = ih o g s in (w.0, omega (arith, w.1), w.2)

      go : Dec (k ≤ m) → ((o : ℕ) → k ≤ m → Transmitter E m (showing l o) → (i : ℕ) × (i ≤ o) × Transmitter E k (showing l i)) → (i : ℕ) × (i ≤ j) × Transmitter E k (showing l i)
      go (yes g) ih = step g (came E m l j t) ih
      go (no g) ih = let e : suc m ≡ k = omega arith in let P : ℕ → Type 0 = λ y. Transmitter E y (showing l j) in (j, omega arith, subst P e t)

  -- a byte is loaded once
  load_once : (l m n : ℕ) → LoadsByte E l n → LoadsByte E m n → l ≡ m
  load_once l m n x y = let a = apart l m x y in let b = apart m l y x in omega arith
    where
      apart : (l m : ℕ) → LoadsByte E l n → LoadsByte E m n → l < m → ⊥
      apart l m x y h = places.gone (transmitting E) (transmit_act E) (written E) (transmitting_sane E) l m n 3 Taken (was_taken x.1 x.0) h y.1

  -- a clock while a byte is being shifted does something to it
  does : (k n l j : ℕ) → Shifts E k n l j → clocks (E k) ≡ true → (s : Shown) × Does E k n s
  does k n l j x c = go (dec_lt (j + 1) (T E l))
    where
      go : Dec (j + 1 < T E l) → (s : Shown) × Does E k n s
      go (yes h) = (a_bit, shows_a_bit l j x c h)
      go (no h) = (last_bit, shows_the_last l j x c (omega (arith, (word E k l j x.1).1)))

  -- the clocks of a word whose last bit event k shows
  module _ (l k j : ℕ) (t : ShowsBit l j k) where
    find : (i : ℕ) → Dec (i < j) → (m : ℕ) × (i ≤ j → ShowsBit l i m)
    find i (yes h) = let w = had_clock k l i j h t.0 in (w.0, λ g. w.1)
    find i (no h) = (k, λ g. let e : j ≡ i = omega arith in let P : ℕ → Type 0 = λ y. ShowsBit l y k in subst P e t)

    -- the clock of each bit
    abbrev clock_of : ℕ → ℕ
    clock_of i = (find i (dec_lt i j)).0

    clock_shows : (i : ℕ) → i ≤ j → ShowsBit l i (clock_of i)
    clock_shows i h = (find i (dec_lt i j)).1 h

-- past the end of the list there is no clock
clock_within : (events : List Event) (k : ℕ) → clocks (history events k) ≡ true → k < length events
clock_within events k c = grind (arith, get_or_past events k (ReceivedBit 2))

module _ (events : List Event) (answers : List Answer)
    (refused : (k : ℕ) → k < length events → (r : Refusal) → (answer answers k ≡ Err r) ↔ Declined (history events) k r)
    (truthful : (k : ℕ) → k < length events → (r : Reply) → answer answers k ≡ Ok r → Truthful (history events) k r) where
  abbrev E : History
  E = history events

  abbrev A : ℕ → Answer
  A = answer answers

  -- the answer to the clock of bit j names the byte and has that bit of its word
  told_bit : (n l j i b k : ℕ) → LoadsByte E l n → Writes E i n b → ShowsBit E l j k → ShowsOf A E k n (get_or (word_of (form E l) b) j 0)
  told_bit n l j i b k x w t =
      let within = clock_within events k t.1 in
      let d = does E k n l j (x, t.0) t.1 in
      let a = accepted events answers refused k within (λ r y. declined_does E k r y n d.0 d.1) in
      let h = truthful k within a.0 a.1 in
      record { clock = t.1; reply = a.0; answer = a.1; number = only_named _ n ((h.shifted_told.told n d.0).0 d.1).0; bit = h.bit_of_the_word n l j i b (x, t.0) t.1 w }

  -- a clock whose answer names the byte shows a bit of its word
  names_bit : (n l k v : ℕ) → LoadsByte E l n → ShowsOf A E k n v → (j : ℕ) × ShowsBit E l j k
  names_bit n l k v x h =
      let m = (truthful k (clock_within events k h.clock) h.reply h.answer).shifted_told.named n (loaded_number E l n x, inl h.number) in
      let y = shifted E k n m.0 m.1 in
      let P : ℕ → Type 0 = λ z. ShowsBit E z y.1 k in
      (y.1, subst P (load_once E y.0 l n y.2.0 x) (y.2.1, h.clock))

  module _ (n i b l k j : ℕ) (w : Writes E i n b) (x : LoadsByte E l n) (t : ShowsBit E l j k) (full : j + 1 ≡ T E l) where
    abbrev bits : List ℕ
    bits = word_of (form E l) b

    abbrev at : ℕ → ℕ
    at = clock_of E l k j t

    -- the word has as many bits as were shown
    within : (o : ℕ) → o < length bits → o ≤ j
    within o h = omega (arith, h, full, word_length (form E l) b)

    shows : (o : ℕ) → o ≤ j → ShowsBit E l o (at o)
    shows o h = clock_shows E l k j t o h

    -- so the byte was sent as its word
    sent_word : SentAs A E n l bits
    sent_word = record {
      at = at;
      after_the_load = earlier E (at 0) l 0 (shows 0 (omega arith)).0;
      one_by_one = λ o h. in_turn E (at o) (at (suc o)) l o (suc o) (omega arith) (shows o (omega (arith, within (suc o) h))) (shows (suc o) (within (suc o) h));
      successive = λ m a o h u c.
          let y = meanwhile E m (at o) l o a u (shows o (within o h)).0 in
          (y.0, y.1, one_clock E m (at y.0) l y.0 (y.2, c) (shows y.0 (omega (arith, y.1, within o h))));
      shown = λ o h. told_bit n l o i b (at o) x w (shows o (within o h));
      no_other = λ m v h.
          let y = names_bit n l m v x h in
          let s = (word E m l y.0 y.1.0).1 in
          (y.0, omega (arith, s, word_length (form E l) b), one_clock E m (at y.0) l y.0 y.1 (shows y.0 (omega (arith, s, full))));
    }

  -- a sent byte was sent as its word
  pub sent_bits : (k n i b l : ℕ) → Ended E k n sent → Writes E i n b → LoadsByte E l n → SentAs A E n l (word_of (form E l) b)
  sent_bits k n i b l (was_sent (shows_the_last m j y c e)) w x =
      let same : m ≡ l = load_once E m l n y.0 x in
      let P : ℕ → Type 0 = λ z. ShowsBit E z j k in
      sent_word n i b l k j w x (subst P same (y.1, c)) (e ∙ ap (T E) same)
