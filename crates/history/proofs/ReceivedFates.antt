-- Every framed character has one fate, and characters are delivered in rising numbers. Assumes nothing.
use Rattle.std.proofs.Common.{◌≡◌, ℕ, zero, suc, ◌<◌, ◌≤◌, Bool, true, false, ◌⊎◌, sym, refl, ap, ◌∙◌, subst, inl, inr, arith}
use Rattle.std.proofs.lemmas.Bool.{false≢true}
use Rattle.serial.specs.Lives.{OneFate, Rising}
use Rattle.serial.specs.Life.{Stands, enters, stays, rises, Left, was_displaced, was_taken, was_emptied}
use Rattle.serial.specs.declared.life.Way.{Way}
use Rattle.serial.specs.declared.life.Way.TheVariants.{Displaced as displaced, Taken as taken, Emptied as emptied}
use Rattle.serial.proofs.Lifelines.{Lifelines, lives}
use Rattle.serial.proofs.Standing as places
use Rattle.history.specs.Settings.{History, ReadsData, ResetsReceiver}
use Rattle.history.specs.Lines.{Frames, Framed, strips, mark_framed}
use Rattle.history.specs.Law.{receiving, Fate, delivered, stripped, lost, cleared, Met, by_a_data_read, by_strip_sync, by_the_next, by_a_reset}
use Rattle.history.proofs.Acting.{way_no}
use Rattle.history.proofs.OnePhase.{receiver_is}
use Rattle.history.proofs.Receiving.{count, count_step, numbered, receive_act, receiving_sane}

module _ (E : History) where
  abbrev sane : places.Sane (receiving E) (receive_act E) (count E)
  sane = receiving_sane E

  -- a number by which the count grows is framed then
  comes_framed : (k n : ℕ) → count E k < n → n ≤ count E (suc k) → Frames E k n
  comes_framed k n l u = grind (arith, count_step E k)

  -- the count never falls
  up : (j k : ℕ) → j ≤ k → count E j ≤ count E k
  up j k = places.bounds (receiving E) (receive_act E) (count E) sane j k

  -- a number is framed once
  pub framed_once : (i j n : ℕ) → Frames E i n → Frames E j n → i ≡ j
  framed_once i j n f g = let a = apart i j f g in let b = apart j i g f in omega arith
    where
      apart : (i j : ℕ) → Frames E i n → Frames E j n → i < j → ⊥
      apart i j f g l = omega (arith, (numbered E i n f).1, (numbered E j n g).0, up (suc i) j (omega arith))

  -- who stands was framed, and not stripped
  pub origin : (k n p : ℕ) → Stands (receiving E) k n p → (i : ℕ) × Frames E i n
  origin zero n p h = absurd h
  origin (suc k) n p (enters e b) = (k, e.0)
  origin (suc k) n p (stays h d) = origin k n p h
  origin (suc k) n p (rises q c r h w b) = origin k n q h

  -- who leaves the queue meets an end
  fate_of_lem : (k n : ℕ) (w : Way) → Left (receiving E) k n w → (f : Fate) × Met E k n f
  fate_of_lem k n w (was_displaced m h e) = (lost, by_the_next (was_displaced m h e))
  fate_of_lem k n w (was_taken h e) = let o = origin k n 3 h in (delivered (mark_framed E o.0), by_a_data_read o.0 (mark_framed E o.0) (was_taken h e) o.1 refl)
  fate_of_lem k n w (was_emptied p h e) = (cleared, by_a_reset (was_emptied p h e))

  -- ONE STEP OF A LIFE

  -- a new number is that of a character that is framed now: it is stripped, or waits
  comes : (k n : ℕ) → count E k < n → n ≤ count E (suc k) → ((f : Fate) × Met E k n f) ⊎ ((p : ℕ) × Stands (receiving E) (suc k) n p)
  comes k n l u = go (strips E k) refl
    where
      go : (b : Bool) → strips E k ≡ b → ((f : Fate) × Met E k n f) ⊎ ((p : ℕ) × Stands (receiving E) (suc k) n p)
      go true e = inl (stripped, by_strip_sync (comes_framed k n l u) e)
      go false e = inr (1, enters (comes_framed k n l u, e) refl)

  -- who stands stands further, or meets an end
  goes : (k n p : ℕ) → Stands (receiving E) k n p → ((f : Fate) × Met E k n f) ⊎ ((q : ℕ) × Stands (receiving E) (suc k) n q)
  goes k n p h = go (places.goes (receiving E) (receive_act E) (count E) sane k n p h)
    where
      go : ((w : Way) × Left (receiving E) k n w) ⊎ ((q : ℕ) × Stands (receiving E) (suc k) n q) → ((f : Fate) × Met E k n f) ⊎ ((q : ℕ) × Stands (receiving E) (suc k) n q)
      go (inl x) = inl (fate_of_lem k n x.0 x.1)
      go (inr x) = inr x

  from_left : (k n : ℕ) (w : Way) → Left (receiving E) k n w → ((p : ℕ) × Stands (receiving E) k n p) ⊎ ((count E k < n) × (n ≤ count E (suc k)))
  from_left k n w l = inl (places.stood (receiving E) (receive_act E) (count E) sane k n w l)

  -- who meets an end stood in the queue, or was framed just then
  stood : (k n : ℕ) (f : Fate) → Met E k n f → ((p : ℕ) × Stands (receiving E) k n p) ⊎ ((count E k < n) × (n ≤ count E (suc k)))
  stood k n f (by_a_data_read i m l x e) = from_left k n taken l
  stood k n f (by_strip_sync x e) = inr (omega (arith, (numbered E k n x).0), omega (arith, (numbered E k n x).1))
  stood k n f (by_the_next l) = from_left k n displaced l
  stood k n f (by_a_reset l) = from_left k n emptied l

  -- who met an end stands nowhere after it
  strip_stops : (k n p : ℕ) → Frames E k n → strips E k ≡ true → Stands (receiving E) (suc k) n p → ⊥
  strip_stops k n p x e (enters f b) = false≢true (sym f.1 ∙ e)
  strip_stops k n p x e (stays h d) = omega (arith, (numbered E k n x).0, (places.counted (receiving E) (receive_act E) (count E) sane k n p h).1)
  strip_stops k n p x e (rises q c r h w b) = omega (arith, (numbered E k n x).0, (places.counted (receiving E) (receive_act E) (count E) sane k n q h).1)

  stops : (k n : ℕ) (f : Fate) (p : ℕ) → Met E k n f → Stands (receiving E) (suc k) n p → ⊥
  stops k n f p (by_a_data_read i m l x e) h = places.stops (receiving E) (receive_act E) (count E) sane k n p taken l h
  stops k n f p (by_strip_sync x e) h = strip_stops k n p x e h
  stops k n f p (by_the_next l) h = places.stops (receiving E) (receive_act E) (count E) sane k n p displaced l h
  stops k n f p (by_a_reset l) h = places.stops (receiving E) (receive_act E) (count E) sane k n p emptied l h

  -- ways to leave, and strips, are different events
  two_ways : (k n : ℕ) (v w : Way) → Left (receiving E) k n v → Left (receiving E) k n w → way_no v ≡ way_no w
  two_ways k n v w a b = ap way_no (places.one_leaving (receiving E) (receive_act E) (count E) sane k n v w a b)

  -- who leaves the queue was framed before
  old : (k n : ℕ) (w : Way) → Left (receiving E) k n w → Frames E k n → ⊥
  old k n w l x =
      let s = places.stood (receiving E) (receive_act E) (count E) sane k n w l in
      omega (arith, (numbered E k n x).0, (places.counted (receiving E) (receive_act E) (count E) sane k n s.0 s.1).1)

  -- so an end is one end
  one_fate : (k n : ℕ) (f g : Fate) → Met E k n f → Met E k n g → f ≡ g
  one_fate k n f g (by_a_data_read i m l x e) (by_a_data_read j o h y d) = ap delivered (e ∙ ap (mark_framed E) (framed_once i j n x y) ∙ sym d)
  one_fate k n f g (by_a_data_read i m l x e) (by_strip_sync y d) = absurd (old k n taken l y)
  one_fate k n f g (by_a_data_read i m l x e) (by_the_next h) = absurd (omega (arith, two_ways k n _ _ l h))
  one_fate k n f g (by_a_data_read i m l x e) (by_a_reset h) = absurd (omega (arith, two_ways k n _ _ l h))
  one_fate k n f g (by_strip_sync x e) (by_a_data_read j o h y d) = absurd (old k n taken h x)
  one_fate k n f g (by_strip_sync x e) (by_strip_sync y d) = refl
  one_fate k n f g (by_strip_sync x e) (by_the_next h) = absurd (old k n displaced h x)
  one_fate k n f g (by_strip_sync x e) (by_a_reset h) = absurd (old k n emptied h x)
  one_fate k n f g (by_the_next l) (by_a_data_read j o h y d) = absurd (omega (arith, two_ways k n _ _ l h))
  one_fate k n f g (by_the_next l) (by_strip_sync y d) = absurd (old k n displaced l y)
  one_fate k n f g (by_the_next l) (by_the_next h) = refl
  one_fate k n f g (by_the_next l) (by_a_reset h) = absurd (omega (arith, two_ways k n _ _ l h))
  one_fate k n f g (by_a_reset l) (by_a_data_read j o h y d) = absurd (omega (arith, two_ways k n _ _ l h))
  one_fate k n f g (by_a_reset l) (by_strip_sync y d) = absurd (old k n emptied l y)
  one_fate k n f g (by_a_reset l) (by_the_next h) = absurd (omega (arith, two_ways k n _ _ l h))
  one_fate k n f g (by_a_reset l) (by_a_reset h) = refl

  -- the lives of all characters
  lifelines : Lifelines (count E) (Stands (receiving E)) (Met E)
  lifelines = record {
    from_none = refl;
    none_first = λ n p h. h;
    rises = sane.grows;
    counted = places.counted (receiving E) (receive_act E) (count E) sane;
    comes = comes;
    goes = goes;
    was = places.was (receiving E) (receive_act E) (count E) sane;
    stood = stood;
    stops = stops;
    one_fate = one_fate;
    one_way = places.placed (receiving E) (receive_act E) (count E) sane;
  }

  pub received_one_fate : (k n : ℕ) → Framed E k n → OneFate n (Stands (receiving E) k) (Met E) k
  received_one_fate k n f =
      let e : count E k ≡ n = sym (ap (λ x. x.1) (receiver_is E k f.0 n f.1)) in
      let P : ℕ → Type 0 = λ m. OneFate m (Stands (receiving E) k) (Met E) k in subst P e (lives lifelines k)

  -- a character is delivered from the output
  at_output : (k n : ℕ) (m : Bool) → Met E k n (delivered m) → Left (receiving E) k n taken
  at_output k n m (by_a_data_read i o l x e) = l

  output : (k n : ℕ) → Left (receiving E) k n taken → Stands (receiving E) k n 3 × (receiving E).Takes k
  output k n (was_taken h e) = (h, e)

  pub delivered_rising : Rising (λ k n. (m : Bool) × Met E k n (delivered m))
  delivered_rising = record {
    one_at_a_time = λ k m n a b. places.alone (receiving E) (receive_act E) (count E) sane k m n 3 (output k m (at_output k m a.0 a.1)).0 (output k n (at_output k n b.0 b.1)).0;
    rising = λ i j m n l a b.
        let x = output i m (at_output i m a.0 a.1) in
        places.taken_rise (receiving E) (receive_act E) (count E) sane i j m n l x.0 x.1 (output j n (at_output j n b.0 b.1)).0;
  }

  -- an event that frames nothing, reads no data and does not reset the receiver ends no character
  pub nobody_met : (k : ℕ) → ((n : ℕ) → Frames E k n → ⊥) → (ReadsData E k → ⊥) → (ResetsReceiver E k → ⊥) → (n : ℕ) (f : Fate) → Met E k n f → ⊥
  nobody_met k unframed unread unreset n f (by_a_data_read i m (was_taken h e) x d) = unread e
  nobody_met k unframed unread unreset n f (by_strip_sync x e) = unframed n x
  nobody_met k unframed unread unreset n f (by_the_next (was_displaced m h e)) = unframed m e.0
  nobody_met k unframed unread unreset n f (by_a_reset (was_emptied p h e)) = unreset e
