-- What answers tell one by one, and the question at the end, come to one told fate for each character and byte. Assumes nothing.
use Rattle.std.proofs.Common.{◌≡◌, ℕ, ◌<◌, ◌⊎◌, ◌↔◌, List, length, Some, Ok, Err, refl, inl, inr, arith}
use Rattle.serial.specs.declared.event.Event.{Event}
use Rattle.serial.specs.declared.event.Refusal.{Refusal}
use Rattle.serial.specs.declared.slip.Reply.{Reply}
use Rattle.serial.specs.declared.slip.Standing.{Standing}
use Rattle.serial.specs.Lives.{Gone, OneFate}
use Rattle.serial.specs.Life.{Stands, Shows}
use Rattle.serial.specs.Telling.{Names}
use Rattle.history.specs.Settings.{History}
use Rattle.history.specs.Lines.{Framed, written}
use Rattle.history.specs.Law.{Answer, Declined, receiving, Fate, Met, transmitting, Shifts, last_bit, cut_off, Ending, Ended, was_sent, was_cut, was_dropped, Going, GoesOn, waits, shifts, history, answer, TellsReceived, TellsWritten, tells_sent, tells_cut, tells_dropped, ShowsGoing, shows_waiting, shows_shifting, only, Truthful}
use Rattle.history.proofs.Declining.{declined_met, declined_does, declined_drops}
use Rattle.history.proofs.ReceivedFates.{received_one_fate}
use Rattle.history.proofs.WrittenFates.{written_one_fate}

-- ends and ways that are the same up to moment K have the same fates

module _ {F W : Type 0} (K : ℕ) (Goes Shows' : ℕ → W → Type 0) (Ends Tells' : ℕ → ℕ → F → Type 0) (ends : (k n : ℕ) (f : F) → k < K → Ends k n f ↔ Tells' k n f) (goes : (n : ℕ) (w : W) → Goes n w ↔ Shows' n w) where
  there : (n : ℕ) → Gone Ends K n → Gone Tells' K n
  there n g = record { when = g.when; before = g.before; fate = g.fate; met = (ends g.when n g.fate g.before).0 g.met }

  abbrev back : (n : ℕ) → Gone Tells' K n → Gone Ends K n
  back n g = record { when = g.when; before = g.before; fate = g.fate; met = (ends g.when n g.fate g.before).1 g.met }

  same_fates : (count : ℕ) → OneFate count Goes Ends K → OneFate count Shows' Tells' K
  same_fates count o = record {
    each = λ n l u. either n (o.each n l u);
    ended_counted = λ n g. o.ended_counted n (back n g);
    going_counted = λ n w s. o.going_counted n w ((goes n w).1 s);
    not_both = λ n w g s. o.not_both n w (back n g) ((goes n w).1 s);
    one_end = λ n g h. o.one_end n (back n g) (back n h);
    one_way = λ n v w s t. o.one_way n v w ((goes n v).1 s) ((goes n w).1 t);
  }
    where
      either : (n : ℕ) → Gone Ends K n ⊎ ((w : W) × Goes n w) → Gone Tells' K n ⊎ ((w : W) × Shows' n w)
      either n (inl g) = inl (there n g)
      either n (inr s) = inr (s.0, (goes n s.0).0 s.1)

-- the one number of a field
pub only_named : (m n : ℕ) → Names (only m) n → m ≡ n
only_named m n h = grind arith

-- an event that is not declined is accepted
module _ (events : List Event) (answers : List Answer) (refused : (k : ℕ) → k < length events → (r : Refusal) → (answer answers k ≡ Err r) ↔ Declined (history events) k r) where
  pub accepted : (k : ℕ) → k < length events → ((r : Refusal) → Declined (history events) k r → ⊥) → (r : Reply) × (answer answers k ≡ Ok r)
  accepted k within f = go (answer answers k) refl
    where
      go : (a : Answer) → answer answers k ≡ a → (r : Reply) × (answer answers k ≡ Ok r)
      go (Ok r) e = (r, e)
      go (Err r) e = absurd (f r ((refused k within r).0 e))

module _ (events : List Event) (answers : List Answer) (end : Standing)
    (refused : (k : ℕ) → k < length events → (r : Refusal) → (answer answers k ≡ Err r) ↔ Declined (history events) k r)
    (truthful : (k : ℕ) → k < length events → (r : Reply) → answer answers k ≡ Ok r → Truthful (history events) k r)
    (received_told : (n p : ℕ) → Shows end.received n p ↔ Stands (receiving (history events)) (length events) n p)
    (written_told : (n p : ℕ) → Shows end.queued n p ↔ Stands (transmitting (history events)) (length events) n p)
    (shifting_told : (n : ℕ) → (end.shifting ≡ Some n) ↔ ((l j : ℕ) × Shifts (history events) (length events) n l j)) where
  abbrev E : History
  E = history events

  abbrev K : ℕ
  K = length events

  abbrev A : ℕ → Answer
  A = answer answers

  -- a character's end is told by the answer to its event, and only then
  tells_met : (k n : ℕ) (f : Fate) → k < K → Met E k n f ↔ TellsReceived A k n f
  tells_met k n f within = (to, from)
    where
      to : Met E k n f → TellsReceived A k n f
      to m =
          let a = accepted events answers refused k within (λ r d. declined_met E k r d n f m) in
          let t = ((truthful k within a.0 a.1).received_told.told n f).0 m in
          record { reply = a.0; accepted = a.1; named = t.0; code = t.1 }

      from : TellsReceived A k n f → Met E k n f
      from t = ((truthful k within t.reply t.accepted).received_told.told n f).1 (t.named, t.code)

  -- so of each character one end is told, once
  pub received_once : (count : ℕ) → Framed E K count → OneFate count (Shows end.received) (TellsReceived A) K
  received_once count f =
      same_fates K (Stands (receiving E) K) (Shows end.received) (Met E) (TellsReceived A) tells_met (λ n p. ((received_told n p).1, (received_told n p).0)) count (received_one_fate E K count f)

  -- so is the end of a byte, be it sent, cut or dropped
  tells_ended : (k n : ℕ) (f : Ending) → k < K → Ended E k n f ↔ TellsWritten A k n f
  tells_ended k n f within = (to f, from f)
    where
      to : (f : Ending) → Ended E k n f → TellsWritten A k n f
      to f (was_sent x) =
          let a = accepted events answers refused k within (λ r d. declined_does E k r d n last_bit x) in
          let t = ((truthful k within a.0 a.1).shifted_told.told n last_bit).0 x in
          tells_sent a.0 a.1 t.0.0 (only_named _ n t.0) t.1
      to f (was_cut x) =
          let a = accepted events answers refused k within (λ r d. declined_does E k r d n cut_off x) in
          let t = ((truthful k within a.0 a.1).shifted_told.told n cut_off).0 x in
          tells_cut a.0 a.1 t.0.0 (only_named _ n t.0) t.1
      to f (was_dropped d x) =
          let a = accepted events answers refused k within (λ r e. declined_drops E k r e n d x) in
          let t = ((truthful k within a.0 a.1).dropped_told.told n d).0 x in
          tells_dropped d a.0 a.1 t.0 t.1

      from : (f : Ending) → TellsWritten A k n f → Ended E k n f
      from f (tells_sent r e l h c) = was_sent (((truthful k within r e).shifted_told.told n last_bit).1 ((l, inl h), c))
      from f (tells_cut r e l h c) = was_cut (((truthful k within r e).shifted_told.told n cut_off).1 ((l, inl h), c))
      from f (tells_dropped d r e h c) = was_dropped d (((truthful k within r e).dropped_told.told n d).1 (h, c))

  -- the question shows how a byte goes on
  shows_going : (n : ℕ) (w : Going) → GoesOn E K n w ↔ ShowsGoing end n w
  shows_going n w = (to w, from w)
    where
      to : (w : Going) → GoesOn E K n w → ShowsGoing end n w
      to w (waits p h) = shows_waiting p ((written_told n p).1 h)
      to w (shifts l j x) = shows_shifting ((shifting_told n).1 (l, j, x))

      from : (w : Going) → ShowsGoing end n w → GoesOn E K n w
      from w (shows_waiting p h) = waits p ((written_told n p).0 h)
      from w (shows_shifting e) = let x = (shifting_told n).0 e in shifts x.0 x.1 x.2

  -- so of each byte one end is told, once
  pub written_once : OneFate (written E K) (ShowsGoing end) (TellsWritten A) K
  written_once = same_fates K (GoesOn E K) (ShowsGoing end) (Ended E) (TellsWritten A) tells_ended shows_going (written E K) (written_one_fate E K)
