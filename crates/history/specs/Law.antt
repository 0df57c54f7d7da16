-- The law of one new adapter over a whole history: what becomes of each character framed and of each byte written,
-- and that the answers tell exactly this. Assumes nothing.
-- Moment k lies after the first k events, and event k happens between moments k and k + 1.
use Rattle.std.specs.Prelude.{◌≡◌, ℕ, suc, ◌+◌, ◌<◌, ◌≤◌, Bool, true, false, ◌↔◌, List, length, Some, Ok, Err, Result, slice_index, slice_index_or}
use Rattle.serial.specs.declared.event.Event.{Event}
use Rattle.serial.specs.declared.event.Event.TheVariants.{ReceivedBit}
use Rattle.serial.specs.declared.event.Refusal.{Refusal}
use Rattle.serial.specs.declared.event.Refusal.TheVariants.{FramedFull, WrittenFull, TooLong}
use Rattle.serial.specs.declared.slip.ReceiveCode.{ReceiveCode}
use Rattle.serial.specs.declared.slip.ReceiveCode.TheVariants as rx
use Rattle.serial.specs.declared.slip.QueueCode.{QueueCode}
use Rattle.serial.specs.declared.slip.QueueCode.TheVariants as qu
use Rattle.serial.specs.declared.slip.ShiftCode.{ShiftCode}
use Rattle.serial.specs.declared.slip.ShiftCode.TheVariants as sh
use Rattle.serial.specs.declared.queue.Numbers.{Numbers}
use Rattle.serial.specs.declared.slip.Reply.{Reply}
use Rattle.serial.specs.declared.slip.Standing.{Standing}
use Rattle.serial.specs.Words.{word_of}
use Rattle.history.specs.Events.{bit_at, idles, received, clocks, refusal_by_range}
use Rattle.serial.specs.Lives.{OneFate, Rising}
use Rattle.serial.specs.Life.{Acts, Stands, Left, Shows}
use Rattle.serial.specs.declared.life.Way.TheVariants.{Displaced as displaced, Taken as taken, Emptied as emptied}
use Rattle.serial.specs.Telling.{Names, Tells}
use Rattle.history.specs.Settings.{History, to_data, form, ReadsStatus, ReadsData, ResetsReceiver, ResetsTransmitter, Cuts}
use Rattle.history.specs.Lines.{limit, T, Phase, Receiver, Framed, Frames, byte_framed, mark_framed, strips, written, Writes, showing, Transmitter, Loads}

abbrev pub Answer : Type 0
Answer = Result Reply Refusal

-- WHAT IS DECLINED

-- event k is declined for this reason
pub data Declined (E : History) (k : ℕ) : Refusal → Type 0 where
  out_of_range : (r : Refusal) → refusal_by_range (E k) ≡ Some r → Declined E k r
  framed_full : (b : ℕ) → received (E k) ≡ Some b → Framed E k limit → Declined E k FramedFull
  written_full : (b : ℕ) → to_data E k ≡ Some b → written E k ≡ limit → Declined E k WrittenFull

-- RECEIVED CHARACTERS

-- the receive queue: a framed character enters unless it is stripped
abbrev pub receiving : History → Acts
receiving E = record {
  Enters = λ k n. Frames E k n × (strips E k ≡ false);
  Rises = λ k. idles (E k) ≡ true;
  Takes = λ k. ReadsData E k;
  Empties = λ k. ResetsReceiver E k;
}

-- the ends of a received character: delivered with or without a parity mark, stripped, lost, cleared
pub data Fate : Type 0 where
  delivered : Bool → Fate
  stripped : Fate
  lost : Fate
  cleared : Fate

-- by event k character n met its end
pub data Met (E : History) (k n : ℕ) : Fate → Type 0 where
  by_a_data_read : (i : ℕ) (m : Bool) → Left (receiving E) k n taken → Frames E i n → m ≡ mark_framed E i → Met E k n (delivered m)
  by_strip_sync : Frames E k n → strips E k ≡ true → Met E k n stripped
  by_the_next : Left (receiving E) k n displaced → Met E k n lost
  by_a_reset : Left (receiving E) k n emptied → Met E k n cleared

abbrev pub receive_code : Fate → ReceiveCode
receive_code (delivered false) = rx.Delivered
receive_code (delivered true) = rx.DeliveredMarked
receive_code stripped = rx.Stripped
receive_code lost = rx.Lost
receive_code cleared = rx.Cleared

-- WRITTEN BYTES

-- the transmit queue: a written byte enters, a load takes the output
abbrev pub transmitting : History → Acts
transmitting E = record {
  Enters = λ k n. (b : ℕ) × Writes E k n b;
  Rises = λ k. idles (E k) ≡ true;
  Takes = λ k. Loads E k;
  Empties = λ k. ResetsTransmitter E k;
}

-- event l loads byte n
abbrev pub LoadsByte : History → ℕ → ℕ → Type 0
LoadsByte E l n = Loads E l × Stands (transmitting E) l n 3

-- at moment k byte n, which event l loaded, is being shifted, and j of its bits were shown
abbrev pub Shifts : History → ℕ → ℕ → ℕ → ℕ → Type 0
Shifts E k n l j = LoadsByte E l n × Transmitter E k (showing l j)

-- what a clock or a cut does to the byte that is being shifted
pub data Shown : Type 0 where
  a_bit : Shown
  last_bit : Shown
  cut_off : Shown

pub data Does (E : History) (k n : ℕ) : Shown → Type 0 where
  shows_a_bit : (l j : ℕ) → Shifts E k n l j → clocks (E k) ≡ true → j + 1 < T E l → Does E k n a_bit
  shows_the_last : (l j : ℕ) → Shifts E k n l j → clocks (E k) ≡ true → j + 1 ≡ T E l → Does E k n last_bit
  cuts_it_off : (l j : ℕ) → Shifts E k n l j → Cuts E k → Does E k n cut_off

-- what the queue does to a byte that is not loaded
pub data Dropped : Type 0 where
  overwritten : Dropped
  cleared : Dropped

pub data Drops (E : History) (k n : ℕ) : Dropped → Type 0 where
  by_the_next : Left (transmitting E) k n displaced → Drops E k n overwritten
  by_a_reset : Left (transmitting E) k n emptied → Drops E k n cleared

-- the ends of a written byte
pub data Ending : Type 0 where
  sent : Ending
  cut : Ending
  dropped : Dropped → Ending

pub data Ended (E : History) (k n : ℕ) : Ending → Type 0 where
  was_sent : Does E k n last_bit → Ended E k n sent
  was_cut : Does E k n cut_off → Ended E k n cut
  was_dropped : (d : Dropped) → Drops E k n d → Ended E k n (dropped d)

-- how a written byte that has no end yet goes on: it waits in a place, or is being shifted
pub data Going : Type 0 where
  waiting : ℕ → Going
  shifting : Going

pub data GoesOn (E : History) (k n : ℕ) : Going → Type 0 where
  waits : (p : ℕ) → Stands (transmitting E) k n p → GoesOn E k n (waiting p)
  shifts : (l j : ℕ) → Shifts E k n l j → GoesOn E k n shifting

abbrev pub queue_code : Dropped → QueueCode
queue_code overwritten = qu.Overwritten
queue_code cleared = qu.Cleared

abbrev pub shift_code : Shown → ShiftCode
shift_code a_bit = sh.Bit
shift_code last_bit = sh.LastBit
shift_code cut_off = sh.Cut

-- THE BITS OF A SENT BYTE

-- event k is a transmit clock whose slip has n as its shift number, and it shows bit v
pub record ShowsOf (answers : ℕ → Answer) (E : History) (k n v : ℕ) : Type 0 where
  pub clock : clocks (E k) ≡ true
  pub reply : Reply
  pub answer : answers k ≡ Ok reply
  pub number : reply.slip.shifted ≡ n
  pub bit : reply.value ≡ v

-- byte n, which is b and which event l loaded, was sent as these bits: `at j` is the clock that shows bit j;
-- they are the transmit clocks that follow the load, one by one, and no other clock has its number
pub record SentAs (answers : ℕ → Answer) (E : History) (n l : ℕ) (bits : List ℕ) : Type 0 where
  pub at : ℕ → ℕ
  pub after_the_load : l < at 0
  pub one_by_one : (j : ℕ) → suc j < length bits → at j < at (suc j)
  pub successive : (k : ℕ) → l < k → (j : ℕ) → j < length bits → k ≤ at j → clocks (E k) ≡ true → (i : ℕ) × (i ≤ j) × (k ≡ at i)
  pub shown : (j : ℕ) → j < length bits → ShowsOf answers E (at j) n (slice_index bits j)
  pub no_other : (k v : ℕ) → ShowsOf answers E k n v → (j : ℕ) × (j < length bits) × (k ≡ at j)

-- OVERRUN

-- some event strictly between events i and k
abbrev pub Between : (ℕ → Type 0) → ℕ → ℕ → Type 0
Between P i k = (j : ℕ) × (i < j) × (j < k) × P j

-- before event k a character was lost, and since the latest loss the receiver was not reset (RESET falling resets it too),
-- and no Status read was followed by a data read
pub record Overrun (E : History) (k : ℕ) : Type 0 where
  pub at : ℕ
  pub before : at < k
  pub who : ℕ
  pub loss : Met E at who lost
  pub latest_loss : Between (λ i. (n : ℕ) × Met E i n lost) at k → ⊥
  pub no_reset : Between (λ i. ResetsReceiver E i) at k → ⊥
  pub not_seen : Between (λ i. ReadsStatus E i × Between (λ j. ReadsData E j) i k) at k → ⊥

-- WHAT ANSWERS TELL

-- event k of a history; past its end nothing happens, as at a declined event
abbrev pub history : List Event → History
history es k = slice_index_or es k (ReceivedBit 2)

abbrev pub answer : List Answer → ℕ → Answer
answer xs k = slice_index_or xs k (Err TooLong)

-- answer k tells that character n met this end
pub record TellsReceived (answers : ℕ → Answer) (k n : ℕ) (f : Fate) : Type 0 where
  pub reply : Reply
  pub accepted : answers k ≡ Ok reply
  pub named : Names reply.slip.received n
  pub code : reply.slip.receive ≡ receive_code f

-- answer k tells that byte n met this end; a bit that is not the last tells none
pub data TellsWritten (answers : ℕ → Answer) (k n : ℕ) : Ending → Type 0 where
  tells_sent : (r : Reply) → answers k ≡ Ok r → 1 ≤ n → r.slip.shifted ≡ n → r.slip.shift ≡ sh.LastBit → TellsWritten answers k n sent
  tells_cut : (r : Reply) → answers k ≡ Ok r → 1 ≤ n → r.slip.shifted ≡ n → r.slip.shift ≡ sh.Cut → TellsWritten answers k n cut
  tells_dropped : (d : Dropped) (r : Reply) → answers k ≡ Ok r → Names r.slip.queued n → r.slip.queue ≡ queue_code d → TellsWritten answers k n (dropped d)

-- the question tells that byte n goes on so
pub data ShowsGoing (end : Standing) (n : ℕ) : Going → Type 0 where
  shows_waiting : (p : ℕ) → Shows end.queued n p → ShowsGoing end n (waiting p)
  shows_shifting : end.shifting ≡ Some n → ShowsGoing end n shifting

abbrev pub only : ℕ → Numbers
only n = record { first = n; second = 0; third = 0 }

-- what the answer to event k tells is exactly what happened
pub record Truthful (E : History) (k : ℕ) (r : Reply) : Type 0 where
  pub received_told : Tells receive_code rx.Nothing (Met E k) r.slip.receive r.slip.received
  pub dropped_told : Tells queue_code qu.Nothing (Drops E k) r.slip.queue r.slip.queued
  pub shifted_told : Tells shift_code sh.Nothing (Does E k) r.slip.shift (only r.slip.shifted)
  pub bit_of_the_word : (n l j i b : ℕ) → Shifts E k n l j → clocks (E k) ≡ true → Writes E i n b → r.value ≡ slice_index (word_of (form E l) b) j
  pub delivered_as_framed : (n i : ℕ) (m : Bool) → Met E k n (delivered m) → Frames E i n → r.value ≡ byte_framed E i
  pub overrun_shown_exactly : ReadsStatus E k → (bit_at 5 r.value ≡ true) ↔ Overrun E k

-- exactly one x has P
pub record One {A : Type 0} (P : A → Type 0) : Type 0 where
  pub it : A
  pub has : P it
  pub alone : (x : A) → P x → x ≡ it

-- THE WHOLE LAW

module _ (events : List Event) (answers : List Answer) (end : Standing) where
  abbrev E : History
  E = history events

  -- the moment at the end
  abbrev K : ℕ
  K = length events

  abbrev A : ℕ → Answer
  A = answer answers

  pub record Lawful : Type 0 where
    -- there is one answer for each event
    pub one_answer_each : length answers ≡ K
    -- an event is refused exactly when the rules decline it, and for their reason
    pub refused_exactly : (k : ℕ) → k < K → (r : Refusal) → (A k ≡ Err r) ↔ Declined E k r
    -- the answer to an accepted event tells exactly what happened to characters and bytes by it
    pub truthful : (k : ℕ) → k < K → (r : Reply) → A k ≡ Ok r → Truthful E k r
    -- at each moment the receiver is in one phase, with one count of framed characters
    pub receiver_in_one_phase : (k : ℕ) → One (λ (p : Phase × ℕ). Receiver E k p.0 p.1)
    -- at each moment the transmitter is held, starts, or shows one word
    pub transmitter_in_one_state : (k : ℕ) → One (Transmitter E k)
    -- each framed character, and no other number, has one end or waits in one place
    pub each_received_one_fate : (count : ℕ) → Framed E K count → OneFate count (Stands (receiving E) K) (Met E) K
    -- of each framed character, and of no other number, one end is told, once, or the question shows it in one place
    pub received_told_once : (count : ℕ) → Framed E K count → OneFate count (Shows end.received) (TellsReceived A) K
    -- characters are delivered in rising numbers
    pub delivered_rise : Rising (λ k n. (m : Bool) × Met E k n (delivered m))
    -- each written byte, and no other number, has one end, or waits in one place, or is being shifted
    pub each_written_one_fate : OneFate (written E K) (GoesOn E K) (Ended E) K
    -- of each written byte, and of no other number, one end is told, once, or the question shows how it goes on
    pub written_told_once : OneFate (written E K) (ShowsGoing end) (TellsWritten A) K
    -- bytes are sent in rising numbers
    pub sent_rise : Rising (λ k n. Ended E k n sent)
    -- a sent byte's bits, on successive transmit clocks, are its word in the form of its load
    pub sent_bits_are_the_word : (k n i b l : ℕ) → Ended E k n sent → Writes E i n b → LoadsByte E l n → SentAs A E n l (word_of (form E l) b)
    -- the question tells who waits where, in both directions, and who is being shifted
    pub received_waiting_told : (n p : ℕ) → Shows end.received n p ↔ Stands (receiving E) K n p
    pub written_waiting_told : (n p : ℕ) → Shows end.queued n p ↔ Stands (transmitting E) K n p
    pub shifting_told : (n : ℕ) → (end.shifting ≡ Some n) ↔ ((l j : ℕ) × Shifts E K n l j)

-- two answers to event k tell the same: the same refusal; or the same slip, overrun shown by both or by none, and the same
-- byte where one is delivered and the same bit where a byte is being shifted
abbrev pub Same : History → ℕ → Answer → Answer → Type 0
Same E k (Ok x) (Ok y) =
    (x.slip ≡ y.slip) × (ReadsStatus E k → bit_at 5 x.value ≡ bit_at 5 y.value)
    × ((n : ℕ) (m : Bool) → Met E k n (delivered m) → x.value ≡ y.value)
    × ((n i b l j : ℕ) → Writes E i n b → Shifts E k n l j → clocks (E k) ≡ true → x.value ≡ y.value)
Same E k (Ok x) (Err r) = ⊥
Same E k (Err q) (Ok y) = ⊥
Same E k (Err q) (Err r) = q ≡ r

-- the law leaves no choice in what is told
abbrev pub Pinned : Type 0
Pinned = (es : List Event) (xs ys : List Answer) (s t : Standing) → Lawful es xs s → Lawful es ys t → (s ≡ t) × ((k : ℕ) → k < length es → Same (history es) k (answer xs k) (answer ys k))

-- what the rules themselves settle, whatever an adapter answers: the fields of the law that speak of the history alone
pub record Settled (E : History) (k : ℕ) : Type 0 where
  pub one_phase : One (λ (p : Phase × ℕ). Receiver E k p.0 p.1)
  pub one_state : One (Transmitter E k)
  pub received_fates : (count : ℕ) → Framed E k count → OneFate count (Stands (receiving E) k) (Met E) k
  pub delivered_rise : Rising (λ k n. (m : Bool) × Met E k n (delivered m))
  pub written_fates : OneFate (written E k) (GoesOn E k) (Ended E) k
  pub sent_rise : Rising (λ k n. Ended E k n sent)

abbrev pub AllSettled : Type 0
AllSettled = (E : History) (k : ℕ) → Settled E k
