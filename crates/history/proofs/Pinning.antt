-- The law leaves no choice in what is told. Assumes nothing.
use Rattle.std.proofs.Common.{◌≡◌, ℕ, ◌<◌, Bool, true, List, length, Some, Ok, Err, sym, refl, ap, ◌∙◌, arith}
use Rattle.std.proofs.lemmas.Bool.Decides.{same_from_decides}
use Rattle.serial.specs.declared.event.Event.{Event}
use Rattle.serial.specs.declared.event.Refusal.{Refusal}
use Rattle.serial.specs.declared.slip.ReceiveCode.TheVariants as rx
use Rattle.serial.specs.declared.slip.QueueCode.TheVariants as qu
use Rattle.serial.specs.declared.slip.ShiftCode.TheVariants as sh
use Rattle.serial.specs.declared.slip.Reply.{Reply}
use Rattle.serial.specs.declared.slip.Standing.{Standing}
use Rattle.serial.proofs.Pinning.{tells_code, tells_numbers, places_same}
use Rattle.history.specs.Events.{bit_at, clocks}
use Rattle.history.specs.Settings.{History, ReadsStatus}
use Rattle.history.specs.Lines.{Writes}
use Rattle.history.specs.Law.{Answer, Met, by_a_data_read, delivered, Drops, Does, receive_code, queue_code, shift_code, only, Shifts, Truthful, Lawful, Same, Pinned, history, answer}

-- two truthful replies

module _ (E : History) (k : ℕ) (x y : Reply) (a : Truthful E k x) (b : Truthful E k y) where
  slips : x.slip ≡ y.slip
  slips =
      let s = x.slip in let t = y.slip in
      let e1 : s.receive ≡ t.receive = tells_code receive_code rx.Nothing (Met E k) _ _ _ _ a.received_told b.received_told in
      let e2 : s.received ≡ t.received = tells_numbers receive_code rx.Nothing (Met E k) _ _ _ _ a.received_told b.received_told in
      let e3 : s.queue ≡ t.queue = tells_code queue_code qu.Nothing (Drops E k) _ _ _ _ a.dropped_told b.dropped_told in
      let e4 : s.queued ≡ t.queued = tells_numbers queue_code qu.Nothing (Drops E k) _ _ _ _ a.dropped_told b.dropped_told in
      let e5 : s.shift ≡ t.shift = tells_code shift_code sh.Nothing (Does E k) _ _ _ _ a.shifted_told b.shifted_told in
      let e6 : only s.shifted ≡ only t.shifted = tells_numbers shift_code sh.Nothing (Does E k) _ _ _ _ a.shifted_told b.shifted_told in
      let e7 : s.shifted ≡ t.shifted = ap (λ n. n.first) e6 in
      grind arith

  -- they show overrun alike
  overruns : ReadsStatus E k → bit_at 5 x.value ≡ bit_at 5 y.value
  overruns h =
      same_from_decides _ _ (a.overrun_shown_exactly h) (b.overrun_shown_exactly h)

  -- the byte that is delivered, and the bit that is shown
  bytes : (n : ℕ) (m : Bool) → Met E k n (delivered m) → x.value ≡ y.value
  bytes n m (by_a_data_read i o l f e) = let h : Met E k n (delivered o) = by_a_data_read i o l f e in a.delivered_as_framed n i o h f ∙ sym (b.delivered_as_framed n i o h f)

  bits : (n i c l j : ℕ) → Writes E i n c → Shifts E k n l j → clocks (E k) ≡ true → x.value ≡ y.value
  bits n i c l j w s t = a.bit_of_the_word n l j i c s t w ∙ sym (b.bit_of_the_word n l j i c s t w)

module _ (es : List Event) (xs ys : List Answer) (s t : Standing) (a : Lawful es xs s) (b : Lawful es ys t) (k : ℕ) (within : k < length es) where
  refusals : (r : Refusal) → answer xs k ≡ Err r → answer ys k ≡ Err r
  refusals r e = (b.refused_exactly k within r).1 ((a.refused_exactly k within r).0 e)

  -- and the other way round
  refusals_back : (r : Refusal) → answer ys k ≡ Err r → answer xs k ≡ Err r
  refusals_back r e = (a.refused_exactly k within r).1 ((b.refused_exactly k within r).0 e)

  -- so the two answers to an event tell the same
  same : (x y : Answer) → answer xs k ≡ x → answer ys k ≡ y → Same (history es) k x y
  same (Ok x) (Ok y) e f =
      let p = a.truthful k within x e in let q = b.truthful k within y f in
      (slips (history es) k x y p q, overruns (history es) k x y p q, bytes (history es) k x y p q, bits (history es) k x y p q)
  same (Ok x) (Err r) e f = cc (refusals_back r f)
  same (Err q) (Ok y) e f = cc (refusals q e)
  same (Err q) (Err r) e f = let i : ◌≡◌ {A = Answer} (Err q) (Err r) = sym (refusals q e) ∙ f in cc

-- and with them all answers and the question
pub pinned : Pinned
pinned es xs ys s t a b = (
  let e1 : s.received ≡ t.received = places_same _ _ (λ n p h. (b.received_waiting_told n p).1 ((a.received_waiting_told n p).0 h)) (λ n p h. (a.received_waiting_told n p).1 ((b.received_waiting_told n p).0 h)) in
      let e2 : s.queued ≡ t.queued = places_same _ _ (λ n p h. (b.written_waiting_told n p).1 ((a.written_waiting_told n p).0 h)) (λ n p h. (a.written_waiting_told n p).1 ((b.written_waiting_told n p).0 h)) in
      let to : (n : ℕ) → s.shifting ≡ Some n → t.shifting ≡ Some n = λ n h. (b.shifting_told n).1 ((a.shifting_told n).0 h) in
      let from : (n : ℕ) → t.shifting ≡ Some n → s.shifting ≡ Some n = λ n h. (a.shifting_told n).1 ((b.shifting_told n).0 h) in
      grind arith,
  λ k within. same es xs ys s t a b k within (answer xs k) (answer ys k) refl refl,
)
