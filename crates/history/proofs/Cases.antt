-- What an event can be to an adapter, case by case: the state after it, and what is told or why it is declined. Assumes nothing.
use Rattle.std.proofs.Common.{◌≡◌, ℕ, ◌<◌, ◌≤◌, Bool, true, false, cond, not, eqb, leb, Some, Ok, Err, Result, refl, arith}
use Rattle.std.proofs.lemmas.Bool.Decides.{nat_tests}
use mathlib.Core.Bool.{beq}
use Rattle.std.proofs.lemmas.Bool.{leb-true, leb-false, le-leb, lt-leb}
use Rattle.serial.specs.Slips.{quiet_slip}
use Rattle.serial.specs.declared.event.Cycle.TheVariants.{Idle, Read, Write}
use Rattle.serial.specs.declared.event.Event.{Event}
use Rattle.serial.specs.declared.event.Event.TheVariants.{Bus, ReceivedBit, TransmitClock, PinLevel}
use Rattle.serial.specs.declared.event.Refusal.{Refusal}
use Rattle.serial.specs.declared.event.Refusal.TheVariants.{NotABit, NoSuchPin, FramedFull, WrittenFull}
use Rattle.ssda.specs.declared.control.Target.{Target}
use Rattle.ssda.specs.declared.control.Target.TheVariants.{C2, C3, SyncCode, TransmitData}
use Rattle.ssda.specs.declared.state.State.{State}
use Rattle.ssda.specs.declared.step.Told.{Told}
use Rattle.ssda.specs.Front.{checked_by, wrote_c2, wrote_code, reset_rose}
use Rattle.ssda.specs.Step.{told_of, with_front, idled, status_was_read, status_told, data_was_read, data_told, took_in, bit_told, data_was_written, write_told, c1_was_written, c1_told, c3_was_written, fell_under_reset, reset_told, reset_changed, reset_change_told, cts_changed, cts_told, dcd_changed, clocked, clock_told}
use Rattle.ssda.specs.Perform.{tells}
use Rattle.ssda.specs.Stepped.{stepped}
use Rattle.history.specs.Events.{refusal_by_range}
use Rattle.history.specs.Lines.{limit}

-- what an accepted event tells, or why it is declined
abbrev pub Outcome : Type 0
Outcome = Result Told Refusal

-- an accepted event that tells nothing
abbrev pub quietly : Outcome
quietly = Ok (told_of 0 quiet_slip)

-- P holds of an event, the state after it and its outcome, in each case that there is from state s
pub record Cases (s : State) (P : Event → State → Outcome → Type 0) : Type 0 where
  pub idle : P (Bus Idle) (idled s) quietly
  pub status : P (Bus (Read 0)) (status_was_read s) (Ok (status_told s))
  pub data_read : P (Bus (Read 1)) (data_was_read s) (Ok (data_told s))
  pub c1 : (b : ℕ) → P (Bus (Write 0 b)) (c1_was_written s b) (Ok (c1_told s b))
  pub c2 : (b : ℕ) → s.front.control.target ≡ C2 → P (Bus (Write 1 b)) (with_front s (wrote_c2 s.front b)) quietly
  pub c3 : (b : ℕ) → s.front.control.target ≡ C3 → P (Bus (Write 1 b)) (c3_was_written s b) quietly
  pub code : (b : ℕ) → s.front.control.target ≡ SyncCode → P (Bus (Write 1 b)) (with_front s (wrote_code s.front b)) quietly
  pub byte : (b : ℕ) → s.front.control.target ≡ TransmitData → s.front.written < limit → P (Bus (Write 1 b)) (data_was_written s b) (Ok (write_told s))
  pub bit : (b : ℕ) → b ≤ 1 → s.front.receiver.framed < limit → P (ReceivedBit b) (took_in s b) (Ok (bit_told s b))
  pub clock : P TransmitClock (clocked s) (Ok (clock_told s))
  pub reset_falls : s.front.pins.reset ≡ true → P (PinLevel 0 0) (fell_under_reset s) (Ok (reset_told s))
  pub reset_rises : s.front.pins.reset ≡ false → P (PinLevel 0 1) (with_front s (reset_rose s.front)) quietly
  pub cts_falls : s.front.pins.cts ≡ true → P (PinLevel 1 0) (cts_changed s false) quietly
  pub cts_rises : s.front.pins.cts ≡ false → P (PinLevel 1 1) (cts_changed s true) (Ok (cts_told s true))
  pub dcd_falls : s.front.pins.dcd ≡ true → P (PinLevel 2 0) (dcd_changed s false) quietly
  pub dcd_rises : s.front.pins.dcd ≡ false → P (PinLevel 2 1) (dcd_changed s true) quietly
  pub same_reset : (l : ℕ) → l ≤ 1 → eqb l 1 ≡ s.front.pins.reset → P (PinLevel 0 l) s quietly
  pub same_cts : (l : ℕ) → l ≤ 1 → eqb l 1 ≡ s.front.pins.cts → P (PinLevel 1 l) s quietly
  pub same_dcd : (l : ℕ) → l ≤ 1 → eqb l 1 ≡ s.front.pins.dcd → P (PinLevel 2 l) s quietly
  pub outside : (e : Event) (r : Refusal) → refusal_by_range e ≡ Some r → P e s (Err r)
  pub framed_full : (b : ℕ) → b ≤ 1 → limit ≤ s.front.receiver.framed → P (ReceivedBit b) s (Err FramedFull)
  pub written_full : (b : ℕ) → s.front.control.target ≡ TransmitData → limit ≤ s.front.written → P (Bus (Write 1 b)) s (Err WrittenFull)

-- the outcome of an event, and the answer that it makes
abbrev pub outcome_by : Result (Unit {0}) Refusal → State → Event → Outcome
outcome_by (Ok x) s e = Ok (tells s e)
outcome_by (Err r) s e = Err r

abbrev pub outcome : State → Event → Outcome
outcome s e = outcome_by (checked_by s.front e) s e

-- numbers by the few that count
module _ (P : ℕ → Type 0) (zero_case : P 0) (one_case : P 1) where
  two_cases : ((n : ℕ) → 1 < n → P n) → (n : ℕ) → P n
  two_cases f n = grind arith

  three_cases : P 2 → ((n : ℕ) → 2 < n → P n) → (n : ℕ) → P n
  three_cases t f n = grind arith

-- a level on a pin that is high now or low: it falls, rises or stays
levels : (To : ℕ → Bool → Type 0) (now : Bool) → (now ≡ true → To 0 true) → (now ≡ false → To 1 true) → ((l : ℕ) → l ≤ 1 → eqb l 1 ≡ now → To l false) → To 0 (not (beq false now)) × To 1 (not (beq true now))
levels To now falls rises same = grind arith

module _ (s : State) (P : Event → State → Outcome → Type 0) (c : Cases s P) where
  abbrev Goal : Event → Type 0
  Goal e = P e (stepped s e) (outcome s e)

  -- a read or write with another register select
  read_else : (n : ℕ) → 1 < n → Goal (Bus (Read n))
  read_else n h = let a = lt-leb n 1 h in simp a (c.outside (Bus (Read n)) NotABit (simp a))

  write_else : (b n : ℕ) → 1 < n → Goal (Bus (Write n b))
  write_else b n h = let a = lt-leb n 1 h in simp a (c.outside (Bus (Write n b)) NotABit (simp a))

  -- a write with RS 1, by where it goes
  write_one : (b : ℕ) (t : Target) → s.front.control.target ≡ t → Goal (Bus (Write 1 b))
  write_one b C2 e = simp e (c.c2 b e)
  write_one b C3 e = simp e (c.c3 b e)
  write_one b SyncCode e = simp e (c.code b e)
  write_one b TransmitData e = go (leb 16000000 s.front.written) refl
    where
      go : (t : Bool) → leb 16000000 s.front.written ≡ t → Goal (Bus (Write 1 b))
      go true h = simp (e, h) (c.written_full b e (leb-true _ _ h))
      go false h = simp (e, h) (c.byte b e (leb-false _ _ h))

  -- a received bit, by whether there is a number left
  bit_of_lem : (b : ℕ) → b ≤ 1 → (t : Bool) → leb 16000000 s.front.receiver.framed ≡ t → Goal (ReceivedBit b)
  bit_of_lem b h t e = grind (arith, nat_tests, c.framed_full b, c.bit b)

  bit_else : (b : ℕ) → 1 < b → Goal (ReceivedBit b)
  bit_else b h = let a = lt-leb b 1 h in simp a (c.outside (ReceivedBit b) NotABit (simp a))

  -- the pins
  pin_else : (l p : ℕ) → 2 < p → Goal (PinLevel p l)
  pin_else l p h = let a = lt-leb p 2 h in simp a (c.outside (PinLevel p l) NoSuchPin (simp a))

  level_else : (p : ℕ) → p ≤ 2 → (l : ℕ) → 1 < l → Goal (PinLevel p l)
  level_else p h l i = let a = lt-leb l 1 i in let b = le-leb p 2 h in simp (b, a) (c.outside (PinLevel p l) NotABit (simp (b, a)))

  -- P of a level on a pin, where t says whether it is another than the present one
  abbrev ResetTo : ℕ → Bool → Type 0
  ResetTo l t = P (PinLevel 0 l) (cond t (reset_changed s (eqb l 1)) s) (Ok (cond t (reset_change_told s (eqb l 1)) (told_of 0 quiet_slip)))

  abbrev CtsTo : ℕ → Bool → Type 0
  CtsTo l t = P (PinLevel 1 l) (cond t (cts_changed s (eqb l 1)) s) (Ok (cond t (cts_told s (eqb l 1)) (told_of 0 quiet_slip)))

  abbrev DcdTo : ℕ → Bool → Type 0
  DcdTo l t = P (PinLevel 2 l) (cond t (dcd_changed s (eqb l 1)) s) quietly

  reset_at : (l : ℕ) → Goal (PinLevel 0 l)
  reset_at = let x = levels ResetTo s.front.pins.reset c.reset_falls c.reset_rises c.same_reset in two_cases (λ l. Goal (PinLevel 0 l)) x.0 x.1 (level_else 0 (omega arith))

  cts_at : (l : ℕ) → Goal (PinLevel 1 l)
  cts_at = let x = levels CtsTo s.front.pins.cts c.cts_falls c.cts_rises c.same_cts in two_cases (λ l. Goal (PinLevel 1 l)) x.0 x.1 (level_else 1 (omega arith))

  dcd_at : (l : ℕ) → Goal (PinLevel 2 l)
  dcd_at = let x = levels DcdTo s.front.pins.dcd c.dcd_falls c.dcd_rises c.same_dcd in two_cases (λ l. Goal (PinLevel 2 l)) x.0 x.1 (level_else 2 (omega arith))

  -- every event is one of the cases
  pub by_cases : (e : Event) → Goal e
  by_cases (Bus Idle) = c.idle
  by_cases (Bus (Read rs)) = two_cases (λ n. Goal (Bus (Read n))) c.status c.data_read read_else rs
  by_cases (Bus (Write rs b)) = two_cases (λ n. Goal (Bus (Write n b))) (c.c1 b) (write_one b s.front.control.target refl) (write_else b) rs
  by_cases (ReceivedBit b) = two_cases (λ n. Goal (ReceivedBit n)) (bit_of_lem 0 (omega arith) _ refl) (bit_of_lem 1 (omega arith) _ refl) bit_else b
  by_cases TransmitClock = c.clock
  by_cases (PinLevel p l) = three_cases (λ n. Goal (PinLevel n l)) (reset_at l) (cts_at l) (dcd_at l) (pin_else l) p
