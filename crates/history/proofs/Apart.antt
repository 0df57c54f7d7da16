-- Each event is one thing only: what a read, a write, a received bit and the others are not. Assumes nothing.
use Rattle.std.proofs.Common.{◌≡◌, ℕ, ◌≤◌, true, false, Some, None, arith}
use Rattle.std.proofs.lemmas.Bool.Decides.{nat_tests}
use Rattle.serial.specs.declared.event.Event.{Event}
use Rattle.serial.specs.declared.event.Refusal.{Refusal}
use Rattle.history.specs.Events.{refusal_by_range, idles, reads, writes, received, clocks, level_for}

-- EVENTS THAT SET NOTHING

-- an event that writes nothing and sets no pin
pub record Calm (e : Event) : Type 0 where
  pub unwritten : (r : ℕ) → writes r e ≡ None
  pub unset : (q : ℕ) → level_for q e ≡ None

-- idle cycles, reads, received bits and clocks are such events
pub calm_idle : (e : Event) → idles e ≡ true → Calm e
calm_idle e h = record { unwritten = λ r. grind arith; unset = λ q. grind arith }

pub calm_read : (r : ℕ) (e : Event) → reads r e ≡ true → Calm e
calm_read r e h = record { unwritten = λ q. grind arith; unset = λ q. grind arith }

pub calm_bit : (e : Event) (b : ℕ) → received e ≡ Some b → Calm e
calm_bit e b h = record { unwritten = λ r. grind arith; unset = λ q. grind arith }

pub calm_clock : (e : Event) → clocks e ≡ true → Calm e
calm_clock e h = record { unwritten = λ r. grind arith; unset = λ q. grind arith }

-- TWO KINDS OF EVENT

-- no event is of both kinds
pub idle_or_read : (r : ℕ) (e : Event) → idles e ≡ true → reads r e ≡ true → ⊥
idle_or_read r e h i = grind arith

pub clock_or_idle : (e : Event) → clocks e ≡ true → idles e ≡ true → ⊥
clock_or_idle e h i = grind arith

pub bit_or_idle : (e : Event) (b : ℕ) → received e ≡ Some b → idles e ≡ true → ⊥
bit_or_idle e b h i = grind arith

pub bit_or_read : (r : ℕ) (e : Event) (b : ℕ) → received e ≡ Some b → reads r e ≡ true → ⊥
bit_or_read r e b h i = grind arith

pub bit_or_write : (r : ℕ) (e : Event) (a b : ℕ) → received e ≡ Some a → writes r e ≡ Some b → ⊥
bit_or_write r e a b h i = grind arith

-- a read has one register select
pub one_select : (q r : ℕ) (e : Event) → reads q e ≡ true → reads r e ≡ true → q ≡ r
one_select q r e h i = grind (arith, nat_tests)

-- EVENTS THAT MAY BE DECLINED

-- an event that may only be a received bit or a byte written with RS 1
pub record Mild (e : Event) : Type 0 where
  pub no_idle : idles e ≡ false
  pub unread : (r : ℕ) → r ≤ 1 → reads r e ≡ false
  pub no_c1 : writes 0 e ≡ None
  pub no_clock : clocks e ≡ false
  pub unset : (q : ℕ) → q ≤ 2 → level_for q e ≡ None

-- a received bit, and a byte written with RS 1, are such events
pub mild_bit : (e : Event) (b : ℕ) → received e ≡ Some b → Mild e
mild_bit e b h = record { no_idle = grind arith; unread = λ r l. grind arith; no_c1 = grind arith; no_clock = grind arith; unset = λ q l. grind arith }

pub mild_write : (e : Event) (b : ℕ) → writes 1 e ≡ Some b → Mild e
mild_write e b h = record { no_idle = grind arith; unread = λ r l. grind arith; no_c1 = grind (arith, nat_tests); no_clock = grind arith; unset = λ q l. grind arith }

-- an event that is nothing at all
pub record Inert (e : Event) : Type 0 where
  pub mild : Mild e
  pub no_bit : received e ≡ None
  pub no_write : writes 1 e ≡ None

-- what is out of range is nothing
pub inert : (e : Event) (r : Refusal) → refusal_by_range e ≡ Some r → Inert e
inert e r h = record {
  mild = record { no_idle = grind arith; unread = λ q l. grind (arith, nat_tests); no_c1 = grind (arith, nat_tests); no_clock = grind arith; unset = λ q l. grind (arith, nat_tests) };
  no_bit = grind (arith, nat_tests);
  no_write = grind (arith, nat_tests);
}
