-- What holds of each thing in a queue, which act is which, who is held where, and what is told of one number. Assumes nothing.
use Rattle.std.proofs.Common.{◌≡◌, ℕ, ◌≤◌, Bool, [], ◌∷◌, Some, None, Option, refl, arith}
use Rattle.std.proofs.lemmas.Bool.Decides.{nat_tests}
use Rattle.serial.specs.declared.queue.Queue.{Queue}
use Rattle.serial.specs.declared.slip.QueueCode.TheVariants as qu
use Rattle.serial.specs.declared.slip.ReceiveCode.TheVariants as rx
use Rattle.serial.specs.declared.life.Way.{Way}
use Rattle.serial.specs.Moves.{Act, enter, rise, take, empty, nothing, tells}
use Rattle.serial.specs.Queue.{empty_queue, entered, output_taken, moved_up, risen, fields}
use Rattle.serial.proofs.Places.{IsEnter, IsRise, IsTake, IsEmpty, In, Held}
use Rattle.ssda.specs.Step.{tell_shift}

module _ {T : Type 0} (P : T → Type 0) where
  -- P holds of what stands in a place, if anything does
  abbrev pub Holds : Option T → Type 0
  Holds None = Unit {0}
  Holds (Some x) = P x

  -- P holds of everything in the queue
  pub record Each (q : Queue T) : Type 0 where
    pub first : Holds q.one
    pub second : Holds q.two
    pub third : Holds q.three

  -- so of an empty queue, and after each act
  pub each_empty : Each empty_queue
  each_empty = record { first = tt; second = tt; third = tt }

  pub each_entered : (q : Queue T) (x : T) → Each q → P x → Each (entered q x)
  each_entered q x a h = record { first = h; second = a.second; third = a.third }

  pub each_taken : (q : Queue T) → Each q → Each (output_taken q)
  each_taken q a = record { first = a.first; second = a.second; third = tt }

  moved : (a b c : Option T) → Holds a → Holds b → Holds c → Each (moved_up a b c)
  moved a b c x y z = grind arith

  pub each_risen : (q : Queue T) → Each q → Each (risen q)
  each_risen q a = moved q.one q.two q.three a.first a.second a.third

-- which act it is, by what it does
pub is_enter : (x : Act) (n : ℕ) → IsEnter x n → x ≡ enter n
is_enter x n h = grind arith

pub is_rise : (x : Act) → IsRise x → x ≡ rise
is_rise x h = grind arith

pub is_take : (x : Act) → IsTake x → x ≡ take
is_take x h = grind arith

pub is_empty : (x : Act) → IsEmpty x → x ≡ empty
is_empty x h = grind arith

pub is_nothing : (x : Act) → ((n : ℕ) → IsEnter x n → ⊥) → (IsRise x → ⊥) → (IsTake x → ⊥) → (IsEmpty x → ⊥) → x ≡ nothing
is_nothing (enter m) a b c d = absurd (a m refl)
is_nothing rise a b c d = absurd (b tt)
is_nothing take a b c d = absurd (c tt)
is_nothing empty a b c d = absurd (d tt)
is_nothing nothing a b c d = refl

-- who is held in place 1, and in place 3
pub held_first : (q : Queue ℕ) (n : ℕ) → Held q n 1 → In q.one n
held_first q n h = grind arith

pub held_third : (q : Queue ℕ) (n : ℕ) → Held q n 3 → In q.three n
held_third q n h = grind arith

-- where one number is told, the way is told
pub way_told : (n : ℕ) (w : Way) → 1 ≤ n → (tells w (fields (n ∷ []))).way ≡ Some w
way_told n w h = grind (arith, nat_tests)

-- what is told of the byte that is being shifted is nothing of either queue
pub shift_alone : (m : Option ℕ) (last : Bool) → ((tell_shift m last).receive ≡ rx.Nothing) × ((tell_shift m last).received ≡ fields []) × ((tell_shift m last).queue ≡ qu.Nothing) × ((tell_shift m last).queued ≡ fields [])
shift_alone m last = grind arith
