-- A queue of things goes by their numbers as a queue of numbers goes. Assumes nothing.
use Rattle.std.proofs.Common.{◌≡◌, ℕ, Some, None, Option, refl}
use Rattle.std.specs.Option.{option_map}
use Rattle.serial.specs.declared.queue.Queue.{Queue}
use Rattle.serial.specs.Queue.{queue_of, entered, output_taken, moved_up, risen, numbers_by, waiting}

module _ {T : Type 0} (number : T → ℕ) where
  -- the numbers after something entered, and after the output was taken
  pub numbers_entered : (q : Queue T) (x : T) → numbers_by number (entered q x) ≡ entered (numbers_by number q) (number x)
  numbers_entered q x = refl

  pub numbers_taken : (q : Queue T) → numbers_by number (output_taken q) ≡ output_taken (numbers_by number q)
  numbers_taken q = refl

  -- the numbers after all rose
  moved : (a b c : Option T) → numbers_by number (moved_up a b c) ≡ moved_up (option_map number a) (option_map number b) (option_map number c)
  moved a None None = refl
  moved a (Some y) None = refl
  moved a None (Some z) = refl
  moved a (Some y) (Some z) = refl

  pub numbers_risen : (q : Queue T) → numbers_by number (risen q) ≡ risen (numbers_by number q)
  numbers_risen q = moved q.one q.two q.three

  -- the numbers of those that wait
  waits : (a b c : Option T) → waiting number (queue_of a b c) ≡ waiting (λ n. n) (queue_of (option_map number a) (option_map number b) (option_map number c))
  waits None None None = refl
  waits (Some x) None None = refl
  waits None (Some y) None = refl
  waits None None (Some z) = refl
  waits (Some x) (Some y) None = refl
  waits (Some x) None (Some z) = refl
  waits None (Some y) (Some z) = refl
  waits (Some x) (Some y) (Some z) = refl

  pub numbers_waiting : (q : Queue T) → waiting number q ≡ waiting (λ n. n) (numbers_by number q)
  numbers_waiting q = waits q.one q.two q.three
