-- The three places of a queue, and what each of its calls makes of them. Assumes nothing.
use Rattle.std.specs.Prelude.{◌≡◌, ℕ, ◌<◌, Bool, true, List, [], ◌∷◌, is_some, Some, None, Option, ◌==◌, slice_index}
use Rattle.std.specs.Option.{option_map}
use Rattle.serial.specs.Numbers.{numbered}
use Rattle.serial.specs.declared.queue.Queue.{Queue}
use Rattle.serial.specs.declared.queue.Numbers.{Numbers}
use Rattle.serial.specs.declared.queue.Place.{Place}
use Rattle.serial.specs.declared.queue.Place.TheVariants.{One, Two, Three}

-- places 1 (input), 2 and 3 (output)
abbrev pub place_number : Place → ℕ
place_number One = 1
place_number Two = 2
place_number Three = 3

abbrev pub place_of : ℕ → Option Place
place_of = numbered place_number (One ∷ Two ∷ Three ∷ [])

-- numbers in the three fields: from the first field on, zeros after
abbrev pub fields : List ℕ → Numbers
fields ns = record { first = slice_index ns 0; second = slice_index ns 1; third = slice_index ns 2 }

-- the three fields, in order
abbrev pub fields_of : Numbers → List ℕ
fields_of x = x.first ∷ x.second ∷ x.third ∷ []

-- there is none: 0 in the first field
abbrev pub none_in : Numbers → Bool
none_in x = x.first == 0

module _ {T : Type 0} where
  -- what stands in places 1, 2 and 3
  abbrev pub queue_of : Option T → Option T → Option T → Queue T
  queue_of a b c = record { one = a; two = b; three = c }

  abbrev pub empty_queue : Queue T
  empty_queue = queue_of None None None

  abbrev pub standing_at : Queue T → Place → Option T
  standing_at q One = q.one
  standing_at q Two = q.two
  standing_at q Three = q.three

  abbrev pub placed : Queue T → Place → Option T → Queue T
  placed q One x = queue_of x q.two q.three
  placed q Two x = queue_of q.one x q.three
  placed q Three x = queue_of q.one q.two x

  -- a thing enters place 1
  abbrev pub entered : Queue T → T → Queue T
  entered q x = placed q One (Some x)

  -- the output leaves
  abbrev pub output_taken : Queue T → Queue T
  output_taken q = placed q Three None

  -- all things move up to the last empty places, in order
  abbrev pub moved_up : Option T → Option T → Option T → Queue T
  moved_up a None None = queue_of None None a
  moved_up a (Some y) None = queue_of None a (Some y)
  moved_up a None (Some z) = queue_of None a (Some z)
  moved_up a (Some y) (Some z) = queue_of a (Some y) (Some z)

  abbrev pub risen : Queue T → Queue T
  risen q = moved_up q.one q.two q.three

  -- the empty place with the highest number, or none if all are full
  abbrev pub LastEmpty : Queue T → Option Place → Type 0
  LastEmpty q (Some p) = (standing_at q p ≡ None) × ((o : Place) → place_number p < place_number o → is_some (standing_at q o) ≡ true)
  LastEmpty q None = (o : Place) → is_some (standing_at q o) ≡ true

  abbrev last_empty_of : Option T → Option T → Option T → Option Place
  last_empty_of a b None = Some Three
  last_empty_of a None (Some z) = Some Two
  last_empty_of None (Some y) (Some z) = Some One
  last_empty_of (Some x) (Some y) (Some z) = None

  abbrev pub last_empty : Queue T → Option Place
  last_empty q = last_empty_of q.one q.two q.three

  -- what stands in one place goes to the last empty place, if that lies ahead
  abbrev lifted_one : Option T → Option T → Option T → Queue T
  lifted_one a b None = queue_of None b a
  lifted_one a None (Some z) = queue_of None a (Some z)
  lifted_one a (Some y) (Some z) = queue_of a (Some y) (Some z)

  abbrev lifted_two : Option T → Option T → Option T → Queue T
  lifted_two a b None = queue_of a None b
  lifted_two a b (Some z) = queue_of a b (Some z)

  abbrev pub lifted : Queue T → Place → Queue T
  lifted q One = lifted_one q.one q.two q.three
  lifted q Two = lifted_two q.one q.two q.three
  lifted q Three = q

  -- the number in each place
  abbrev pub numbers_by : (T → ℕ) → Queue T → Queue ℕ
  numbers_by number q = record { one = option_map number q.one; two = option_map number q.two; three = option_map number q.three }

  abbrev pub with_number : (T → ℕ) → Option T → List ℕ → List ℕ
  with_number number None ns = ns
  with_number number (Some x) ns = number x ∷ ns

  -- the numbers of those that wait, from the output to the input
  abbrev pub waiting : (T → ℕ) → Queue T → List ℕ
  waiting number q = with_number number q.three (with_number number q.two (with_number number q.one []))

-- one number, or none, as a list
abbrev pub list_of : Option ℕ → List ℕ
list_of o = with_number (λ n. n) o []
