-- A list of moves on a new queue: what the queue holds and tells, step by step, and the law of its life. Assumes nothing.
use Rattle.std.specs.Prelude.{◌≡◌, ℕ, zero, suc, ◌+◌, ◌<◌, cond, ◌↔◌, List, [], map, length, get_or, Some, None, ◌==◌, slice_index_or}
use Rattle.std.specs.List.{range_with_len}
use Rattle.serial.specs.declared.life.Move.{Move}
use Rattle.serial.specs.declared.life.Move.TheVariants.{Enter, Rise, Take, Clear, Nothing}
use Rattle.serial.specs.declared.life.Told.{Told}
use Rattle.serial.specs.declared.life.Way.{Way}
use Rattle.serial.specs.declared.life.Way.TheVariants.{Displaced, Taken, Emptied}
use Rattle.serial.specs.declared.queue.Queue.{Queue}
use Rattle.serial.specs.declared.queue.Numbers.{Numbers}
use Rattle.serial.specs.Lives.{OneFate, Rising}
use Rattle.serial.specs.Life.{Acts, Stands, Left, Shows}
use Rattle.serial.specs.Telling.{Tells}
use Rattle.serial.specs.Queue.{empty_queue, entered, risen, output_taken, waiting, list_of, fields}

-- one act on a queue of numbers
pub data Act : Type 0 where
  enter : ℕ → Act
  rise : Act
  take : Act
  empty : Act
  nothing : Act

-- the queue after an act
abbrev pub acted : Queue ℕ → Act → Queue ℕ
acted q (enter n) = entered q n
acted q rise = risen q
acted q take = output_taken q
acted q empty = empty_queue
acted q nothing = q

-- what is told of those who left in one way, oldest first; 0 in the first field is nobody
abbrev pub tells : Way → Numbers → Told
tells w who = record { way = cond (who.first == 0) None (Some w); who = who }

-- nobody left
abbrev pub quiet : Told
quiet = record { way = None; who = fields [] }

-- what a queue tells at an act
abbrev pub tells_of : Queue ℕ → Act → Told
tells_of q (enter n) = tells Displaced (fields (list_of q.one))
tells_of q rise = quiet
tells_of q take = tells Taken (fields (list_of q.three))
tells_of q empty = tells Emptied (fields (waiting (λ n. n) q))
tells_of q nothing = quiet

-- the queue after the first k acts
abbrev pub queue_at : (ℕ → Act) → ℕ → Queue ℕ
queue_at act zero = empty_queue
queue_at act (suc k) = acted (queue_at act k) (act k)

-- a move, where what enters gets the number n
abbrev pub act_of : Move → ℕ → Act
act_of Enter n = enter n
act_of Rise n = rise
act_of Take n = take
act_of Clear n = empty
act_of Nothing n = nothing

-- THE LIFE OF A QUEUE UNDER A LIST OF MOVES

-- move k of a list; past its end nothing happens
abbrev pub move_at : List Move → ℕ → Move
move_at ms k = slice_index_or ms k Nothing

abbrev pub enters_one : Move → ℕ
enters_one Enter = 1
enters_one Rise = 0
enters_one Take = 0
enters_one Clear = 0
enters_one Nothing = 0

-- how many entered by the first k moves
abbrev pub entered_by : (ℕ → Move) → ℕ → ℕ
entered_by M zero = 0
entered_by M (suc k) = entered_by M k + enters_one (M k)

-- what the moves do: what enters gets the next number
abbrev pub moves_of : (ℕ → Move) → Acts
moves_of M = record {
  Enters = λ k n. (M k ≡ Enter) × (n ≡ entered_by M k + 1);
  Rises = λ k. M k ≡ Rise;
  Takes = λ k. M k ≡ Take;
  Empties = λ k. M k ≡ Clear;
}

-- the same, as acts of the executable queue
abbrev pub acts_of : (ℕ → Move) → ℕ → Act
acts_of M k = act_of (M k) (entered_by M k + 1)

-- what the queue tells at move k
abbrev pub tells_at : List Move → ℕ → Told
tells_at ms k = tells_of (queue_at (acts_of (move_at ms)) k) (acts_of (move_at ms) k)

-- all that it tells over a list of moves, and what stands at the end
abbrev pub told_by : List Move → List Told
told_by ms = map (tells_at ms) (range_with_len 0 (length ms))

abbrev pub queue_after : List Move → Queue ℕ
queue_after ms = queue_at (acts_of (move_at ms)) (length ms)

-- The law: what these moves, on a new queue, come to, told move by move, with these places at the end.
module _ (ms : List Move) (told : List Told) (end : Queue ℕ) where
  -- the moves, and the moment at the end
  abbrev M : ℕ → Move
  M = move_at ms

  abbrev A : Acts
  A = moves_of M

  abbrev K : ℕ
  K = length ms

  pub record Lived : Type 0 where
    -- each number that entered, and no other, stands in exactly one place or left exactly once, in exactly one way
    pub each_one_fate : OneFate (entered_by M K) (Stands A K) (Left A) K
    -- no two stand in one place
    pub one_to_a_place : (m n p : ℕ) → Stands A K m p → Stands A K n p → m ≡ n
    -- those taken come one at a time, in rising numbers
    pub taken_rise : Rising (λ k n. Left A k n Taken)
    -- each move is told once, and what is told names exactly those who left by it, in that way, oldest first
    pub one_telling_each : length told ≡ K
    pub told_exactly : (k : ℕ) → k < K → Tells Some None (Left A k) (get_or told k quiet).way (get_or told k quiet).who
    -- the places at the end show exactly those who stand
    pub standing_shown : (n p : ℕ) → Shows end n p ↔ Stands A K n p

-- every list of moves has such a life
abbrev pub EveryLife : Type 0
EveryLife = (ms : List Move) → Lived ms (told_by ms) (queue_after ms)

-- and the law leaves no choice in it: two lives of the same moves tell the same and end the same
abbrev pub OneLife : Type 0
OneLife = (ms : List Move) (t u : List Told) (q r : Queue ℕ) → Lived ms t q → Lived ms u r → (t ≡ u) × (q ≡ r)
