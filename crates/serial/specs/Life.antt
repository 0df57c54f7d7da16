-- The life of a three-place queue, told by numbers and not by what the queue holds. Assumes nothing.
-- Moment k lies after the first k acts; act k happens between moments k and k + 1.
use Rattle.std.specs.Prelude.{◌≡◌, ℕ, zero, suc, ◌+◌, ◌<◌, ◌≢◌, Some}
use Rattle.serial.specs.declared.life.Way.{Way}
use Rattle.serial.specs.declared.life.Way.TheVariants.{Displaced, Taken, Emptied}
use Rattle.serial.specs.declared.queue.Queue.{Queue}

-- what happens to a queue, act by act: number n enters; all rise; the output is taken; all is emptied
pub record Acts : Type 1 where
  pub Enters : ℕ → ℕ → Type 0
  pub Rises : ℕ → Type 0
  pub Takes : ℕ → Type 0
  pub Empties : ℕ → Type 0

-- of the numbers from 1 to n, exactly c have P
pub data Count (P : ℕ → Type 0) : ℕ → ℕ → Type 0 where
  none : Count P 0 0
  hit : {n c : ℕ} → Count P n c → P (suc n) → Count P (suc n) (suc c)
  miss : {n c : ℕ} → Count P n c → (P (suc n) → ⊥) → Count P (suc n) c

-- S says who stands in which place: one older than n stands in place p
abbrev pub Older : (ℕ → ℕ → Type 0) → ℕ → ℕ → Type 0
Older S n p = (m : ℕ) × (m < n) × S m p

-- act k leaves what stands in place p where it is
pub record Spares (A : Acts) (k p : ℕ) : Type 0 where
  pub not_displaced : (m : ℕ) → A.Enters k m → p ≢ 1
  pub not_raised : A.Rises k → ⊥
  pub not_taken : A.Takes k → p ≢ 3
  pub not_emptied : A.Empties k → ⊥

-- how number n comes to stand in place p by act k, where S says who stood where before it:
-- it enters place 1;
-- or it stood there, and the act leaves it there;
-- or all rise, and it goes as far as those older than it leave room
pub data Next (A : Acts) (k : ℕ) (S : ℕ → ℕ → Type 0) (n p : ℕ) : Type 0 where
  enters : A.Enters k n → p ≡ 1 → Next A k S n p
  stays : S n p → Spares A k p → Next A k S n p
  rises : (q c : ℕ) → A.Rises k → S n q → Count (Older S n) 3 c → p + c ≡ 3 → Next A k S n p

-- at moment k number n stands in place p
abbrev pub Stands : Acts → ℕ → ℕ → ℕ → Type 0
Stands A zero n p = ⊥
Stands A (suc k) n p = Next A k (Stands A k) n p

-- by act k number n left the queue: it stood in place 1 and another entered; or in place 3 and the output was taken;
-- or anywhere and all was emptied
pub data Left (A : Acts) (k n : ℕ) : Way → Type 0 where
  was_displaced : (m : ℕ) → Stands A k n 1 → A.Enters k m → Left A k n Displaced
  was_taken : Stands A k n 3 → A.Takes k → Left A k n Taken
  was_emptied : (p : ℕ) → Stands A k n p → A.Empties k → Left A k n Emptied

-- the places show number n in place p
pub data Shows (q : Queue ℕ) (n p : ℕ) : Type 0 where
  in_one : p ≡ 1 → q.one ≡ Some n → Shows q n p
  in_two : p ≡ 2 → q.two ≡ Some n → Shows q n p
  in_three : p ≡ 3 → q.three ≡ Some n → Shows q n p
