-- Who is held in which place, in what order, and how far each goes when all rise. Assumes nothing.
use Rattle.std.proofs.Common.{◌≡◌, ℕ, suc, ◌+◌, ◌<◌, ◌≤◌, ◌⊎◌, ◌↔◌, Some, None, Option, sym, refl, ap, subst, inl, inr, arith}
use native.Mathlib.Decide.{dec_lt}
use Rattle.serial.specs.declared.queue.Queue.{Queue}
use Rattle.serial.specs.Queue.{queue_of, moved_up}
use Rattle.serial.specs.Life.{Acts, Count, none, hit, miss, Older}
use Rattle.serial.specs.Moves.{Act, enter, rise, take, empty, nothing}

-- which act it is
abbrev pub IsEnter : Act → ℕ → Type 0
IsEnter (enter m) n = m ≡ n
IsEnter rise n = ⊥
IsEnter take n = ⊥
IsEnter empty n = ⊥
IsEnter nothing n = ⊥

abbrev pub IsRise : Act → Type 0
IsRise (enter m) = ⊥
IsRise rise = Unit {0}
IsRise take = ⊥
IsRise empty = ⊥
IsRise nothing = ⊥

abbrev pub IsTake : Act → Type 0
IsTake (enter m) = ⊥
IsTake rise = ⊥
IsTake take = Unit {0}
IsTake empty = ⊥
IsTake nothing = ⊥

abbrev pub IsEmpty : Act → Type 0
IsEmpty (enter m) = ⊥
IsEmpty rise = ⊥
IsEmpty take = ⊥
IsEmpty empty = Unit {0}
IsEmpty nothing = ⊥

-- act k is x and nothing else
pub record Here (A : Acts) (k : ℕ) (x : Act) : Type 0 where
  pub entering : (n : ℕ) → A.Enters k n ↔ IsEnter x n
  pub rising : A.Rises k ↔ IsRise x
  pub taking : A.Takes k ↔ IsTake x
  pub emptying : A.Empties k ↔ IsEmpty x

-- a count has one answer
pub count_unique : (P : ℕ → Type 0) (n c d : ℕ) → Count P n c → Count P n d → c ≡ d
count_unique P n c d none none = refl
count_unique P n c d (hit r h) (hit s k) = ap suc (count_unique P _ _ _ r s)
count_unique P n c d (hit r h) (miss s k) = absurd (k h)
count_unique P n c d (miss r h) (hit s k) = absurd (h k)
count_unique P n c d (miss r h) (miss s k) = count_unique P _ _ _ r s

-- and goes over to what holds of the same numbers
pub count_map : (P Q : ℕ → Type 0) → ((k : ℕ) → P k → Q k) → ((k : ℕ) → Q k → P k) → (n c : ℕ) → Count P n c → Count Q n c
count_map P Q to from n c none = none
count_map P Q to from n c (hit r h) = hit (count_map P Q to from _ _ r) (to _ h)
count_map P Q to from n c (miss r h) = miss (count_map P Q to from _ _ r) (λ q. h (from _ q))

-- number n stands in this place
abbrev pub In : Option ℕ → ℕ → Type 0
In None n = ⊥
In (Some x) n = x ≡ n

pub in_of : (o : Option ℕ) (n : ℕ) → o ≡ Some n → In o n
in_of o n e = let P : Option ℕ → Type 0 = λ o. In o n in subst P (sym e) refl

pub of_in : (o : Option ℕ) (n : ℕ) → In o n → o ≡ Some n
of_in None n h = absurd h
of_in (Some x) n h = ap Some h

-- the queue holds number n in place p
abbrev pub Held : Queue ℕ → ℕ → ℕ → Type 0
Held q n p = ((p ≡ 1) × In q.one n) ⊎ ((p ≡ 2) × In q.two n) ⊎ ((p ≡ 3) × In q.three n)

-- what stands there has a number from 1 to f
abbrev pub Given : Option ℕ → ℕ → Type 0
Given None f = Unit {0}
Given (Some x) f = (1 ≤ x) × (x ≤ f)

-- what stands in one place is newer than what stands in the other
abbrev pub Behind : Option ℕ → Option ℕ → Type 0
Behind None o = Unit {0}
Behind (Some x) None = Unit {0}
Behind (Some x) (Some y) = y < x

-- numbers from 1 to f, the older ones ahead
abbrev pub Ordered : Option ℕ → Option ℕ → Option ℕ → ℕ → Type 0
Ordered a b c f = Given a f × Given b f × Given c f × Behind a b × Behind a c × Behind b c

given : (o : Option ℕ) (f n : ℕ) → Given o f → In o n → (1 ≤ n) × (n ≤ f)
given None f n g h = absurd h
given (Some x) f n g h = omega arith

behind : (o k : Option ℕ) (n m : ℕ) → Behind o k → In o n → In k m → m < n
behind None k n m g h i = absurd h
behind (Some x) None n m g h i = absurd i
behind (Some x) (Some y) n m g h i = omega arith

same : (o : Option ℕ) (n m : ℕ) → In o n → In o m → n ≡ m
same None n m h i = absurd h
same (Some x) n m h i = omega arith

-- who is held has such a number
pub range : (a b c : Option ℕ) (f n p : ℕ) → Ordered a b c f → Held (queue_of a b c) n p → (1 ≤ n) × (n ≤ f)
range a b c f n p o (inl h) = given a f n o.0 h.1
range a b c f n p o (inr (inl h)) = given b f n o.1 h.1
range a b c f n p o (inr (inr h)) = given c f n o.2 h.1

-- who is held further ahead is older
pub order : (a b c : Option ℕ) (f n m p q : ℕ) → Ordered a b c f → Held (queue_of a b c) n p → Held (queue_of a b c) m q → p < q → m < n
order a b c f n m p q o (inl h) (inl i) lt = absurd (omega arith)
order a b c f n m p q o (inl h) (inr (inl i)) lt = behind a b n m o.3 h.1 i.1
order a b c f n m p q o (inl h) (inr (inr i)) lt = behind a c n m o.4 h.1 i.1
order a b c f n m p q o (inr (inl h)) (inl i) lt = absurd (omega arith)
order a b c f n m p q o (inr (inl h)) (inr (inl i)) lt = absurd (omega arith)
order a b c f n m p q o (inr (inl h)) (inr (inr i)) lt = behind b c n m o.5 h.1 i.1
order a b c f n m p q o (inr (inr h)) (inl i) lt = absurd (omega arith)
order a b c f n m p q o (inr (inr h)) (inr (inl i)) lt = absurd (omega arith)
order a b c f n m p q o (inr (inr h)) (inr (inr i)) lt = absurd (omega arith)

-- nobody is held in two places
pub one_place : (a b c : Option ℕ) (f n p q : ℕ) → Ordered a b c f → Held (queue_of a b c) n p → Held (queue_of a b c) n q → p ≡ q
one_place a b c f n p q o h i = go (dec_lt p q) (dec_lt q p)
  where
    go : Dec (p < q) → Dec (q < p) → p ≡ q
    go (yes l) d = absurd (omega (arith, order a b c f n n p q o h i l))
    go (no l) (yes k) = absurd (omega (arith, order a b c f n n q p o i h k))
    go (no l) (no k) = omega arith

-- no two are held in one place
pub here : (a b c : Option ℕ) (n m p q : ℕ) → Held (queue_of a b c) n p → Held (queue_of a b c) m q → p ≡ q → n ≡ m
here a b c n m p q (inl h) (inl i) e = same a n m h.1 i.1
here a b c n m p q (inl h) (inr (inl i)) e = absurd (omega arith)
here a b c n m p q (inl h) (inr (inr i)) e = absurd (omega arith)
here a b c n m p q (inr (inl h)) (inl i) e = absurd (omega arith)
here a b c n m p q (inr (inl h)) (inr (inl i)) e = same b n m h.1 i.1
here a b c n m p q (inr (inl h)) (inr (inr i)) e = absurd (omega arith)
here a b c n m p q (inr (inr h)) (inl i) e = absurd (omega arith)
here a b c n m p q (inr (inr h)) (inr (inl i)) e = absurd (omega arith)
here a b c n m p q (inr (inr h)) (inr (inr i)) e = same c n m h.1 i.1

-- rising keeps the order
pub risen_ordered : (a b c : Option ℕ) (f : ℕ) → Ordered a b c f → Ordered (moved_up a b c).one (moved_up a b c).two (moved_up a b c).three f
risen_ordered None None None f o = (tt, tt, tt, tt, tt, tt)
risen_ordered (Some x) None None f o = (tt, tt, o.0, tt, tt, tt)
risen_ordered None (Some y) None f o = (tt, tt, o.1, tt, tt, tt)
risen_ordered (Some x) (Some y) None f o = (tt, o.0, o.1, tt, tt, o.3)
risen_ordered None None (Some z) f o = (tt, tt, o.2, tt, tt, tt)
risen_ordered (Some x) None (Some z) f o = (tt, o.0, o.2, tt, tt, o.4)
risen_ordered None (Some y) (Some z) f o = o
risen_ordered (Some x) (Some y) (Some z) f o = o

-- who is held after all rose was held before
pub stood_before : (a b c : Option ℕ) (n p : ℕ) → Held (moved_up a b c) n p → (q : ℕ) × Held (queue_of a b c) n q
stood_before a None None n p (inl h) = absurd h.1
stood_before a None None n p (inr (inl h)) = absurd h.1
stood_before a None None n p (inr (inr h)) = (1, inl (refl, h.1))
stood_before a (Some y) None n p (inl h) = absurd h.1
stood_before a (Some y) None n p (inr (inl h)) = (1, inl (refl, h.1))
stood_before a (Some y) None n p (inr (inr h)) = (2, inr (inl (refl, h.1)))
stood_before a None (Some z) n p (inl h) = absurd h.1
stood_before a None (Some z) n p (inr (inl h)) = (1, inl (refl, h.1))
stood_before a None (Some z) n p (inr (inr h)) = (3, inr (inr (refl, h.1)))
stood_before a (Some y) (Some z) n p h = (p, h)

-- n rises to the place that the older ones leave: 3 less their count
abbrev pub Room : Option ℕ → Option ℕ → Option ℕ → ℕ → Type 0
Room a b c n = (p k : ℕ) × Count (Older (Held (queue_of a b c)) n) 3 k × (p + k ≡ 3) × Held (moved_up a b c) n p

-- who is held no further ahead than n is not older
not_older : (a b c : Option ℕ) (f n q r : ℕ) → Ordered a b c f → Held (queue_of a b c) n q → r ≤ q → Older (Held (queue_of a b c)) n r → ⊥
not_older a b c f n q r o h l w = go (dec_lt r q)
  where
    go : Dec (r < q) → ⊥
    go (yes lt) = omega (arith, order a b c f w.0 n r q o w.2 h lt, w.1)
    go (no ge) = omega (arith, here a b c n w.0 q r h w.2 (omega arith), w.1)

-- whoever is held rises so
pub room : (a b c : Option ℕ) (f n q : ℕ) → Ordered a b c f → Held (queue_of a b c) n q → Room a b c n
room None b c f n q o (inl h) = absurd h.1
room (Some x) None None f n q o (inl h) = (3, 0, miss (miss (miss none (λ w. omega arith)) (λ w. omega arith)) (λ w. omega arith), refl, inr (inr (refl, h.1)))
room (Some x) (Some y) None f n q o (inl h) = (2, 1, miss (hit (miss none (λ w. omega arith)) (y, omega arith, inr (inl (refl, refl)))) (λ w. omega arith), refl, inr (inl (refl, h.1)))
room (Some x) None (Some z) f n q o (inl h) = (2, 1, hit (miss (miss none (λ w. omega arith)) (λ w. omega arith)) (z, omega arith, inr (inr (refl, refl))), refl, inr (inl (refl, h.1)))
room (Some x) (Some y) (Some z) f n q o (inl h) = (1, 2, hit (hit (miss none (λ w. omega arith)) (y, omega arith, inr (inl (refl, refl)))) (z, omega arith, inr (inr (refl, refl))), refl, inl (refl, h.1))
room a None c f n q o (inr (inl h)) = absurd h.1
room a (Some y) None f n q o (inr (inl h)) = (
  3,
  0,
  miss (miss (miss none (not_older a (Some y) None f n q 1 o (inr (inl h)) (omega arith))) (λ w. omega arith)) (λ w. omega arith),
  refl,
  inr (inr (refl, h.1)),
)
room a (Some y) (Some z) f n q o (inr (inl h)) = (
  2,
  1,
  hit (miss (miss none (not_older a (Some y) (Some z) f n q 1 o (inr (inl h)) (omega arith))) (λ w. omega arith)) (z, omega arith, inr (inr (refl, refl))),
  refl,
  inr (inl (refl, h.1)),
)
room a b None f n q o (inr (inr h)) = absurd h.1
room a None (Some z) f n q o (inr (inr h)) =
    let no = not_older a None (Some z) f n q in
    (3, 0, miss (miss (miss none (no 1 o (inr (inr h)) (omega arith))) (no 2 o (inr (inr h)) (omega arith))) (no 3 o (inr (inr h)) (omega arith)), refl, inr (inr (refl, h.1)))
room a (Some y) (Some z) f n q o (inr (inr h)) =
    let no = not_older a (Some y) (Some z) f n q in
    (3, 0, miss (miss (miss none (no 1 o (inr (inr h)) (omega arith))) (no 2 o (inr (inr h)) (omega arith))) (no 3 o (inr (inr h)) (omega arith)), refl, inr (inr (refl, h.1)))
