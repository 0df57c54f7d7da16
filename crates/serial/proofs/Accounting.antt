-- The totals of an account stay within bounds, and count what the slips tell. Assumes nothing.
use Rattle.std.proofs.Common.{◌≡◌, ℕ, ◌+◌, ◌≤◌, Bool, true, false, cond, not, ◌&&◌, eqb, List, [], ◌∷◌, ◌++◌, fold, sum_by, count_by, Option, sym, refl, ◌∙◌, subst, ap₂, arith}
use Rattle.std.specs.List.{flat_map}
use Rattle.std.proofs.lemmas.List.Sorted.{sum_by-IsPermutation}
use Rattle.std.proofs.lemmas.List.Sums.{sum_by-cons, sum_by-append}
use Rattle.serial.specs.declared.account.Account.{Account}
use Rattle.serial.specs.declared.account.Fate.{Fate}
use Rattle.serial.specs.declared.account.Fate.TheVariants.{Delivered, Stripped, Lost, ReceivedCleared, Overwritten, WrittenCleared, Sent, Cut}
use Rattle.serial.specs.declared.queue.Numbers.{Numbers}
use Rattle.serial.specs.declared.slip.Slip.{Slip}
use Rattle.serial.specs.Accounts.{receive_fate, queue_fate, shift_fate, is_fate, part, counted, unless_zero, how_many, none_yet, with_slip, account_of, Within, total_of, entries, tells_fate, CountsFields, AnyOrder, Joins}

-- a part of n is at most n
cond_within : (b : Bool) (n : ℕ) → cond b n 0 ≤ n
cond_within true n = omega arith
cond_within false n = omega arith

part_within : (o : Option Fate) (n : ℕ) (f : Fate) → part o n f ≤ n
part_within o n f = cond_within (is_fate o f) n

zero_within : (b : Bool) → cond {A = ℕ} b 0 1 ≤ 1
zero_within true = omega arith
zero_within false = omega arith

-- a number counts at most one, three numbers at most three
pub one_within : (n : ℕ) → unless_zero n ≤ 1
one_within n = zero_within (eqb n 0)

pub three_within : (x : Numbers) → how_many x ≤ 3
three_within x = omega (arith, one_within x.first, one_within x.second, one_within x.third)

-- n more of a fate raise every bound by at most n
pub counted_within : (a : Account) (o : Option Fate) (n m : ℕ) → Within a m → n ≤ 3 → Within (counted a o n) (m + 3)
counted_within a o n m h l = (
  omega (arith, part_within o n Delivered, h.0),
  omega (arith, part_within o n Stripped, h.1),
  omega (arith, part_within o n Lost, h.2),
  omega (arith, part_within o n ReceivedCleared, h.3),
  omega (arith, part_within o n Overwritten, h.4),
  omega (arith, part_within o n WrittenCleared, h.5),
  omega (arith, part_within o n Sent, h.6),
  omega (arith, part_within o n Cut, h.7),
)

-- the same of what `count` leaves
pub left_within : (a b : Account) (o : Option Fate) (n m : ℕ) → Within a m → n ≤ 3 → b ≡ counted a o n → Within b (m + 3)
left_within a b o n m h l e = subst (λ (x : Account). Within x (m + 3)) (sym e) (counted_within a o n m h l)

-- one slip raises every bound by at most nine
pub slip_within : (a : Account) (s : Slip) (m : ℕ) → Within a m → Within (with_slip a s) (m + 3 + 3 + 3)
slip_within a s m h =
    let one = counted_within a (receive_fate s.receive) (how_many s.received) m h (three_within s.received) in
    let two = counted_within _ (queue_fate s.queue) (how_many s.queued) (m + 3) one (three_within s.queued) in
    counted_within _ (shift_fate s.shift) (unless_zero s.shifted) (m + 3 + 3) two (omega (arith, one_within s.shifted))

pub within_more : (a : Account) (m n : ℕ) → Within a m → m ≤ n → Within a n
within_more a m n h l = (
  omega (arith, h.0),
  omega (arith, h.1),
  omega (arith, h.2),
  omega (arith, h.3),
  omega (arith, h.4),
  omega (arith, h.5),
  omega (arith, h.6),
  omega (arith, h.7),
)

-- WHAT THE TOTALS COUNT

-- more of one fate
total_counted : (a : Account) (o : Option Fate) (n : ℕ) (f : Fate) → total_of (counted a o n) f ≡ total_of a f + part o n f
total_counted a o n Delivered = refl
total_counted a o n Stripped = refl
total_counted a o n Lost = refl
total_counted a o n ReceivedCleared = refl
total_counted a o n Overwritten = refl
total_counted a o n WrittenCleared = refl
total_counted a o n Sent = refl
total_counted a o n Cut = refl

none_counted : (f : Fate) → total_of none_yet f ≡ 0
none_counted Delivered = refl
none_counted Stripped = refl
none_counted Lost = refl
none_counted ReceivedCleared = refl
none_counted Overwritten = refl
none_counted WrittenCleared = refl
none_counted Sent = refl
none_counted Cut = refl

-- what one slip adds to the total of a fate
abbrev adds : Fate → Slip → ℕ
adds f s =
    part (receive_fate s.receive) (how_many s.received) f
    + part (queue_fate s.queue) (how_many s.queued) f
    + part (shift_fate s.shift) (unless_zero s.shifted) f

total_with : (a : Account) (s : Slip) (f : Fate) → total_of (with_slip a s) f ≡ total_of a f + adds f s
total_with a s f =
    let one = counted a (receive_fate s.receive) (how_many s.received) in
    let two = counted one (queue_fate s.queue) (how_many s.queued) in
    let e1 = total_counted a (receive_fate s.receive) (how_many s.received) f in
    let e2 = total_counted one (queue_fate s.queue) (how_many s.queued) f in
    let e3 = total_counted two (shift_fate s.shift) (unless_zero s.shifted) f in
    omega (arith, e1, e2, e3)

total_over : (slips : List Slip) (a : Account) (f : Fate) → total_of (fold with_slip a slips) f ≡ total_of a f + sum_by (adds f) slips
total_over [] a f = omega arith
total_over (s ∷ ss) a f =
    omega (arith, total_over ss (with_slip a s) f, total_with a s f, sum_by-cons (adds f) s ss)

-- the total of a fate is the sum of what each slip adds to it
pub total_is : (slips : List Slip) (f : Fate) → total_of (account_of slips) f ≡ sum_by (adds f) slips
total_is slips f = omega (arith, total_over slips none_yet f, none_counted f)

-- a field counts one if it tells the fate with a number that is not 0
field : (o : Option Fate) (n : ℕ) (f : Fate) → cond {A = ℕ} (tells_fate f (o, n)) 1 0 ≡ part o (unless_zero n) f
field o n f = by (is_fate o f) (eqb n 0)
  where
    by : (b z : Bool) → cond {A = ℕ} (b && not z) 1 0 ≡ cond b (cond z 0 1) 0
    by true true = refl
    by true false = refl
    by false true = refl
    by false false = refl

part_sum : (o : Option Fate) (x y z : ℕ) (f : Fate) → part o (x + y + z) f ≡ part o x f + part o y f + part o z f
part_sum o x y z f = by (is_fate o f)
  where
    by : (b : Bool) → cond b (x + y + z) 0 ≡ cond b x 0 + cond b y 0 + cond b z 0
    by true = refl
    by false = refl

-- the fields of one slip
slip_counts : (s : Slip) (f : Fate) → count_by (tells_fate f) (entries s) ≡ adds f s
slip_counts s f =
    let r = receive_fate s.receive in
    let q = queue_fate s.queue in
    omega (
      arith,
      field r s.received.first f,
      field r s.received.second f,
      field r s.received.third f,
      part_sum r (unless_zero s.received.first) (unless_zero s.received.second) (unless_zero s.received.third) f,
      field q s.queued.first f,
      field q s.queued.second f,
      field q s.queued.third f,
      part_sum q (unless_zero s.queued.first) (unless_zero s.queued.second) (unless_zero s.queued.third) f,
      field (shift_fate s.shift) s.shifted f,
    )

-- the fields of all slips
fields_count : (slips : List Slip) (f : Fate) → count_by (tells_fate f) (flat_map entries slips) ≡ sum_by (adds f) slips
fields_count [] f = refl
fields_count (s ∷ ss) f =
    sum_by-append (λ e. cond (tells_fate f e) 1 0) (entries s) (flat_map entries ss)
    ∙ ap₂ ◌+◌ (slip_counts s f) (fields_count ss f)
    ∙ sym (sum_by-cons (adds f) s ss)

pub counts_fields : CountsFields
counts_fields slips f = total_is slips f ∙ sym (fields_count slips f)

-- accounts with the same totals are the same
same_account : (a b : Account) → ((f : Fate) → total_of a f ≡ total_of b f) → a ≡ b
same_account a b h j = record {
  delivered = h Delivered j;
  stripped = h Stripped j;
  lost = h Lost j;
  received_cleared = h ReceivedCleared j;
  overwritten = h Overwritten j;
  written_cleared = h WrittenCleared j;
  sent = h Sent j;
  cut = h Cut j;
}

pub any_order : AnyOrder
any_order xs ys shuffled =
    same_account (account_of ys) (account_of xs) (λ f. total_is ys f ∙ sum_by-IsPermutation (adds f) xs ys shuffled ∙ sym (total_is xs f))

pub joins : Joins
joins xs ys f = omega (arith, total_is (xs ++ ys) f, sum_by-append (adds f) xs ys, total_is xs f, total_is ys f)
