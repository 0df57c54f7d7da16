-- What is told, and who stands, leaves no choice of code, numbers and places. Assumes nothing.
use Rattle.std.proofs.Common.{◌≡◌, ℕ, zero, suc, ◌<◌, ◌≤◌, ◌⊎◌, Some, None, Option, sym, refl, ap, ◌∙◌, inl, inr, arith}
use Rattle.serial.specs.declared.queue.Numbers.{Numbers}
use Rattle.serial.specs.declared.queue.Queue.{Queue}
use Rattle.serial.specs.Queue.{queue_of}
use Rattle.serial.specs.Life.{Shows, in_one, in_two, in_three}
use Rattle.serial.specs.Telling.{Names, InOrder, Tells}

pub split : (a : ℕ) → (a ≡ 0) ⊎ (1 ≤ a)
split zero = inl refl
split (suc a) = inr (omega arith)

abbrev three : ℕ → ℕ → ℕ → Numbers
three a b c = record { first = a; second = b; third = c }

abbrev Ordered : ℕ → ℕ → Type 0
Ordered a b = (b ≡ 0) ⊎ ((1 ≤ a) × (a < b))

ordered : (a b : ℕ) → (1 ≤ b → (1 ≤ a) × (a < b)) → Ordered a b
ordered a b f = elim (split b) [ inl z ↦ inl z | inr p ↦ inr (f p) ]

-- a is 0 or one of three
abbrev Among : ℕ → Numbers → Type 0
Among a y = (a ≡ 0) ⊎ (y.first ≡ a) ⊎ (y.second ≡ a) ⊎ (y.third ≡ a)

among : (a : ℕ) (y : Numbers) → (1 ≤ a → Names y a) → Among a y
among a y f = elim (split a) [ inl z ↦ inl z | inr p ↦ inr (f p).1 ]

module _ (x y : Numbers) (p : InOrder x) (q : InOrder y) (to : (n : ℕ) → Names x n → Names y n) (from : (n : ℕ) → Names y n → Names x n) where
  firsts : x.first ≡ y.first
  firsts =
      let a = among x.first y (λ h. to x.first (h, inl refl)) in
      let b = among y.first x (λ h. from y.first (h, inl refl)) in
      let x2 = ordered _ _ p.second in let x3 = ordered _ _ p.third in
      let y2 = ordered _ _ q.second in let y3 = ordered _ _ q.third in
      omega (arith, a, b, x2, x3, y2, y3)

  seconds : x.second ≡ y.second
  seconds =
      let e = firsts in
      let a = among x.second y (λ h. to x.second (h, inr (inl refl))) in
      let b = among y.second x (λ h. from y.second (h, inr (inl refl))) in
      let x2 = ordered _ _ p.second in let x3 = ordered _ _ p.third in
      let y2 = ordered _ _ q.second in let y3 = ordered _ _ q.third in
      omega (arith, e, a, b, x2, x3, y2, y3)

  thirds : x.third ≡ y.third
  thirds =
      let e = firsts in let f = seconds in
      let a = among x.third y (λ h. to x.third (h, inr (inr refl))) in
      let b = among y.third x (λ h. from y.third (h, inr (inr refl))) in
      let x2 = ordered _ _ p.second in let x3 = ordered _ _ p.third in
      let y2 = ordered _ _ q.second in let y3 = ordered _ _ q.third in
      omega (arith, e, f, a, b, x2, x3, y2, y3)

  pub numbers_same : x ≡ y
  numbers_same = ap (λ a. three a x.second x.third) firsts ∙ ap (λ b. three y.first b x.third) seconds ∙ ap (λ c. three y.first y.second c) thirds

module _ {F C : Type 0} (code_of : F → C) (nothing : C) (H : ℕ → F → Type 0) (c d : C) (x y : Numbers) (p : Tells code_of nothing H c x) (q : Tells code_of nothing H d y) where
  to : (n : ℕ) → Names x n → Names y n
  to n h = let m = p.named n h in ((q.told n m.0).0 m.1).0

  from : (n : ℕ) → Names y n → Names x n
  from n h = let m = q.named n h in ((p.told n m.0).0 m.1).0

  pub tells_numbers : x ≡ y
  tells_numbers = numbers_same x y p.in_order q.in_order to from

  nobody : x.first ≡ 0 → (n : ℕ) → Names x n → ⊥
  nobody e n h =
      let x2 = ordered _ _ p.in_order.second in let x3 = ordered _ _ p.in_order.third in
      let l = h.0 in let m = h.1 in
      omega (arith, e, l, m, x2, x3)

  codes : (x.first ≡ 0) ⊎ (1 ≤ x.first) → c ≡ d
  codes (inl e) =
      let none : (n : ℕ) (f : F) → H n f → ⊥ = λ n f m. nobody e n ((p.told n f).0 m).0 in
      p.quiet none ∙ sym (q.quiet none)
  codes (inr h) =
      let m = p.named x.first (h, inl refl) in
      ((p.told x.first m.0).0 m.1).1 ∙ sym ((q.told x.first m.0).0 m.1).1

  pub tells_code : c ≡ d
  tells_code = codes (split x.first)

-- two places that hold the same number, if any, hold the same
same_place : (o r : Option ℕ) → ((n : ℕ) → o ≡ Some n → r ≡ Some n) → ((n : ℕ) → r ≡ Some n → o ≡ Some n) → o ≡ r
same_place None None f g = refl
same_place None (Some y) f g = g y refl
same_place (Some x) r f g = sym (f x refl)

shown_one : (q : Queue ℕ) (n : ℕ) → Shows q n 1 → q.one ≡ Some n
shown_one q n (in_one e h) = h
shown_one q n (in_two e h) = absurd (omega arith)
shown_one q n (in_three e h) = absurd (omega arith)

shown_two : (q : Queue ℕ) (n : ℕ) → Shows q n 2 → q.two ≡ Some n
shown_two q n (in_one e h) = absurd (omega arith)
shown_two q n (in_two e h) = h
shown_two q n (in_three e h) = absurd (omega arith)

shown_three : (q : Queue ℕ) (n : ℕ) → Shows q n 3 → q.three ≡ Some n
shown_three q n (in_one e h) = absurd (omega arith)
shown_three q n (in_two e h) = absurd (omega arith)
shown_three q n (in_three e h) = h

-- places that show the same numbers are the same
module _ (q r : Queue ℕ) (to : (n p : ℕ) → Shows q n p → Shows r n p) (from : (n p : ℕ) → Shows r n p → Shows q n p) where
  pub places_same : q ≡ r
  places_same =
      ap (λ a. queue_of a q.two q.three)
      (same_place q.one r.one (λ n h. shown_one r n (to n 1 (in_one refl h))) (λ n h. shown_one q n (from n 1 (in_one refl h))))
      ∙ ap (λ b. queue_of r.one b q.three)
      (same_place q.two r.two (λ n h. shown_two r n (to n 2 (in_two refl h))) (λ n h. shown_two q n (from n 2 (in_two refl h))))
      ∙ ap (λ c. queue_of r.one r.two c)
      (same_place q.three r.three (λ n h. shown_three r n (to n 3 (in_three refl h))) (λ n h. shown_three q n (from n 3 (in_three refl h))))
