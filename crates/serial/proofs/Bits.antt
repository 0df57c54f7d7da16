-- Laws of lists of bits and of the numbers that they stand for. Assumes nothing.
use Rattle.std.proofs.Common.{◌≡◌, ℕ, zero, suc, ◌+◌, ◌-◌, ◌*◌, ◌/◌, ◌%◌, ◌^◌, ◌<◌, ◌≤◌, Bool, true, false, cond, eqb, ◌⊎◌, List, [], ◌∷◌, ◌++◌, length, get_or, take, sym, refl, ap, ◌∙◌, ap₂, inl, inr, le_of_suc-le-suc, mod-lt, mul_assoc, pow-suc, add-one, one-add, arith, lit<, pow_pos}
use native.Mathlib.Nat.{mod-one}
use lib.Bits.{bit_or, or_shifted_r, bit_xor, xor_step, xor_zero_r, differ}
use lib.Count.{ones, ones_cat}
use Rattle.std.proofs.lemmas.Bool.{eq-eqb, ne_eqb, cases_eq, cond-true, cond-false}
use lib.Pow.{mod-pow-add}
use Rattle.std.proofs.lemmas.Nat.{shr-shr, shl_whole}
use Rattle.serial.specs.Words.{bits_of, value_of, ones_in, flipped, same_bits}

-- every bit is 0 or 1
pub data Bits : List ℕ → Type 0 where
  none : Bits []
  more : {x : ℕ} {xs : List ℕ} → x < 2 → Bits xs → Bits (x ∷ xs)

-- the bits of a number are bits
pub bits_are : (n b : ℕ) → Bits (bits_of n b)
bits_are zero b = none
bits_are (suc n) b = more (omega arith) (bits_are n (b / 2))

-- n bits of a number are n
pub length_bits : (n b : ℕ) → length (bits_of n b) ≡ n
length_bits zero b = refl
length_bits (suc n) b = ap suc (length_bits n (b / 2))

-- the remainder by a power of two, one bit at a time
mod_more : (n b : ℕ) → b % 2 ^ suc n ≡ (b / 2 % 2 ^ n) * 2 ^ 1 + b % 2
mod_more n b = ap (λ k. b % 2 ^ k) (sym (add-one n)) ∙ mod-pow-add b n 1

-- the n lowest bits of a number stand for its remainder by the n-th power of two
pub value_bits : (n b : ℕ) → value_of (bits_of n b) ≡ b % 2 ^ n
value_bits zero b = sym (mod-one b)
value_bits (suc n) b = omega (arith, value_bits n (b / 2), mod_more n b)

-- a bit has as many ones as it says
ones_bit : (x : ℕ) → x < 2 → ones x ≡ x
unfolding ones lib.Count.ones_in
ones_bit zero h = refl
ones_bit (suc zero) h = refl
ones_bit (suc (suc x)) h = absurd (omega arith)

-- the ones among the n lowest bits of a number are those of its remainder
pub ones_bits : (n b : ℕ) → ones_in (bits_of n b) ≡ ones (b % 2 ^ n)
ones_bits zero b = sym (ones_bit 0 (lit< tt)) ∙ ap ones (sym (mod-one b))
ones_bits (suc n) b =
    omega (arith, ones_bits n (b / 2), ones_bit (b % 2) (omega arith), ones_cat 1 (b / 2 % 2 ^ n) (b % 2) (omega arith), ap ones (mod_more n b))

-- the first m of n bits
pub take_bits : (m n b : ℕ) → m ≤ n → take m (bits_of n b) ≡ bits_of m b
take_bits zero n b h = refl
take_bits (suc m) zero b h = absurd (omega arith)
take_bits (suc m) (suc n) b h = ap (λ xs. b % 2 ∷ xs) (take_bits m n (b / 2) (le_of_suc-le-suc h))

-- one more bit at the end weighs as much as the bits before it allow
pub value_push : (xs : List ℕ) (x : ℕ) → value_of (xs ++ x ∷ []) ≡ value_of xs + x * 2 ^ length xs
value_push [] x = omega arith
value_push (y ∷ ys) x =
    omega (arith, value_push ys x, mul_assoc x (2 ^ length ys) 2, ap (λ k. x * k) (pow-suc 2 (length ys)))

-- one more bit at the end, and the ones
pub ones_push : (xs : List ℕ) (x : ℕ) → ones_in (xs ++ x ∷ []) ≡ ones_in xs + x
ones_push [] x = omega arith
ones_push (y ∷ ys) x = omega (arith, ones_push ys x)

halved : (x n : ℕ) → x < 2 → (x + 2 * n) / 2 ≡ n
halved x n h = omega arith

-- bits are the bits of the number that they stand for
pub bits_value : (w : List ℕ) → Bits w → bits_of (length w) (value_of w) ≡ w
bits_value [] none = refl
bits_value (x ∷ xs) (more h hs) =
    ap₂ ◌∷◌ (omega arith) (ap (bits_of (length xs)) (halved x (value_of xs) h) ∙ bits_value xs hs)

-- bits stand for a number below the power of two that they have places for
pub value_below : (w : List ℕ) → Bits w → value_of w < 2 ^ length w
value_below w h =
    let e : value_of w ≡ value_of w % 2 ^ length w = ap value_of (sym (bits_value w h)) ∙ value_bits (length w) (value_of w) in
    omega (arith, mod-lt (value_of w) (pow_pos (length w)))

-- the bit at place i of a number
pub bit_at : (n b i : ℕ) → i < n → get_or (bits_of n b) i 0 ≡ b / 2 ^ i % 2
bit_at zero b i h = absurd (omega arith)
bit_at (suc n) b zero h = omega arith
bit_at (suc n) b (suc i) h =
    bit_at n (b / 2) i (le_of_suc-le-suc h) ∙ ap (λ k. k % 2) (shr-shr b 1 i ∙ ap (λ k. b / 2 ^ k) (one-add i))

-- where every bit is 0 or 1, so is the one at place i
pub bit_below : (w : List ℕ) → Bits w → (i : ℕ) → get_or w i 0 < 2
bit_below [] none i = lit< tt
bit_below (x ∷ xs) (more h hs) zero = h
bit_below (x ∷ xs) (more h hs) (suc i) = bit_below xs hs i

-- one bit more is bits
pub bits_push : (w : List ℕ) (x : ℕ) → Bits w → x < 2 → Bits (w ++ x ∷ [])
bits_push [] x none h = more h none
bits_push (y ∷ ys) x (more k ks) h = more k (bits_push ys x ks h)

differ_one : (x : ℕ) → x < 2 → differ x 1 ≡ 1 - x
differ_one zero h = refl
differ_one (suc zero) h = refl
differ_one (suc (suc x)) h = absurd (omega arith)

differ_zero : (x : ℕ) → differ x 0 ≡ x
differ_zero zero = refl
differ_zero (suc x) = refl

-- a number with its lowest bit flipped, and with a higher one
xor_lowest : (w : ℕ) → bit_xor w 1 ≡ w / 2 * 2 + (1 - w % 2)
xor_lowest w = xor_step w 1 ∙ ap₂ (λ h l. h * 2 + l) (xor_zero_r (w / 2)) (differ_one (w % 2) (omega arith))

xor_higher : (w i : ℕ) → bit_xor w (2 ^ suc i) ≡ bit_xor (w / 2) (2 ^ i) * 2 + w % 2
xor_higher w i =
    xor_step w (2 ^ suc i)
    ∙ ap₂ (λ h l. bit_xor (w / 2) h * 2 + differ (w % 2) l) (omega (arith, pow-suc 2 i)) (omega (arith, pow-suc 2 i))
    ∙ ap (λ l. bit_xor (w / 2) (2 ^ i) * 2 + l) (differ_zero (w % 2))

-- the exclusive or with a power of two flips the bit at its place
pub bits_xor : (n w i : ℕ) → i < n → bits_of n (bit_xor w (2 ^ i)) ≡ flipped i (bits_of n w)
bits_xor zero w i h = absurd (omega arith)
bits_xor (suc n) w zero h =
    ap₂ (λ x m. x ∷ bits_of n m) (omega (arith, xor_lowest w)) (omega (arith, xor_lowest w))
bits_xor (suc n) w (suc i) h =
    ap₂ (λ x m. x ∷ bits_of n m) (omega (arith, xor_higher w i)) (omega (arith, xor_higher w i))
    ∙ ap (λ xs. w % 2 ∷ xs) (bits_xor n (w / 2) i (le_of_suc-le-suc h))

-- one flipped bit makes an even count of ones odd, and an odd one even
pub flip_turns : (w : List ℕ) → Bits w → (i : ℕ) → i < length w → (ones_in (flipped i w) + ones_in w) % 2 ≡ 1
flip_turns [] none i h = absurd (omega arith)
flip_turns (x ∷ xs) (more k ks) zero h = omega arith
flip_turns (x ∷ xs) (more k ks) (suc i) h = omega (arith, flip_turns xs ks i (le_of_suc-le-suc h))

-- the bit at place i of the number that bits stand for
pub value_bit_at : (w : List ℕ) → Bits w → (i : ℕ) → i < length w → value_of w / 2 ^ i % 2 ≡ get_or w i 0
value_bit_at w h i l = sym (bit_at (length w) (value_of w) i l) ∙ ap (λ xs. get_or xs i 0) (bits_value w h)

-- where every place has 0 or 1, the list is bits
pub bits_from : (w : List ℕ) → ((i : ℕ) → get_or w i 0 < 2) → Bits w
bits_from [] h = none
bits_from (x ∷ xs) h = more (h 0) (bits_from xs (λ i. h (suc i)))

-- the first bits of bits are bits
pub bits_take : (n : ℕ) (w : List ℕ) → Bits w → Bits (take n w)
bits_take zero w h = none
bits_take (suc n) [] h = none
bits_take (suc n) (x ∷ xs) (more k ks) = more k (bits_take n xs ks)

-- a bit as a number is 0 or 1
pub below_two : (b : Bool) → cond b 1 0 < 2
below_two true = omega arith
below_two false = omega arith

-- n bits of a byte with the bit x set above them, as one number, are those bits and then x
pub value_with : (n b x : ℕ) → n ≤ 15 → x < 2 → bit_or (b % 2 ^ n) (x * 2 ^ n % 65536) ≡ value_of (bits_of n b ++ x ∷ [])
value_with n b x within bit =
    ap (bit_or (b % 2 ^ n)) (shl_whole x 1 n 16 bit (omega arith))
    ∙ or_shifted_r x n (b % 2 ^ n) (mod-lt b (pow_pos n))
    ∙ omega (arith, value_push (bits_of n b) x, value_bits n b, ap (λ k. x * 2 ^ k) (length_bits n b))

-- one bit more: the first bits and the rest are the same, or one of them is not
same_step : (n a b : ℕ) → same_bits (bits_of n (a / 2)) (bits_of n (b / 2)) ≡ eqb (a / 2 % 2 ^ n) (b / 2 % 2 ^ n) → (a % 2 ≡ b % 2) ⊎ (a % 2 ≡ b % 2 → ⊥) → (a / 2 % 2 ^ n ≡ b / 2 % 2 ^ n) ⊎ (a / 2 % 2 ^ n ≡ b / 2 % 2 ^ n → ⊥) → same_bits (bits_of (suc n) a) (bits_of (suc n) b) ≡ eqb (a % 2 ^ suc n) (b % 2 ^ suc n)
unfolding same_bits
same_step n a b rest (inl e) (inl g) =
    cond-true (eqb (a % 2) (b % 2)) _ _ (eq-eqb _ _ e) ∙ rest ∙ eq-eqb _ _ g
    ∙ sym (eq-eqb _ _ (omega (arith, e, g, mod_more n a, mod_more n b)))
same_step n a b rest (inl e) (inr g) =
    cond-true (eqb (a % 2) (b % 2)) _ _ (eq-eqb _ _ e) ∙ rest ∙ ne_eqb _ _ g
    ∙ sym (ne_eqb _ _ (λ h. g (omega (arith, e, h, mod_more n a, mod_more n b))))
same_step n a b rest (inr e) g =
    cond-false (eqb (a % 2) (b % 2)) _ _ (ne_eqb _ _ e)
    ∙ sym (ne_eqb _ _ (λ h. e (omega (arith, h, mod_more n a, mod_more n b))))

-- the n lowest bits of two numbers are the same where their remainders are
pub same_bits_lem : (n a b : ℕ) → same_bits (bits_of n a) (bits_of n b) ≡ eqb (a % 2 ^ n) (b % 2 ^ n)
unfolding same_bits
same_bits_lem zero a b = sym (eq-eqb (a % 1) (b % 1) (mod-one a ∙ sym (mod-one b)))
same_bits_lem (suc n) a b =
    same_step n a b (same_bits_lem n (a / 2) (b / 2)) (cases_eq (a % 2) (b % 2)) (cases_eq (a / 2 % 2 ^ n) (b / 2 % 2 ^ n))
