-- The laws of words: one word for each byte, read back clean, and marked where one bit was flipped. Assumes nothing.
use Rattle.std.proofs.Common.{◌≡◌, ℕ, ◌+◌, ◌%◌, ◌^◌, ◌<◌, ◌≤◌, true, false, List, [], ◌∷◌, ◌++◌, length, get_or, take, drop, sym, refl, ap, ◌∙◌, subst, ap₂, inl, inr, arith, lit≤, length-append, length-drop, length-take}
use Rattle.std.proofs.lemmas.List.{take_at, take-append-drop, get_or_append_left, get_or-take, get_or-drop, ext_get_or, append-nil, length-take-le}
use Rattle.std.proofs.lemmas.Bool.{eq-eqb, ne_eqb, cases_eq}
use Rattle.serial.specs.declared.word.Form.{Form}
use Rattle.serial.specs.declared.word.Form.TheVariants.{SixEven, SixOdd, Seven, Eight, SevenEven, SevenOdd, EightEven, EightOdd}
use Rattle.serial.specs.declared.word.Parity.{Parity}
use Rattle.serial.specs.declared.word.Parity.TheVariants.{Bare, Even, Odd}
use Rattle.serial.specs.Words.{data_bits, parity_of, parity_bits, total_bits, bits_of, value_of, ones_in, parity_after, word_of, marks, has_parity, flipped, Right, IsWord, OneWord, ReadsWords, ReadsBack, OneFlipMarks}
use Rattle.serial.proofs.Bits.{Bits, bits_are, length_bits, value_bits, ones_push, bit_at, bit_below, bits_push, bits_value, bits_from, bits_take, value_below, value_bit_at, flip_turns}

-- no form has more than eight data bits
data_within : (f : Form) → data_bits f ≤ 8
data_within SixEven = lit≤ tt
data_within SixOdd = lit≤ tt
data_within Seven = lit≤ tt
data_within Eight = lit≤ tt
data_within SevenEven = lit≤ tt
data_within SevenOdd = lit≤ tt
data_within EightEven = lit≤ tt
data_within EightOdd = lit≤ tt

-- no form has more than nine bits
pub total_within : (f : Form) → total_bits f ≤ 9
total_within f = within (parity_of f) (data_within f)
  where
    within : (p : Parity) {d : ℕ} → d ≤ 8 → d + parity_bits p ≤ 9
    within Bare h = omega arith
    within Even h = omega arith
    within Odd h = omega arith

-- the parity after data bits makes the count of ones right
right_after : (p : Parity) (xs : List ℕ) → Right p (ones_in (xs ++ parity_after p xs))
right_after Bare xs = tt
right_after Even xs = omega (arith, ones_push xs (ones_in xs % 2))
right_after Odd xs = omega (arith, ones_push xs ((ones_in xs + 1) % 2))

bits_after : (p : Parity) (xs : List ℕ) → Bits xs → Bits (xs ++ parity_after p xs)
bits_after Bare xs h = rw append-nil h
bits_after Even xs h = bits_push xs (ones_in xs % 2) h (omega arith)
bits_after Odd xs h = bits_push xs ((ones_in xs + 1) % 2) h (omega arith)

length_after : (p : Parity) (xs : List ℕ) → length (parity_after p xs) ≡ parity_bits p
length_after Bare xs = refl
length_after Even xs = refl
length_after Odd xs = refl

-- a word is bits
pub word_bits : (f : Form) (b : ℕ) → Bits (word_of f b)
word_bits f b = bits_after (parity_of f) (bits_of (data_bits f) b) (bits_are (data_bits f) b)

-- a word has T bits
pub word_length : (f : Form) (b : ℕ) → length (word_of f b) ≡ total_bits f
word_length f b =
    length-append (bits_of (data_bits f) b) (parity_after (parity_of f) (bits_of (data_bits f) b))
    ∙ ap₂ ◌+◌ (length_bits (data_bits f) b) (length_after (parity_of f) (bits_of (data_bits f) b))

-- the bits of the number that a word is handed over as are the word
pub word_handed : (f : Form) (b : ℕ) → bits_of (total_bits f) (value_of (word_of f b)) ≡ word_of f b
word_handed f b =
    ap (λ n. bits_of n (value_of (word_of f b))) (sym (word_length f b)) ∙ bits_value (word_of f b) (word_bits f b)

-- the word of a byte has what makes it that word
word_is : (f : Form) (b : ℕ) → IsWord f b (word_of f b)
word_is f b = record {
  bits = bit_below (word_of f b) (word_bits f b);
  whole = word_length f b;
  lowest_first = λ i h.
      get_or_append_left (bits_of (data_bits f) b) (parity_after (parity_of f) (bits_of (data_bits f) b)) 0 i (omega (arith, length_bits (data_bits f) b))
      ∙ bit_at (data_bits f) b i h;
  parity_right = right_after (parity_of f) (bits_of (data_bits f) b);
}

-- after data bits, only their parity makes the count of ones right
after_only : (p : Parity) (xs t : List ℕ) → length t ≡ parity_bits p → ((i : ℕ) → get_or t i 0 < 2) → Right p (ones_in (xs ++ t)) → t ≡ parity_after p xs
after_only Bare xs [] l h r = refl
after_only Bare xs (x ∷ t) l h r = absurd (omega arith)
after_only Even xs [] l h r = absurd (omega arith)
after_only Even xs (x ∷ []) l h r = ap (λ y. y ∷ []) (omega (arith, h 0, ones_push xs x))
after_only Even xs (x ∷ y ∷ t) l h r = absurd (omega arith)
after_only Odd xs [] l h r = absurd (omega arith)
after_only Odd xs (x ∷ []) l h r = ap (λ y. y ∷ []) (omega (arith, h 0, ones_push xs x))
after_only Odd xs (x ∷ y ∷ t) l h r = absurd (omega arith)

-- what has what makes it a word's is that word
word_only : (f : Form) (b : ℕ) (w : List ℕ) → IsWord f b w → w ≡ word_of f b
word_only f b w is =
    let start : take (data_bits f) w ≡ bits_of (data_bits f) b =
    ext_get_or 0 (take (data_bits f) w) (bits_of (data_bits f) b) (omega (arith, length-take (data_bits f) w, length_bits (data_bits f) b))
    (λ i h.
    let early : i < data_bits f = omega (arith, length-take (data_bits f) w) in
    get_or-take (data_bits f) w i 0 early ∙ is.lowest_first i early ∙ sym (bit_at (data_bits f) b i early)) in
    let parts : w ≡ bits_of (data_bits f) b ++ drop (data_bits f) w =
    sym (take-append-drop (data_bits f) w) ∙ ap (λ xs. xs ++ drop (data_bits f) w) start in
    let end : drop (data_bits f) w ≡ parity_after (parity_of f) (bits_of (data_bits f) b) =
    after_only (parity_of f) (bits_of (data_bits f) b) (drop (data_bits f) w) (omega (arith, length-drop (data_bits f) w))
    (λ i. rw get_or-drop (is.bits (data_bits f + i)))
    (subst (λ xs. Right (parity_of f) (ones_in xs)) parts is.parity_right) in
    parts ∙ ap (λ xs. bits_of (data_bits f) b ++ xs) end

pub one_word : OneWord
one_word f b = (word_is f b, word_only f b)

-- a wrong count of ones is marked
wrong_marked : (p : Parity) (n : ℕ) → (Right p n → ⊥) → marks p n ≡ true
wrong_marked Bare n w = absurd (w tt)
wrong_marked Even n w = eq-eqb (n % 2) 1 (odd_from (n % 2) (omega arith) w)
  where
    odd_from : (m : ℕ) → m < 2 → (m ≡ 0 → ⊥) → m ≡ 1
    odd_from m h n0 = elim (cases_eq m 0) [ inl e ↦ absurd (n0 e) | inr e ↦ omega arith ]
wrong_marked Odd n w = eq-eqb (n % 2) 0 (even_from (n % 2) (omega arith) w)
  where
    even_from : (m : ℕ) → m < 2 → (m ≡ 1 → ⊥) → m ≡ 0
    even_from m h n1 = elim (cases_eq m 1) [ inl e ↦ absurd (n1 e) | inr e ↦ omega arith ]

-- a right count of ones is not marked
right_unmarked : (p : Parity) (n : ℕ) → Right p n → marks p n ≡ false
right_unmarked Bare n r = refl
right_unmarked Even n r = ne_eqb (n % 2) 1 (λ e. omega arith)
right_unmarked Odd n r = ne_eqb (n % 2) 0 (λ e. omega arith)

pub reads_words : ReadsWords
reads_words f w whole bits =
    let bw : Bits (take (data_bits f) w) = bits_take (data_bits f) w (bits_from w bits) in
    let n : length (take (data_bits f) w) ≡ data_bits f = length-take-le (data_bits f) w (omega arith) in
    record {
      data_bits_read = λ i h. value_bit_at (take (data_bits f) w) bw i (omega arith) ∙ get_or-take (data_bits f) w i 0 h;
      zeros_above = subst (λ k. value_of (take (data_bits f) w) < 2 ^ k) n (value_below (take (data_bits f) w) bw);
      clean_if_right = right_unmarked (parity_of f) (ones_in w);
      marked_if_wrong = wrong_marked (parity_of f) (ones_in w);
    }

pub reads_back : ReadsBack
reads_back f b =
    ap₂ (λ d m. (d, m))
    (ap value_of (take_at (bits_of (data_bits f) b) (parity_after (parity_of f) (bits_of (data_bits f) b)) (data_bits f) (length_bits (data_bits f) b)) ∙ value_bits (data_bits f) b)
    (right_unmarked (parity_of f) (ones_in (word_of f b)) (right_after (parity_of f) (bits_of (data_bits f) b)))

-- a right count of ones, turned, is marked where there is a parity
turned_marked : (p : Parity) (n m : ℕ) → Right p n → (m + n) % 2 ≡ 1 → marks p m ≡ has_parity p
turned_marked Bare n m r t = refl
turned_marked Even n m r t = eq-eqb (m % 2) 1 (omega arith)
turned_marked Odd n m r t = eq-eqb (m % 2) 0 (omega arith)

pub one_flip_marks : OneFlipMarks
one_flip_marks f b i h =
    turned_marked (parity_of f) (ones_in (word_of f b)) (ones_in (flipped i (word_of f b)))
    (right_after (parity_of f) (bits_of (data_bits f) b))
    (flip_turns (word_of f b) (word_bits f b) i (omega (arith, word_length f b)))
