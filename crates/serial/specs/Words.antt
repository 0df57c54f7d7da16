-- The words of the line: a byte as bits, and bits as a byte.
-- A list of bits has the first bit on the line first; a bit is 0 or 1. Assumes nothing.
use Rattle.std.specs.Prelude.{◌≡◌, ℕ, zero, suc, ◌+◌, ◌-◌, ◌*◌, ◌/◌, ◌%◌, ◌^◌, ◌<◌, min, Bool, true, false, cond, List, [], ◌∷◌, ◌++◌, length, take, replicate, codes, Some, None, Option, ◌==◌, nat_lt, slice_index}
use Rattle.serial.specs.Numbers.{numbered}
use Rattle.serial.specs.declared.word.Form.{Form}
use Rattle.serial.specs.declared.word.Form.TheVariants.{SixEven, SixOdd, Seven, Eight, SevenEven, SevenOdd, EightEven, EightOdd}
use Rattle.serial.specs.declared.word.Parity.{Parity}
use Rattle.serial.specs.declared.word.Parity.TheVariants.{Bare, Even, Odd}

-- What a word form is: the number that selects it (WS3 WS2 WS1), its data bits, its parity.
pub record Shape : Type 0 where
  pub select : ℕ
  pub width : ℕ
  pub parity : Parity

abbrev shape : ℕ → ℕ → Parity → Shape
shape s w p = record { select = s; width = w; parity = p }

-- the eight forms
abbrev pub shape_of : Form → Shape
shape_of SixEven = shape 0b000 6 Even
shape_of SixOdd = shape 0b001 6 Odd
shape_of Seven = shape 0b010 7 Bare
shape_of Eight = shape 0b011 8 Bare
shape_of SevenEven = shape 0b100 7 Even
shape_of SevenOdd = shape 0b101 7 Odd
shape_of EightEven = shape 0b110 8 Even
shape_of EightOdd = shape 0b111 8 Odd

abbrev pub select_of : Form → ℕ
select_of f = (shape_of f).select

abbrev pub forms : List Form
forms = SixEven ∷ SixOdd ∷ Seven ∷ Eight ∷ SevenEven ∷ SevenOdd ∷ EightEven ∷ EightOdd ∷ []

-- the form that a number selects, if any
abbrev pub form_of : ℕ → Option Form
form_of = numbered select_of forms

-- the number of data bits, D
abbrev pub data_bits : Form → ℕ
data_bits f = (shape_of f).width

abbrev pub parity_of : Form → Parity
parity_of f = (shape_of f).parity

-- a parity in words
abbrev pub parity_name : Parity → List ℕ
parity_name Bare = codes "bare"
parity_name Even = codes "even"
parity_name Odd = codes "odd"

abbrev pub parity_bits : Parity → ℕ
parity_bits Bare = 0
parity_bits Even = 1
parity_bits Odd = 1

-- the number of bits with parity, T
abbrev pub total_bits : Form → ℕ
total_bits f = data_bits f + parity_bits (parity_of f)

-- the n lowest bits of a number, lowest first
abbrev pub bits_of : ℕ → ℕ → List ℕ
bits_of zero b = []
bits_of (suc n) b = b % 2 ∷ bits_of n (b / 2)

-- the number whose bits these are, lowest first
abbrev pub value_of : List ℕ → ℕ
value_of [] = 0
value_of (x ∷ xs) = x + 2 * value_of xs

-- the count of ones
abbrev pub ones_in : List ℕ → ℕ
ones_in [] = 0
ones_in (x ∷ xs) = x + ones_in xs

-- the parity after these data bits: the bit that makes the count of ones even, or odd
abbrev pub parity_after : Parity → List ℕ → List ℕ
parity_after Bare bits = []
parity_after Even bits = ones_in bits % 2 ∷ []
parity_after Odd bits = (ones_in bits + 1) % 2 ∷ []

-- the word of a byte: its data bits, then their parity
abbrev pub word_of : Form → ℕ → List ℕ
word_of f b = bits_of (data_bits f) b ++ parity_after (parity_of f) (bits_of (data_bits f) b)

-- a word as it is handed over: its bits as a number, the first one lowest, and how many there are
abbrev pub handed : List ℕ → ℕ × ℕ
handed w = (value_of w, length w)

-- what a form takes of a byte: its data bits, with zeros above them
abbrev pub kept_of : Form → ℕ → ℕ
kept_of f b = b % 2 ^ data_bits f

-- the parity mark of a word with this count of ones: set if there is a parity and it is wrong
abbrev pub marks : Parity → ℕ → Bool
marks Bare count = false
marks Even count = count % 2 == 1
marks Odd count = count % 2 == 0

abbrev pub mark_of : Form → List ℕ → Bool
mark_of f w = marks (parity_of f) (ones_in w)

-- a word read: its data bits, with zeros above them, and its parity mark
abbrev pub read_of : Form → List ℕ → ℕ × Bool
read_of f w = (value_of (take (data_bits f) w), mark_of f w)

-- the sync code on the line: as many of its bits as a word has, at most eight
abbrev pub code_bits : Form → ℕ → List ℕ
code_bits f c = bits_of (min (total_bits f) 8) c

-- the sync fill: the code, and its parity where a word has nine bits
abbrev pub sync_fill : Form → ℕ → List ℕ
sync_fill f c = code_bits f c ++ cond (total_bits f == 9) (parity_after (parity_of f) (code_bits f c)) []

-- two lists of bits are the same
unfoldable pub same_bits : List ℕ → List ℕ → Bool
same_bits [] [] = true
same_bits [] (y ∷ ys) = false
same_bits (x ∷ xs) [] = false
same_bits (x ∷ xs) (y ∷ ys) = cond (x == y) (same_bits xs ys) false

-- a word matches the sync code: its oldest bits, at most eight, are the code's
abbrev pub matches : Form → ℕ → List ℕ → Bool
matches f c w = same_bits (take (min (total_bits f) 8) w) (code_bits f c)

-- the mark fill: ones
abbrev pub mark_fill : Form → List ℕ
mark_fill f = replicate (total_bits f) 1

-- the bit at place i, counted from 0, flipped
abbrev pub flipped : ℕ → List ℕ → List ℕ
flipped i [] = []
flipped zero (x ∷ xs) = (1 - x) ∷ xs
flipped (suc i) (x ∷ xs) = x ∷ flipped i xs

-- a byte sent with the bit at place i flipped on the line, and read; nothing where the word has no such place
abbrev pub read_flipped : Form → ℕ → ℕ → Option (ℕ × Bool)
read_flipped f b i = cond (nat_lt i (total_bits f)) (Some (read_of f (flipped i (word_of f b)))) None

-- The laws of words. Above the definitions: what a word is, and that sending and reading fit together.

-- the count of ones, data and parity, is right
abbrev pub Right : Parity → ℕ → Type 0
Right Bare count = Unit {0}
Right Even count = count % 2 ≡ 0
Right Odd count = count % 2 ≡ 1

-- bits are the word of a byte if there are T of them, the first D are the byte's, lowest first,
-- and the count of ones over data and parity is right
pub record IsWord (f : Form) (b : ℕ) (w : List ℕ) : Type 0 where
  pub bits : (i : ℕ) → slice_index w i < 2
  pub whole : length w ≡ total_bits f
  pub lowest_first : (i : ℕ) → i < data_bits f → slice_index w i ≡ b / 2 ^ i % 2
  pub parity_right : Right (parity_of f) (ones_in w)

-- in every form every byte has exactly one word
abbrev pub OneWord : Type 0
OneWord = (f : Form) (b : ℕ) → IsWord f b (word_of f b) × ((w : List ℕ) → IsWord f b w → w ≡ word_of f b)

-- what a word was read as: the data bits are its first D, lowest first, with zeros above them,
-- and the mark is set exactly if the parity is wrong
pub record IsRead (f : Form) (w : List ℕ) (r : ℕ × Bool) : Type 0 where
  pub data_bits_read : (i : ℕ) → i < data_bits f → r.0 / 2 ^ i % 2 ≡ slice_index w i
  pub zeros_above : r.0 < 2 ^ data_bits f
  pub clean_if_right : Right (parity_of f) (ones_in w) → r.1 ≡ false
  pub marked_if_wrong : (Right (parity_of f) (ones_in w) → ⊥) → r.1 ≡ true

-- in every form every T bits are read so
abbrev pub ReadsWords : Type 0
ReadsWords = (f : Form) (w : List ℕ) → length w ≡ total_bits f → ((i : ℕ) → slice_index w i < 2) → IsRead f w (read_of f w)

-- in every form every byte is read back as its data bits, with clean parity
abbrev pub ReadsBack : Type 0
ReadsBack = (f : Form) (b : ℕ) → read_of f (word_of f b) ≡ (kept_of f b, false)

abbrev pub has_parity : Parity → Bool
has_parity Bare = false
has_parity Even = true
has_parity Odd = true

-- one bit flipped on the line, whichever it is, sets the parity mark in a form with parity, and never in a bare form
abbrev pub OneFlipMarks : Type 0
OneFlipMarks = (f : Form) (b i : ℕ) → i < total_bits f → mark_of f (flipped i (word_of f b)) ≡ has_parity (parity_of f)
