-- Worked examples, written by hand: what is sent, and the bits that must come. Assumes nothing.
use Rattle.std.specs.Prelude.{◌≡◌, ℕ, ◌-◌, List, [], ◌∷◌, map, length, codes}
use Prim.Native.String.{String}
use Rattle.std.specs.List.{AllByRecursion}
use Rattle.serial.specs.declared.word.Form.TheVariants.{SixEven, SixOdd, SevenEven, SevenOdd, EightEven}
use Rattle.serial.specs.declared.example.Sending.{Sending}
use Rattle.serial.specs.declared.example.Sending.TheVariants.{Word, SyncFill, MarkFill}
use Rattle.serial.specs.declared.example.Example.{Example}
use Rattle.serial.specs.Words.{value_of, word_of, sync_fill, mark_fill, handed}

-- the bits on the line
abbrev pub line_of : Sending → List ℕ
line_of (Word f b) = word_of f b
line_of (SyncFill f c) = sync_fill f c
line_of (MarkFill f) = mark_fill f

-- bits written as a text of 0 and 1, the first one on the line first
abbrev pub line : String → List ℕ
line text = map (λ c. c - 48) (codes text)

abbrev shows : Sending → String → Example
shows sending text = record { sending = sending; bits = value_of (line text); count = length (line text) }

abbrev pub examples : List Example
examples =
    shows (Word SevenEven 0x41) "10000010"
    ∷ shows (Word SevenOdd 0x41) "10000011"
    ∷ shows (Word SixOdd 0xff) "1111111"
    ∷ shows (SyncFill SixEven 0x16) "0110100"
    ∷ shows (SyncFill EightEven 0x16) "011010001"
    ∷ shows (MarkFill EightEven) "111111111"
    ∷ []

-- what is sent comes as the example says
abbrev pub Holds : Example → Type 0
Holds e = handed (line_of e.sending) ≡ (e.bits, e.count)

abbrev pub ExamplesHold : Type 0
ExamplesHold = AllByRecursion Holds examples
