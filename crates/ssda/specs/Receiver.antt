-- The receiver: phases, counting and framing. No queue stands in its type. Assumes nothing.
use Rattle.std.specs.Prelude.{ℕ, ◌+◌, ◌-◌, ◌*◌, ◌/◌, ◌^◌, Bool, true, false, cond, ◌||◌, List, Some, None, Option, nat_le}
use Rattle.serial.specs.declared.word.Form.{Form}
use Rattle.serial.specs.Words.{total_bits, bits_of, read_of, matches}
use Rattle.ssda.specs.declared.receiver.Character.{Character}
use Rattle.ssda.specs.declared.receiver.LineEvent.{LineEvent}
use Rattle.ssda.specs.declared.receiver.LineEvent.TheVariants.{Bit, Restart}
use Rattle.ssda.specs.declared.receiver.Phase.{Phase}
use Rattle.ssda.specs.declared.receiver.Phase.TheVariants.{Search, Second, InSync}
use Rattle.ssda.specs.declared.receiver.Receiver.{Receiver}
use Rattle.ssda.specs.declared.receiver.Turn.{Turn}

abbrev pub character_number : Character → ℕ
character_number c = c.number

-- a character is made of its form and its bits
abbrev pub character_of : ℕ → Form → List ℕ → Character
character_of n f w = record { number = n; byte = (read_of f w).0; mark = (read_of f w).1 }

-- as in a new adapter
abbrev pub new_receiver : Receiver
new_receiver = record { phase = Search; count = 0; window = 511; matched = false; framed = 0 }

abbrev pub to : Phase → ℕ → Bool → Bool → Turn
to p n m f = record { phase = p; count = n; matched = m; framed = f }

-- The phase, what happens and the match together decide; n bits are counted so far.
abbrev pub turn_of : Phase → LineEvent → Bool → Bool → ℕ → Turn
turn_of p (Restart true) m one n = to InSync 0 false false
turn_of p (Restart false) m one n = to Search 0 false false
turn_of Search (Bit e) false one n = to Search n false false
turn_of Search (Bit e) true one n = cond one (to InSync 0 true false) (to Second 0 true false)
turn_of Second (Bit false) m one n = to Second (n + 1) false false
turn_of Second (Bit true) false one n = to Search 0 false false
turn_of Second (Bit true) true one n = to InSync 0 true false
turn_of InSync (Bit false) m one n = to InSync (n + 1) false false
turn_of InSync (Bit true) m one n = to InSync 0 m true

abbrev pub followed : Receiver → Turn → Receiver
followed r t = record { phase = t.phase; count = t.count; window = r.window; matched = t.matched; framed = r.framed }

abbrev pub with_window : Receiver → ℕ → Receiver
with_window r w = record { phase = r.phase; count = r.count; window = w; matched = r.matched; framed = r.framed }

-- a bit as a number
abbrev pub bit_value : Bool → ℕ
bit_value b = cond b 1 0

-- the newest of nine bits is the highest
abbrev pub slid : Receiver → ℕ → Receiver
slid r b = with_window r (r.window / 2 + b * 256)

abbrev pub ones_window : Receiver → Receiver
ones_window r = with_window r 511

-- the last T bits after bit b, as a number and as bits, oldest first
abbrev pub last_word : Receiver → ℕ → Form → ℕ
last_word r b f = (slid r b).window / 2 ^ (9 - total_bits f)

abbrev pub last_bits : Receiver → ℕ → Form → List ℕ
last_bits r b f = bits_of (total_bits f) (last_word r b f)

-- what bit b leads to in form f with sync code c
abbrev pub turn_at : Receiver → ℕ → Form → ℕ → Bool → Turn
turn_at r b f c one = turn_of r.phase (Bit (nat_le (total_bits f) (r.count + 1))) (matches f c (last_bits r b f)) one r.count

abbrev pub with_framed : Receiver → ℕ → Receiver
with_framed r n = record { phase = r.phase; count = r.count; window = r.window; matched = r.matched; framed = n }

-- the receiver after bit b
abbrev pub heard : Receiver → ℕ → Form → ℕ → Bool → Receiver
heard r b f c one = with_framed (followed (slid r b) (turn_at r b f c one)) (r.framed + cond (turn_at r b f c one).framed 1 0)

-- the character that bit b frames, if it frames one
abbrev pub framed_by : Receiver → ℕ → Form → ℕ → Bool → Option Character
framed_by r b f c one = cond (turn_at r b f c one).framed (Some (character_of (r.framed + 1) f (last_bits r b f))) None

-- a restart
abbrev pub restarted : Receiver → Bool → Receiver
restarted r external = followed (ones_window r) (turn_of r.phase (Restart external) false false 0)

abbrev pub unmatched : Receiver → Receiver
unmatched r = record { phase = r.phase; count = r.count; window = r.window; matched = false; framed = r.framed }

-- after a new setting: off, the match no longer shows; it restarts when it stops being off, and when external changes while it is on
abbrev pub settled : Receiver → Bool → Bool → Bool → Bool → Receiver
settled r was_off is_off changed external = cond is_off (unmatched r) (cond (was_off || changed) (restarted r external) r)
