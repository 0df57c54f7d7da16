-- What comes of an order on the line. Assumes nothing.
use Rattle.std.specs.Prelude.{◌≡◌, ℕ, ◌+◌, ◌*◌, ◌<◌, ◌≤◌, cond, List, map, length, Ok, Err, vec_items, fold, Result, nat_le}
use Rattle.serial.specs.declared.word.Form.{Form}
use Rattle.serial.specs.Words.{forms, total_bits, parity_of, has_parity}
use Rattle.loopback.specs.declared.tally.Tally.{Tally}
use Rattle.loopback.specs.declared.tally.Row.{Row}
use Rattle.loopback.specs.declared.tally.Table.{Table}
use Rattle.loopback.specs.declared.tally.Fault.{Fault}
use Rattle.loopback.specs.declared.tally.Fault.TheVariants.{TooLong, NoMemory}

-- n words in a form: all of them are read back clean, and one flipped bit in each is marked
-- in all of them if the form has parity, and in none if it has not
abbrev pub tally_of : Form → ℕ → Tally
tally_of f n = record { words = n; bits = n * total_bits f; clean = n; marked = cond (has_parity (parity_of f)) n 0 }

-- a tally of at most n words
abbrev pub Within : Tally → ℕ → Type 0
Within t n = (t.words ≤ n) × (t.bits ≤ 9 * n) × (t.clean ≤ n) × (t.marked ≤ n)

-- one word more
abbrev pub with_word : Form → Tally → Tally
with_word f t = record {
  words = t.words + 1;
  bits = t.bits + total_bits f;
  clean = t.clean + 1;
  marked = t.marked + cond (has_parity (parity_of f)) 1 0;
}

abbrev pub sum_of : Tally → Tally → Tally
sum_of a b = record { words = a.words + b.words; bits = a.bits + b.bits; clean = a.clean + b.clean; marked = a.marked + b.marked }

-- an order of at most 4,096 bytes comes over the line whole; a longer one is refused
abbrev pub exchanged : Form → List ℕ → Result Tally Fault
exchanged f order = cond (nat_le (length order) 4096) (Ok (tally_of f (length order))) (Err TooLong)

abbrev pub row_of : ℕ → Form → Row
row_of n f = record { form = f; tally = tally_of f n }

-- nothing yet
abbrev pub none : Tally
none = record { words = 0; bits = 0; clean = 0; marked = 0 }

-- the total of n words in each of these forms
abbrev pub total_of : ℕ → List Form → Tally
total_of n fs = fold (λ t f. sum_of t (tally_of f n)) none fs

-- the table of an order of n bytes has a row for each form; there is none exactly if the order is too long or memory is out
abbrev pub Tabled : ℕ → Result Table Fault → Type 0
Tabled n (Ok t) = (n ≤ 4096) × (vec_items t.rows ≡ map (row_of n) forms) × (t.total ≡ total_of n forms)
Tabled n (Err TooLong) = 4096 < n
Tabled n (Err NoMemory) = n ≤ 4096
