-- That the examples hold: what comes by a script is what must come. Assumes nothing.
use Rattle.std.proofs.Common.{◌≡◌, List, [], ◌∷◌, map, refl}
use Rattle.std.specs.List.{AllByRecursion}
use Rattle.serial.specs.Words as words
use Rattle.bench.specs.declared.script.Line.{Line}
use Rattle.bench.specs.declared.script.Line.TheVariants.{Do, Comes}
use Rattle.bench.specs.declared.script.Reading.{Reading}
use Rattle.bench.specs.Bench.{Seen, new_seen, did, looked, Holds}
use Rattle.bench.specs.Table.{Entry, worked, further, ComesRight, WorkedHold, FurtherHold}

-- what comes by a script, reading by reading, and what must come
abbrev came : Seen → List Line → List Reading
came v [] = []
came v (Do a ∷ ls) = came (did v a) ls
came v (Comes r ∷ ls) = looked v r ∷ came v ls

abbrev due : List Line → List Reading
due [] = []
due (Do a ∷ ls) = due ls
due (Comes r ∷ ls) = r ∷ due ls

-- a script where the two are the same holds, line by line
held : (ls : List Line) (v : Seen) → came v ls ≡ due ls → Holds v ls
held [] v h = tt
held (Do a ∷ ls) v h = held ls (did v a) h
held (Comes r ∷ ls) v h = ((cc), held ls v (cc))

-- and so does a list of examples
all_held : (es : List Entry) → map (λ e. came new_seen e.script) es ≡ map (λ e. due e.script) es → AllByRecursion ComesRight es
all_held [] h = tt
all_held (e ∷ es) h = (held e.script new_seen (cc), all_held es (cc))

-- the tables hold
pub worked_hold : WorkedHold
unfolding words.same_bits
worked_hold = record { each = all_held worked refl }

pub further_hold : FurtherHold
unfolding words.same_bits
further_hold = record { each = all_held further refl }
