use Rattle.std.proofs.Common.{◌≡◌, ◌*◌, ◌<◌, ◌≤◌, map, length, take, vec_items}
use Rattle.loopback.specs.Exchange.{row_of, total_of, Within}
use Rattle.serial.specs.Words.{forms}
use Rattle.loopback.proofs.tally.tabulate.Given as goal

-- a row and its part of the total for each form so far
abbrev pub invariant-loop-form : goal.invariant-loop-form
invariant-loop-form l =
    (vec_items l.rows ≡ map (row_of (length l.order)) (take l.form-index forms))
    × (l.total ≡ total_of (length l.order) (take l.form-index forms))
    × Within l.total (4096 * l.form-index)
    × (0 < l.form-index → length l.order ≤ 4096)
