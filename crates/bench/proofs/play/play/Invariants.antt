use Rattle.std.proofs.Common.{◌≡◌, [], take, fold, vec_items}
use Rattle.bench.specs.Bench.{noted, new_seen}
use Rattle.bench.proofs.play.play.Given as goal

-- so far: the lines passed were followed
abbrev pub invariant-loop-line : goal.invariant-loop-line
invariant-loop-line l = record { seen = l.bench; checks = vec_items l.checks } ≡ fold noted (record { seen = new_seen; checks = [] }) (take l.line-index l.lines)
