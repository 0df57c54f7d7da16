use Rattle.std.proofs.Common.{◌≤◌}
use Rattle.bench.proofs.run_all.Given as goal

-- so far: at most the examples that were run
abbrev pub invariant-loop-example : goal.invariant-loop-example
invariant-loop-example l = l.passed ≤ l.example-index
