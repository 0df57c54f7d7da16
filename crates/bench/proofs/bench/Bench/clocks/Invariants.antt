use Rattle.std.proofs.Common.{◌≡◌, ◌≤◌}
use Rattle.bench.specs.Bench.{clocks}
use Rattle.bench.proofs.bench.Bench.clocks.Given as goal

-- so far: these clocks were given, and at most eight bits are counted
abbrev pub invariant-loop-turn : goal.invariant-loop-turn
invariant-loop-turn l = (l.self ≡ clocks l.initial.self l._turn) × (l.self.state.front.receiver.count ≤ 8)
