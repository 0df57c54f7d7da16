use Rattle.std.proofs.Common.{◌≡◌}
use Rattle.loopback.specs.Exchange.{tally_of}
use Rattle.loopback.proofs.tally.exchange.Given as goal

-- so far as many words as bytes were passed
abbrev pub invariant-loop-i : goal.invariant-loop-i
invariant-loop-i l = l.tally ≡ tally_of l.form l.i
