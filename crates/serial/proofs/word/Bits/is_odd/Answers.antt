use Rattle.std.proofs.Common.{◌%◌, eqb, sym, ap, ◌∙◌}
use lib.Count.{ones}
use Rattle.serial.proofs.Bits.{ones_bits}
use Rattle.serial.proofs.word.Bits.is_odd.Goals as goal

pub returns : goal.returns
returns c = ap (λ n. eqb (n % 2) 1) (ap ones c.lowest.ensures.rest ∙ sym (ones_bits c.args.self.count c.args.self.value))
