use Rattle.std.proofs.Common.{eqb, sym, ◌∙◌, ap₂}
use Rattle.serial.proofs.Bits.{same_bits_lem}
use Rattle.serial.proofs.word.same_lowest.Goals as goal

pub returns : goal.returns
returns c =
    ap₂ eqb c.lowest.ensures.rest c.lowest-2.ensures.rest ∙ sym (same_bits_lem c.args.count c.args.a c.args.b)
