use Rattle.std.proofs.Common.{◌≡◌, ◌*◌, ◌%◌, ◌^◌, cond, ◌∙◌, ap₂, arith, rules}
use lib.Bits.{bit_or}
use Rattle.serial.proofs.Bits.{value_with, below_two}
use Rattle.serial.proofs.word.Bits.append.Goals as goal

pub returns : goal.returns
returns c =
    let bit : c.from.result ≡ cond c.args.bit 1 0 = search rules in
    ap₂ (λ low x. bit_or low (x * 2 ^ c.args.self.count % 65536)) c.lowest.ensures.rest bit
    ∙ value_with c.args.self.count c.args.self.value (cond c.args.bit 1 0) (omega (arith, c.requires)) (below_two c.args.bit)
