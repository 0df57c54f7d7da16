use Rattle.std.proofs.Common.{◌≡◌, ◌*◌, ◌%◌, ◌^◌, sym, ap, ◌∙◌}
use Rattle.std.proofs.lemmas.Nat.{one_shl}
use Rattle.serial.proofs.Bits.{value_bits}
use Rattle.serial.proofs.word.Bits.lowest.Goals as goal

pub returns : goal.returns
returns c =
    let rest : c.args.self.value % (1 * 2 ^ c.args.self.count % 65536) ≡ c.args.self.value % 2 ^ c.args.self.count =
    ap (λ m. c.args.self.value % m) (one_shl c.args.self.count 16 c.args.self.few) in
    record { value = rest ∙ sym (value_bits c.args.self.count c.args.self.value); rest = rest }
