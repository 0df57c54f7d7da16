use Rattle.std.proofs.Common.{ap, ◌∙◌, arith}
use lib.Bits.{bit_xor}
use Rattle.std.proofs.lemmas.Nat.{one_shl}
use Rattle.serial.specs.Words.{bits_of, total_bits, flipped}
use Rattle.serial.proofs.Bits.{bits_xor}
use Rattle.serial.proofs.Laws.{total_within, one_flip_marks}
use Rattle.serial.proofs.word.Form.send_flipped.Goals as goal

pub returns : goal.returns
returns c =
    let f = c.args.self in
    let i = c.args.place in
    record {
      word =
          ap (λ m. bits_of (total_bits f) (bit_xor c.send.result m)) (one_shl i 16 (omega (arith, total_within f)))
          ∙ bits_xor (total_bits f) c.send.result i c.requires
          ∙ ap (flipped i) c.send.ensures.word;
      one_flip_marks = one_flip_marks;
    }
