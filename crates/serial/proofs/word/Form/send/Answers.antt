use Rattle.std.proofs.Common.{ap, ◌∙◌}
use Rattle.serial.specs.Words.{bits_of, total_bits}
use Rattle.serial.proofs.Laws.{word_handed, one_word, reads_words, reads_back}
use Rattle.serial.proofs.word.Form.send.Goals as goal

pub returns : goal.returns
returns c =
    record {
      word = ap (λ p. bits_of (total_bits c.args.self) p.0) c.pack-word.ensures ∙ word_handed c.args.self c.args.byte;
      one_word = one_word;
      reads_words = reads_words;
      reads_back = reads_back;
    }
