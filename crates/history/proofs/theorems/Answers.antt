use Rattle.history.proofs.OnePhase.{one_phase}
use Rattle.history.proofs.OneState.{one_state}
use Rattle.history.proofs.Pinning.{pinned}
use Rattle.history.proofs.ReceivedFates.{received_one_fate, delivered_rising}
use Rattle.history.proofs.Replaying.{interrupt_shown_lem, lines_tied_lem}
use Rattle.history.proofs.WrittenFates.{written_one_fate, sent_rising}
use Rattle.history.proofs.theorems.Goals as goal

pub returns-clause-settled : goal.returns-clause-settled
returns-clause-settled c = λ E k. record {
  one_phase = one_phase E k;
  one_state = one_state E k;
  received_fates = received_one_fate E k;
  delivered_rise = delivered_rising E;
  written_fates = written_one_fate E k;
  sent_rise = sent_rising E;
}

pub returns-clause-pinned : goal.returns-clause-pinned
returns-clause-pinned c = pinned

pub returns-clause-shown : goal.returns-clause-shown
returns-clause-shown c = interrupt_shown_lem

pub returns-clause-tied : goal.returns-clause-tied
returns-clause-tied c = lines_tied_lem
