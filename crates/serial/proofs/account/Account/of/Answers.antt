use Rattle.std.proofs.Common.{◌+◌, ◌*◌, get_or, sym, ap, ◌∙◌, subst, arith}
use Rattle.std.proofs.lemmas.List.Sums.{fold_more}
use Rattle.serial.specs.declared.account.Account.{Account}
use Rattle.serial.specs.Accounts.{none_yet, with_slip, Within}
use Rattle.serial.specs.Slips.{quiet_slip}
use Rattle.serial.proofs.Accounting.{slip_within, within_more}
use Rattle.serial.proofs.account.Account.of.Goals as goal

pub loop-slip-preserved : goal.loop-slip-preserved
loop-slip-preserved c =
    let slips = c.args.slips.now in
    let i = c.loop-slip.slip-index in
    let slip = get_or slips i quiet_slip in
    let bound : Within (with_slip c.loop-slip.total slip) (9 * (i + 1)) =
    within_more (with_slip c.loop-slip.total slip) (9 * i + 3 + 3 + 3) (9 * (i + 1)) (slip_within c.loop-slip.total slip (9 * i) c.loop-slip.invariant.1) (omega arith) in (
      c.add.ensures ∙ ap (λ a. with_slip a slip) c.loop-slip.invariant.0 ∙ sym (fold_more with_slip none_yet slips i quiet_slip (omega arith)),
      subst (λ (a : Account). Within a (9 * (i + 1))) (sym c.add.ensures) bound,
    )
