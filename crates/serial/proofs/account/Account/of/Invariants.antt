use Rattle.std.proofs.Common.{◌≡◌, ◌*◌, take}
use Rattle.serial.specs.Accounts.{account_of, Within}
use Rattle.serial.proofs.account.Account.of.Given as goal

-- so far the account of the slips passed, at most nine of each
abbrev pub invariant-loop-slip : goal.invariant-loop-slip
invariant-loop-slip l = (l.total ≡ account_of (take l.slip-index l.slips)) × Within l.total (9 * l.slip-index)
