use Rattle.std.proofs.Common.{rules}
use Rattle.serial.proofs.Accounting.{counts_fields, any_order, joins}
use Rattle.serial.proofs.account.Account.none.Goals as goal

pub returns : goal.returns
returns c = record { account = search rules; counts_fields = counts_fields; any_order = any_order; joins = joins }
