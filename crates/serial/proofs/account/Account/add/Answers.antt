use Rattle.std.proofs.Common.{arith}
use Rattle.serial.proofs.Accounting.{left_within, within_more, one_within, three_within}
use Rattle.serial.proofs.account.Account.add.Goals as goal

-- two counts raised every bound by at most six
pub count-requires-3 : goal.count-requires-3
count-requires-3 c =
    let slip = c.args.slip.now in
    let once = left_within c.args.self.now c.count.new.self c.fate.result c.how_many.result 600000 c.requires (omega (arith, c.how_many.ensures, three_within slip.received)) c.count.ensures in
    let twice = left_within c.count.new.self c.count-2.new.self c.fate-2.result c.how_many-2.result 600003 once (omega (arith, c.how_many-2.ensures, three_within slip.queued)) c.count-2.ensures in
    (within_more c.count-2.new.self 600006 1000000 twice (omega arith), omega (arith, c.one_or_none.ensures, one_within slip.shifted))
