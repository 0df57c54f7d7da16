use Rattle.std.proofs.Common.{get_or, vec_items, arith}
use Rattle.std.proofs.lemmas.List.{get_or_default}
use Rattle.serial.specs.declared.life.Move.TheVariants.{Enter, Nothing}
use Rattle.serial.proofs.Moves.{queue_more, entered_more, told_more, one_at_most}
use Rattle.serial.proofs.life.live.Goals as goal

pub loop-step-preserved : goal.loop-step-preserved
loop-step-preserved c =
    let ms = c.args.moves.now in
    let k = c.loop-step.step-index in
    let x = get_or ms k Enter in
    let e = c.loop-step.entered in
    let q = c.loop-step.queue in
    let here = get_or_default ms k Enter Nothing c.loop-step-test.true in
    let inv = c.loop-step.invariant in (
      queue_more ms k x e q here inv.1 inv.0 c.carry_out.new.queue c.carry_out.ensures.queue,
      entered_more ms k x e q here inv.1 inv.0 c.enters_one-entered.result c.enters_one-entered.ensures,
      told_more ms k x e q here inv.1 inv.0 c.carry_out.result (vec_items c.loop-step.told) (vec_items c.push.new.self) c.carry_out.ensures.told inv.2 c.in_ok-push.ensures.items,
      omega (arith, one_at_most x, c.enters_one-entered.ensures),
    )
