use Rattle.std.proofs.Common.{vec_items, subst, below_more, arith}
use Rattle.history.specs.Law.{history}
use Rattle.history.specs.Answering.{WritesByte}
use Rattle.std.proofs.lemmas.List.{get_or_default}
use Rattle.serial.specs.declared.event.Event.TheVariants.{ReceivedBit}
use Rattle.history.proofs.Replaying.{state_more, answers_more, all_answered, bytes_of}
use Rattle.history.proofs.answer_all.Goals as goal

-- the event that the loop reads is the history's
pub loop-event-preserved : goal.loop-event-preserved
loop-event-preserved c =
    let es = c.args.events.now in
    let k = c.loop-event.event-index in
    let here = get_or_default es k _ (ReceivedBit 2) c.loop-event-test.true in
    let inv = c.loop-event.invariant in (
      state_more es k _ c.loop-event.adapter here inv.0 c.hand.new.adapter c.hand.ensures.state,
      answers_more es k _ c.loop-event.adapter here inv.0 c.hand.result (vec_items c.loop-event.answers) (vec_items c.push.new.self) c.hand.ensures.answer inv.1 c.in_ok-push.ensures.items,
      below_more (λ i. WritesByte (history es i)) k inv.2 (subst WritesByte here c.hand.ensures.byte),
    )

pub returns : goal.returns
returns c = record { answers = all_answered c.args.events.now (bytes_of c.args.events.now c.loop-event.event-index (omega arith) c.loop-event.invariant.2) c.loop-event.event-index c.loop-event.adapter (vec_items c.loop-event.answers) (omega arith) c.loop-event.invariant.0 c.loop-event.invariant.1 }
