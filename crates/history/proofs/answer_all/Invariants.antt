use Rattle.std.proofs.Common.{◌≡◌, ℕ, ◌<◌, map, vec_items}
use Rattle.std.specs.List.{range_with_len}
use Rattle.history.specs.Law.{history}
use Rattle.history.specs.Answering.{WritesByte, state_at, answer_at}
use Rattle.history.proofs.answer_all.Given as goal

-- so far: the adapter's state and the answers are those of the events passed, and what these wrote were bytes
abbrev pub invariant-loop-event : goal.invariant-loop-event
invariant-loop-event l =
    (l.adapter ≡ state_at (history l.events) l.event-index)
    × (vec_items l.answers ≡ map (answer_at (history l.events)) (range_with_len 0 l.event-index))
    × ((i : ℕ) → i < l.event-index → WritesByte (history l.events i))
