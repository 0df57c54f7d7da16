use Rattle.history.proofs.conclude.Goals as goal

-- the question's answer is lawful with the answers
pub returns : goal.returns
returns c =
    let h = c.requires.answered in
    let q = h.1 c.question.result c.question.ensures.standing in
    record { run = (h.0, q.0, q.1) }
