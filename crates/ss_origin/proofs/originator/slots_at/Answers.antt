use Rattle.ss_origin.proofs.originator.slots_at.Goals as goal

pub returns-clause-slots : goal.returns-clause-slots
returns-clause-slots c = rw c.as_slice.ensures at c.in_ok-slots.ensures
