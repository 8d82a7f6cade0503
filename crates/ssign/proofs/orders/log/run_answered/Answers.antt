use Rattle.ssign.proofs.orders.log.run_answered.Goals as goal

pub returns-in-Some-clause-done : goal.returns-in-Some-clause-done
returns-in-Some-clause-done g c =
    rw c.in-Some.is (rw (c.items_of.ensures, c.items_of-2.ensures, c.items_of-3.ensures) at c.run_task.ensures.done)

pub returns-in-Some-clause-stopped : goal.returns-in-Some-clause-stopped
returns-in-Some-clause-stopped g c =
    rw c.in-Some.is (rw (c.items_of.ensures, c.items_of-2.ensures, c.items_of-3.ensures) at c.run_task.ensures.stopped)
