use Rattle.std.proofs.Common.{inl, refl}
use Rattle.ss_journal.specs.Law.{begin}
use Rattle.ss_journal.proofs.Lives.{at_begin, run_right, run_has, run_adds}
use Rattle.ss_journal.proofs.laws.lives.confirmed_stays.Goals as goal

pub returns-clause-stays : goal.returns-clause-stays
returns-clause-stays c es fs w v first then =
    let h = run_right begin es w at_begin first in
    run_has w fs v w.file w.confirmed h then (inl (refl, h.confirmed))

pub returns-clause-closed : goal.returns-clause-closed
returns-clause-closed c es fs w v first then = run_adds w fs v then
