use Rattle.std.proofs.Common.{sym, ◌∙◌}
use Rattle.ss_report.proofs.of_strangers.Suspects.{suspected}
use Rattle.ss_report.proofs.strangers.suspects.suspect_at.Goals as goal

pub returns-in-None : goal.returns-in-None
returns-in-None c = λ bs up has knows.
    let found = c.in_ok-suspicion_of.ensures bs up has knows in
    let refused = sym ((rw c.as_slice.ensures at c.is_verified.ensures) up.refused) ∙ c.if-is_verified.false in
    (found.0, suspected bs c.args.report.now c.args.block.now _ refused (sym c.in-None.is ∙ found.1))

pub returns-in-Some : goal.returns-in-Some
returns-in-Some c = λ bs up has knows.
    let found = c.in_ok-suspicion_of.ensures bs up has knows in
    let refused = sym ((rw c.as_slice.ensures at c.is_verified.ensures) up.refused) ∙ c.if-is_verified.false in
    (found.0, suspected bs c.args.report.now c.args.block.now _ refused (sym c.in-Some.is ∙ found.1))
