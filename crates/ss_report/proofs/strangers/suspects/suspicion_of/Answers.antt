use Rattle.std.proofs.Common.{sym, ◌∙◌}
use Rattle.ss_report.proofs.of_strangers.Suspects.{late, unsuspected}
use Rattle.ss_report.proofs.strangers.suspects.suspicion_of.Goals as goal

pub returns-then-branch : goal.returns-then-branch
returns-then-branch c = λ bs up has knows.
    let r = c.args.report.now in
    let b = c.args.block.now in
    let named = (rw c.as_slice.ensures at c.of_names-named.ensures) up.sessions in
    let found = c.in_ok-is_reached.ensures r.refused bs r.sessions b.session has knows named in
    (found.0, unsuspected bs r b (sym (c.is_joined_in.ensures up) ∙ c.if-not-is_joined_in.false) (sym found.1 ∙ c.if-branch.true))

pub returns-else-branch : goal.returns-else-branch
returns-else-branch c = λ bs up has knows.
    let r = c.args.report.now in
    let b = c.args.block.now in
    let named = (rw c.as_slice.ensures at c.of_names-named.ensures) up.sessions in
    let found = c.in_ok-is_reached.ensures r.refused bs r.sessions b.session has knows named in
    (found.0, late bs r b (sym (c.is_joined_in.ensures up) ∙ c.if-not-is_joined_in.false) (sym found.1 ∙ c.if-branch.false))
