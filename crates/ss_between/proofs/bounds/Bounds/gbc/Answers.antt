use Rattle.std.proofs.Common.{◌∙◌}
use Rattle.ss_between.proofs.Below.{rise, its_runs_fit, its_gbc, no_gbc_at}
use Rattle.ss_between.proofs.bounds.Bounds.gbc.Goals as goal

pub gbc_after-requires : goal.gbc_after-requires
gbc_after-requires c =
    let cs = c.self.inside.counters.now in
    let below = c.self.inside.below in
    let found = rw c.as_slice.ensures at c.in-Some.ensures in
    rw c.as_slice-in-Some.ensures
    (its_runs_fit cs below c.self.invariant c.args.session.now c.in-Some.below.now (found (rise cs below c.self.invariant)))

pub returns-in-Some : goal.returns-in-Some
returns-in-Some c =
    let cs = c.self.inside.counters.now in
    let below = c.self.inside.below in
    let found = rw c.as_slice.ensures at c.in-Some.ensures in
    let there = found (rise cs below c.self.invariant) in
    rw (← c.self.view_is)
    (rw c.as_slice-in-Some.ensures at c.gbc_after.ensures ∙ its_gbc cs below c.self.invariant c.args.session.now c.in-Some.below.now there)

pub returns-in-None : goal.returns-in-None
returns-in-None c =
    let cs = c.self.inside.counters.now in
    let below = c.self.inside.below in
    let found = rw c.as_slice.ensures at c.in-None.ensures in
    rw (← c.self.view_is) (no_gbc_at cs below c.self.invariant c.args.session.now (found (rise cs below c.self.invariant)))
