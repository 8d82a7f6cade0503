use Rattle.std.proofs.Common.{◌∙◌}
use Rattle.ss_between.proofs.Below.{rise, its_tails_fit, its_tails_rise, its_number, no_number_at}
use Rattle.ss_between.proofs.bounds.Bounds.number.Goals as goal

pub number_after-requires : goal.number_after-requires
number_after-requires c =
    let cs = c.self.inside.counters.now in
    let below = c.self.inside.below in
    let found = rw c.as_slice.ensures at c.in-Some.ensures in
    rw c.as_slice-in-Some.ensures
    (its_tails_fit cs below c.self.invariant c.args.session.now c.in-Some.below.now (found (rise cs below c.self.invariant)))

pub returns-in-Some : goal.returns-in-Some
returns-in-Some c =
    let cs = c.self.inside.counters.now in
    let below = c.self.inside.below in
    let s = c.args.session.now in
    let found = rw c.as_slice.ensures at c.in-Some.ensures in
    let there = found (rise cs below c.self.invariant) in
    let number = rw c.as_slice-in-Some.ensures at c.number_after.ensures in
    rw (← c.self.view_is)
    (number (its_tails_rise cs below c.self.invariant s c.in-Some.below.now there) ∙ its_number cs below c.self.invariant s c.in-Some.below.now there c.args.group)

pub returns-in-None : goal.returns-in-None
returns-in-None c =
    let cs = c.self.inside.counters.now in
    let below = c.self.inside.below in
    let found = rw c.as_slice.ensures at c.in-None.ensures in
    rw (← c.self.view_is) (no_number_at cs below c.self.invariant c.args.session.now c.args.group (found (rise cs below c.self.invariant)))
