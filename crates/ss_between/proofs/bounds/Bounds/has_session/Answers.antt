use Rattle.std.proofs.Common.{◌∙◌}
use Rattle.ss_between.proofs.Below.{rise, told}
use Rattle.ss_between.proofs.bounds.Bounds.has_session.Goals as goal

pub returns : goal.returns
returns c =
    let s = c.args.session.now in
    let cs = c.self.inside.counters.now in
    let below = c.self.inside.below in
    let found = rw c.as_slice.ensures at c.below_of.ensures in
    rw (← c.self.view_is)
    (c.is_some.ensures ∙ told cs below c.self.invariant c.below_of.result s (found (rise cs below c.self.invariant)))
