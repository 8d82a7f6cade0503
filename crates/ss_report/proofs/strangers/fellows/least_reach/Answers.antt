use Rattle.std.proofs.Common.{ap, refl, ◌∙◌}
use Rattle.std.specs.List.{list_all}
use Rattle.std.proofs.lemmas.List.{take_all}
use Rattle.ss_report.specs.strangers.Reaches.{at_least, is_below}
use Rattle.ss_report.specs.strangers.Strangers.{has_verified}
use Rattle.ss_report.proofs.of_strangers.LeastReach.{fellow_more, joined_ones}
use Rattle.ss_report.proofs.strangers.fellows.least_reach.Goals as goal

pub loop-fellow-init : goal.loop-fellow-init
loop-fellow-init c = λ refused bs has x. refl

pub loop-fellow-preserved : goal.loop-fellow-preserved
loop-fellow-preserved c = λ refused bs has x.
    ap (is_below x) c.with_fellow-least.ensures
    ∙ fellow_more c.args.reaches.now refused bs has c.args.scale x c.args.named.now c.loop-fellow.fellow-index c.fellow-item.result c.loop-fellow.least c.loop-fellow-test.true c.fellow-item.is
    (c.loop-fellow.invariant refused bs has x)

pub returns : goal.returns
returns c = λ refused bs has x.
    c.loop-fellow.invariant refused bs has x
    ∙ ap (λ ts. list_all (λ t. has_verified refused bs (at_least c.args.scale x) t.session) (joined_ones ts)) (take_all c.loop-fellow.fellow-index c.args.named.now c.loop-fellow-test.false)
