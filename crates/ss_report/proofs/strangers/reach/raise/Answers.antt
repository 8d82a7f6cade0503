use Rattle.std.proofs.Common.{ap, ◌∙◌}
use Rattle.std.specs.Prelude.{max}
use Rattle.ss_report.proofs.of_strangers.RaisedReaches.{raised}
use Rattle.ss_report.proofs.strangers.reach.raise.Goals as goal

pub returns : goal.returns
returns c =
    raised c.args.reaches.now c.insert.new.self (c.args.session, c.args.scale) c.args.end c.max-greatest.result c.in_ok-insert.ensures.updates
    (c.max-greatest.ensures ∙ ap (λ r. max r c.args.end) c.reach.ensures)
