use Rattle.std.proofs.Common.{map, ap, ◌∙◌}
use Rattle.std.proofs.lemmas.List.{take_all}
use Rattle.ss_review.specs.announced.Numbered.{session_with_joined}
use Rattle.ss_review.specs.report.Grouped.{session_told}
use Rattle.ss_review.proofs.of_reports.GroupsTold.{sessions_are}
use Rattle.ss_review.proofs.report.grouping.session_reports.Goals as goal

pub returns : goal.returns
returns c = λ says log rs announced sessions numbers.
    let js = c.args.joined.now in
    c.from_vec.ensures
    ∙ c.loop-session.invariant log.normal rs numbers
    ∙ ap (map (λ s. session_told log.normal rs (session_with_joined s))) (take_all c.loop-session.session-index js c.loop-session-test.false)
    ∙ sessions_are says log rs js sessions
