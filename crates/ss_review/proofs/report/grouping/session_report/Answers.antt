use Rattle.std.proofs.Common.{◌≡◌, sym, ap, ◌∙◌, subst}
use Rattle.ss_review.specs.report.Grouped.{GroupsRise, numbers_of_session, groups_told}
use Rattle.ss_review.proofs.of_reports.GroupsTold.{own_groups_rise, numbers_stand, groups_are}
use Rattle.ss_review.proofs.report.grouping.session_report.Goals as goal

pub returns : goal.returns
returns c = λ ms rs e.
    let s = c.args.session.now.session in
    let ns = c.args.numbers.now in
    let stand = numbers_stand ms rs ns e in
    let own : c.numbers_of_session-own.result.now ≡ numbers_of_session s ns = c.numbers_of_session-own.ensures stand in
    let told = c.in_ok-group_reports.ensures (subst GroupsRise (sym own) (own_groups_rise s ns stand)) ∙ ap groups_told own ∙ groups_are ms rs s ns e in
    λ i. record { session = c.in_ok-try_clone.ensures i; state = c.state_in.ensures i; groups = told i }
