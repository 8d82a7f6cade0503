use Rattle.std.proofs.Common.{sym, ap, ◌∙◌}
use Rattle.ss_review.specs.report.Verdict.{is_none}
use Rattle.std.specs.Prelude.{flat_map}
use Rattle.std.proofs.lemmas.List.{take_all}
use Rattle.ss_report.specs.lines.Front.{session_places}
use Rattle.ss_report.proofs.of_reports.FirstFound.{all_none_more, some_of_all}
use Rattle.ss_report.proofs.lines.front.lists_none.Goals as goal

pub returns-then-not-groups_list_none : goal.returns-then-not-groups_list_none
returns-then-not-groups_list_none c =
    sym (some_of_all session_places c.args.sessions.now c.loop-session.session-index _ c.loop-session-test.true
    (rw (c.as_slice.ensures, c.session-item.is) at (sym c.groups_list_none.ensures ∙ c.if-not-groups_list_none.true)))

pub loop-session-preserved : goal.loop-session-preserved
loop-session-preserved c =
    all_none_more session_places c.args.sessions.now c.loop-session.session-index _ c.loop-session-test.true c.loop-session.invariant
    (rw (c.as_slice.ensures, c.session-item.is) at (sym c.groups_list_none.ensures ∙ c.if-not-groups_list_none.false))

pub returns : goal.returns
returns c =
    sym (ap is_none (sym (ap (flat_map session_places) (take_all c.loop-session.session-index c.args.sessions.now c.loop-session-test.false)) ∙ c.loop-session.invariant))
