use Rattle.std.proofs.Common.{sym, ap, ◌∙◌}
use Rattle.ss_review.specs.report.Verdict.{is_none}
use Rattle.std.specs.Prelude.{flat_map}
use Rattle.std.proofs.lemmas.List.{take_all}
use Rattle.ss_report.specs.lines.Front.{group_places}
use Rattle.ss_report.proofs.of_reports.FirstFound.{all_none_more, some_of_all}
use Rattle.ss_report.proofs.lines.front.groups_list_none.Goals as goal

pub returns-then-not-entries_list_none : goal.returns-then-not-entries_list_none
returns-then-not-entries_list_none c =
    sym (some_of_all group_places c.args.groups.now c.loop-group.group-index _ c.loop-group-test.true
    (rw (c.as_slice.ensures, c.group-item.is) at (sym c.entries_list_none.ensures ∙ c.if-not-entries_list_none.true)))

pub loop-group-preserved : goal.loop-group-preserved
loop-group-preserved c =
    all_none_more group_places c.args.groups.now c.loop-group.group-index _ c.loop-group-test.true c.loop-group.invariant
    (rw (c.as_slice.ensures, c.group-item.is) at (sym c.entries_list_none.ensures ∙ c.if-not-entries_list_none.false))

pub returns : goal.returns
returns c =
    sym (ap is_none (sym (ap (flat_map group_places) (take_all c.loop-group.group-index c.args.groups.now c.loop-group-test.false)) ∙ c.loop-group.invariant))
