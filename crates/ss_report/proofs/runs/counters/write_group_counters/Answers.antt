use Rattle.std.proofs.Common.{◌≡◌, ◌≤◌, ◌<◌, ◌^◌, ap, ◌∙◌, arith, get_or}
use Rattle.std.proofs.lemmas.List.Elements.{All-get_or}
use Rattle.ss_block.specs.Ranges.{past_last_number}
use Rattle.ss_review.specs.declared.report.group_report.GroupReport.{GroupReport}
use Rattle.ss_review.specs.counted.Counted.{next_number}
use Rattle.ss_report.specs.runs.Counters.{group_counter, message_counter}
use Rattle.ss_report.proofs.of_writing.Writings.{writes_more}
use Rattle.ss_report.proofs.runs.counters.write_group_counters.Goals as goal

pub loop-group-preserved : goal.loop-group-preserved
loop-group-preserved g c =
    let session = c.args.session.now in
    let notation = c.args.notation in
    let groups = c.args.groups.now in
    let i = c.loop-group.group-index in
    let group = c.group-item.result in
    let at = c.group-item.is in
    let within : next_number (get_or groups i group) ≤ past_last_number
    = All-get_or (λ (r : GroupReport). next_number r ≤ past_last_number) groups i group c.loop-group-test.true c.requires in
    let same : next_number group ≡ next_number (get_or groups i group) = ap next_number at in
    let small : next_number group < 2 ^ 64 = omega (arith, within, same) in
    writes_more (group_counter notation session) groups i group _ _ _ _ c.loop-group-test.true c.loop-group.invariant c.write_message_counter.ensures
    (ap (message_counter notation session group.group) (c.next_number.ensures small) ∙ ap (group_counter notation session) at)
