use Rattle.std.proofs.Common.{◌≡◌, ◌+◌, ◌-◌, ◌∷◌, [], ◌++◌, length, take, drop, sym, ap, ◌∙◌, arith}
use Rattle.std.proofs.lemmas.List.{append_assoc, append-nil, length-drop, drop_all, take_rest}
use Rattle.std.specs.List.{take_while}
use Rattle.ss_review.specs.Ordered.{in_order}
use Rattle.ss_review.specs.report.Entries.{same_group}
use Rattle.ss_review.specs.report.Grouped.{groups_told}
use Rattle.ss_review.proofs.of_reports.GroupsTold.{groups_more}
use Rattle.ss_review.proofs.report.grouping.group_reports.Goals as goal

pub loop-start-preserved : goal.loop-start-preserved
loop-start-preserved c =
    let ns = c.args.numbers.now in
    let start = c.loop-start.start in
    let count = c.count_of_group.result in
    let first = c.index-numbers-start.result in
    let end = start + 1 + count in
    let so_far = c.loop-start.groups.items in
    let rest = groups_told (drop end ns) in
    let others : take (length ns - (start + 1)) (drop (start + 1) ns) ≡ drop (start + 1) ns = take_rest ns (start + 1) in (
      omega (arith, c.count_of_group.ensures.bound, ap length others, length-drop (start + 1) ns, c.loop-start-test.true),
      λ up.
          ap (λ groups. groups ++ rest) c.in_ok-push.ensures.items
          ∙ append_assoc so_far (c.in_ok-group_report.field-0 ∷ []) rest
          ∙ ap (λ g. so_far ++ g ∷ rest) c.in_ok-group_report.ensures
          ∙ ap (λ groups. so_far ++ groups) (sym (groups_more ns start count end first up c.loop-start-test.true c.index-numbers-start.is (c.count_of_group.ensures.count ∙ ap (λ ms. length (take_while (λ m. same_group m.number.group first.number.group) ms)) others) (λ _. end)))
          ∙ c.loop-start.invariant.1 up,
    )

pub returns : goal.returns
unfolding in_order
returns c = λ up.
    let ns = c.args.numbers.now in
    c.from_vec.ensures
    ∙ sym (append-nil c.loop-start.groups.items)
    ∙ ap (λ rest. c.loop-start.groups.items ++ groups_told rest) (sym (drop_all c.loop-start.start ns c.loop-start-test.false))
    ∙ c.loop-start.invariant.1 up
