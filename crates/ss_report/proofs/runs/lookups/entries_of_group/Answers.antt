use Rattle.std.proofs.Common.{rules, List, get_or, ap, ◌∙◌}
use Rattle.std.specs.List.Sorted.{IsStrictlySortedBy}
use Rattle.std.proofs.lemmas.Fn.{always_returns_same}
use Rattle.ss_block.specs.Order.{group_cmp}
use Rattle.ss_review.specs.declared.report.group_report.GroupReport.{GroupReport}
use Rattle.ss_report.proofs.of_carrying.ToldSessions.{group_told, group_nowhere}
use Rattle.ss_report.proofs.runs.lookups.entries_of_group.Goals as goal

pub returns-in-Ok-clause-told : goal.returns-in-Ok-clause-told
returns-in-Ok-clause-told c =
    let t = c.args.reported.now in
    let g = c.args.group in
    let i = c.in-Ok.index in
    let d = c.index-groups-index.result in
    let same = c.as_slice-groups.ensures in
    let tie = c.in-Ok.ensures.position (λ (h : GroupReport). group_cmp h.group g) (always_returns_same _ _ _ (λ a r q k. search rules)) d in
    c.as_slice.ensures
    ∙ ap (λ (hs : List GroupReport). (get_or hs i d).entries) same
    ∙ group_told t g c.requires i d (rw same at c.in-Ok.ensures.bound) (rw same at tie)

pub returns-in-Err-clause-told : goal.returns-in-Err-clause-told
returns-in-Err-clause-told c =
    let g = c.args.group in
    group_nowhere c.args.reported.now g c.requires c.in-Err.field-0
    (rw c.as_slice-groups.ensures at (c.in-Err.ensures.position (λ (h : GroupReport). group_cmp h.group g) (always_returns_same _ _ _ (λ a r q k. search rules))))

pub returns-in-Err-clause-rising : goal.returns-in-Err-clause-rising
unfolding IsStrictlySortedBy
returns-in-Err-clause-rising c = tt
