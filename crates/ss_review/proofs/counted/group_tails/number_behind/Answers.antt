use Rattle.std.proofs.Common.{rules, sym, ap, arith}
use Rattle.std.proofs.lemmas.Fn.{always_returns_same}
use Rattle.ss_block.specs.Order.{group_cmp}
use Rattle.ss_review.specs.declared.report.group_report.GroupReport.{GroupReport}
use Rattle.ss_review.specs.counted.Counted.{next_number}
use Rattle.ss_review.proofs.of_counters.KeptNumbers.{next_within, behind_found, behind_none}
use Rattle.ss_review.proofs.counted.group_tails.number_behind.Goals as goal

pub returns-in-Ok : goal.returns-in-Ok
returns-in-Ok c = λ are.
    let gs = c.args.groups.now in
    let d = c.index-groups-index.result in
    let i = c.in-Ok.index in
    let tie = c.in-Ok.ensures.position (λ (g : GroupReport). group_cmp g.group c.args.group) (always_returns_same _ _ _ (λ a r q k. search rules)) d in
    let found = behind_found gs are c.args.group i d c.in-Ok.ensures.bound tie in
    let here = ap next_number c.index-groups-index.is in
    let small = next_within gs are i d c.in-Ok.ensures.bound in
    omega (arith, c.max.ensures, c.next_number.ensures (omega (arith, small, here)), here, found)

pub returns-in-Err : goal.returns-in-Err
returns-in-Err c = λ are.
    sym (behind_none c.args.groups.now are c.args.group c.in-Err.field-0 (c.in-Err.ensures.position (λ (g : GroupReport). group_cmp g.group c.args.group) (always_returns_same _ _ _ (λ a r q k. search rules))))
