use Rattle.std.proofs.Common.{◌≡◌, ◌≤◌, ◌<◌, ◌^◌, ◌++◌, List, flat_map, ap, ◌∙◌, subst, sym, arith}
use Rattle.std.specs.Prelude.{All}
use Rattle.ss_block.specs.Ranges.{past_last_number}
use Rattle.ss_review.specs.declared.report.group_report.GroupReport.{GroupReport}
use Rattle.ss_review.specs.counted.Counted.{next_after, next_number}
use Rattle.ss_report.specs.runs.Counters.{block_counter, group_counter}
use Rattle.ss_report.proofs.of_writing.Writings.{writes_then, writes_same}
use Rattle.ss_report.proofs.runs.counters.write_session_counters.Goals as goal

pub write_group_counters-requires : goal.write_group_counters-requires
write_group_counters-requires g c =
    subst (λ (gs : List GroupReport). All (λ r. next_number r ≤ past_last_number) gs) (sym c.as_slice-2.ensures) c.requires.numbers

pub returns : goal.returns
returns g c =
    let s = c.args.session.now in
    let notation = c.args.notation in
    let gbcs = c.as_slice.result.now in
    let same : gbcs ≡ c.args.counted.now.gbcs = c.as_slice.ensures in
    let next : next_after gbcs ≡ next_after c.args.counted.now.gbcs = ap next_after same in
    let small : next_after gbcs < 2 ^ 64 = omega (arith, next, c.requires.gbcs) in
    writes_same _ _ _ _ (writes_then _ _ _ _ _ c.write_block_counter.ensures c.write_group_counters.ensures)
    (ap (λ n. block_counter notation s.session n ++ flat_map (group_counter notation s.session) c.as_slice-2.result.now) (c.next_gbc-gbc.ensures small ∙ next)
    ∙ ap (λ (gs : List GroupReport). block_counter notation s.session (next_after c.args.counted.now.gbcs) ++ flat_map (group_counter notation s.session) gs) c.as_slice-2.ensures)
