use Rattle.std.proofs.Common.{◌∙◌, fold, filter_map, ap, List}
use Rattle.std.proofs.lemmas.List.{take_all}
use Rattle.ss_review.specs.declared.report.entry.Entry.{Entry}
use Rattle.ss_between.specs.Between.{entry_left}
use Rattle.ss_report.specs.lines.Tally.{of_none, with_entry, tally, IsWithin}
use Rattle.ss_report.proofs.of_reports.Tallies.{one_left}
use Rattle.ss_report.proofs.lines.tally.Tally.of_left.Goals as goal

pub loop-entry-preserved : goal.loop-entry-preserved
loop-entry-preserved c =
    one_left with_entry of_none IsWithin (entry_left c.args.number) c.args.entries.now c.loop-entry.entry-index _ _ _ c.loop-entry-test.true c.loop-entry.invariant c.with_left-so_far.ensures.told c.with_left-so_far.ensures.within

pub returns : goal.returns
unfolding tally
returns c =
    c.loop-entry.invariant.0 ∙ ap (λ (es : List Entry). fold with_entry of_none (filter_map (entry_left c.args.number) es)) (take_all c.loop-entry.entry-index c.args.entries.now c.loop-entry-test.false)
