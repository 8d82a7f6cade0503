use Rattle.std.proofs.Common.{sym, ap, ◌∙◌, filter_map}
use Rattle.ss_review.specs.report.Extract.{place_listed}
use Rattle.ss_review.specs.report.Verdict.{is_none}
use Rattle.std.proofs.lemmas.List.{take_all}
use Rattle.ss_report.proofs.of_reports.FirstFound.{listed_has_place}
use Rattle.ss_report.proofs.of_reports.IdleSessions.{none_more, some_left}
use Rattle.ss_report.proofs.lines.front.entries_list_none.Goals as goal

pub returns-then-is_listed : goal.returns-then-is_listed
returns-then-is_listed c =
    sym (some_left place_listed c.args.entries.now c.loop-entry.entry-index _ c.loop-entry-test.true (listed_has_place _ ∙ sym c.is_listed.ensures ∙ c.if-is_listed.true))

pub loop-entry-preserved : goal.loop-entry-preserved
loop-entry-preserved c =
    none_more place_listed c.args.entries.now c.loop-entry.entry-index _ c.loop-entry-test.true c.loop-entry.invariant (listed_has_place _ ∙ sym c.is_listed.ensures ∙ c.if-is_listed.false)

pub returns : goal.returns
returns c =
    sym (ap is_none (sym (ap (filter_map place_listed) (take_all c.loop-entry.entry-index c.args.entries.now c.loop-entry-test.false)) ∙ c.loop-entry.invariant))
