use Rattle.std.proofs.Common.{◌∙◌, filter_map, refl}
use Rattle.std.proofs.lemmas.List.Elements.{filter_map-append}
use Rattle.ss_review.specs.report.Extract.{place_listed}
use Rattle.ss_report.proofs.of_writing.Gathered.{gathers_next}
use Rattle.ss_report.proofs.runs.places.add_of_entries.Goals as goal

pub loop-entry-preserved : goal.loop-entry-preserved
loop-entry-preserved c =
    c.in_ok-add_of_entry.ensures
    ∙ gathers_next (filter_map place_listed) (filter_map-append place_listed) c.args.entries.now c.loop-entry.entry-index _ _ _ _ c.loop-entry-test.true c.loop-entry.invariant refl
