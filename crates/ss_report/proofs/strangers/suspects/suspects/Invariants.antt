-- The suspects among the first blocks.
use Rattle.std.proofs.Common.{◌≡◌, take, filter_map}
use Rattle.ss_review.specs.report.Meaning.{IsInOrder}
use Rattle.ss_report.specs.strangers.Reaches.{KnowsLeast}
use Rattle.ss_report.specs.strangers.Strangers.{suspect_at}
use Rattle.ss_report.proofs.strangers.suspects.suspects.Given as goal

abbrev pub invariant-loop-block : goal.invariant-loop-block
invariant-loop-block l =
    IsInOrder l.report
    → KnowsLeast l.known l.report.sessions l.report.refused l.blocks
    × (l.suspects.items ≡ filter_map (suspect_at l.blocks l.report) (take l.block-index l.blocks))
