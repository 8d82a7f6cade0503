-- A report by given payloads is in rising order.
use Rattle.std.proofs.Common.{List, map, not, subst}
use Rattle.std.specs.Prelude.{All}
use Rattle.std.specs.Ordering.{nat_cmp}
use Rattle.std.specs.List.Sorted.{IsStrictlySortedBy}
use Rattle.ss_block.specs.Order.{session_cmp, group_cmp}
use Rattle.ss_review.specs.Laws.{ReportsAreInOrder}
use Rattle.ss_review.specs.keep.BlockMessage.{BlockMessage}
use Rattle.ss_review.specs.declared.report.group_report.GroupReport.{GroupReport}
use Rattle.ss_review.specs.declared.report.session_report.SessionReport.{SessionReport}
use Rattle.ss_review.specs.keep.Contents.{blocks}
use Rattle.ss_review.specs.keep.Notes.{notes}
use Rattle.ss_review.specs.pinned.Pinned.{is_verified_pinned}
use Rattle.ss_review.specs.pinned.Stands.{PinnedReportsAreOfLogs, PinnedReportsAreInOrder}
use Rattle.ss_review.specs.report.Meaning.{first_number}
use Rattle.ss_review.specs.report.Report.{report_of}
use Rattle.ss_review.proofs.of_kept_messages.PlacesRise.{blocks_rise, spoilts_rise}
use Rattle.ss_review.proofs.of_lists.Keyed.{keys_rise-filter}

-- Sessions and what is unlisted are those of another log's report. The refused places are some of those of the blocks.
pub in_order : PinnedReportsAreOfLogs → ReportsAreInOrder → PinnedReportsAreInOrder
unfolding report_of
in_order of_logs rises says ps log =
    let w = of_logs says ps log in
    let like = w.1 in
    let up = rises says w.0 in
    record {
      sessions = subst (λ (ss : List SessionReport). IsStrictlySortedBy session_cmp (map (λ (s : SessionReport). s.session) ss)) like.sessions up.sessions;
      groups = subst (λ (ss : List SessionReport). All (λ (s : SessionReport). IsStrictlySortedBy group_cmp (map (λ (g : GroupReport). g.group) s.groups)) ss) like.sessions up.groups;
      entries = subst (λ (ss : List SessionReport). All (λ (s : SessionReport). All (λ (g : GroupReport). IsStrictlySortedBy nat_cmp (map first_number g.entries)) s.groups) ss) like.sessions up.entries;
      unlisted = subst (IsStrictlySortedBy nat_cmp) like.unlisted up.unlisted;
      refused = keys_rise-filter (λ (b : BlockMessage). b.place) nat_cmp (λ (b : BlockMessage). not (is_verified_pinned says ps (blocks (notes log)) b)) (blocks (notes log)) (blocks_rise (notes log));
      spoilt = spoilts_rise (notes log);
    }
