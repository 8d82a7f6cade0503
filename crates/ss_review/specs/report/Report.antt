-- The report of a log.
use Rattle.std.specs.Prelude.{ℕ, not, List, map, filter}
use Rattle.ss_block.specs.declared.block.Group.{Group}
use Rattle.ss_block.specs.declared.session.Session.{Session}
use Rattle.ss_review.specs.declared.report.group_report.GroupReport.{GroupReport}
use Rattle.ss_review.specs.declared.report.session_report.SessionReport.{SessionReport}
use Rattle.ss_review.specs.declared.report.report.Report.{Report}
use Rattle.ss_review.specs.declared.keep.message.NormalMessage.{NormalMessage}
use Rattle.ss_review.specs.keep.BlockMessage.{BlockMessage}
use Rattle.ss_review.specs.Ordered.{in_order}
use Rattle.ss_block.specs.Order.{group_cmp}
use Rattle.ss_review.specs.keep.Notes.{notes}
use Rattle.ss_review.specs.keep.Contents.{Contents, contents}
use Rattle.ss_review.specs.sessions.Sessions.{sessions, of_session}
use Rattle.ss_review.specs.sessions.Verified.{Answers, joined, state_in, is_verified}
use Rattle.ss_review.specs.announced.Announced.{Row, rows}
use Rattle.ss_review.specs.assign.Assigned.{is_taken}
use Rattle.ss_review.specs.report.Entries.{keys_in, group_keys, entries}

-- the groups of a session that have an announced number
abbrev pub groups : List Row → Session → List Group
groups rs s = in_order group_cmp (map (λ k. k.group) (keys_in rs s))

abbrev pub group_report : List NormalMessage → List Row → Session → Group → GroupReport
group_report ms rs s g = record { group = g; entries = entries ms rs (group_keys rs s g) }

abbrev pub session_report : Answers → Contents → List Row → Session → SessionReport
session_report says log rs s = record {
  session = s;
  state = state_in (joined says (of_session log.blocks s));
  groups = map (group_report log.normal rs s) (groups rs s);
}

-- the messages without a block that are listed nowhere
abbrev pub unlisted : List NormalMessage → List Row → List ℕ
unlisted ms rs = map (λ m. m.place) (filter (λ m. not (is_taken ms rs m.place)) ms)

-- the blocks that aren't verified
abbrev pub refused : Answers → List BlockMessage → List ℕ
refused says bs = map (λ b. b.place) (filter (λ b. not (is_verified says bs b)) bs)

abbrev pub report_with : Answers → Contents → List Row → Report
report_with says log rs = record {
  sessions = map (session_report says log rs) (sessions log.blocks);
  unlisted = unlisted log.normal rs;
  refused = refused says log.blocks;
  spoilt = log.spoilt;
  count = log.count;
}

unfoldable pub report_of : Answers → Contents → Report
report_of says log = report_with says log (rows says log.blocks)

-- the report of a log
abbrev pub report : Answers → List (List ℕ) → Report
report says log = report_of says (contents (notes log))
