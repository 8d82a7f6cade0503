-- The counters of a log: what comes next in each joined session, after all that its verified blocks state. A line a
-- counter, and then how many they are, each a record.
use Rattle.std.specs.Prelude.{ℕ, ◌+◌, ◌≤◌, List, [], ◌++◌, codes, length, flat_map, zip, sum_by, All, if◌then◌else◌}
use Rattle.ss_block.specs.declared.block.Group.{Group}
use Rattle.ss_block.specs.declared.session.Session.{Session}
use Rattle.ss_block.specs.Ranges.{past_last_number}
use Rattle.ss_review.specs.declared.counted.counted_session.CountedSession.{CountedSession}
use Rattle.ss_review.specs.keep.BlockMessage.{BlockMessage}
use Rattle.ss_review.specs.declared.report.group_report.GroupReport.{GroupReport}
use Rattle.ss_review.specs.declared.report.session_report.SessionReport.{SessionReport}
use Rattle.ss_review.specs.declared.report.report.Report.{Report}
use Rattle.ss_review.specs.sessions.Verified.{Answers}
use Rattle.ss_review.specs.report.Verdict.{is_joined}
use Rattle.ss_review.specs.counted.Counted.{counted_session, next_after, next_number}
use Rattle.ss_report.specs.records.Record.{Number, Record, field}
use Rattle.ss_report.specs.records.Fields.{session_fields, group_fields}
use Rattle.ss_report.specs.records.Written.{written}
use Rattle.ss_report.specs.texts.Ending.{number_as}
use Rattle.ss_report.specs.declared.notation.Notation.{Notation}

-- count HOST APP PROCID RSID GBC
abbrev pub block_record : Session → (gbc : ℕ) → Record
block_record s gbc = record { kind = codes "count"; fields = session_fields s ++ field (codes "gbc") (Number gbc) }

-- count HOST APP PROCID RSID SG SPRI NUMBER
abbrev pub message_record : Session → Group → (number : ℕ) → Record
message_record s g number = record {
  kind = codes "count";
  fields = session_fields s ++ group_fields g ++ field (codes "number") (Number number);
}

abbrev pub block_counter : Notation → Session → (gbc : ℕ) → List ℕ
block_counter notation s gbc = written notation (block_record s gbc)

abbrev pub message_counter : Notation → Session → Group → (number : ℕ) → List ℕ
message_counter notation s g number = written notation (message_record s g number)

-- the number of the group's next message
abbrev pub group_counter : Notation → Session → GroupReport → List ℕ
group_counter notation s g = message_counter notation s g.group (next_number g)

-- the GBC of the session's next signature block, then the number of the next message of each group that is announced
abbrev pub session_counters : Notation → SessionReport → CountedSession → List ℕ
session_counters notation s c =
    block_counter notation s.session (next_after c.gbcs) ++ flat_map (group_counter notation s.session) s.groups

-- a session that isn't joined has no verified block, and no line
abbrev pub counters_with : Notation → SessionReport → CountedSession → List ℕ
counters_with notation s c = if is_joined s.state then session_counters notation s c else []

abbrev pub counters_of : Notation → Answers → List BlockMessage → SessionReport → List ℕ
counters_of notation says bs s = counters_with notation s (counted_session says bs s.session)

-- how many lines a session has
abbrev pub how_many : SessionReport → ℕ
how_many s = if is_joined s.state then length s.groups + 1 else 0

-- end N: how many counters stand before it, so that a text that was cut off isn't taken for a whole one
abbrev pub counters_end : Notation → (count : ℕ) → List ℕ
counters_end notation count = number_as notation (codes "end") (codes "count") count

-- the whole text about a report on a log with these blocks
unfoldable pub counter_lines : Notation → Answers → List BlockMessage → Report → List ℕ
counter_lines notation says bs report =
    flat_map (counters_of notation says bs) report.sessions ++ counters_end notation (sum_by how_many report.sessions)

-- ---- the same by the GBC values that were found of each session, in the order of the report

abbrev pub counters_beside : Notation → SessionReport × CountedSession → List ℕ
counters_beside notation p = counters_with notation p.0 p.1

unfoldable pub counter_lines_with : Notation → Report → List CountedSession → List ℕ
counter_lines_with notation report counted =
    flat_map (counters_beside notation) (zip report.sessions counted)
    ++ counters_end notation (sum_by how_many report.sessions)

-- how far the numbers of these lines go: to the one after the greatest of ten digits
pub record AreInRange (sessions : List SessionReport) (counted : List CountedSession) : Type 0 where
  pub numbers : All (λ s. All (λ g. next_number g ≤ past_last_number) s.groups) sessions
  pub gbcs : All (λ c. next_after c.gbcs ≤ past_last_number) counted
