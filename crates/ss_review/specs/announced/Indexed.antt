-- Announced numbers whose sessions are named by their index among those of the log.
use Rattle.std.specs.Prelude.{ℕ, Bool, false, List, Option, Some, None, slice_index_or, Err}
use Rattle.std.specs.declared.cmp.Ordering.{Ordering}
use Rattle.std.specs.Ordering.{nat_cmp, ordering_then, is_eq}
use Rattle.ss_message.specs.declared.draft.Field.TheVariants as fields
use Rattle.ss_block.specs.declared.session.Session.{Session}
use Rattle.ss_block.specs.Order.{group_cmp}
use Rattle.ss_review.specs.declared.report.session_report.SessionState.TheVariants as states
use Rattle.ss_review.specs.declared.announced.indexed_number.IndexedNumber.{IndexedNumber}
use Rattle.ss_review.specs.declared.announced.announced_hash.AnnouncedHash as row
use Rattle.ss_review.specs.declared.announced.announced_block.AnnouncedBlock.{AnnouncedBlock}
use Rattle.ss_review.specs.keep.BlockMessage.{Hashes}
use Rattle.ss_review.specs.declared.sessions.joined_session.JoinedSession.{JoinedSession}
use Rattle.ss_review.specs.announced.Announced.{Key, Row, rows_said}

-- stands where no session does
abbrev pub nobody : JoinedSession
nobody = record {
  session = record { host = fields.Nil; app = fields.Nil; procid = fields.Nil; rsid = 0 };
  joined = Err states.Incomplete;
}

abbrev pub session_at : List JoinedSession → ℕ → Session
session_at js i = (slice_index_or js i nobody).session

abbrev pub key_at : List JoinedSession → IndexedNumber → Key
key_at js n = record { session = session_at js n.session; group = n.group; number = n.number }

abbrev pub row_at : List JoinedSession → row.AnnouncedHash → Row
row_at js r = record { key = key_at js r.number; hash = r.hash }

abbrev pub rows_by : List JoinedSession → AnnouncedBlock → List Row
rows_by js b = rows_said (session_at js b.session) (Hashes b.block)

-- the number of a block's first hash
abbrev pub first_number : AnnouncedBlock → IndexedNumber
first_number b = record { session = b.session; group = b.block.group; number = b.block.first }

-- by the index of the session, SG, SPRI and number
abbrev pub number_cmp : IndexedNumber → IndexedNumber → Ordering
number_cmp a b =
    ordering_then (nat_cmp a.session b.session)
    (ordering_then (group_cmp a.group b.group) (nat_cmp a.number b.number))

-- the row after this one is of its number too
abbrev pub goes_on : row.AnnouncedHash → Option row.AnnouncedHash → Bool
goes_on r None = false
goes_on r (Some next) = is_eq (number_cmp next.number r.number)
