-- What is carried over from a log to the next one, where sessions go on from log to log: which places, by the report
-- and the blocks of the log.
use Rattle.std.specs.Prelude.{ℕ, ◌+◌, ◌==◌, nat_le, nat_lt, Bool, true, false, not, ◌&&◌, List, [], ◌++◌, length}
use Rattle.std.specs.Prelude.{map, filter, filter_map, flat_map}
use Rattle.std.specs.List.{list_any}
use Rattle.std.specs.Ordering.{nat_cmp}
use Rattle.ss_block.specs.declared.block.Group.{Group}
use Rattle.ss_block.specs.declared.session.Session.{Session}
use Rattle.ss_review.specs.keep.BlockMessage.{BlockMessage, BlockContent, Hashes, Fragment}
use Rattle.ss_review.specs.declared.report.entry.Entry.{Entry}
use Rattle.ss_review.specs.declared.report.entry.Entry.TheVariants as entry
use Rattle.ss_review.specs.declared.report.session_report.SessionReport.{SessionReport}
use Rattle.ss_review.specs.declared.report.report.Report.{Report}
use Rattle.ss_review.specs.Ordered.{in_order}
use Rattle.ss_review.specs.keep.Notes.{notes}
use Rattle.ss_review.specs.keep.Contents.{blocks}
use Rattle.ss_review.specs.sessions.Sessions.{same_session}
use Rattle.ss_review.specs.report.Entries.{same_group}
use Rattle.ss_review.specs.report.Verdict.{is_joined}
use Rattle.ss_review.specs.sessions.Verified.{Answers}
use Rattle.ss_review.specs.report.Meaning.{first_number}
use Rattle.ss_review.specs.report.Extract.{place_listed}
use Rattle.ss_review.specs.report.Report.{report}

-- ---- the parts of the report

-- of a session
abbrev pub told_of : Report → Session → List SessionReport
told_of r s = filter (λ t. same_session t.session s) r.sessions

abbrev pub is_joined_in : Report → Session → Bool
is_joined_in r s = list_any (λ t. is_joined t.state) (told_of r s)

-- of a group of a session
abbrev pub entries_in : Report → Session → Group → List Entry
entries_in r s g = flat_map (λ t. flat_map (λ h. h.entries) (filter (λ h. same_group h.group g) t.groups)) (told_of r s)

-- about one of so many numbers, from the first on
abbrev pub is_numbered : (first count : ℕ) → Entry → Bool
is_numbered first count e = nat_le first (first_number e) && nat_lt (first_number e) (first + count)

-- of the numbers of a block: those of a signature block, one for each hash (RFC 5848, section 4.2.7)
abbrev pub entries_said : Report → Session → BlockContent → List Entry
entries_said r s (Hashes h) = filter (is_numbered h.first (length h.hashes)) (entries_in r s h.group)
entries_said r s (Fragment c) = []

abbrev pub entries_under : Report → BlockMessage → List Entry
entries_under r b = entries_said r b.session b.said

-- ---- blocks

abbrev pub places_of : List BlockMessage → List ℕ
places_of bs = map (λ b. b.place) bs

abbrev pub is_refused_in : Report → BlockMessage → Bool
is_refused_in r b = list_any (λ place. place == b.place) r.refused

-- a block of a joined session that isn't refused
abbrev pub is_verified_in : Report → BlockMessage → Bool
is_verified_in r b = is_joined_in r b.session && not (is_refused_in r b)

-- a certificate block with this INDEX and FLEN (RFC 5848, section 5.3.2)
abbrev pub has_fragment_at : (index count : ℕ) → BlockContent → Bool
has_fragment_at index count (Fragment c) = c.index == index && length c.fragment == count
has_fragment_at index count (Hashes h) = false

-- a verified certificate block of the session with this INDEX and FLEN
abbrev pub is_fragment_of : Report → Session → (index count : ℕ) → BlockMessage → Bool
is_fragment_of r s index count b = same_session b.session s && has_fragment_at index count b.said && is_verified_in r b

-- no such block with its INDEX and FLEN stands before this one
abbrev pub is_first_said : Report → List BlockMessage → BlockMessage → BlockContent → Bool
is_first_said r bs b (Fragment c) =
    not (list_any (λ other.
    nat_lt other.place b.place && is_fragment_of r b.session c.index (length c.fragment) other) bs)
is_first_said r bs b (Hashes h) = false

abbrev pub is_gap : Entry → Bool
is_gap (entry.Gap number why) = true
is_gap (entry.Listed number place) = false
is_gap (entry.Hole first last) = false

-- ---- which blocks are carried

-- a block whose session isn't joined
abbrev pub is_unjudged : Report → BlockMessage → Bool
is_unjudged r b = not (is_joined_in r b.session)

-- a verified certificate block, the first with its INDEX and FLEN in its session
abbrev pub is_first_certificate : Report → List BlockMessage → BlockMessage → Bool
is_first_certificate r bs b = is_verified_in r b && is_first_said r bs b b.said

-- a verified signature block with a number that is lost or disputed
abbrev pub has_gap : Report → BlockMessage → Bool
has_gap r b = is_verified_in r b && list_any is_gap (entries_under r b)

-- ---- what is carried

abbrev pub unjudged : Report → List BlockMessage → List ℕ
unjudged r bs = places_of (filter (is_unjudged r) bs)

abbrev pub certificates : Report → List BlockMessage → List ℕ
certificates r bs = places_of (filter (is_first_certificate r bs) bs)

abbrev pub gaps : Report → List BlockMessage → List ℕ
gaps r bs = places_of (filter (has_gap r) bs)

-- the messages that are listed under the numbers of such a signature block
abbrev pub listed : Report → List BlockMessage → List ℕ
listed r bs = flat_map (λ b. filter_map place_listed (entries_under r b)) (filter (has_gap r) bs)

-- all of these and the messages that are unlisted, each once, rising
unfoldable pub carried_by : Report → List BlockMessage → List ℕ
carried_by r bs = in_order nat_cmp (unjudged r bs ++ certificates r bs ++ gaps r bs ++ listed r bs ++ r.unlisted)

-- the places of a log that are carried over
abbrev pub carried : Answers → List (List ℕ) → List ℕ
carried says messages = carried_by (report says messages) (blocks (notes messages))
