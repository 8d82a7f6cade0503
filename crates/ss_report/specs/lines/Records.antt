-- A line of a report as a record: its kind, and its fields in their order.
use Rattle.std.specs.Prelude.{ℕ, Bool, List, [], ◌++◌, codes, if◌then◌else◌}
use Rattle.ss_review.specs.declared.questions.parameters.AskedParameters.{AskedParameters}
use Rattle.ss_review.specs.declared.questions.parameters.AskedParameters.TheVariants as parameters
use Rattle.ss_review.specs.declared.report.entry.Why.{Why}
use Rattle.ss_review.specs.declared.report.entry.Why.TheVariants as whys
use Rattle.ss_review.specs.declared.report.session_report.SessionState.{SessionState}
use Rattle.ss_review.specs.declared.report.session_report.SessionState.TheVariants as states
use Rattle.ss_report.specs.declared.lines.order.Order.{Order}
use Rattle.ss_report.specs.declared.lines.tally.Tally.{Tally}
use Rattle.ss_report.specs.declared.strangers.suspects.Suspicion.{Suspicion}
use Rattle.ss_report.specs.declared.strangers.suspects.Suspicion.TheVariants as suspicions
use Rattle.ss_report.specs.records.Record.{Value, Number, Word, Record, field}
use Rattle.ss_report.specs.records.Fields.{session_fields, group_fields, cause_word, stretch_fields}
use Rattle.ss_report.specs.lines.Lines.{ReportLine, SessionLine, OkLine, GapLine, HoleLine, TailLine, BlocksLine}
use Rattle.ss_report.specs.lines.Lines.{EarlyLine, BeyondLine, AbsentLine, TallyLine, DisorderLine, EmptyLine}
use Rattle.ss_report.specs.lines.Lines.{UnlistedLine, RefusedLine, SpoiltLine, UnlistedCountLine, RefusedCountLine}
use Rattle.ss_report.specs.lines.Lines.{SpoiltCountLine, DamagedLine, DamagedCountLine, TornLine, EndLine}
use Rattle.ss_report.specs.lines.Lines.{BlockLine, Sha1Line, NotIgnoredLine, NoneListedLine}
use Rattle.ss_report.specs.texts.Asked.{parameter_fields}

abbrev pub state_word : SessionState → List ℕ
state_word states.Joined = codes "joined"
state_word states.Disputed = codes "disputed"
state_word states.Incomplete = codes "incomplete"
state_word states.Malformed = codes "malformed"
state_word states.Untrusted = codes "untrusted"
state_word states.Unaccepted = codes "unaccepted"

abbrev pub why_word : Why → List ℕ
why_word whys.Lost = codes "lost"
why_word whys.Disputed = codes "disputed"

-- ok, lost, disputed and holes, and the first and the last number
unfoldable pub tally_fields : Tally → List (List ℕ × Value)
tally_fields t =
    field (codes "ok") (Number t.listed) ++ field (codes "lost") (Number t.lost)
    ++ field (codes "disputed") (Number t.disputed) ++ field (codes "holes") (Number t.holes)
    ++ field (codes "first") (Number t.first) ++ field (codes "last") (Number t.last)

-- how many listed messages stand in front of the one before them, and the number and the place of the first
unfoldable pub order_fields : Order → List (List ℕ × Value)
order_fields o =
    field (codes "count") (Number o.count) ++ field (codes "number") (Number o.number)
    ++ field (codes "place") (Number o.place)

-- which kind of block it is
abbrev pub block_kind : AskedParameters → List ℕ
block_kind (parameters.Signature alg group gbc first count) = codes "signature-block"
block_kind (parameters.Certificate alg group total index length) = codes "certificate-block"

abbrev pub yes_or_no : Bool → List ℕ
yes_or_no b = if b then codes "yes" else codes "no"

abbrev pub suspicion_word : Suspicion → List ℕ
suspicion_word suspicions.Unjoined = codes "unjoined"
suspicion_word suspicions.Late = codes "late"

abbrev pub kind_of : ReportLine → List ℕ
kind_of (SessionLine s state) = codes "session"
kind_of (OkLine s g number place) = codes "ok"
kind_of (GapLine s g number why) = codes "gap"
kind_of (HoleLine s g first last) = codes "hole"
kind_of (EarlyLine s g first last) = codes "early"
kind_of (BeyondLine s g first last) = codes "beyond"
kind_of (TailLine s g first last) = codes "tail"
kind_of (BlocksLine s first last) = codes "blocks"
kind_of (AbsentLine s) = codes "session"
kind_of (TallyLine s g t) = codes "tally"
kind_of (DisorderLine s g o) = codes "disorder"
kind_of (UnlistedLine place) = codes "unlisted"
kind_of (RefusedLine place) = codes "refused"
kind_of (SpoiltLine place cause) = codes "spoilt"
kind_of (UnlistedCountLine count) = codes "unlisted-count"
kind_of (RefusedCountLine count) = codes "refused-count"
kind_of (SpoiltCountLine count) = codes "spoilt-count"
kind_of (DamagedLine place offset size) = codes "damaged"
kind_of (DamagedCountLine count octets) = codes "damaged-count"
kind_of (TornLine offset) = codes "torn"
kind_of (BlockLine place verified s parameters) = block_kind parameters
kind_of (Sha1Line place) = codes "sha1"
kind_of (NotIgnoredLine place why) = codes "not-ignored"
kind_of NoneListedLine = codes "none-listed"
kind_of EmptyLine = codes "empty"
kind_of (EndLine count) = codes "end"

abbrev pub fields_of : ReportLine → List (List ℕ × Value)
fields_of (SessionLine s state) = session_fields s ++ field (codes "state") (Word (state_word state))
fields_of (OkLine s g number place) =
    session_fields s ++ group_fields g ++ field (codes "number") (Number number) ++ field (codes "place") (Number place)
fields_of (GapLine s g number why) =
    session_fields s ++ group_fields g ++ field (codes "number") (Number number)
    ++ field (codes "why") (Word (why_word why))
fields_of (HoleLine s g first last) =
    session_fields s ++ group_fields g ++ field (codes "first") (Number first) ++ field (codes "last") (Number last)
fields_of (EarlyLine s g first last) =
    session_fields s ++ group_fields g ++ field (codes "first") (Number first) ++ field (codes "last") (Number last)
fields_of (BeyondLine s g first last) =
    session_fields s ++ group_fields g ++ field (codes "first") (Number first) ++ field (codes "last") (Number last)
fields_of (TailLine s g first last) =
    session_fields s ++ group_fields g ++ field (codes "first") (Number first) ++ field (codes "last") (Number last)
fields_of (BlocksLine s first last) =
    session_fields s ++ field (codes "first") (Number first) ++ field (codes "last") (Number last)
fields_of (AbsentLine s) = session_fields s ++ field (codes "state") (Word (codes "absent"))
fields_of (TallyLine s g t) = session_fields s ++ group_fields g ++ tally_fields t
fields_of (DisorderLine s g o) = session_fields s ++ group_fields g ++ order_fields o
fields_of (UnlistedLine place) = field (codes "place") (Number place)
fields_of (RefusedLine place) = field (codes "place") (Number place)
fields_of (SpoiltLine place cause) =
    field (codes "place") (Number place) ++ field (codes "cause") (Word (cause_word cause))
fields_of (UnlistedCountLine count) = field (codes "count") (Number count)
fields_of (RefusedCountLine count) = field (codes "count") (Number count)
fields_of (SpoiltCountLine count) = field (codes "count") (Number count)
fields_of (DamagedLine place offset size) = stretch_fields place offset size
fields_of (DamagedCountLine count octets) =
    field (codes "count") (Number count) ++ field (codes "octets") (Number octets)
fields_of (TornLine offset) = field (codes "offset") (Number offset)
fields_of (BlockLine place verified s parameters) =
    field (codes "place") (Number place) ++ field (codes "verified") (Word (yes_or_no verified)) ++ session_fields s
    ++ parameter_fields parameters
fields_of (Sha1Line place) = field (codes "place") (Number place)
fields_of (NotIgnoredLine place why) =
    field (codes "place") (Number place) ++ field (codes "why") (Word (suspicion_word why))
fields_of NoneListedLine = []
fields_of EmptyLine = []
fields_of (EndLine count) = field (codes "count") (Number count)

abbrev pub record_of : ReportLine → Record
record_of line = record { kind = kind_of line; fields = fields_of line }
