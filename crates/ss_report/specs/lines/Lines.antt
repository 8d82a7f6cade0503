-- The lines of a report as data, in the order in which every form of it has them: one for each thing, or tallies. Those
-- of missing signature blocks, of tails and of absent sessions come if they are asked for (`Whole.antt`), and so do
-- those of numbers that lie outside of a night (`Between.antt`).
use Rattle.std.specs.Prelude.{ℕ, ◌==◌, Bool, true, false, ◌&&◌, if◌then◌else◌}
use Rattle.std.specs.Prelude.{List, [], ◌∷◌, ◌++◌, length, map, flat_map}
use Rattle.ss_frame.specs.declared.step.Tail.{Tail}
use Rattle.ss_frame.specs.declared.step.Tail.TheVariants as tails
use Rattle.ss_block.specs.declared.block.Group.{Group}
use Rattle.ss_block.specs.declared.session.Session.{Session}
use Rattle.ss_block.specs.declared.spoil.Spoil.{Spoil}
use Rattle.ss_review.specs.declared.keep.spoilt.SpoiltPlace.{SpoiltPlace}
use Rattle.ss_review.specs.declared.questions.parameters.AskedParameters.{AskedParameters}
use Rattle.ss_review.specs.declared.report.entry.Why.{Why}
use Rattle.ss_review.specs.declared.report.entry.Entry.{Entry}
use Rattle.ss_review.specs.declared.report.entry.Entry.TheVariants as entries
use Rattle.ss_review.specs.declared.report.group_report.GroupReport.{GroupReport}
use Rattle.ss_review.specs.declared.report.session_report.SessionState.{SessionState}
use Rattle.ss_review.specs.declared.report.session_report.SessionReport.{SessionReport}
use Rattle.ss_review.specs.declared.report.report.Report.{Report}
use Rattle.ss_report.specs.log.Log.{octets_in}
use Rattle.ss_report.specs.declared.log.ending.Damage.{Damage}
use Rattle.ss_report.specs.declared.log.ending.Ending.{Ending}
use Rattle.ss_report.specs.declared.lines.detail.Detail.{Detail}
use Rattle.ss_report.specs.declared.lines.detail.Listing.{Listing}
use Rattle.ss_report.specs.declared.lines.detail.Listing.TheVariants as listings
use Rattle.ss_report.specs.declared.lines.order.Order.{Order}
use Rattle.ss_report.specs.declared.lines.tally.Tally.{Tally}
use Rattle.ss_report.specs.declared.strangers.suspects.Suspicion.{Suspicion}
use Rattle.ss_report.specs.lines.Brief.{brief}
use Rattle.ss_report.specs.lines.Order.{order}
use Rattle.ss_report.specs.lines.Tally.{tally}
use Rattle.ss_report.specs.declared.lines.line.Line.{Line}
use Rattle.ss_report.specs.declared.lines.line.Line.TheVariants as line

-- a line of a report
pub data ReportLine : Type 0 where
  SessionLine : Session → SessionState → ReportLine
  OkLine : Session → Group → (number place : ℕ) → ReportLine
  GapLine : Session → Group → (number : ℕ) → Why → ReportLine
  HoleLine : Session → Group → (first last : ℕ) → ReportLine
  EarlyLine : Session → Group → (first last : ℕ) → ReportLine
  BeyondLine : Session → Group → (first last : ℕ) → ReportLine
  TailLine : Session → Group → (first last : ℕ) → ReportLine
  BlocksLine : Session → (first last : ℕ) → ReportLine
  AbsentLine : Session → ReportLine
  TallyLine : Session → Group → Tally → ReportLine
  DisorderLine : Session → Group → Order → ReportLine
  UnlistedLine : (place : ℕ) → ReportLine
  RefusedLine : (place : ℕ) → ReportLine
  SpoiltLine : (place : ℕ) → Spoil → ReportLine
  UnlistedCountLine : (count : ℕ) → ReportLine
  RefusedCountLine : (count : ℕ) → ReportLine
  SpoiltCountLine : (count : ℕ) → ReportLine
  DamagedLine : (place offset size : ℕ) → ReportLine
  DamagedCountLine : (count octets : ℕ) → ReportLine
  TornLine : (offset : ℕ) → ReportLine
  BlockLine : (place : ℕ) → (verified : Bool) → Session → AskedParameters → ReportLine
  Sha1Line : (place : ℕ) → ReportLine
  NotIgnoredLine : (place : ℕ) → Suspicion → ReportLine
  NoneListedLine : ReportLine
  EmptyLine : ReportLine
  EndLine : (count : ℕ) → ReportLine

-- this listing, and no finding besides
abbrev pub alone : Listing → Detail
alone listing = record {
  listing = listing;
  in_order = false;
  not_empty = false;
  some_listed = false;
  no_sha1 = false;
  ignore_strangers = false;
  blocks = false;
}

-- each item, and no finding besides
abbrev pub itemized : Detail
itemized = alone listings.Itemized

-- the same findings, with each item
abbrev pub itemizing : Detail → Detail
itemizing detail = record detail { listing = listings.Itemized }

-- these lines, and then the others, if they are wanted
abbrev pub with_others : Bool → (ls others : List ReportLine) → List ReportLine
with_others false ls others = ls
with_others true ls others = ls ++ others

-- the line of an entry: a number, or a hole
abbrev pub entry_line : Session → Group → Entry → ReportLine
entry_line s g (entries.Listed number place) = OkLine s g number place
entry_line s g (entries.Gap number why) = GapLine s g number why
entry_line s g (entries.Hole first last) = HoleLine s g first last

-- those of the entries of a group, or one with their counts, or that one after those that aren't listed, and after the
-- listed ones beside them
abbrev pub entry_lines : Listing → Session → Group → List Entry → List ReportLine
entry_lines listings.Itemized s g es = map (entry_line s g) es
entry_lines listings.Tally s g es = TallyLine s g (tally es) ∷ []
entry_lines listings.Brief s g es = map (entry_line s g) (brief es) ++ TallyLine s g (tally es) ∷ []

-- that listed messages of a group don't stand in the order of their numbers, if that is so
abbrev pub order_lines : Session → Group → Order → List ReportLine
order_lines s g o = if o.count == 0 then [] else DisorderLine s g o ∷ []

abbrev pub group_lines : Detail → Session → GroupReport → List ReportLine
group_lines detail s g =
    with_others detail.in_order (entry_lines detail.listing s g.group g.entries) (order_lines s g.group (order g.entries))

-- the session's line, and those of its groups
abbrev pub session_lines : Detail → SessionReport → List ReportLine
session_lines detail s = SessionLine s.session s.state ∷ flat_map (group_lines detail s.session) s.groups

abbrev pub spoilt_place_line : SpoiltPlace → ReportLine
spoilt_place_line s = SpoiltLine s.place s.cause

-- the torn end
abbrev pub tail_lines : Tail → List ReportLine
tail_lines tails.Clean = []
tail_lines (tails.Torn pos) = TornLine pos ∷ []

abbrev pub damage_line : Damage → ReportLine
damage_line d = DamagedLine d.place d.offset d.length

-- how many stretches are damaged, and how many octets they have, if any is
abbrev pub damage_count : List Damage → List ReportLine
damage_count ds = if length ds == 0 then [] else DamagedCountLine (length ds) (octets_in ds) ∷ []

-- what is damaged
abbrev pub damage_lines : Listing → List Damage → List ReportLine
damage_lines listings.Itemized ds = map damage_line ds
damage_lines listings.Tally ds = damage_count ds
damage_lines listings.Brief ds = map damage_line ds

-- what is damaged, and the torn end
abbrev pub ending_lines : Listing → Ending → List ReportLine
ending_lines listing ending = damage_lines listing ending.damaged ++ tail_lines ending.tail

-- that the log has no message, if that is a finding, and how many it has
abbrev pub end_lines : (not_empty : Bool) → (count : ℕ) → List ReportLine
end_lines not_empty count = if not_empty && count == 0 then EmptyLine ∷ EndLine count ∷ [] else EndLine count ∷ []

-- one for each unlisted, refused and spoilt message
abbrev pub item_lines : Report → List ReportLine
item_lines report =
    map UnlistedLine report.unlisted ++ map RefusedLine report.refused ++ map spoilt_place_line report.spoilt

-- those of single messages
unfoldable pub single_lines : Listing → Report → List ReportLine
single_lines listings.Itemized report = item_lines report
single_lines listings.Brief report = item_lines report
single_lines listings.Tally report =
    UnlistedCountLine (length report.unlisted) ∷ RefusedCountLine (length report.refused)
    ∷ SpoiltCountLine (length report.spoilt) ∷ []

-- those after the lines of the sessions
unfoldable pub other_lines : Detail → Report → Ending → List ReportLine
other_lines detail report ending =
    single_lines detail.listing report
    ++ (ending_lines detail.listing ending ++ end_lines detail.not_empty report.count)

-- all of a report without missing signature blocks
unfoldable pub lines : Detail → Report → Ending → List ReportLine
lines detail report ending = flat_map (session_lines detail) report.sessions ++ other_lines detail report ending

-- the line that the code hands on, which refers to its session
abbrev pub seen : Line → ReportLine
seen (line.Session s state) = SessionLine s.now state
seen (line.Ok s g number place) = OkLine s.now g number place
seen (line.Gap s g number why) = GapLine s.now g number why
seen (line.Hole s g first last) = HoleLine s.now g first last
seen (line.Early s g first last) = EarlyLine s.now g first last
seen (line.Beyond s g first last) = BeyondLine s.now g first last
seen (line.Tail s t) = TailLine s.now t.group t.first t.last
seen (line.Blocks s run) = BlocksLine s.now run.first run.last
seen (line.Absent s) = AbsentLine s.now
seen (line.Tally s g t) = TallyLine s.now g t
seen (line.Disorder s g o) = DisorderLine s.now g o
seen (line.Unlisted place) = UnlistedLine place
seen (line.Refused place) = RefusedLine place
seen (line.Spoilt place cause) = SpoiltLine place cause
seen (line.UnlistedCount count) = UnlistedCountLine count
seen (line.RefusedCount count) = RefusedCountLine count
seen (line.SpoiltCount count) = SpoiltCountLine count
seen (line.Damaged place offset size) = DamagedLine place offset size
seen (line.DamagedCount count octets) = DamagedCountLine count octets
seen (line.Torn offset) = TornLine offset
seen (line.Block b verified) = BlockLine b.now.place verified b.now.session b.now.parameters
seen (line.Sha1 place) = Sha1Line place
seen (line.NotIgnored suspect) = NotIgnoredLine suspect.place suspect.suspicion
seen line.NoneListed = NoneListedLine
seen line.Empty = EmptyLine
seen (line.End count) = EndLine count
