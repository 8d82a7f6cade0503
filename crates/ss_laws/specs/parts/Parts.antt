-- A log that is cut into parts: each place belongs to one part, and the messages of a part keep their order.
use Rattle.std.specs.Prelude.{
  ◌≡◌,
  ℕ,
  ◌<◌,
  ◌==◌,
  true,
  List,
  map,
  filter,
  flat_map,
  count_by,
  sum_by,
  slice_index,
  Contains,
}
use Rattle.std.specs.Ordering.{nat_cmp}
use Rattle.std.specs.List.{enumerate_from, range_with_len}
use Rattle.ss_block.specs.declared.hash.Hash.{Hash}
use Rattle.ss_block.specs.Order.{session_cmp}
use Rattle.ss_review.specs.declared.keep.message.NormalMessage.{NormalMessage}
use Rattle.ss_review.specs.keep.BlockMessage.{BlockMessage}
use Rattle.ss_review.specs.declared.keep.spoilt.SpoiltPlace.{SpoiltPlace}
use Rattle.ss_review.specs.declared.report.entry.Entry.{Entry}
use Rattle.ss_review.specs.declared.report.entry.Entry.TheVariants as entry
use Rattle.ss_review.specs.declared.report.group_report.GroupReport.{GroupReport}
use Rattle.ss_review.specs.declared.report.session_report.SessionReport.{SessionReport}
use Rattle.ss_review.specs.declared.report.report.Report.{Report}
use Rattle.ss_review.specs.Ordered.{in_order}
use Rattle.ss_review.specs.keep.Contents.{Contents}
use Rattle.ss_review.specs.sessions.Verified.{Answers}
use Rattle.ss_review.specs.announced.Announced.{Key}
use Rattle.ss_review.specs.assign.Assigned.{has_hash}
use Rattle.ss_review.specs.announced.Announcing.{Announces}
use Rattle.ss_review.specs.report.Report.{report}

-- ---- a part at its places in the whole

abbrev pub normals_of : (ℕ → ℕ) → ℕ → List NormalMessage → List NormalMessage
normals_of part k ms = filter (λ m. part m.place == k) ms

abbrev pub blocks_of : (ℕ → ℕ) → ℕ → List BlockMessage → List BlockMessage
blocks_of part k bs = filter (λ b. part b.place == k) bs

abbrev pub spoilts_of : (ℕ → ℕ) → ℕ → List SpoiltPlace → List SpoiltPlace
spoilts_of part k ss = filter (λ s. part s.place == k) ss

-- what belongs to a part
abbrev pub part_of : (ℕ → ℕ) → ℕ → Contents → Contents
part_of part k log = record {
  normal = normals_of part k log.normal;
  blocks = blocks_of part k log.blocks;
  spoilt = spoilts_of part k log.spoilt;
  count = count_by (λ place. part place == k) (range_with_len 0 log.count);
}

-- ---- what a cut has to keep

-- all blocks of a session belong to one part (RFC 5848, section 4.2)
abbrev pub SessionsStayWhole : (ℕ → ℕ) → List BlockMessage → Type 0
SessionsStayWhole part bs =
    (b d : BlockMessage) → Contains bs b → Contains bs d → b.session ≡ d.session → part b.place ≡ part d.place

-- a message without a block that has an announced hash belongs to the part of the block that announces it
abbrev pub AnnouncedStayWithBlocks : Answers → (ℕ → ℕ) → Contents → Type 0
AnnouncedStayWithBlocks says part log =
    (m : NormalMessage) (k : Key) (h : Hash) (a : Announces says log.blocks k h)
    → Contains log.normal m → has_hash h m.pair ≡ true → part m.place ≡ part a.message.place

-- the parts of a log, numbered from 0
pub record AreParts (says : Answers) (log : Contents) (part : ℕ → ℕ) (parts : ℕ) : Type 0 where
  pub within : (place : ℕ) → place < log.count → part place < parts
  pub sessions : SessionsStayWhole part log.blocks
  pub messages : AnnouncedStayWithBlocks says part log

-- ---- reports put together

-- each list in the order of the whole
abbrev pub together : List Report → Report
together rs = record {
  sessions = in_order (λ s t. session_cmp s.session t.session) (flat_map (λ r. r.sessions) rs);
  unlisted = in_order nat_cmp (flat_map (λ r. r.unlisted) rs);
  refused = in_order nat_cmp (flat_map (λ r. r.refused) rs);
  spoilt = in_order (λ s t. nat_cmp s.place t.place) (flat_map (λ r. r.spoilt) rs);
  count = sum_by (λ r. r.count) rs;
}

-- ---- a report at other places

abbrev pub moved_entry : (ℕ → ℕ) → Entry → Entry
moved_entry f (entry.Listed number place) = entry.Listed number (f place)
moved_entry f (entry.Gap number why) = entry.Gap number why
moved_entry f (entry.Hole first last) = entry.Hole first last

abbrev pub moved_group : (ℕ → ℕ) → GroupReport → GroupReport
moved_group f g = record { group = g.group; entries = map (moved_entry f) g.entries }

abbrev pub moved_session : (ℕ → ℕ) → SessionReport → SessionReport
moved_session f s = record { session = s.session; state = s.state; groups = map (moved_group f) s.groups }

abbrev pub moved_spoilt : (ℕ → ℕ) → SpoiltPlace → SpoiltPlace
moved_spoilt f s = record { place = f s.place; cause = s.cause }

-- each place in it stands for another
abbrev pub moved : (ℕ → ℕ) → Report → Report
moved f r = record {
  sessions = map (moved_session f) r.sessions;
  unlisted = map f r.unlisted;
  refused = map f r.refused;
  spoilt = map (moved_spoilt f) r.spoilt;
  count = r.count;
}

-- ---- a part as a log of its own

-- the messages of a part in their order, each beside its place in the whole
abbrev pub placed_of : {X : Type 0} → (ℕ → ℕ) → ℕ → List X → List (ℕ × X)
placed_of part k xs = filter (λ n. part n.0 == k) (enumerate_from 0 xs)

abbrev pub messages_of : {X : Type 0} → (ℕ → ℕ) → ℕ → List X → List X
messages_of part k xs = map (λ n. n.1) (placed_of part k xs)

abbrev pub places_of : {X : Type 0} → (ℕ → ℕ) → ℕ → List X → List ℕ
places_of part k xs = map (λ n. n.0) (placed_of part k xs)

-- the report of a part, with the places in the whole
abbrev pub report_of_part : Answers → (ℕ → ℕ) → ℕ → List (List ℕ) → Report
report_of_part says part k log = moved (slice_index (places_of part k log)) (report says (messages_of part k log))
