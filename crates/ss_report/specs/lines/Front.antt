-- The lines in front of a report, where they are asked for: the blocks of the log, that a session rests on SHA-1, which
-- refused blocks aren't to be ignored, and that nothing is listed.
use Rattle.std.specs.Prelude.{◌≡◌, ℕ, Bool, true, false, ◌&&◌, if◌then◌else◌, List, [], ◌∷◌, ◌++◌, find, map}
use Rattle.std.specs.Prelude.{Option, Some, None, option_map, filter_map, flat_map}
use Rattle.std.specs.List.Sorted.{IsStrictlySortedBy}
use Rattle.std.specs.Ordering.{nat_cmp}
use Rattle.ss_block.specs.declared.hash.Alg.{Alg}
use Rattle.ss_block.specs.declared.hash.Alg.TheVariants as algs
use Rattle.ss_review.specs.declared.keep.log_blocks.LogBlock.{LogBlock}
use Rattle.ss_review.specs.declared.questions.parameters.AskedParameters.{AskedParameters}
use Rattle.ss_review.specs.declared.questions.parameters.AskedParameters.TheVariants as parameters
use Rattle.ss_review.specs.declared.report.report.Report.{Report}
use Rattle.ss_review.specs.declared.report.group_report.GroupReport.{GroupReport}
use Rattle.ss_review.specs.declared.report.session_report.SessionReport.{SessionReport}
use Rattle.ss_review.specs.report.Extract.{place_listed}
use Rattle.ss_review.specs.report.Verdict.{is_none}
use Rattle.ss_report.specs.declared.lines.detail.Detail.{Detail}
use Rattle.ss_report.specs.declared.lines.front.FrontMatter.{FrontMatter}
use Rattle.ss_report.specs.declared.strangers.suspects.Suspect.{Suspect}
use Rattle.ss_report.specs.lines.Lines.{ReportLine, BlockLine, NotIgnoredLine, Sha1Line, NoneListedLine}
use Rattle.ss_report.specs.strangers.Strangers.{is_verified, suspects_if}

-- ---- blocks

abbrev pub block_line : (refused : List ℕ) → LogBlock → ReportLine
block_line refused b = BlockLine b.place (is_verified refused b) b.session b.parameters

-- one for each block of the log, if these are asked for
abbrev pub block_lines : (asked : Bool) → (refused : List ℕ) → List LogBlock → List ReportLine
block_lines false refused bs = []
block_lines true refused bs = map (block_line refused) bs

-- ---- SHA-1

abbrev pub is_sha1 : Alg → Bool
is_sha1 algs.Sha1 = true
is_sha1 algs.Sha256 = false

-- a signature block with hashes by SHA-1 (VER 0111; RFC 5848, section 4.2.1)
abbrev pub is_by_sha1 : AskedParameters → Bool
is_by_sha1 (parameters.Signature alg group gbc first count) = is_sha1 alg
is_by_sha1 (parameters.Certificate alg group total index length) = false

-- a verified one: its session rests on SHA-1
abbrev pub is_weak : (refused : List ℕ) → LogBlock → Bool
is_weak refused b = is_by_sha1 b.parameters && is_verified refused b

abbrev pub weak_lines : (place : Option ℕ) → List ReportLine
weak_lines None = []
weak_lines (Some place) = Sha1Line place ∷ []

-- the place of the first of these, if that is a finding
abbrev pub sha1_lines : (no_sha1 : Bool) → (refused : List ℕ) → List LogBlock → List ReportLine
sha1_lines false refused bs = []
sha1_lines true refused bs = weak_lines (option_map (λ b. b.place) (find (is_weak refused) bs))

-- ---- strangers

abbrev pub suspect_line : Suspect → ReportLine
suspect_line s = NotIgnoredLine s.place s.suspicion

-- ---- nothing listed

-- the places of the listed messages of a group, and of a session
abbrev pub group_places : GroupReport → List ℕ
group_places g = filter_map place_listed g.entries

abbrev pub session_places : SessionReport → List ℕ
session_places s = flat_map group_places s.groups

-- that no message is listed, if that is a finding
abbrev pub none_lines : (some_listed : Bool) → Report → List ReportLine
none_lines some_listed r =
    if some_listed && is_none (flat_map session_places r.sessions) then NoneListedLine ∷ [] else []

-- ---- all of them

abbrev pub front_lines : Detail → List LogBlock → Report → List ReportLine
front_lines detail bs r =
    block_lines detail.blocks r.refused bs ++ sha1_lines detail.no_sha1 r.refused bs
    ++ map suspect_line (suspects_if detail.ignore_strangers bs r) ++ none_lines detail.some_listed r

-- this is what they are made of, for a report with rising places
pub record IsReady (detail : Detail) (front : FrontMatter) (r : Report) : Type 0 where
  pub rising : IsStrictlySortedBy nat_cmp r.refused
  pub suspects : front.suspects ≡ suspects_if detail.ignore_strangers front.blocks r
