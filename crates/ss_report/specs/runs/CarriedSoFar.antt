-- What a walk over the blocks of a log carries for each, and what it knows of those that it passed.
use Rattle.std.specs.Prelude.{◌≡◌, ℕ, not, true, List, [], ◌∷◌, ◌++◌, length, map, filter_map, All, Option, Some, None}
use Rattle.std.specs.Prelude.{if◌then◌else◌}
use Rattle.std.specs.declared.cmp.Ordering.{Ordering}
use Rattle.std.specs.Ordering.{nat_cmp, ordering_then}
use Rattle.std.specs.List.{list_any}
use Rattle.std.specs.List.Sorted.{IsStrictlySortedBy}
use Rattle.std.specs.BTreeSet.{BTreeSet, contains}
use Rattle.ss_block.specs.Order.{session_cmp, group_cmp}
use Rattle.ss_block.specs.declared.session.Session.{Session}
use Rattle.ss_review.specs.keep.BlockMessage.{BlockMessage, BlockContent, Hashes, Fragment}
use Rattle.ss_review.specs.declared.report.entry.Entry.{Entry}
use Rattle.ss_review.specs.declared.report.session_report.SessionReport.{SessionReport}
use Rattle.ss_review.specs.declared.report.report.Report.{Report}
use Rattle.ss_review.specs.report.Extract.{place_listed}
use Rattle.ss_review.specs.report.Meaning.{first_number}
use Rattle.ss_review.specs.report.Verdict.{is_joined}
use Rattle.ss_report.specs.declared.runs.carrying.Extent.{Extent}
use Rattle.ss_report.specs.runs.Carrying.{told_of, is_joined_in, is_refused_in, is_fragment_of, is_gap, entries_under}

-- ---- the report on a joined session

-- the groups rise, and the entries of each
pub record IsToldInOrder (t : SessionReport) : Type 0 where
  pub groups : IsStrictlySortedBy group_cmp (map (λ g. g.group) t.groups)
  pub entries : All (λ g. IsStrictlySortedBy nat_cmp (map first_number g.entries)) t.groups

pub record IsToldJoined (r : Report) (s : Session) (t : SessionReport) : Type 0 where
  pub told : told_of r s ≡ t ∷ []
  pub joined : is_joined t.state ≡ true
  pub session_is : t.session ≡ s
  pub in_order : IsToldInOrder t

-- ---- what is carried for a block, after the blocks before it

-- a signature block and the messages of its numbers, where one of these is a gap
abbrev pub carried_numbers : List Entry → ℕ → List ℕ
carried_numbers es place = if list_any is_gap es then place ∷ filter_map place_listed es else []

-- a verified block
abbrev pub carried_verified : Report → (before : List BlockMessage) → BlockMessage → BlockContent → List ℕ
carried_verified r before b (Hashes h) = carried_numbers (entries_under r b) b.place
carried_verified r before b (Fragment c) =
    if list_any (is_fragment_of r b.session c.index (length c.fragment)) before then [] else b.place ∷ []

abbrev pub carried_with : Report → (before : List BlockMessage) → BlockMessage → List ℕ
carried_with r before b =
    if not (is_joined_in r b.session) then b.place ∷ []
    else (if is_refused_in r b then [] else carried_verified r before b b.said)

abbrev pub carried_at : Report → (before : List BlockMessage) → Option BlockMessage → List ℕ
carried_at r before (Some b) = carried_with r before b
carried_at r before None = []

-- for each of the blocks, after these
abbrev pub carried_along : Report → (before : List BlockMessage) → List BlockMessage → List ℕ
carried_along r before [] = []
carried_along r before (b ∷ bs) = carried_with r before b ++ carried_along r (before ++ b ∷ []) bs

-- ---- what is known of the blocks before

-- by session, INDEX and FLEN
abbrev pub extent_cmp : Extent → Extent → Ordering
extent_cmp a b =
    ordering_then (session_cmp a.session.now b.session.now)
    (ordering_then (nat_cmp a.index b.index) (nat_cmp a.length b.length))

-- the extents of their verified certificate blocks
abbrev pub KnowsExtents : Report → (before : List BlockMessage) → BTreeSet Extent → Type 0
KnowsExtents r before known = (e : Extent)
    → contains extent_cmp known e ≡ list_any (is_fragment_of r e.session.now e.index e.length) before
