-- Which refused blocks may be ignored, where those of strangers are no finding. Anybody can write a block that claims a
-- joined session and isn't validly signed, and so does whoever changes a block of the signer. Where a changed signature
-- block was one of several, the numbers or GBC that it leaves out are reported. Where it was the last one, nothing is:
-- so a block that may be that is never ignored. Its RSID may be what was changed, so each joined session of the same
-- originator counts.
use Rattle.std.specs.Prelude.{ℕ, ◌+◌, ◌==◌, nat_le, Bool, true, false, not, ◌&&◌, if◌then◌else◌}
use Rattle.std.specs.Prelude.{List, [], filter, filter_map, Option, Some, None, option_map}
use Rattle.std.specs.declared.cmp.Ordering.{Ordering}
use Rattle.std.specs.List.{list_all, list_any}
use Rattle.std.specs.Ordering.{is_eq, ordering_then}
use Rattle.ss_block.specs.declared.block.Group.{Group}
use Rattle.ss_block.specs.declared.session.Session.{Session}
use Rattle.ss_block.specs.Order.{field_cmp}
use Rattle.ss_review.specs.declared.keep.log_blocks.LogBlock.{LogBlock}
use Rattle.ss_review.specs.declared.questions.parameters.AskedParameters.{AskedParameters}
use Rattle.ss_review.specs.declared.questions.parameters.AskedParameters.TheVariants as parameters
use Rattle.ss_review.specs.declared.report.report.Report.{Report}
use Rattle.ss_review.specs.declared.report.session_report.SessionReport.{SessionReport}
use Rattle.ss_review.specs.report.Entries.{same_group}
use Rattle.ss_review.specs.report.Verdict.{is_joined}
use Rattle.ss_review.specs.sessions.Sessions.{same_session}
use Rattle.ss_report.specs.declared.strangers.suspects.Suspect.{Suspect}
use Rattle.ss_report.specs.declared.strangers.suspects.Suspicion.{Suspicion}
use Rattle.ss_report.specs.declared.strangers.suspects.Suspicion.TheVariants as suspicions
use Rattle.ss_report.specs.runs.Carrying.{is_joined_in}

-- ---- originators

-- by HOSTNAME, APP-NAME and PROCID
abbrev pub names_cmp : Session → Session → Ordering
names_cmp a b =
    ordering_then (field_cmp a.host b.host) (ordering_then (field_cmp a.app b.app) (field_cmp a.procid b.procid))

-- their sessions differ in RSID at most
abbrev pub same_names : Session → Session → Bool
same_names a b = is_eq (names_cmp a b)

-- ---- what verified blocks reach

-- whether the block is verified, where those at these places aren't
abbrev pub is_verified : (refused : List ℕ) → LogBlock → Bool
is_verified refused b = not (list_any (λ p. p == b.place) refused)

-- a signature block with at least this GBC (RFC 5848, section 4.2.4)
abbrev pub has_gbc : (gbc : ℕ) → AskedParameters → Bool
has_gbc least (parameters.Signature alg group gbc first count) = nat_le least gbc
has_gbc least (parameters.Certificate alg group total index length) = false

-- a signature block of the group that announces at least the number before this one
abbrev pub has_last : Group → (end : ℕ) → AskedParameters → Bool
has_last g end (parameters.Signature alg group gbc first count) = same_group group g && nat_le end (first + count)
has_last g end (parameters.Certificate alg group total index length) = false

-- whether the session has a verified block that passes
abbrev pub has_verified : (refused : List ℕ) → List LogBlock → (AskedParameters → Bool) → Session → Bool
has_verified refused bs passes s =
    list_any (λ v. is_verified refused v && (same_session v.session s && passes v.parameters)) bs

-- the joined sessions of the originator of this one
abbrev pub fellows : List SessionReport → Session → List SessionReport
fellows ss s = filter (λ t. is_joined t.state) (filter (λ t. same_names t.session s) ss)

-- each of them has a verified block that passes
abbrev pub all_have :
    List SessionReport → (refused : List ℕ) → List LogBlock → (AskedParameters → Bool) → Session → Bool
all_have ss refused bs passes s = list_all (λ t. has_verified refused bs passes t.session) (fellows ss s)

-- Each of them has one with at least this GBC, and one of this group with at least this last number. A certificate block
-- announces nothing.
abbrev pub is_reached :
    List SessionReport → (refused : List ℕ) → List LogBlock → Session → AskedParameters → Bool
is_reached ss refused bs s (parameters.Certificate alg group total index length) = true
is_reached ss refused bs s (parameters.Signature alg group gbc first count) =
    all_have ss refused bs (has_gbc gbc) s && all_have ss refused bs (has_last group (first + count)) s

-- ---- what isn't to be ignored

-- why a refused block isn't to be ignored, if it isn't
abbrev pub suspicion_of : List LogBlock → Report → LogBlock → Option Suspicion
suspicion_of bs r b =
    if not (is_joined_in r b.session) then Some suspicions.Unjoined
    else (if is_reached r.sessions r.refused bs b.session b.parameters then None else Some suspicions.Late)

abbrev pub suspect : (place : ℕ) → Suspicion → Suspect
suspect place why = record { place = place; suspicion = why }

abbrev pub suspect_at : List LogBlock → Report → LogBlock → Option Suspect
suspect_at bs r b =
    if is_verified r.refused b then None else option_map (suspect b.place) (suspicion_of bs r b)

-- those among the blocks of a log
abbrev pub suspects : List LogBlock → Report → List Suspect
suspects bs r = filter_map (suspect_at bs r) bs

-- the same, if strangers are to be ignored
abbrev pub suspects_if : (ignoring : Bool) → List LogBlock → Report → List Suspect
suspects_if false bs r = []
suspects_if true bs r = suspects bs r
