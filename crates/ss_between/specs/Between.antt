-- One night of a session that goes on: what a review says of a log between two counters of each group. Counters say how
-- many signature blocks a session had sent over all groups (GBC; RFC 5848, section 4.2.4) and the number of a group's
-- next message (FMN; section 4.2.5). A night begins at the first counters and ends before the second ones.
use Rattle.std.specs.Prelude.{ℕ, ◌+◌, ◌-◌, ◌==◌, ◌&&◌, Bool, nat_lt, nat_le, not, max, if◌then◌else◌}
use Rattle.std.specs.Prelude.{Option, Some, None, List, [], ◌∷◌, ◌++◌, map, filter, flat_map}
use Rattle.std.specs.List.{list_any, filter_map}
use Rattle.ss_block.specs.declared.block.Group.{Group}
use Rattle.ss_block.specs.declared.session.Session.{Session}
use Rattle.ss_review.specs.declared.counted.counter.Counter.{Counter}
use Rattle.ss_review.specs.declared.counted.missing.MissingRun.{MissingRun}
use Rattle.ss_review.specs.declared.counted.shortfall.GroupTail.{GroupTail}
use Rattle.ss_review.specs.declared.counted.shortfall.Shortfall.{Shortfall}
use Rattle.ss_review.specs.declared.report.entry.Entry.{Entry}
use Rattle.ss_review.specs.declared.report.entry.Entry.TheVariants as entry
use Rattle.ss_review.specs.declared.report.group_report.GroupReport.{GroupReport}
use Rattle.ss_review.specs.declared.report.session_report.SessionReport.{SessionReport}
use Rattle.ss_review.specs.sessions.Sessions.{same_session}
use Rattle.ss_review.specs.report.Verdict.{is_none}
use Rattle.ss_review.specs.counted.Counted.{number_announced}
use Rattle.ss_review.specs.counted.Kept.{kept_number, kept_gbc, kept_sessions}

-- ---- where a night begins or ends

-- the number of the group's next message by these counters, or 1 where they say none
abbrev pub number_at : List Counter → Session → Group → ℕ
number_at cs s g = max 1 (kept_number cs s g)

-- the GBC of the session's next signature block by these counters, or 0 where they say none
abbrev pub gbc_at : List Counter → Session → ℕ
gbc_at cs s = kept_gbc cs s

-- some counter is of this session
abbrev pub has_counter : List Counter → Session → Bool
has_counter cs s = list_any (same_session s) (kept_sessions cs)

-- ---- what is missing, without what lies below the first counters

-- an entry of a group, without the numbers of a hole below this one
unfoldable pub entry_left : ℕ → Entry → Option Entry
entry_left n (entry.Listed number place) = Some (entry.Listed number place)
entry_left n (entry.Gap number why) = Some (entry.Gap number why)
entry_left n (entry.Hole first last) = if nat_lt last n then None else Some (entry.Hole (max first n) last)

abbrev pub group_left : List Counter → Session → GroupReport → GroupReport
group_left cs s g = record { group = g.group; entries = filter_map (entry_left (number_at cs s g.group)) g.entries }

abbrev pub session_left : List Counter → SessionReport → SessionReport
session_left cs r = record { session = r.session; state = r.state; groups = map (group_left cs r.session) r.groups }

-- a tail of a group, without the numbers below this one
unfoldable pub tail_left : ℕ → GroupTail → Option GroupTail
tail_left n t =
    if nat_lt t.last n then None else Some (record { group = t.group; first = max t.first n; last = t.last })

-- a run of missing signature blocks, without the GBC below this one
unfoldable pub run_left : ℕ → MissingRun → Option MissingRun
run_left n r = if nat_lt r.last n then None else Some (record { first = max r.first n; last = r.last })

abbrev pub own_tail_left : List Counter → Session → GroupTail → Option GroupTail
own_tail_left cs s t = tail_left (number_at cs s t.group) t

unfoldable pub shortfall_left : List Counter → Shortfall → Shortfall
shortfall_left cs f = record {
  session = f.session;
  tails = filter_map (own_tail_left cs f.session) f.tails;
  blocks = filter_map (run_left (gbc_at cs f.session)) f.blocks;
}

-- Of a session that had begun before the night nothing is missing, so it sent nothing in the night.
abbrev pub is_idle : List Counter → Shortfall → Bool
is_idle cs f = has_counter cs f.session && (is_none f.tails && is_none f.blocks)

-- what is missing of sessions that the log has no block of, if they sent anything in the night or began in it
unfoldable pub absent_left : List Counter → List Shortfall → List Shortfall
absent_left cs fs = filter (λ f. not (is_idle cs f)) (map (shortfall_left cs) fs)

-- ---- what is announced outside of the night

-- Numbers of a group, from the first to the last, each 1 to 9,999,999,999.
pub record NumberRun : Type 0 where
  pub group : Group
  pub first : ℕ
  pub last : ℕ

-- the numbers of a group from the first up to the end, which isn't one
unfoldable pub numbers_between : Group → (first end : ℕ) → List NumberRun
numbers_between g first end =
    if nat_lt first end then record { group = g; first = first; last = end - 1 } ∷ [] else []

-- The greatest runs of rising numbers, of which the first may go on with those from the first up to the end.
unfoldable pub runs_from : Group → (first end : ℕ) → List ℕ → List NumberRun
runs_from g first end [] = numbers_between g first end
runs_from g first end (n ∷ ns) =
    if n == end then runs_from g first (n + 1) ns else numbers_between g first end ++ runs_from g n (n + 1) ns

-- the greatest runs of rising numbers, each at least 1
abbrev pub runs : Group → List ℕ → List NumberRun
runs g ns = runs_from g 0 0 ns

-- the announced numbers of a group
abbrev pub numbers : GroupReport → List ℕ
numbers g = flat_map number_announced g.entries

-- those below the first counter of the group
unfoldable pub early_of : List Counter → Session → GroupReport → List NumberRun
early_of cs s g = runs g.group (filter (λ n. nat_lt n (number_at cs s g.group)) (numbers g))

-- those at the second counter of the group or above it
unfoldable pub beyond_of : List Counter → Session → GroupReport → List NumberRun
beyond_of cs s g = runs g.group (filter (λ n. nat_le (number_at cs s g.group) n) (numbers g))

abbrev pub early : List Counter → SessionReport → List NumberRun
early cs r = flat_map (early_of cs r.session) r.groups

-- none where no second counters are given
unfoldable pub beyond : Option (List Counter) → SessionReport → List NumberRun
beyond None r = []
beyond (Some cs) r = flat_map (beyond_of cs r.session) r.groups

-- ---- the night

-- what a review says of a session of the log, between its counters
pub record SessionBetween : Type 0 where
  pub report : SessionReport
  pub early : List NumberRun
  pub beyond : List NumberRun
  pub short : Shortfall

unfoldable pub session_between : List Counter → Option (List Counter) → SessionReport × Shortfall → SessionBetween
session_between first second p = record {
  report = session_left first p.0;
  early = early first p.0;
  beyond = beyond second p.0;
  short = shortfall_left first p.1;
}
