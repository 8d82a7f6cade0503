-- What is missing of sessions up to counters that somebody kept: how many signature blocks a session had sent over all
-- groups (GBC; RFC 5848, section 4.2.4), and the numbers of a group's messages (FMN; section 4.2.5).
use Rattle.std.specs.Prelude.{ℕ, ◌-◌, ◌≤◌, nat_lt, not, max, fold, if◌then◌else◌}
use Rattle.std.specs.Prelude.{List, [], ◌∷◌, map, filter, flat_map, All}
use Rattle.std.specs.List.{list_any, zip}
use Rattle.std.specs.List.Sorted.{IsStrictlySortedBy}
use Rattle.ss_block.specs.Ranges.{past_last_number}
use Rattle.ss_block.specs.Order.{session_cmp, group_cmp}
use Rattle.ss_block.specs.declared.block.Group.{Group}
use Rattle.ss_block.specs.declared.session.Session.{Session}
use Rattle.ss_review.specs.declared.counted.counted_session.CountedSession.{CountedSession}
use Rattle.ss_review.specs.declared.counted.counter.Counter.{Counter}
use Rattle.ss_review.specs.declared.counted.counter.Counts.{Counts}
use Rattle.ss_review.specs.declared.counted.counter.Counts.TheVariants as counts
use Rattle.ss_review.specs.declared.counted.shortfall.GroupTail.{GroupTail}
use Rattle.ss_review.specs.declared.counted.shortfall.Shortfall.{Shortfall}
use Rattle.ss_review.specs.declared.counted.shortfall.LogShortfalls.{LogShortfalls}
use Rattle.ss_review.specs.declared.report.group_report.GroupReport.{GroupReport}
use Rattle.ss_review.specs.declared.report.session_report.SessionReport.{SessionReport}
use Rattle.ss_review.specs.counted.Counted.{next_after, next_number, missing}
use Rattle.ss_review.specs.counted.CountedLaws.{IsInRange}
use Rattle.ss_review.specs.report.Entries.{same_group}
use Rattle.ss_review.specs.Ordered.{in_order}
use Rattle.ss_review.specs.sessions.Sessions.{same_session}

-- ---- what the counters say

-- the counters of a session
abbrev pub counters_of : List Counter → Session → List Counter
counters_of cs s = filter (λ c. same_session c.session s) cs

-- how many blocks the session had sent, where the counter says it, and else 0
abbrev pub blocks_said : Counts → ℕ → ℕ
blocks_said counts.Blocks next = next
blocks_said (counts.Messages g) next = 0

-- the number of the group's next message, where the counter says it, and else 0
abbrev pub number_said : Group → Counts → ℕ → ℕ
number_said g counts.Blocks next = 0
number_said g (counts.Messages h) next = if same_group h g then next else 0

-- the group that the counter speaks of, if it speaks of one
abbrev pub group_said : Counts → List Group
group_said counts.Blocks = []
group_said (counts.Messages g) = g ∷ []

-- the greatest GBC that the counters of a session say of its next signature block, or 0 where none does
unfoldable pub gbc_in : List Counter → ℕ
gbc_in own = fold max 0 (map (λ c. blocks_said c.counts c.next) own)

-- the greatest number that they say of the group's next message, or 0 where none does
unfoldable pub number_in : List Counter → Group → ℕ
number_in own g = fold max 0 (map (λ c. number_said g c.counts c.next) own)

-- the groups that they speak of, each once, rising
unfoldable pub groups_in : List Counter → List Group
groups_in own = in_order group_cmp (flat_map (λ c. group_said c.counts) own)

abbrev pub kept_gbc : List Counter → Session → ℕ
kept_gbc cs s = gbc_in (counters_of cs s)

abbrev pub kept_number : List Counter → Session → Group → ℕ
kept_number cs s g = number_in (counters_of cs s) g

abbrev pub kept_groups : List Counter → Session → List Group
kept_groups cs s = groups_in (counters_of cs s)

-- the sessions that have a counter, each once, rising
unfoldable pub kept_sessions : List Counter → List Session
kept_sessions cs = in_order session_cmp (map (λ c. c.session) cs)

-- ---- what is missing up to them

-- the number after the last announced one of a group, and 1 where none is announced
abbrev pub number_behind : List GroupReport → Group → ℕ
number_behind gs g = fold max 1 (map next_number (filter (λ r. same_group r.group g) gs))

-- the numbers from the first up to the end, which isn't one
abbrev pub tail_between : Group → (first end : ℕ) → List GroupTail
tail_between g first end = if nat_lt first end then record { group = g; first = first; last = end - 1 } ∷ [] else []

-- what comes after the last announced message of each group, up to its counter
unfoldable pub tails_in : (own : List Counter) → List GroupReport → List GroupTail
tails_in own gs = flat_map (λ g. tail_between g (number_behind gs g) (number_in own g)) (groups_in own)

-- where a session's signature blocks end: after the greatest GBC that is there, and at its counter or after it
abbrev pub end_of_blocks : (own : List Counter) → (gbcs : List ℕ) → ℕ
end_of_blocks own gbcs = max (next_after gbcs) (gbc_in own)

-- What is missing of a session up to its own counters. Its report has these groups, and its verified signature blocks
-- have these GBC.
abbrev pub shortfall_in : (own : List Counter) → Session → List GroupReport → (gbcs : List ℕ) → Shortfall
shortfall_in own s gs gbcs = record {
  session = s;
  tails = tails_in own gs;
  blocks = missing gbcs (end_of_blocks own gbcs);
}

abbrev pub shortfall : List Counter → Session → List GroupReport → (gbcs : List ℕ) → Shortfall
shortfall cs s gs gbcs = shortfall_in (counters_of cs s) s gs gbcs

-- those of the sessions that aren't among the known ones
abbrev pub absent_among : List Session → (known : List Session) → List Session
absent_among ss known = filter (λ s. not (list_any (same_session s) known)) ss

abbrev pub shortfall_beside : List Counter → SessionReport × CountedSession → Shortfall
shortfall_beside cs p = shortfall cs p.0.session p.0.groups p.1.gbcs

-- of the sessions of a report, beside the GBC of their verified signature blocks, and of those that aren't there
unfoldable pub log_shortfalls : List Counter → List SessionReport → List CountedSession → LogShortfalls
log_shortfalls cs sessions counted = record {
  known = map (shortfall_beside cs) (zip sessions counted);
  absent = map (λ s. shortfall cs s [] []) (absent_among (kept_sessions cs) (map (λ r. r.session) sessions));
}

-- ---- what holds of every review

-- The groups of a session rise, and the next number of each has ten digits at most, or is 10,000,000,000.
pub record AreGroups (gs : List GroupReport) : Type 0 where
  pub rise : IsStrictlySortedBy group_cmp (map (λ g. g.group) gs)
  pub within : All (λ g. next_number g ≤ past_last_number) gs

-- The sessions of a report rise, their groups are in range, and so are the GBC of each.
pub record AreReviewed (sessions : List SessionReport) (counted : List CountedSession) : Type 0 where
  pub rise : IsStrictlySortedBy session_cmp (map (λ s. s.session) sessions)
  pub groups : All (λ s. AreGroups s.groups) sessions
  pub gbcs : All IsInRange counted
