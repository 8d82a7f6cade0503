-- Which signature blocks of a session a log has, and which are missing. Each states its Global Block Counter, GBC: how
-- many signature blocks were sent before it in its session, over all groups (RFC 5848, section 4.2.4).
use Rattle.std.specs.Prelude.{ℕ, ◌+◌, ◌-◌, nat_lt, max, fold, List, [], ◌∷◌, ◌++◌, map, filter, flat_map, if◌then◌else◌}
use Rattle.std.specs.Ordering.{nat_cmp}
use Rattle.ss_block.specs.declared.session.Session.{Session}
use Rattle.ss_review.specs.keep.BlockMessage.{BlockMessage, BlockContent, Hashes, Fragment}
use Rattle.ss_review.specs.declared.counted.counted_session.CountedSession.{CountedSession}
use Rattle.ss_review.specs.declared.counted.missing.MissingRun.{MissingRun}
use Rattle.ss_review.specs.declared.report.entry.Entry.{Entry}
use Rattle.ss_review.specs.declared.report.entry.Entry.TheVariants as entry
use Rattle.ss_review.specs.declared.report.group_report.GroupReport.{GroupReport}
use Rattle.ss_review.specs.Ordered.{in_order}
use Rattle.ss_review.specs.sessions.Sessions.{sessions, of_session}
use Rattle.ss_review.specs.sessions.Verified.{Answers, is_verified}

-- ---- what is there

-- the GBC of a signature block
abbrev pub gbc_said : BlockContent → List ℕ
gbc_said (Hashes b) = b.gbc ∷ []
gbc_said (Fragment c) = []

-- the GBC values that these blocks state
abbrev pub gbcs_said : List BlockMessage → List ℕ
gbcs_said bs = flat_map (λ b. gbc_said b.said) bs

-- the GBC values of the verified signature blocks of a session, each once, rising
unfoldable pub gbcs : Answers → List BlockMessage → Session → List ℕ
gbcs says bs s = in_order nat_cmp (gbcs_said (filter (is_verified says bs) (of_session bs s)))

abbrev pub counted_session : Answers → List BlockMessage → Session → CountedSession
counted_session says bs s = record { session = s; gbcs = gbcs says bs s }

-- the sessions of these blocks, in the order of their report
abbrev pub counted_sessions : Answers → List BlockMessage → List CountedSession
counted_sessions says bs = map (counted_session says bs) (sessions bs)

-- ---- what comes next

-- one more than the greatest of these, or 0 where there is none
abbrev pub next_after : List ℕ → ℕ
next_after ns = fold max 0 (map (λ n. n + 1) ns)

abbrev pub number_announced : Entry → List ℕ
number_announced (entry.Listed n place) = n ∷ []
number_announced (entry.Gap n why) = n ∷ []
number_announced (entry.Hole first last) = []

-- the number of a group's next message, from what a report says about the group
unfoldable pub next_number : GroupReport → ℕ
next_number g = next_after (flat_map number_announced g.entries)

-- ---- what is missing

-- the values from the first up to the end, which isn't one
abbrev pub run_between : ℕ → ℕ → List MissingRun
run_between first end = if nat_lt first end then record { first = first; last = end - 1 } ∷ [] else []

-- those below the end, from the greatest on that is there
abbrev pub run_below : List ℕ → ℕ → List MissingRun
run_below gs end = run_between (next_after (filter (λ g. nat_lt g end) gs)) end

-- The greatest runs of values below a bound that aren't there. Each ends below a value that is, or below the bound.
unfoldable pub missing : List ℕ → ℕ → List MissingRun
missing gs next = flat_map (run_below gs) (filter (λ g. nat_lt g next) gs ++ next ∷ [])

-- those below the greatest value that is there
abbrev pub missing_blocks : List ℕ → List MissingRun
missing_blocks gs = missing gs (next_after gs)
