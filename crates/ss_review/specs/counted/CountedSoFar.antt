-- The GBC values of the verified signature blocks of each session, as they are found.
use Rattle.std.specs.Prelude.{ℕ, Bool, List, [], ◌∷◌, ◌++◌, map, filter, if◌then◌else◌}
use Rattle.std.specs.Ordering.{nat_cmp}
use Rattle.ss_block.specs.declared.session.Session.{Session}
use Rattle.ss_review.specs.keep.BlockMessage.{BlockMessage}
use Rattle.ss_review.specs.declared.sessions.joined_session.JoinedSession.{JoinedSession}
use Rattle.ss_review.specs.declared.counted.counted_session.CountedSession.{CountedSession}
use Rattle.ss_review.specs.declared.counted.counting.SessionGbcs.{SessionGbcs}
use Rattle.ss_review.specs.Ordered.{in_order}
use Rattle.ss_review.specs.sessions.Sessions.{same_session, of_session}
use Rattle.ss_review.specs.counted.Counted.{gbc_said, gbcs_said}

abbrev pub found_of : SessionGbcs → Session × List ℕ
found_of f = (f.session.now, f.gbcs.items)

abbrev pub nothing_of : JoinedSession → Session × List ℕ
nothing_of s = (s.session, [])

-- one more value of a session
abbrev pub with_gbc : Session → ℕ → Session × List ℕ → Session × List ℕ
with_gbc s gbc f = (f.0, f.1 ++ (if same_session s f.0 then gbc ∷ [] else []))

-- what a block adds to a session, if it is verified
abbrev pub gbcs_added : Bool → BlockMessage → Session → List ℕ
gbcs_added verified b s = if verified then (if same_session b.session s then gbc_said b.said else []) else []

abbrev pub with_block : Bool → BlockMessage → Session × List ℕ → Session × List ℕ
with_block verified b f = (f.0, f.1 ++ gbcs_added verified b f.0)

-- what blocks that pass a test state, session by session
abbrev pub found_among : (BlockMessage → Bool) → List Session → List BlockMessage → List (Session × List ℕ)
found_among test ss bs = map (λ s. (s, gbcs_said (filter test (of_session bs s)))) ss

abbrev pub counted_in_order : Session × List ℕ → CountedSession
counted_in_order f = record { session = f.0; gbcs = in_order nat_cmp f.1 }
