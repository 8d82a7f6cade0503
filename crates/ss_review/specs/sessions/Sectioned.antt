-- The blocks of a log, session by session.
use Rattle.std.specs.Prelude.{◌≡◌, ℕ, ◌<◌, ◌≤◌, false, List, [], ◌∷◌, length, drop, slice_index_or, slice_range, map}
use Rattle.std.specs.Prelude.{if◌then◌else◌}
use Rattle.std.specs.Borrow.{Bor}
use Rattle.std.specs.List.{AllByRecursion}
use Rattle.std.specs.Ordering.{is_gt}
use Rattle.ss_block.specs.declared.session.Session.{Session}
use Rattle.ss_block.specs.Order.{session_cmp}
use Rattle.ss_review.specs.keep.BlockMessage.{BlockMessage}
use Rattle.ss_review.specs.sessions.Sessions.{same_session, sessions, of_session}

-- each session, in order, with its blocks in theirs
abbrev pub sections : List BlockMessage → List (Session × List BlockMessage)
sections bs = map (λ s. (s, of_session bs s)) (sessions bs)

-- the blocks that references lead to
abbrev pub referred : List (Bor BlockMessage) → List BlockMessage
referred bs = map (λ b. b.now) bs

-- those from the first on that are of a session
abbrev pub front : Session → List BlockMessage → List BlockMessage
front s [] = []
front s (b ∷ bs) = if same_session b.session s then b ∷ front s bs else []

-- no block's session is above a later one's
abbrev pub SessionsRise : List BlockMessage → Type 0
SessionsRise [] = Unit {0}
SessionsRise (b ∷ bs) = AllByRecursion (λ c. is_gt (session_cmp b.session c.session) ≡ false) bs × SessionsRise bs

-- the blocks from `start` up to `end` are the first section of those from `start` on
pub record EndsSection (bs : List (Bor BlockMessage)) (start end : ℕ) : Type 0 where
  pub some : start < end
  pub within : end ≤ length bs
  pub sectioned : (d : Bor BlockMessage)
      → sections (referred (drop start bs))
      ≡ ((slice_index_or bs start d).now.session, referred (slice_range bs start end))
      ∷ sections (referred (drop end bs))
