-- With some keys, the hashes that were told so far, and those that the rest tells, are all.
use Rattle.std.proofs.Common.{◌<◌, List, length, drop, map}
use Rattle.std.specs.Prelude.{All}
use Rattle.std.specs.List.Sorted.{IsStrictlySortedBy}
use Rattle.ss_block.specs.Order.{session_cmp}
use Rattle.ss_review.specs.declared.sessions.joined_session.JoinedSession.{JoinedSession}
use Rattle.ss_review.specs.announced.Announced.{Key, row_cmp}
use Rattle.ss_review.specs.announced.Indexed.{row_at}
use Rattle.ss_review.proofs.of_numbers.ByNumber.{IsTold}
use Rattle.ss_review.proofs.announced.only_hashes.only_hashes.Given as goal

abbrev pub invariant-loop-i : goal.invariant-loop-i
invariant-loop-i l = (js : List JoinedSession)
    → IsStrictlySortedBy session_cmp (map (λ s. s.session) js)
    → All (λ r. r.number.session < length js) l.rows
    → IsStrictlySortedBy row_cmp (map (row_at js) l.rows)
    → (ks : List Key) × IsTold ks l.hashes.items l.is_first (map (row_at js) l.rows) (map (row_at js) (drop l.i l.rows))
