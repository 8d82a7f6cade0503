-- The sessions of the rows so far are known; these rows, and those of the rest, are all.
use Rattle.std.proofs.Common.{◌≡◌, ℕ, ◌<◌, ◌+◌, ◌++◌, List, drop, map}
use Rattle.std.specs.Prelude.{All}
use Rattle.ss_review.specs.keep.BlockMessage.{Hashes}
use Rattle.ss_review.specs.declared.sessions.joined_session.JoinedSession.{JoinedSession}
use Rattle.ss_review.specs.announced.Announced.{rows_said}
use Rattle.ss_review.specs.announced.Indexed.{session_at, row_at}
use Rattle.ss_review.proofs.announced.announced.add_hashes.Given as goal

abbrev pub invariant-loop-hash : goal.invariant-loop-hash
invariant-loop-hash l = record {
  number : l.number ≡ l.block.first + l.hash-index;
  known : (n : ℕ) → l.session < n → All (λ r. r.number.session < n) l.initial.rows.items → All (λ r. r.number.session < n) l.rows.items;
  rest : (js : List JoinedSession) → map (row_at js) l.rows.items ++ rows_said (session_at js l.session) (Hashes (record l.block { first = l.number; hashes = drop l.hash-index l.hash-items }))
      ≡ map (row_at js) l.initial.rows.items ++ rows_said (session_at js l.session) (Hashes l.block);
}
