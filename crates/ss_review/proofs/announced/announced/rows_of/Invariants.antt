-- The sessions of the rows so far, and of the blocks that are left, are known; the rows of both are all.
use Rattle.std.proofs.Common.{◌≡◌, ℕ, ◌<◌, ◌++◌, List, map}
use Rattle.std.specs.Prelude.{All}
use Rattle.std.specs.List.{flat_map}
use Rattle.std.specs.Vec.Iter.{into_iter_items}
use Rattle.ss_review.specs.declared.sessions.joined_session.JoinedSession.{JoinedSession}
use Rattle.ss_review.specs.announced.Indexed.{row_at, rows_by}
use Rattle.ss_review.proofs.announced.announced.rows_of.Given as goal

abbrev pub invariant-loop-announced : goal.invariant-loop-announced
invariant-loop-announced l = record {
  known : (n : ℕ) → All (λ b. b.session < n) l.fn.blocks.items → All (λ b. b.session < n) (into_iter_items l.announced-iterator) × All (λ r. r.number.session < n) l.rows.items;
  rows : (js : List JoinedSession) → map (row_at js) l.rows.items ++ flat_map (rows_by js) (into_iter_items l.announced-iterator) ≡ flat_map (rows_by js) l.fn.blocks.items;
}
