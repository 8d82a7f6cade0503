-- The sessions of the blocks so far are known. The marks of the rest are its own; the rows so far, and those of the rest,
-- are all.
use Rattle.std.proofs.Common.{◌≡◌, ◌<◌, ◌++◌, length, map, filter}
use Rattle.std.specs.Prelude.{All}
use Rattle.std.specs.List.{flat_map}
use Rattle.std.specs.Vec.Iter.{into_iter_items}
use Rattle.std.specs.Slice.Iter.{iter_rest}
use Rattle.ss_review.specs.sessions.Verified.{Answers, is_verified}
use Rattle.ss_review.specs.announced.Announced.{rows_said}
use Rattle.ss_review.specs.announced.Numbered.{session_with_joined, sessions_joined}
use Rattle.ss_review.specs.announced.Indexed.{rows_by}
use Rattle.ss_review.proofs.announced.signature_blocks.signature_blocks.Given as goal

abbrev pub invariant-loop-message : goal.invariant-loop-message
invariant-loop-message l = record {
  known : All (λ b. b.session < length l.sessions) l.announced.items;
  rows : (says : Answers) → map session_with_joined l.sessions ≡ sessions_joined says l.fn.blocks.items → l.verified ≡ map (is_verified says l.fn.blocks.items) l.fn.blocks.items
      → (iter_rest l.marks ≡ map (is_verified says l.fn.blocks.items) (into_iter_items l.message-iterator))
      × (flat_map (rows_by l.sessions) l.announced.items ++ flat_map (λ b. rows_said b.session b.said) (filter (is_verified says l.fn.blocks.items) (into_iter_items l.message-iterator))
      ≡ flat_map (λ b. rows_said b.session b.said) (filter (is_verified says l.fn.blocks.items) l.fn.blocks.items));
}
