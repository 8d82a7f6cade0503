-- With some hashes, the numbers that were told so far, and those that the rest tells, are all.
use Rattle.std.proofs.Common.{List, drop, map}
use Rattle.std.specs.Prelude.{Option}
use Rattle.ss_block.specs.declared.hash.Hash.{Hash}
use Rattle.ss_review.specs.announced.Numbered.{key_of}
use Rattle.ss_review.specs.announced.Indexed.{row_at}
use Rattle.ss_review.proofs.of_numbers.ByNumber.{IsTold}
use Rattle.ss_review.proofs.announced.only_hashes.numbers.Given as goal

abbrev pub invariant-loop-i : goal.invariant-loop-i
invariant-loop-i l =
    (hs : List (Option Hash)) × IsTold (map key_of l.numbers.items) hs l.is_first (map (row_at l.sessions) l.rows) (map (row_at l.sessions) (drop l.i l.rows))
