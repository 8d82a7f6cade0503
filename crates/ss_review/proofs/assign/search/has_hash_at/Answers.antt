use Rattle.std.proofs.Common.{◌<◌, length, ◌∙◌, arith}
use Rattle.ss_review.proofs.of_assignment.ListedHashes.{has_there, has_past}
use Rattle.ss_review.proofs.assign.search.has_hash_at.Goals as goal

pub returns-then-index-list-clause-has : goal.returns-then-index-list-clause-has
returns-then-index-list-clause-has c = λ begin.
    has_past c.args.list.now.pairs.now c.args.list.now.entries.now c.args.index c.args.hash.now (omega arith)

pub returns-clause-within : goal.returns-clause-within
returns-clause-within c = λ yes. omega arith

pub returns-clause-has : goal.returns-clause-has
returns-clause-has c = λ begin.
    let within : c.args.index < length c.args.list.now.entries.now = omega arith in
    c.entry_has.ensures ∙ has_there c.args.list.now.pairs.now c.args.list.now.entries.now c.args.index _ c.args.hash.now within begin
