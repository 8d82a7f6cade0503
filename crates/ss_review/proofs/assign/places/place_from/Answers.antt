use Rattle.std.proofs.Common.{◌≡◌, ◌+◌, sym, ap, ◌∙◌, arith}
use Rattle.std.specs.Prelude.{Some, slice_get}
use Rattle.ss_review.specs.assign.StoredHashes.{listed, place_beside}
use Rattle.ss_review.proofs.of_assignment.ListedHashes.{stands_at}
use Rattle.ss_review.proofs.of_assignment.StoredRuns.{beside_itself}
use Rattle.ss_review.proofs.assign.places.place_from.Goals as goal

pub returns-then-number-eq0 : goal.returns-then-number-eq0
returns-then-number-eq0 c = λ first here.
    let list = listed c.args.list.now.pairs.now c.args.list.now.entries.now in
    let same : c.args.at ≡ c.args.at + c.args.number = omega arith in
    ap Some (c.place.ensures first here) ∙ beside_itself first ∙ ap (place_beside first) (sym here ∙ ap (slice_get list) same)

pub returns : goal.returns
returns c = λ first here.
    let list = listed c.args.list.now.pairs.now c.args.list.now.entries.now in
    c.place_behind.ensures
    ∙ ap (λ s. place_beside s (slice_get list (c.args.at + c.args.number))) (c.hash_of-first.ensures ∙ stands_at c.args.list.now.pairs.now c.args.list.now.entries.now c.args.at _ first here)
