use Rattle.std.proofs.Common.{map, filter, Bor, ◌∙◌}
use Rattle.ss_review.specs.keep.BlockMessage.{BlockMessage}
use Rattle.ss_review.specs.sessions.Payloads.{certificates}
use Rattle.ss_review.specs.sessions.Verified.{answers, is_valid}
use Rattle.ss_review.proofs.sessions.accepting.is_accepted.Goals as goal

pub returns : goal.returns
returns g c =
    c.cover.ensures
    (certificates (filter (is_valid (answers g.J.Judge.trusted g.J.Judge.valid c.args.judge.now) c.args.payload.now) (map (λ (m : Bor BlockMessage). m.now) c.args.blocks.now)))
    (c.as_mut_slice.ensures.value ∙ c.in_ok-spans.ensures)
