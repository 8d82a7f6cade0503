use Rattle.std.proofs.Common.{take, map, sym, subst, Bor}
use Rattle.ss_block.specs.Joiner.{Stands}
use Rattle.ss_review.specs.keep.BlockMessage.{BlockMessage}
use Rattle.ss_review.specs.sessions.Payloads.{certificates}
use Rattle.ss_review.specs.sessions.Stated.{stated_in_turn}
use Rattle.ss_review.proofs.of_sessions.Stating.{certificates_more}
use Rattle.ss_review.proofs.sessions.joining.joined_fragments.Goals as goal

pub loop-message-preserved : goal.loop-message-preserved
loop-message-preserved c =
    let bs = c.args.blocks.now in
    let i = c.loop-message.message-index in
    subst (λ cs. Stands c.add_block.new.joiner (stated_in_turn cs))
    (sym (certificates_more bs i c.message-item.result c.loop-message-test.true c.message-item.is))
    (c.in_ok-add_block.ensures (certificates (map (λ (m : Bor BlockMessage). m.now) (take i bs))) c.loop-message.invariant)
