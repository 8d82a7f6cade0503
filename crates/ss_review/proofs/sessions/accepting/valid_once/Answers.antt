use Rattle.std.proofs.Common.{sym, ◌∙◌}
use Rattle.ss_review.proofs.sessions.accepting.valid_once.Goals as goal

pub returns-clause-kept : goal.returns-clause-kept
returns-clause-kept g c = λ f same had is. c.in_ok-add.ensures.holds f c.args.message.now same had c.of-claim.ensures (c.in_ok-is_valid.ensures ∙ sym is)
