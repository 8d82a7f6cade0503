use Rattle.std.proofs.Common.{◌∙◌}
use Rattle.ss_review.proofs.of_sessions.EqualBlocks.{found_at}
use Rattle.ss_review.proofs.sessions.found_blocks.FoundBlocks.get.Goals as goal

pub returns-clause-holds : goal.returns-clause-holds
returns-clause-holds c = λ f b had of. found_at f c.args.self.now had c.args.claim.now b of c.copied.result (c.copied.ensures ∙ c.get.ensures.value)
